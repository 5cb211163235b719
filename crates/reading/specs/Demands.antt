-- The words of what is promised of a call of `read`: its table of refusals, and what an outline that was read is.
use Rattle.std.specs.Prelude.{ℕ, ◌*◌, ◌%◌, ◌<◌, ◌≡◌, ◌⊎◌, ◌≢◌, Bool, true, List, [], ◌∷◌, ◌++◌, length, take, drop}
use Rattle.refusals.specs.Refusals.{passed}
use Rattle.refusals.specs.Reply.{Reply, ruling_of}
use Rattle.refusals.specs.Table.{LowestAt, Row, whole, Decided}
use Rattle.outline.specs.Outline.{price, plate, is_taxon, IsRecord}
use Rattle.outline.specs.Rules.{most_records, most_taxa, bad_field, bad_link, taxa, is_duplicate}
use Rattle.outline.specs.Answer.{checked}
use Rattle.outline.specs.Demands.{record_table}
use Rattle.diversity.specs.Order.{InTextOrder}
use Rattle.newick.specs.Grammar.{part, Tree, Spells}
use Rattle.newick.specs.Layout.{count, plates, layout}
use Rattle.newick.specs.Pairs.{price_in, pairs_of}
use Rattle.newick.specs.Parsing.{Parsed, parsed}
use Rattle.newick.specs.Trees.{tree_of}
use Rattle.reading.specs.Answer.{Call, Figures, numbers_of, outline_of}

-- a number is in a list
pub data In (x : ℕ) : List ℕ → Type 0 where
  here : {xs : List ℕ} → In x (x ∷ xs)
  there : {y : ℕ} {xs : List ℕ} → In x xs → In x (y ∷ xs)

-- plate and price stand as a pair among the pairs
pub data Pair (plate price : ℕ) : List ℕ → Type 0 where
  first_pair : {rest : List ℕ} → Pair plate price (plate ∷ (price ∷ rest))
  later_pair : {q c : ℕ} {rest : List ℕ} → Pair plate price rest → Pair plate price (q ∷ (c ∷ rest))

-- refusal 11: a taxon without exactly one pair, a pair without a taxon, or an odd count of pair numbers
abbrev pub BadPairs : List ℕ → List ℕ → Type 0
BadPairs plates pairs =
    (length pairs % 2 ≢ 0)
    ⊎ (((p : ℕ) × In p plates × (pairs_of pairs p ≢ 1))
    ⊎ ((p c : ℕ) × Pair p c pairs × (In p plates → ⊥)))

-- the text spells a tree of which a condition holds
abbrev pub OfTree : Call → (Tree part → Type 0) → Type 0
OfTree c condition = (t : Tree part) × Spells t c.text × condition t

-- a row whose place is the lowest record at which a condition holds, of the records of the tree that the text spells
abbrev pub lowest_of_tree : Call → ℕ → (List ℕ → ℕ → Bool) → Row
lowest_of_tree c n condition = record {
  number = n;
  holds = λ p. (t : Tree part) × Spells t c.text × LowestAt (count t) (condition (layout (price_in c.pairs) t)) p;
}

-- rows 10, 3, 11 and 9 of a call
abbrev pub text_table : Call → List Row
text_table c =
    whole 10 ((t : Tree part) → Spells t c.text → ⊥)
    ∷ whole 3 (OfTree c (λ t. most_records < count t))
    ∷ whole 11 (OfTree c (λ t. BadPairs (plates t) c.pairs))
    ∷ whole 9 (OfTree c (λ t. length c.outline < 16 * count t))
    ∷ []

-- the table of a call, in the order in which it is judged: 10, 3, 11, 9, then 5 to 8 for the records of the tree that the text spells
abbrev pub read_table : Call → List Row
read_table c =
    text_table c
    ++ (lowest_of_tree c 5 bad_field
    ∷ lowest_of_tree c 6 bad_link
    ∷ whole 7 (OfTree c (λ t. most_taxa < taxa (layout (price_in c.pairs) t)))
    ∷ lowest_of_tree c 8 is_duplicate
    ∷ [])

-- the same with the check's own rows 5 to 8 for the outline that the parsed text makes
abbrev pub table_of : Call → Parsed → List Row
table_of c p = text_table c ++ record_table (outline_of c.pairs p)

abbrev pub parsed_table : Call → List Row
parsed_table c = table_of c (parsed c.text)

-- demand 1: a tree is read, and no row of the table holds; or exactly one refusal of the table, under its condition only, and
-- then N is 0, and no byte of the outline is changed
abbrev pub ReadOrRefused : Call → Reply Figures → List ℕ → Type 1
ReadOrRefused c r outline = Decided (read_table c) (ruling_of r) (numbers_of r.figures) (c.outline ∷ []) (outline ∷ [])

-- the same by the parsed table
abbrev pub ParsedOrRefused : Call → Reply Figures → List ℕ → Type 1
ParsedOrRefused c r outline = Decided (parsed_table c) (ruling_of r) (numbers_of r.figures) (c.outline ∷ []) (outline ∷ [])

-- a text that was read spells one tree; N is its count of records, and the outline begins with them: each taxon has the price of
-- its one pair, the check accepts them, they stand in text order and their links make the tree; and what is past them is unchanged
pub record TreeGiven (c : Call) (r : Reply Figures) (outline : List ℕ) : Type 0 where
  pub tree : Tree part
  pub spelled : Spells tree c.text
  pub only : (t : Tree part) → Spells t c.text → t ≡ tree
  pub records_are : r.figures.records ≡ count tree
  pub begins : take (16 * r.figures.records) outline ≡ layout (price_in c.pairs) tree
  pub rest : drop (16 * r.figures.records) outline ≡ drop (16 * r.figures.records) c.outline
  pub accepted : checked (take (16 * r.figures.records) outline) ≡ passed
  pub one_pair : (p : ℕ) → In p (plates tree) → pairs_of c.pairs p ≡ 1
  pub its_price : (p : ℕ) → In p (plates tree) → Pair p (price_in c.pairs p) c.pairs
  pub in_order : InTextOrder (take (16 * r.figures.records) outline)
  pub tree_is : tree_of (take (16 * r.figures.records) outline) ≡ tree

-- each taxon that was read has the price of a pair, that of its plate
abbrev pub OwnPrices : Call → Reply Figures → List ℕ → Type 0
OwnPrices c r outline =
    let o = take (16 * r.figures.records) outline in (q : ℕ) → IsRecord o q → is_taxon o q ≡ true → Pair (plate o q) (price o q) c.pairs
