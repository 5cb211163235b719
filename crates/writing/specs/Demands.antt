-- The words of what is promised of a call of `write`, and of calls of `read` and of `write` one after the other.
use Rattle.std.specs.Prelude.{ℕ, ◌*◌, ◌≤◌, ◌<◌, ◌≡◌, ◌⊎◌, true, List, [], ◌∷◌, ◌++◌, length, take, drop}
use Rattle.lists.specs.Lists.{over}
use Rattle.refusals.specs.Refusals.{passed}
use Rattle.refusals.specs.Reply.{Reply, ruling_of, granted}
use Rattle.refusals.specs.Table.{Row, whole, lowest_at, Decided}
use Rattle.outline.specs.Outline.{size, price, plate, is_taxon, IsRecord}
use Rattle.outline.specs.Answer.{checked}
use Rattle.outline.specs.Demands.{check_table}
use Rattle.reading.specs.Answer as read
use Rattle.reading.specs.declared.answer.Figures.{Figures as ReadingFigures}
use Rattle.reading.specs.Demands.{In, Pair}
use Rattle.newick.specs.Grammar.{Blank, Spells}
use Rattle.newick.specs.Layout.{plates}
use Rattle.newick.specs.Pairs.{paired}
use Rattle.writing.specs.Text.{outline_text, outline_pairs}
use Rattle.newick.specs.Trees.{tree_of}
use Rattle.writing.specs.Answer.{Call, Figures, numbers_of}
use Rattle.newick.specs.Trees.{unwritable}
use Rattle.outline.specs.Rules.{taxa}

-- the table of a call, in the order in which it is judged: the check's rows, 13, 9
abbrev pub write_table : Call → List Row
write_table c =
    check_table c.outline
    ++ (lowest_at 13 (size c.outline) (unwritable c.outline)
    ∷ whole 9 ((length c.text < length (outline_text c.outline)) ⊎ (length c.pairs < length (outline_pairs c.outline)))
    ∷ [])

-- demand 1: an outline is written, and no row of the table holds; or exactly one refusal of the table, under its condition only, and
-- then both counts are 0, and neither buffer is changed
abbrev pub WrittenOrRefused : Call → Reply Figures → List ℕ → List ℕ → Type 1
WrittenOrRefused c r text pairs = Decided (write_table c) (ruling_of r) (numbers_of r.figures) (c.text ∷ c.pairs ∷ []) (text ∷ pairs ∷ [])

-- an outline that was written is accepted. So many bytes are its text, and spell its tree with no blank; so many pairs are one for each taxon, in
-- the order of the tree's plates, each with the record's own price; what is past them is unchanged
pub record TextGiven (c : Call) (r : Reply Figures) (text pairs : List ℕ) : Type 0 where
  pub accepted : checked c.outline ≡ passed
  pub bytes_are : r.figures.bytes ≡ length (outline_text c.outline)
  pub text_is : take r.figures.bytes text ≡ outline_text c.outline
  pub spelled : Spells (tree_of c.outline) (take r.figures.bytes text)
  pub no_blank : (b : ℕ) → In b (take r.figures.bytes text) → Blank b → ⊥
  pub text_rest : drop r.figures.bytes text ≡ drop r.figures.bytes c.text
  pub one_each : r.figures.pairs ≡ taxa c.outline
  pub pairs_are : take (2 * r.figures.pairs) pairs ≡ outline_pairs c.outline
  pub in_order : paired (take (2 * r.figures.pairs) pairs) ≡ plates (tree_of c.outline)
  pub own_price : (q : ℕ) → IsRecord c.outline q → is_taxon c.outline q ≡ true
      → Pair (plate c.outline q) (price c.outline q) (take (2 * r.figures.pairs) pairs)
  pub pairs_rest : drop (2 * r.figures.pairs) pairs ≡ drop (2 * r.figures.pairs) c.pairs

-- a call of `read` is handed the text and the pairs that a call of `write` wrote
pub record Handed (r : Reply Figures) (text pairs : List ℕ) (c : read.Call) : Type 0 where
  pub text_is : c.text ≡ take r.figures.bytes text
  pub pairs_are : c.pairs ≡ take (2 * r.figures.pairs) pairs

-- a call of `write` is handed the outline that a call of `read` gave
abbrev pub Returned : Reply ReadingFigures → List ℕ → Call → Type 0
Returned r outline c = c.outline ≡ take (16 * r.figures.records) outline

-- a call of `read` gives back the bytes of an outline, with its number of records, and leaves what is past them
pub record GivenBack (o : List ℕ) (c : read.Call) (r : Reply ReadingFigures) (outline : List ℕ) : Type 0 where
  pub told_size : r ≡ granted (read.counted (size o))
  pub same_bytes : outline ≡ over o c.outline

-- there is room for so many bytes and pairs
pub record HasRoom (bytes pairs : ℕ) (c : Call) : Type 0 where
  pub for_text : bytes ≤ length c.text
  pub for_pairs : 2 * pairs ≤ length c.pairs

-- two calls of `write` are told the same, and have written the same text and the same pairs
pub record WroteAlike (r : Reply Figures) (text pairs : List ℕ) (s : Reply Figures) (text' pairs' : List ℕ) : Type 0 where
  pub told_alike : s ≡ r
  pub same_text : take s.figures.bytes text' ≡ take r.figures.bytes text
  pub same_pairs : take (2 * s.figures.pairs) pairs' ≡ take (2 * r.figures.pairs) pairs
