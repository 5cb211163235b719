-- What the functions behind `sheet` speak of. A taxon's place is that of its mark, one less than its record's number, so that the taxa up to
-- record k are those at the places before k; the place of none is past every mark's.
use Rattle.std.specs.Prelude.{if◌then◌else◌, ℕ, ◌+◌, ◌*◌, ◌-◌, ◌≤◌, ◌<◌, ◌≡◌, Bool, ◌||◌, ◌&&◌, List, [], ◌∷◌, length, get_or, eqb, ltb}
use Rattle.lists.specs.Lists.{one, positive}
use Rattle.outline.specs.Outline.{size, first, plate, IsRecord}
use Rattle.outline.specs.WellFormed.{WellFormed}
use Rattle.measures.specs.Measures.{Measurable}
use Rattle.diversity.specs.Diversity.{chosen, within, elsewhere, chosen_taxa, cost, diversity}
use Rattle.diversity.specs.Behind.{IsSet}
use Rattle.laws.specs.Forest.{tree}
use Rattle.text.specs.Written.{LongEnough}
use Rattle.text.specs.declared.Pen.{Pen}
use Rattle.sheet.specs.Sheet.{up_to, added}
use Rattle.sheet.specs.declared.tables.Additions.{Additions}
use Rattle.outline.specs.Rules.{most_records}
use Rattle.laws.specs.Measures.{chosen_in}

-- an accepted outline, a set of its taxa, and room for the set's rows
pub record Listable (o s sheet : List ℕ) : Type 0 where
  pub formed : WellFormed o
  pub is_set : IsSet o s
  pub room : 3 * chosen_taxa o s ≤ length sheet

-- ---- places: that of none, past every other
abbrev pub no_place : ℕ
no_place = most_records

-- that of record r, if it is chosen
unfoldable pub place_of : List ℕ → ℕ → ℕ
place_of s r = if chosen s r then r - 1 else no_place

-- a test of the taxa up to record k holds from place x on: as soon as k is past it, and not before
pub record Since (x : ℕ) (holds : ℕ → Bool) : Type 0 where
  pub most : x ≤ no_place
  pub each : (k : ℕ) → 0 < k → k ≤ most_records → ltb x k ≡ holds k

-- ---- how many of the taxa up to record k are in the chain that link q begins, and how many are not; rooted, it is as if one more stood above
-- the root
abbrev pub in_chain : List ℕ → List ℕ → ℕ → ℕ → ℕ
in_chain o s q k = chosen_in (chosen (up_to s k)) (tree o q)

abbrev pub out_chain : List ℕ → ℕ → List ℕ → ℕ → ℕ → ℕ
out_chain o way s q k = one (eqb way 0) + in_chain o s 1 k - in_chain o s q k

-- the price of record r counts for the taxa up to record k; its branch does
abbrev pub price_counts : List ℕ → List ℕ → ℕ → ℕ → Bool
price_counts o s r k = within o (up_to s k) r

abbrev pub branch_counts : List ℕ → ℕ → List ℕ → ℕ → ℕ → Bool
branch_counts o way s r k = within o (up_to s k) r && (eqb way 0 || elsewhere o (up_to s k) r)

-- place x is that of the first taxon in the chain that link q begins; of the first outside it
abbrev pub FirstIn : List ℕ → List ℕ → ℕ → ℕ → Type 0
FirstIn o s q x = Since x (λ k. positive (in_chain o s q k))

abbrev pub FirstOut : List ℕ → ℕ → List ℕ → ℕ → ℕ → Type 0
FirstOut o way s q x = Since x (λ k. positive (out_chain o way s q k))

-- a table has the first taxon in the chain of each link; the first outside the chain of each record
pub record Firsts (o s firsts : List ℕ) : Type 0 where
  pub at_link : (q : ℕ) → q ≤ size o → FirstIn o s q (get_or firsts q 0)

pub record Outsides (o : List ℕ) (way : ℕ) (s outsides : List ℕ) : Type 0 where
  pub at_record : (r : ℕ) → IsRecord o r → FirstOut o way s r (get_or outsides r 0)

-- an accepted outline with a mark for each record, and a table with the first taxon in each chain
pub record HasFirsts (o s firsts : List ℕ) : Type 0 where
  pub base : Measurable o s
  pub firsts_are : Firsts o s firsts

-- a record of such an outline, and a table with the first taxon in the chain of its members
pub record AtRecord (o s firsts : List ℕ) (r : ℕ) : Type 0 where
  pub base : Measurable o s
  pub is_record : IsRecord o r
  pub members : FirstIn o s (first o r) (get_or firsts (first o r) 0)

-- a table has, at the place of each record, what the record adds to a measure of the taxa before it
pub record Adds (o : List ℕ) (measure : List ℕ → ℕ) (s table : List ℕ) : Type 0 where
  pub at_place : (r : ℕ) → IsRecord o r → get_or table (r - 1) 0 ≡ added measure s r

-- two tables have what it adds to the quarters and to the diversity
pub record AddsBoth (o : List ℕ) (way : ℕ) (s : List ℕ) (adds : Additions) : Type 0 where
  pub quarters_are : Adds o (cost o) s adds.quarters
  pub diversity_are : Adds o (diversity o way) s adds.diversity

-- ---- the row of a record, if it is chosen, by two tables of what it adds
abbrev pub row_in : List ℕ → List ℕ → Additions → ℕ → List ℕ
row_in o s adds r = if chosen s r then plate o r ∷ get_or adds.quarters (r - 1) 0 ∷ get_or adds.diversity (r - 1) 0 ∷ [] else []

-- a pen has room for it
pub record RowFits (o s : List ℕ) (r : ℕ) (adds : Additions) (pen : Pen ℕ) : Type 0 where
  pub base : Measurable o s
  pub is_record : IsRecord o r
  pub room : LongEnough (row_in o s adds r) pen
