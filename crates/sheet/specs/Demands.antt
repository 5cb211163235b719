-- The words of what is promised of a call of `sheet`, and of one that is handed a choice's marks.
use Rattle.std.specs.Prelude.{if◌then◌else◌, ℕ, ◌+◌, ◌*◌, ◌-◌, ◌≤◌, ◌<◌, ◌≡◌, ◌⊎◌, ◌≢◌, Bool, true, ◌&&◌, not, List, [], ◌∷◌, ◌++◌, length, get_or, drop}
use Rattle.lists.specs.Lists.{total}
use Rattle.refusals.specs.Refusals.{passed}
use Rattle.refusals.specs.Reply.{Reply, ruling_of}
use Rattle.refusals.specs.Table.{Row, whole, lowest_at, Decided}
use Rattle.outline.specs.Outline.{size, records, price, plate, IsRecord}
use Rattle.outline.specs.Answer.{checked}
use Rattle.outline.specs.Demands.{check_table}
use Rattle.diversity.specs.Diversity.{chosen, diversity, cost, chosen_taxa}
use Rattle.diversity.specs.Behind.{IsSet}
use Rattle.diversity.specs.Headings.{opens}
use Rattle.choice.specs.Answer as choose
use Rattle.choice.specs.declared.answer.Figures.{Figures as ChoiceFigures}
use Rattle.sheet.specs.Answer.{Call, Figures, numbers_of, marked_set, bad_mark, sheet_taken}
use Rattle.sheet.specs.Sheet.{up_to}

-- the table of a call, in the order in which it is judged: 1, the check's rows, 14 for too few marks, 14 for a bad one, 9
abbrev pub sheet_table : Call → List Row
sheet_table c =
    (whole 1 ((c.way ≢ 0) × (c.way ≢ 1)) ∷ [])
    ++ check_table c.outline
    ++ (whole 14 (length c.marks < size c.outline) ∷ [])
    ++ (lowest_at 14 (size c.outline) (bad_mark c.outline c.marks) ∷ [])
    ++ (whole 9 (length c.sheet < sheet_taken c) ∷ [])

-- demand 1: the set is listed, and no row of the table holds; or exactly one refusal of the table, under its condition only, and then
-- rows and sums are 0, and the sheet is unchanged
abbrev pub ListedOrRefused : Call → Reply Figures → List ℕ → Type 1
ListedOrRefused c r sheet = Decided (sheet_table c) (ruling_of r) (numbers_of r.figures) (c.sheet ∷ []) (sheet ∷ [])

-- the sheet adds up: what is marked is a set of taxa of an accepted outline, there is a row for each, and the sums are the set's cost
-- and its diversity
pub record AddsUp (c : Call) (r : Reply Figures) : Type 0 where
  pub accepted : checked c.outline ≡ passed
  pub way_known : (c.way ≡ 0) ⊎ (c.way ≡ 1)
  pub marked_is_set : IsSet c.outline (marked_set c)
  pub rows_true : r.figures.rows ≡ chosen_taxa c.outline (marked_set c)
  pub quarters_true : r.figures.quarters ≡ cost c.outline (marked_set c)
  pub diversity_true : r.figures.diversity ≡ diversity c.outline c.way (marked_set c)

-- group q has taxon r of the set below it, and none of those before r
abbrev pub opens_first : List ℕ → List ℕ → ℕ → ℕ → Bool
opens_first o s r q = opens o (up_to s r) q && not (opens o (up_to s (r - 1)) q)

-- row k of a sheet: plate, quarters and diversity
abbrev pub plate_at : List ℕ → ℕ → ℕ
plate_at sheet k = get_or sheet (3 * k) 0

abbrev pub quarters_at : List ℕ → ℕ → ℕ
quarters_at sheet k = get_or sheet (3 * k + 1) 0

abbrev pub diversity_at : List ℕ → ℕ → ℕ
diversity_at sheet k = get_or sheet (3 * k + 2) 0

-- the row of the chosen taxon r, which stands behind those of the k taxa chosen before it. It has the taxon's plate; the quarters and the
-- diversity that it adds make up those of the taxa up to r from those of the taxa before it; and the quarters are its own price with
-- the headings that it opens
pub record TrueRow (c : Call) (sheet : List ℕ) (r : ℕ) : Type 0 where
  pub k : ℕ
  pub before : chosen_taxa c.outline (up_to (marked_set c) (r - 1)) ≡ k
  pub its_plate : plate_at sheet k ≡ plate c.outline r
  pub its_quarters : cost c.outline (up_to (marked_set c) r) ≡ cost c.outline (up_to (marked_set c) (r - 1)) + quarters_at sheet k
  pub its_diversity :
      diversity c.outline c.way (up_to (marked_set c) r) ≡ diversity c.outline c.way (up_to (marked_set c) (r - 1)) + diversity_at sheet k
  pub own_and_headings : quarters_at sheet k
      ≡ price c.outline r + total (λ q. if opens_first c.outline (marked_set c) r q then price c.outline q else 0) (records c.outline)

-- taxon t of the set has k of the set's taxa before it
pub record After (o s : List ℕ) (k t : ℕ) : Type 0 where
  pub is_record : IsRecord o t
  pub is_chosen : chosen s t ≡ true
  pub before : chosen_taxa o (up_to s (t - 1)) ≡ k

-- each chosen taxon has its row, each row is a chosen taxon's, and what is past the rows is unchanged
pub record RowsGiven (c : Call) (r : Reply Figures) (sheet : List ℕ) : Type 0 where
  pub row_true : (t : ℕ) → IsRecord c.outline t → chosen (marked_set c) t ≡ true → TrueRow c sheet t
  pub each_row : (k : ℕ) → k < r.figures.rows → (t : ℕ) × After c.outline (marked_set c) k t
  pub rest : drop (3 * r.figures.rows) sheet ≡ drop (3 * r.figures.rows) c.sheet

-- a call of `sheet` is handed the outline and the way of a call of `choose`, the marks as that left them, and room for their rows
pub record HandedMarks (c : choose.Call) (r : Reply ChoiceFigures) (marks : List ℕ) (d : Call) : Type 0 where
  pub outline_is : d.outline ≡ c.outline
  pub way_is : d.way ≡ c.way
  pub marks_are : d.marks ≡ marks
  pub room : 3 * r.figures.taxa ≤ length d.sheet
