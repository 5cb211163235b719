-- The words of the mission's three demands, for a call, the numbers that it is told and what is left in the buffers.
use Rattle.std.specs.Prelude.{ℕ, ◌≤◌, ◌<◌, ◌≡◌, ◌⊎◌, ◌≢◌, List, [], ◌∷◌, ◌++◌, length, take}
use Rattle.refusals.specs.Reply.{Reply, ruling_of}
use Rattle.refusals.specs.Table.{Row, whole, Decided}
use Rattle.outline.specs.Outline.{size}
use Rattle.outline.specs.Demands.{size_table, record_table}
use Rattle.diversity.specs.Diversity.{diversity, cost, chosen_taxa}
use Rattle.diversity.specs.Behind.{IsSet, Fits, NoneFits, Behind}
use Rattle.diversity.specs.Search.{holding, exhaustive_search, blank_cost, best_diversity, least_cost}
use Rattle.choice.specs.Answer.{Call, Figures, numbers_of, most_count, marks_taken, curve_taken, work_taken, diversity_at, cost_at}

-- refusal 9: marks, curve or work shorter than what a call takes
abbrev pub TooShort : Call → Type 0
TooShort c =
    (length c.marks < marks_taken c.outline)
    ⊎ ((length c.curve < curve_taken c.count) ⊎ (length c.work < work_taken c.outline c.count))

-- document 01's table for a call, judged from 1 to 9, and document 02's row 12 after it; beside each row the table's word for it
abbrev pub choose_table : Call → List Row
choose_table c =
    (whole 1 ((c.way ≢ 0) × (c.way ≢ 1)) ∷ [])  -- way
    ++ size_table c.outline  -- ragged, thick
    ++ (whole 4 (most_count < c.count) ∷ [])  -- count
    ++ record_table c.outline  -- field, link, crowd, twin
    ++ (whole 9 (TooShort c) ∷ [])  -- space
    ++ (whole 12 (NoneFits c.outline c.count) ∷ [])  -- no set that holds every locked taxon fits

-- demand 1: a selection, and no row of the table holds; or exactly one refusal of the table, under its condition only, and then
-- the four other numbers are 0, and no byte of a buffer is changed
abbrev pub SelectedOrRefused : Call → Reply Figures → List ℕ → List ℕ → List ℕ → Type 1
SelectedOrRefused c r marks curve work =
    Decided (choose_table c) (ruling_of r) (numbers_of r.figures) (c.marks ∷ c.curve ∷ c.work ∷ []) (marks ∷ curve ∷ work ∷ [])

-- the set that is marked
abbrev pub marked_set : Call → List ℕ → List ℕ
marked_set c marks = take (size c.outline) marks

-- demand 2: what is told is the marked set's diversity, its cost, which is the number of quarters, and the number marked
pub record TrueOfMarks (c : Call) (r : Reply Figures) (marks : List ℕ) : Type 0 where
  pub way_known : (c.way ≡ 0) ⊎ (c.way ≡ 1)
  pub diversity_true : r.figures.diversity ≡ diversity c.outline c.way (marked_set c marks)
  pub cost_true : r.figures.cost ≡ cost c.outline (marked_set c marks)
  pub taxa_true : r.figures.taxa ≡ chosen_taxa c.outline (marked_set c marks)

-- a column shows the two numbers of a set that fits; or no set fits, and it shows 0 and 4,294,967,295
pub data Shown (c : Call) (curve : List ℕ) (b : ℕ) : Type 0 where
  some_set : (t : List ℕ) → IsSet c.outline t → Fits c.outline b t
      → diversity c.outline c.way t ≡ diversity_at curve b → cost c.outline t ≡ cost_at curve b → Shown c curve b
  no_set : NoneFits c.outline b → diversity_at curve b ≡ 0 → cost_at curve b ≡ blank_cost → Shown c curve b

-- a column shows the exhaustive search's two numbers: the greatest diversity among all sets that fit, and the least cost
-- among those of that diversity. A set fits if its cost is at most the column's page count and it holds every locked taxon
pub record TrueColumn (c : Call) (curve : List ℕ) (b : ℕ) : Type 0 where
  pub searched : (diversity_at curve b ≡ best_diversity c.outline c.way b) × (cost_at curve b ≡ least_cost c.outline c.way b)
  pub shown : Shown c curve b
  pub greatest : (t : List ℕ) → IsSet c.outline t → Fits c.outline b t → diversity c.outline c.way t ≤ diversity_at curve b
  pub least : (t : List ℕ) → IsSet c.outline t → Fits c.outline b t → diversity c.outline c.way t ≡ diversity_at curve b
      → cost_at curve b ≤ cost c.outline t

-- demand 3: every column is true, exactly the set that the exhaustive search ends with is marked, a set of taxa that fits; its
-- numbers are told, which are those of the last column, and every other set that fits is behind it
pub record FoundBySearch (c : Call) (r : Reply Figures) (marks curve : List ℕ) : Type 0 where
  pub columns : (b : ℕ) → b ≤ c.count → TrueColumn c curve b
  pub marked : exhaustive_search c.outline c.way c.count ≡ holding (marked_set c marks)
  pub marked_is_set : IsSet c.outline (marked_set c marks)
  pub marked_fits : Fits c.outline c.count (marked_set c marks)
  pub told_marked : TrueOfMarks c r marks
  pub diversity_is_shown : r.figures.diversity ≡ diversity_at curve c.count
  pub cost_is_shown : r.figures.cost ≡ cost_at curve c.count
  pub others : (t : List ℕ) → IsSet c.outline t → Fits c.outline c.count t → t ≢ marked_set c marks
      → Behind c.outline c.way (marked_set c marks) t

-- a call on an outline, at a page count and by a way, with whatever buffers
pub record CallAt (o : List ℕ) (count way : ℕ) (c : Call) : Type 0 where
  pub outline_is : c.outline ≡ o
  pub count_is : c.count ≡ count
  pub way_is : c.way ≡ way
