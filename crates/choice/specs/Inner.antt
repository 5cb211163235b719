-- What the functions behind `choose` speak of.
use Rattle.std.specs.Prelude.{if◌then◌else◌, ℕ, ◌+◌, ◌*◌, ◌≤◌, ◌≡◌, Bool, ◌&&◌, not, List, [], ◌∷◌, eqb, ltb, length, replicate}
use Rattle.lists.specs.Lists.{over}
use Rattle.refusals.specs.Refusals.{Ruling, row, ◌▸◌}
use Rattle.outline.specs.Outline.{size}
use Rattle.outline.specs.Answer.{size_rows, record_rows}
use Rattle.outline.specs.WellFormed.{WellFormed}
use Rattle.diversity.specs.Diversity.{cost}
use Rattle.diversity.specs.Search.{blank_cost}
use Rattle.laws.specs.Candidate.{Cand}
use Rattle.laws.specs.Locks.{locked_set}
use Rattle.cells.specs.Cells.{cell, locked_of, diversity_of, cost_of}
use Rattle.choice.specs.Answer.{Call, call, Figures, most_count, unknown, too_short, marks_taken, curve_taken, work_taken, best_set, figures, curve_of, diversity_at, cost_at}
use Rattle.outline.specs.Rules.{most_records}

-- an outline and a page count that are not too large
pub record WithinLimits (o : List ℕ) (count : ℕ) : Type 0 where
  pub records : size o ≤ most_records
  pub columns : count ≤ most_count

-- the rows of choosing, in their order: first those of the way, the outline and the page count, then those of the lent buffers and the locked
-- taxa, which do not go by the way
unfoldable pub first_rows : List ℕ → ℕ → ℕ → Ruling
first_rows o count way = row 1 (unknown way) ▸ size_rows o ▸ row 4 (ltb most_count count) ▸ record_rows o

unfoldable pub last_rows : List ℕ → ℕ → List ℕ → List ℕ → List ℕ → Ruling
last_rows o count marks curve work = row 9 (too_short (call o count 0 marks curve work)) ▸ row 12 (ltb count (cost o (locked_set o)))

-- what a candidate shows as a column: its own two numbers if it holds so many locked taxa, all there are, else 0 and 4,294,967,295
unfoldable pub diversity_shown : ℕ → Cand → ℕ
diversity_shown locks c = if eqb (locked_of c) locks then diversity_of c else 0

unfoldable pub cost_shown : ℕ → Cand → ℕ
cost_shown locks c = if eqb (locked_of c) locks then cost_of c else blank_cost

abbrev pub column_shown : ℕ → Cand → List ℕ
column_shown locks c = diversity_shown locks c ∷ cost_shown locks c ∷ []

-- the two numbers of column b of the curve, from the table's top row, of so many columns
abbrev pub top_diversity : List ℕ → ℕ → ℕ → ℕ → ℕ
top_diversity work width locks b = diversity_shown locks (cell work (2 * width + b))

abbrev pub top_cost : List ℕ → ℕ → ℕ → ℕ → ℕ
top_cost work width locks b = cost_shown locks (cell work (2 * width + b))

-- column b of a curve has a set, and the diversity d
unfoldable pub level : List ℕ → ℕ → ℕ → Bool
level curve d b = not (eqb (cost_at curve b) blank_cost) && eqb (diversity_at curve b) d

-- a table whose top row is to be written as a curve, which is long enough
pub record Drawable (work : List ℕ) (width : ℕ) (curve : List ℕ) : Type 0 where
  pub inside : 2 * (3 * width) ≤ length work
  pub curve_long : 2 * width ≤ length curve

-- what finding the best diversity asks: an accepted outline, a page count in its range, which the locked taxa by themselves fit, and work
-- that is long enough
pub record Searchable (o : List ℕ) (count : ℕ) (work : List ℕ) : Type 0 where
  pub formed : WellFormed o
  pub low : count ≤ most_count
  pub locked_fit : cost o (locked_set o) ≤ count
  pub work_long : work_taken o count ≤ length work

-- what solving a call asks: that, and marks and a curve that are long enough
pub record Solvable (c : Call) : Type 0 where
  pub searchable : Searchable c.outline c.count c.work
  pub marks_long : marks_taken c.outline ≤ length c.marks
  pub curve_long : curve_taken c.count ≤ length c.curve

-- what it ensures: the figures of the selection, and the buffers written over, work all 0
pub record Solved (c : Call) (told : Figures) (marks curve work : List ℕ) : Type 0 where
  pub told_figures : told ≡ figures c
  pub marks_written : marks ≡ over (best_set c) c.marks
  pub curve_written : curve ≡ over (curve_of c) c.curve
  pub work_cleared : work ≡ replicate (length c.work) 0
