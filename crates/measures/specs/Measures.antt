-- What measuring a set of taxa asks, and what it gives: the definitions' three numbers.
use Rattle.std.specs.Prelude.{ℕ, ◌≤◌, ◌≡◌, List, length}
use Rattle.outline.specs.Outline.{size}
use Rattle.outline.specs.WellFormed.{WellFormed}
use Rattle.diversity.specs.Diversity.{diversity, cost, chosen_taxa}
use Rattle.measures.specs.declared.figures.Measure.{Measure}

-- r is the number of a mark
pub record HasMark (s : List ℕ) (r : ℕ) : Type 0 where
  pub low : 1 ≤ r
  pub high : r ≤ length s

-- an accepted outline, and a mark for each record
pub record Measurable (o s : List ℕ) : Type 0 where
  pub formed : WellFormed o
  pub marks_long : size o ≤ length s

-- m has the measures of the set s, by the way of counting
pub record Measured (o s : List ℕ) (way : ℕ) (m : Measure) : Type 0 where
  pub taxa_is : m.taxa ≡ chosen_taxa o s
  pub cost_is : m.cost ≡ cost o s
  pub diversity_is : m.diversity ≡ diversity o way s
