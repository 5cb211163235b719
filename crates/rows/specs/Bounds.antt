-- How large the values of a row can be: what all records of a forest can add to them.
use Rattle.std.specs.Prelude.{if◌then◌else◌, ℕ, ◌≤◌, List}
use Rattle.outline.specs.Outline.{branch, price}
use Rattle.laws.specs.Candidate.{Value, From}
use Rattle.laws.specs.Forest.{Forest, sum_in}
use Rattle.laws.specs.Measures.{lock}
use Rattle.rows.specs.Rows.{Row, is_leaf}

-- at most k locked taxa, d of diversity, and a code of m
pub record Bounded (k d m : ℕ) (v : Value) : Type 0 where
  pub locked_most : v.locked ≤ k
  pub diversity_most : v.diversity ≤ d
  pub code_most : v.code ≤ m

-- the candidates of a row up to column n are so bounded, and each costs at most its column
abbrev pub BoundedRow : ℕ → ℕ → ℕ → ℕ → Row → Type 0
BoundedRow k d m n x = (b : ℕ) → b ≤ n → From (Bounded k d m) b (x b)

-- what all records of a forest weigh: their locks, branches and prices; and the codes of its taxa
abbrev pub all_in : (ℕ → ℕ) → Forest → ℕ
all_in w F = sum_in (λ r f. w r) F

abbrev pub lockings : List ℕ → Forest → ℕ
lockings o F = all_in (lock o) F

abbrev pub branches : List ℕ → Forest → ℕ
branches o F = all_in (branch o) F

abbrev pub prices : List ℕ → Forest → ℕ
prices o F = all_in (price o) F

abbrev pub codes : (ℕ → ℕ) → Forest → ℕ
codes weigh F = sum_in (λ r f. if is_leaf f then weigh r else 0) F
