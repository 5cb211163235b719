-- What a set of taxa is worth in a forest, either way.
use Rattle.std.specs.Prelude.{ℕ, Bool, List}
use Rattle.laws.specs.Candidate.{Value}
use Rattle.laws.specs.Forest.{Forest}
use Rattle.laws.specs.Measures.{weight_in, locks_in, cost_in, rooted_in, unrooted_in}

-- by rooted diversity
abbrev pub rooted_worth : List ℕ → (ℕ → ℕ) → (ℕ → Bool) → Forest → Value
rooted_worth o weigh p F = record { locked = locks_in o p F; diversity = rooted_in o p F; cost = cost_in o p F; code = weight_in weigh p F }

-- by unrooted diversity
abbrev pub unrooted_worth : List ℕ → (ℕ → ℕ) → (ℕ → Bool) → Forest → Value
unrooted_worth o weigh p F = record { locked = locks_in o p F; diversity = unrooted_in o p F; cost = cost_in o p F; code = weight_in weigh p F }
