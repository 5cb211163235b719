-- A set of taxa as a binary number, the first taxon the most significant digit, and what a set is worth.
use Rattle.std.specs.Prelude.{if◌then◌else◌, ℕ, ◌+◌, ◌-◌, ◌/◌, ◌%◌, ◌^◌, List, map}
use Rattle.lists.specs.Lists.{from, total}
use Rattle.outline.specs.Outline.{size, records, is_taxon}
use Rattle.diversity.specs.Diversity.{chosen, diversity, cost}
use Rattle.laws.specs.Candidate.{Value}
use Rattle.laws.specs.Locks.{locks_held}
use Rattle.outline.specs.Rules.{taxa_in}

-- 2 to the number of taxa after record r
unfoldable pub weight : List ℕ → ℕ → ℕ
weight o r = 2 ^ taxa_in o (from (r + 1) (size o - r))

-- the number of the set s: the weights of its taxa, added
unfoldable pub code : List ℕ → List ℕ → ℕ
code o s = total (λ r. if chosen s r then weight o r else 0) (records o)

-- the marks of a set, from its code
unfoldable pub decode : List ℕ → ℕ → List ℕ
decode o c = map (λ r. if is_taxon o r then c / weight o r % 2 else 0) (records o)

-- what a set is worth, by the way of counting
unfoldable pub worth : List ℕ → ℕ → List ℕ → Value
worth o way s = record { locked = locks_held o s; diversity = diversity o way s; cost = cost o s; code = code o s }
