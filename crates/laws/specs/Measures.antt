-- Number, cost and diversity of a set of taxa by recursion over a forest. A set is a test of record numbers.
use Rattle.std.specs.Prelude.{if◌then◌else◌, ℕ, zero, suc, ◌+◌, ◌-◌, Bool, ◌&&◌, List}
use Rattle.lists.specs.Lists.{one, positive}
use Rattle.outline.specs.Outline.{branch, price, locked}
use Rattle.laws.specs.Forest.{Forest, empty, node, is_group, sum_in}

-- how many records of the forest are chosen
abbrev pub chosen_in : (ℕ → Bool) → Forest → ℕ
chosen_in p F = sum_in (λ r f. one (p r)) F

-- how many groups are chosen
abbrev pub groups_in : (ℕ → Bool) → Forest → ℕ
groups_in p F = sum_in (λ r f. one (p r && is_group f)) F

-- what the chosen records weigh
abbrev pub weight_in : (ℕ → ℕ) → (ℕ → Bool) → Forest → ℕ
weight_in w p F = sum_in (λ r f. if p r then w r else 0) F

-- so count locks
abbrev pub lock : List ℕ → ℕ → ℕ
lock o r = one (locked o r)

abbrev pub locks_in : List ℕ → (ℕ → Bool) → Forest → ℕ
locks_in o p F = weight_in (lock o) p F

-- what the records weigh that are, or have below them, a chosen one
abbrev pub within_in : (ℕ → ℕ) → (ℕ → Bool) → Forest → ℕ
within_in w p F = sum_in (λ r f. if positive (one (p r) + chosen_in p f) then w r else 0) F

-- so count prices, and branches if rooted
abbrev pub cost_in : List ℕ → (ℕ → Bool) → Forest → ℕ
cost_in o p F = within_in (price o) p F

abbrev pub rooted_in : List ℕ → (ℕ → Bool) → Forest → ℕ
rooted_in o p F = within_in (branch o) p F

-- by how many are chosen in the first clade and in the rest of its chain
abbrev pub across : ℕ → ℕ → ℕ → ℕ → ℕ → ℕ
across j zero both members rest = members
across zero (suc k) both members rest = rest
across (suc j) (suc k) both members rest = both

abbrev pub unrooted_in : List ℕ → (ℕ → Bool) → Forest → ℕ
unrooted_in o p empty = 0
unrooted_in o p (node r f n) =
    across (one (p r) + chosen_in p f) (chosen_in p n) (rooted_in o p (node r f n)) (unrooted_in o p f) (unrooted_in o p n)

-- a record's branch counts where, of c chosen records, some are at or below it and some are not
abbrev pub crossing : List ℕ → (ℕ → Bool) → ℕ → ℕ → Forest → ℕ
crossing o p c r f = if positive (one (p r) + chosen_in p f) && positive (c - (one (p r) + chosen_in p f)) then branch o r else 0
