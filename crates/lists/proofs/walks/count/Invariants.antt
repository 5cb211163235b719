-- `lists::walks::count` meets its contract: the numbers passed are counted.
use Rattle.std.proofs.Common.{ℕ, Bool, ◌<◌}
use Rattle.lists.specs.Lists.{one}
use Rattle.lists.specs.Walks.{Decides}
use Rattle.lists.proofs.Walk.{Summing}
use Rattle.lists.proofs.walks.count.Given as goal

abbrev pub invariant-loop-r : goal.invariant-loop-r
invariant-loop-r g l = record {
  few : l.sum < l.r;
  counted : (holds : ℕ → Bool) → Decides (goal.F-post g l.test) l.n holds → Summing 1 (λ q. one (holds q)) l.n l.sum l.r;
}
