-- `lists::walks::lowest` meets its contract: the test holds at none of the numbers passed.
use Rattle.std.proofs.Common.{ℕ, Bool}
use Rattle.lists.specs.Walks.{Decides}
use Rattle.lists.proofs.Walk.{Seeking}
use Rattle.lists.proofs.walks.lowest.Given as goal

abbrev pub invariant-loop-r : goal.invariant-loop-r
invariant-loop-r g l = (holds : ℕ → Bool) → Decides (goal.F-post g l.test) l.n holds → Seeking holds l.n l.r
