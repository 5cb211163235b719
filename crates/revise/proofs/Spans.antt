-- A set's diversity is the sum of the lengths of the records whose branches it spans.
use Rattle.std.specs.Prelude.{if◌then◌else◌}
use Prim.Native.Nat.{ℕ}
use mathlib.Core.Path.{◌≡◌, refl}
use mathlib.Core.Bool.{Bool, true, false}
use mathlib.Core.List.{List}
use lib.Dec.{eqb}
use Rattle.lists.specs.Lists.{total}
use Rattle.outline.specs.Outline.{records, branch}
use Rattle.diversity.specs.Diversity.{rooted, unrooted, diversity}
use Rattle.revise.specs.Spans.{spans}

pub diversity_spans : (o : List ℕ) (way : ℕ) (s : List ℕ) → diversity o way s ≡ total (λ r. if spans o way s r then branch o r else 0) (records o)
unfolding diversity rooted unrooted spans
diversity_spans o way s = go (eqb way 0) refl
  where
    go : (b : Bool) → eqb way 0 ≡ b → diversity o way s ≡ total (λ r. if spans o way s r then branch o r else 0) (records o)
    go true e = rw e refl
    go false e = rw e refl
