-- Numbers that stand as they come, from k on.
use Prim.Native.Nat.{ℕ, zero, suc, ◌+◌}
use mathlib.Core.Path.{◌≡◌, subst}
use mathlib.Core.List.{List, [], ◌∷◌, ◌++◌}
use native.Mathlib.Omega.{arith}
use lib.ListN.{length}
use Rattle.lists.specs.Lists.{from}

pub data Numbered : ℕ → List ℕ → Type 0 where
  numbered_none : {k : ℕ} → Numbered k []
  numbered_next : {k : ℕ} {rs : List ℕ} → Numbered (k + 1) rs → Numbered k (k ∷ rs)

pub numbered_from : (k n : ℕ) → Numbered k (from k n)
unfolding from
numbered_from k zero = numbered_none
numbered_from k (suc n) = numbered_next (numbered_from (k + 1) n)

-- so do the first of them, and the others after these
pub numbered_both : {k : ℕ} (rs qs : List ℕ) → Numbered k (rs ++ qs) → Numbered k rs × Numbered (k + length rs) qs
numbered_both {k} [] qs h = let e : k ≡ k + 0 = omega arith in (numbered_none, subst (λ j. Numbered j qs) e h)
numbered_both (r ∷ rs) qs (numbered_next h) =
    let both = numbered_both {k = r + 1} rs qs h in
    let e : r + 1 + length rs ≡ r + suc (length rs) = omega arith in
    (numbered_next both.0, subst (λ j. Numbered j qs) e both.1)
