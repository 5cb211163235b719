-- The weight of a record: a power of 2, by the taxa after it counted.
use Prim.Native.Nat.{ℕ, zero, suc, ◌+◌, ◌-◌, ◌^◌, ◌<◌}
use mathlib.Core.Path.{◌≡◌, refl, ap, ◌∙◌}
use mathlib.Core.Logic.{inl, inr}
use mathlib.Core.Bool.{Bool, true, false, cond}
use mathlib.Core.List.{List}
use native.Mathlib.Omega.{arith}
use lib.Pow.{pow_mono}
use Rattle.std.specs.List.{count_by, range_with_len}
use Rattle.std.proofs.lemmas.Bool.{cases_lt}
use Rattle.std.proofs.lemmas.List.Sums.{sum_by-cons}
use Rattle.lists.specs.Lists.{one, from, total}
use Rattle.outline.specs.Outline.{size, is_taxon}
use Rattle.outline.specs.Rules.{taxa_in}

-- what passes a test, counted
passed : (p : ℕ → Bool) (k n : ℕ) → count_by p (range_with_len k n) ≡ total (λ r. one (p r)) (from k n)
unfolding from total
passed p k zero = refl
passed p k (suc n) = sum_by-cons (λ r. cond (p r) 1 0) k (range_with_len (k + 1) n) ∙ go (p k) (passed p (k + 1) n)
  where
    go : {i j : ℕ} (b : Bool) → i ≡ j → cond b 1 0 + i ≡ one b + j
    go true e = ap (λ m. 1 + m) e
    go false e = ap (λ m. 0 + m) e

pub taxa_passed : (o : List ℕ) (r : ℕ) → count_by (is_taxon o) (range_with_len (r + 1) (size o - r)) ≡ taxa_in o (from (r + 1) (size o - r))
unfolding taxa_in
taxa_passed o r = passed (is_taxon o) (r + 1) (size o - r)

-- the greater power of 2 has the greater exponent
pub pow_below : (k n : ℕ) → 2 ^ k < 2 ^ n → k < n
pow_below k n h =
    elim (cases_lt k n) [
      | inl l ↦ l
      | inr l ↦ absurd (omega (arith, pow_mono l))
    ]
