-- The spare, read leftwards from the curve's right end, is the page count minus the cost.
use Prim.Native.Nat.{ℕ, zero, suc, ◌-◌, ◌≤◌, ◌<◌}
use mathlib.Core.Path.{◌≡◌, refl}
use mathlib.Core.Logic.{◌⊎◌, inl, inr}
use mathlib.Core.Bool.{Bool, true, false, ◌&&◌}
use mathlib.Core.List.{List}
use native.Mathlib.Omega.{arith}
use native.Mathlib.Nat.{eq-or-lt_of_le}
use lib.Dec.{eqb, leb}
use borrow.Author.Tests.{leb-true, le-leb, eq-eqb, ne_eqb}
use Rattle.diversity.specs.Diversity.{cost}
use Rattle.diversity.specs.Behind.{Fits}
use Rattle.diversity.specs.Search.{exhaustive_search, is_holding, optimum, best_diversity, least_cost, columns_alike, spare}
use Rattle.laws.specs.Locks.{locked_set}
use Rattle.laws.proofs.Locks.{some_fits}
use Rattle.laws.proofs.Optimum.{search_exactly, optimum_set, optimum_fits, shown_diversity, shown_cost, greatest_diversity, least_cost_lem}

-- reading leftwards passes the columns from c on, and no other
level_from : (alike : ℕ → Bool) (c n : ℕ) → c ≤ n → ((b : ℕ) → c ≤ b → b < n → alike b ≡ true) → ((b : ℕ) → b < c → alike b ≡ false)
    → columns_alike alike n ≡ n - c
unfolding columns_alike
level_from alike c zero l same drops = omega arith
level_from alike c (suc n) l same drops = go (eq-or-lt_of_le l) (λ m. level_from alike c n m (λ b k u. same b k (omega arith)) drops)
  where
    go : (c ≡ suc n) ⊎ (suc c ≤ suc n) → (c ≤ n → columns_alike alike n ≡ n - c) → columns_alike alike (suc n) ≡ suc n - c
    go (inl e) ih = rw (drops n (omega arith)) (omega arith)
    go (inr h) ih = rw (same n (omega arith) (omega arith)) (omega (arith, ih (omega arith)))

module _ (o : List ℕ) (way b : ℕ) (fit : cost o (locked_set o) ≤ b) where
  abbrev alike : ℕ → Bool
  alike c = is_holding (exhaustive_search o way c) && eqb (best_diversity o way c) (best_diversity o way b)

  -- a column's best set, in another column that it fits
  fits_too : (c d : ℕ) → cost o (locked_set o) ≤ c → cost o (optimum o way c) ≤ d → Fits o d (optimum o way c)
  fits_too c d h l = record { cost_most = l; locked_held = (optimum_fits o way c h).locked_held }

  rises : (c d : ℕ) → cost o (locked_set o) ≤ c → cost o (optimum o way c) ≤ d → best_diversity o way c ≤ best_diversity o way d
  rises c d h l = rw (shown_diversity o way c h) (greatest_diversity o way d (optimum o way c) (optimum_set o way c h) (fits_too c d h l))

  level : (c : ℕ) → cost o (optimum o way b) ≤ c → c < b → alike c ≡ true
  level c l u =
      let short : cost o (locked_set o) ≤ c = (some_fits o c).0 (optimum o way b, optimum_set o way b fit, fits_too b c fit l) in
      rw (search_exactly o way c, le-leb (cost o (locked_set o)) c short)
      (eq-eqb (best_diversity o way c) (best_diversity o way b) (omega (arith, rises b c fit l, rises c b short (omega (arith, (optimum_fits o way c short).cost_most)))))

  drops : (c : ℕ) → c < cost o (optimum o way b) → alike c ≡ false
  drops c h = rw (search_exactly o way c) (go (leb (cost o (locked_set o)) c) refl)
    where
      lower : cost o (locked_set o) ≤ c → best_diversity o way c ≡ best_diversity o way b → ⊥
      lower short same =
          let most = (optimum_fits o way c short).cost_most in
          let t = optimum o way c in
          let f = fits_too c b short (omega (arith, (optimum_fits o way b fit).cost_most)) in
          let least = least_cost_lem o way b t (optimum_set o way c short) f (rw (shown_diversity o way c short) at same) in
          omega (arith, shown_cost o way b fit)

      go : (t : Bool) → leb (cost o (locked_set o)) c ≡ t → (t && eqb (best_diversity o way c) (best_diversity o way b)) ≡ false
      go true e = ne_eqb _ _ (lower (leb-true _ _ e))
      go false e = refl

  pub spare_left : spare o way b ≡ b - least_cost o way b
  unfolding spare
  spare_left = rw (shown_cost o way b fit) (level_from alike (cost o (optimum o way b)) b (optimum_fits o way b fit).cost_most level drops)
