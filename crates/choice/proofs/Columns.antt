-- The columns of a curve, number by number, and reading them leftwards.
use Prim.Native.Nat.{ℕ, zero, suc, ◌+◌, ◌*◌, ◌-◌, ◌≤◌, ◌<◌}
use mathlib.Core.Path.{◌≡◌, refl, sym, ap, ◌∙◌}
use mathlib.Core.Bool.{Bool, true, false, ◌||◌, ◌&&◌, not}
use mathlib.Core.List.{List, [], ◌∷◌}
use native.Mathlib.Omega.{arith}
use lib.Dec.{eqb}
use lib.ListN.{length, get_or}
use Rattle.lists.specs.Lists.{from}
use Rattle.text.specs.Text.{texts}
use Rattle.diversity.specs.Search.{blank_cost, columns_alike}
use Rattle.choice.specs.Answer.{columns, diversity_at, cost_at}
use Rattle.choice.specs.Inner.{level}

module _ (d c : ℕ → ℕ) where
  pub columns_long : (k n : ℕ) → length (columns d c (from k n)) ≡ 2 * n
  unfolding columns from
  columns_long k zero = refl
  columns_long k (suc n) = omega (arith, columns_long (k + 1) n)

  columns_two : (k n j : ℕ) → j < n
      → (get_or (columns d c (from k n)) (2 * j) 0 ≡ d (k + j)) × (get_or (columns d c (from k n)) (2 * j + 1) 0 ≡ c (k + j))
  unfolding columns from
  columns_two k zero j h = absurd (omega arith)
  columns_two k (suc n) zero h = let e : k ≡ k + 0 = omega arith in (ap d e, ap c e)
  columns_two k (suc n) (suc j) h =
      let ih = columns_two (k + 1) n j (omega arith) in
      let e : k + 1 + j ≡ k + suc j = omega arith in
      let even : 2 * suc j ≡ suc (suc (2 * j)) = omega arith in
      let odd : 2 * suc j + 1 ≡ suc (suc (2 * j + 1)) = omega arith in
      (rw even (ih.0 ∙ ap d e), rw odd (ih.1 ∙ ap c e))

  -- column j of those from 0 on
  pub column_diversity : (n j : ℕ) → j < n → get_or (columns d c (from 0 n)) (2 * j) 0 ≡ d j
  column_diversity n j h = (columns_two 0 n j h).0 ∙ ap d (omega arith)

  pub column_cost : (n j : ℕ) → j < n → get_or (columns d c (from 0 n)) (2 * j + 1) 0 ≡ c j
  column_cost n j h = (columns_two 0 n j h).1 ∙ ap c (omega arith)

  -- as texts, a column's two numbers each
  abbrev pub column : ℕ → List ℕ
  column b = d b ∷ c b ∷ []

  pub columns_texts : (bs : List ℕ) → texts column bs ≡ columns d c bs
  unfolding texts columns
  columns_texts [] = refl
  columns_texts (b ∷ bs) = ap (λ s. d b ∷ c b ∷ s) (columns_texts bs)

-- columns that agree up to n
pub alike_ext : (f g : ℕ → Bool) (n : ℕ) → ((b : ℕ) → b < n → f b ≡ g b) → columns_alike f n ≡ columns_alike g n
unfolding columns_alike
alike_ext f g zero h = refl
alike_ext f g (suc n) h = rw (h n (omega arith), alike_ext f g n (λ b l. h b (omega arith)))

pub columns_ext : (d c e f : ℕ → ℕ) (k n : ℕ) → ((b : ℕ) → b < k + n → (d b ≡ e b) × (c b ≡ f b))
    → columns d c (from k n) ≡ columns e f (from k n)
unfolding columns from
columns_ext d c e f k zero h = refl
columns_ext d c e f k (suc n) h =
    let same = h k (omega arith) in
    rw (same.0, same.1, columns_ext d c e f (k + 1) n (λ b l. h b (omega arith)))

-- a loop's invariant: the columns from b up to n pass a test
pub record Level (alike : ℕ → Bool) (n b : ℕ) : Type 0 where
  pub most : b ≤ n
  pub whole : columns_alike alike n ≡ n - b + columns_alike alike b

module _ {alike : ℕ → Bool} {n b : ℕ} (h : Level alike n b) (nz : b ≡ 0 → ⊥) where
  before : columns_alike alike b ≡ columns_alike alike (suc (b - 1))
  before = ap (columns_alike alike) (omega arith)

  pub level_goes : alike (b - 1) ≡ true → Level alike n (b - 1)
  unfolding columns_alike
  level_goes e =
      let step : columns_alike alike b ≡ suc (columns_alike alike (b - 1)) = before ∙ rw e in
      record { most = omega (arith, h.most); whole = omega (arith, h.most, h.whole) }

  -- it ends where the test fails
  pub level_drops : alike (b - 1) ≡ false → n - b ≡ columns_alike alike n
  unfolding columns_alike
  level_drops e = let none : columns_alike alike b ≡ 0 = before ∙ rw e in omega (arith, h.whole)

-- or at column 0
pub level_ends : {alike : ℕ → Bool} {n b : ℕ} → Level alike n b → b ≡ 0 → n - 0 ≡ columns_alike alike n
unfolding columns_alike
level_ends {alike} {n} {b} h z = let none : columns_alike alike b ≡ 0 = ap (columns_alike alike) z in omega (arith, h.whole)

-- the test of a curve's column, turned round
pub level_not : (curve : List ℕ) (d b : ℕ) {t : Bool} → (eqb (cost_at curve b) blank_cost || not (eqb (diversity_at curve b) d)) ≡ t
    → level curve d b ≡ not t
unfolding level
level_not curve d b e = sym (turned (eqb (cost_at curve b) blank_cost) (eqb (diversity_at curve b) d)) ∙ ap not e
  where
    turned : (p q : Bool) → not (p || not q) ≡ (not p && q)
    turned true q = refl
    turned false true = refl
    turned false false = refl
