-- Laws of sums over lists of numbers, `total`, `anywhere` and `from`, that speak of no outline.
use Rattle.std.specs.Prelude.{if◌then◌else◌}
use Prim.Native.Nat.{ℕ, zero, suc, ◌+◌, ◌*◌, ◌≤◌, ◌<◌}
use mathlib.Core.Path.{◌≡◌, refl, sym, ap, ap₂, fun_ext, ◌∙◌}
use mathlib.Core.Logic.{◌≢◌}
use mathlib.Core.Bool.{Bool, true, false, ◌||◌, false≢true}
use mathlib.Core.List.{List, [], ◌∷◌, ◌++◌}
use native.Mathlib.Omega.{arith}
use native.Mathlib.Nat.{zero-add, mul-add}
use lib.Dec.{eqb, ltb}
use borrow.Author.Tests.{eqb-true, eqb-false, ne_eqb, ltb-true, ltb-false}
use Rattle.lists.specs.Lists.{one, from, anywhere, total, positive}

pub one_true : (b : Bool) → 0 < one b → b ≡ true
one_true true h = refl
one_true false h = absurd (omega arith)

pub one_false : (b : Bool) → one b ≡ 0 → b ≡ false
one_false true h = absurd (omega arith)
one_false false h = refl

pub positive_true : (n : ℕ) → 0 < n → positive n ≡ true
positive_true zero h = absurd (omega arith)
positive_true (suc n) h = refl

pub positive_some : (n : ℕ) → positive n ≡ true → 0 < n
positive_some zero e = absurd (false≢true e)
positive_some (suc n) e = omega arith

pub if_zero : (b : Bool) → if◌then◌else◌ {A = ℕ} b 0 0 ≡ 0
if_zero true = refl
if_zero false = refl

-- some element passes where the number of those that pass is not 0
pub anywhere_count : (p : ℕ → Bool) (xs : List ℕ) → anywhere p xs ≡ positive (total (λ x. one (p x)) xs)
unfolding anywhere total
anywhere_count p [] = refl
anywhere_count p (x ∷ xs) = go (p x) (anywhere_count p xs)
  where
    go : (b : Bool) → anywhere p xs ≡ positive (total (λ x. one (p x)) xs) → b || anywhere p xs ≡ positive (one b + total (λ x. one (p x)) xs)
    go true e = sym (positive_true (1 + total (λ x. one (p x)) xs) (omega arith))
    go false e = rw zero-add e

pub total_append : (f : ℕ → ℕ) (xs ys : List ℕ) → total f (xs ++ ys) ≡ total f xs + total f ys
unfolding total
total_append f [] ys = omega arith
total_append f (x ∷ xs) ys = omega (arith, total_append f xs ys)

pub total_add : (f g : ℕ → ℕ) (xs : List ℕ) → total (λ x. f x + g x) xs ≡ total f xs + total g xs
unfolding total
total_add f g [] = refl
total_add f g (x ∷ xs) = omega (arith, total_add f g xs)

pub total_scale : (c : ℕ) (f : ℕ → ℕ) (xs : List ℕ) → total (λ x. c * f x) xs ≡ c * total f xs
unfolding total
total_scale c f [] = omega arith
total_scale c f (x ∷ xs) = omega (arith, total_scale c f xs)

pub total_zero : (xs : List ℕ) → total (λ x. 0) xs ≡ 0
unfolding total
total_zero [] = refl
total_zero (x ∷ xs) = omega (arith, total_zero xs)

-- a sum in which nothing is counted
pub total_uncounted : (p : ℕ → Bool) (f : ℕ → ℕ) (xs : List ℕ) → ((x : ℕ) → p x ≡ false) → total (λ x. if p x then f x else 0) xs ≡ 0
total_uncounted p f xs h = ap (λ (g : ℕ → ℕ). total g xs) (fun_ext (λ x. ap (λ (b : Bool). (if b then f x else 0)) (h x))) ∙ total_zero xs

-- a double sum, in either order
pub total_swap : (f : ℕ → ℕ → ℕ) (xs ys : List ℕ) → total (λ x. total (f x) ys) xs ≡ total (λ y. total (λ x. f x y) xs) ys
unfolding total
total_swap f [] ys = sym (total_zero ys)
total_swap f (x ∷ xs) ys = omega (arith, total_swap f xs ys, total_add (f x) (λ y. total (λ z. f z y) xs) ys)

-- sums of terms that agree on the range
pub total_ext : (f g : ℕ → ℕ) (a n : ℕ) → ((r : ℕ) → a ≤ r → r < a + n → f r ≡ g r) → total f (from a n) ≡ total g (from a n)
unfolding total from
total_ext f g a zero h = refl
total_ext f g a (suc n) h = ap₂ ◌+◌ (h a (omega arith) (omega arith)) (total_ext f g (a + 1) n (λ r l u. h r (omega arith) (omega arith)))

-- sums of terms none of which is greater
pub total_below : (f g : ℕ → ℕ) (xs : List ℕ) → ((x : ℕ) → f x ≤ g x) → total f xs ≤ total g xs
unfolding total
total_below f g [] h = omega arith
total_below f g (x ∷ xs) h = omega (arith, h x, total_below f g xs h)

-- none on the range
pub total_range : (f g : ℕ → ℕ) (a n : ℕ) → ((r : ℕ) → a ≤ r → r < a + n → f r ≤ g r) → total f (from a n) ≤ total g (from a n)
unfolding total from
total_range f g a zero h = omega arith
total_range f g a (suc n) h =
    omega (arith, h a (omega arith) (omega arith), total_range f g (a + 1) n (λ r l u. h r (omega arith) (omega arith)))

-- where a sum is not 0, a term is not 0
abbrev pub Term : (ℕ → ℕ) → ℕ → ℕ → Type 0
Term f a n = (r : ℕ) × (a ≤ r) × (r < a + n) × (0 < f r)

pub total_some : (f : ℕ → ℕ) (a n : ℕ) → 0 < total f (from a n) → Term f a n
unfolding total from
total_some f a zero h = absurd (omega arith)
total_some f a (suc n) h = go (f a) refl (total_some f (a + 1) n)
  where
    go : (k : ℕ) → f a ≡ k → (0 < total f (from (a + 1) n) → Term f (a + 1) n) → Term f a (suc n)
    go zero e ih = let t = ih (omega arith) in (t.0, omega arith, omega arith, t.3)
    go (suc k) e ih = (a, omega arith, omega arith, omega arith)

-- a term is at most the sum
pub total_term : (f : ℕ → ℕ) (r a n : ℕ) → a ≤ r → r < a + n → f r ≤ total f (from a n)
unfolding total from
total_term f r a zero l u = absurd (omega arith)
total_term f r a (suc n) l u = go (eqb r a) refl (λ l. total_term f r (a + 1) n l (omega arith))
  where
    go : (b : Bool) → eqb r a ≡ b → (a + 1 ≤ r → f r ≤ total f (from (a + 1) n)) → f r ≤ f a + total f (from (a + 1) n)
    go true e ih = omega (arith, ap f (eqb-true r a e))
    go false e ih = let d = eqb-false r a e in omega (arith, ih (omega arith))

pub total_most : (f : ℕ → ℕ) (k a n : ℕ) → ((r : ℕ) → a ≤ r → r < a + n → f r ≤ k) → total f (from a n) ≤ n * k
unfolding total from
total_most f k a zero h = omega arith
total_most f k a (suc n) h = omega (arith, h a (omega arith) (omega arith), total_most f k (a + 1) n (λ r l u. h r (omega arith) (omega arith)))

-- how often x stands in a list
abbrev pub occurs : ℕ → List ℕ → ℕ
occurs x xs = total (λ q. one (eqb x q)) xs

occurs_before : (x a n : ℕ) → x < a → occurs x (from a n) ≡ 0
occurs_before x a n h = total_ext _ (λ q. 0) a n (λ q l u. ap one (ne_eqb x q (λ e. omega arith))) ∙ total_zero (from a n)

pub occurs_most : (x a n : ℕ) → occurs x (from a n) ≤ 1
unfolding total from
occurs_most x a zero = omega arith
occurs_most x a (suc n) = go (eqb x a) refl (occurs_before x (a + 1) n) (occurs_most x (a + 1) n)
  where
    go : {k : ℕ} (b : Bool) → eqb x a ≡ b → (x < a + 1 → k ≡ 0) → k ≤ 1 → one (eqb x a) + k ≤ 1
    go true e before ih = let q = eqb-true x a e in omega (arith, ap one e, before (omega arith))
    go false e before ih = omega (arith, ap one e)

pub occurs_once : (x a n : ℕ) → a ≤ x → x < a + n → occurs x (from a n) ≡ 1
unfolding total from
occurs_once x a zero l u = absurd (omega arith)
occurs_once x a (suc n) l u = go (eqb x a) refl (occurs_before x (a + 1) n) (λ l. occurs_once x (a + 1) n l (omega arith))
  where
    go : {k : ℕ} (b : Bool) → eqb x a ≡ b → (x < a + 1 → k ≡ 0) → (a + 1 ≤ x → k ≡ 1) → one (eqb x a) + k ≡ 1
    go true e before ih = let q = eqb-true x a e in omega (arith, ap one e, before (omega arith))
    go false e before ih = let d = eqb-false x a e in omega (arith, ap one e, ih (omega arith))

pub occurs_range : (x a n : ℕ) → 0 < occurs x (from a n) → (a ≤ x) × (x < a + n)
occurs_range x a n h =
    let t = total_some (λ q. one (eqb x q)) a n h in
    let e = eqb-true x t.0 (one_true _ t.3) in
    (omega arith, omega arith)

-- a sum in which only the terms at x count
at_same : (w : ℕ → ℕ) (x q : ℕ) → w q * one (eqb x q) ≡ w x * one (eqb x q)
at_same w x q = go (eqb x q) refl
  where
    go : (b : Bool) → eqb x q ≡ b → w q * one b ≡ w x * one b
    go true e = ap (λ z. w z * 1) (sym (eqb-true x q e))
    go false e = omega arith

pub total_at : (w : ℕ → ℕ) (x : ℕ) (xs : List ℕ) → total (λ q. w q * one (eqb x q)) xs ≡ w x * occurs x xs
total_at w x xs = ap (λ f. total f xs) (fun_ext (at_same w x)) ∙ total_scale (w x) (λ q. one (eqb x q)) xs

pub total_single : (w : ℕ → ℕ) (x a n : ℕ) → x < a + n → (x < a → w x ≡ 0) → total (λ q. w q * one (eqb x q)) (from a n) ≡ w x
total_single w x a n h z = total_at w x (from a n) ∙ go (ltb x a) refl
  where
    go : (b : Bool) → ltb x a ≡ b → w x * occurs x (from a n) ≡ w x
    go true e = rw (z (ltb-true x a e)) (omega arith)
    go false e = rw (occurs_once x a n (ltb-false x a e) h) (omega arith)

-- the terms at x and at y, picked out of a sum
pub total_two : (w : ℕ → ℕ) (x y a n : ℕ) → x < a + n → (x < a → w x ≡ 0) → y < a + n → (y < a → w y ≡ 0)
    → total (λ q. w q * (one (eqb x q) + one (eqb y q))) (from a n) ≡ w x + w y
total_two w x y a n hx zx hy zy =
    simp mul-add (omega (arith, total_add (λ q. w q * one (eqb x q)) (λ q. w q * one (eqb y q)) (from a n), total_single w x a n hx zx, total_single w y a n hy zy))

-- two terms are at most the sum
pub total_pair : (w : ℕ → ℕ) (x y n : ℕ) → x ≢ y → 1 ≤ x → x ≤ n → 1 ≤ y → y ≤ n → w x + w y ≤ total w (from 1 n)
total_pair w x y n d lx ux ly uy =
    omega (
      arith,
      total_two w x y 1 n (omega arith) (λ h. absurd (omega arith)) (omega arith) (λ h. absurd (omega arith)),
      total_below _ w (from 1 n) (λ q. each q _ _ refl refl),
    )
  where
    each : (q : ℕ) (b c : Bool) → eqb x q ≡ b → eqb y q ≡ c → w q * (one b + one c) ≤ w q
    each q true true e f = absurd (d (eqb-true x q e ∙ sym (eqb-true y q f)))
    each q true false e f = omega arith
    each q false true e f = omega arith
    each q false false e f = omega arith
