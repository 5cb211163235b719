-- Loops through the numbers 1 to n, by what each has yet to pass: one that sums, one that folds, and one that seeks the
-- lowest number at which a test holds; and what `lowest` then tells.
use Rattle.std.proofs.lemmas.Bool.{or_parts}
use Prim.Native.Nat.{ℕ, zero, suc, ◌+◌, ◌*◌, ◌-◌, ◌≤◌, ◌<◌}
use mathlib.Core.Path.{◌≡◌, refl, sym, ap, ap₂, ◌∙◌}
use mathlib.Core.Bool.{Bool, true, false, ◌||◌, not, false≢true}
use mathlib.Core.List.{List, [], ◌∷◌, ◌++◌, foldl}
use native.Mathlib.Nat.{mul-add}
use native.Mathlib.Omega.{arith}
use lib.Dec.{eqb}
use borrow.Author.Tests.{ne_eqb, eqb-true, eqb-false}
use Rattle.std.specs.Prelude.{if◌then◌else◌, Some, None, is_some, unwrap_or}
use Rattle.lists.specs.Lists.{from, anywhere, total, lowest, nonzero}

-- what is left to pass at r
abbrev pub rest : ℕ → ℕ → List ℕ
rest r n = from r (n + 1 - r)

rest_all : (n : ℕ) → rest 1 n ≡ from 1 n
rest_all n = let e : n + 1 - 1 ≡ n = omega arith in rw e

rest_more : (r n : ℕ) → r ≤ n → rest r n ≡ r ∷ rest (r + 1) n
unfolding from
rest_more r n h = let e : n + 1 - r ≡ suc (n + 1 - (r + 1)) = omega arith in rw e

rest_none : (r n : ℕ) → n < r → rest r n ≡ []
unfolding from
rest_none r n h = let e : n + 1 - r ≡ 0 = omega arith in rw e

-- the sum so far, with the sum of what is left, is the whole sum; it is at most so much for each number passed, so that it does not
-- overflow
pub record Summing (most : ℕ) (f : ℕ → ℕ) (n sum r : ℕ) : Type 0 where
  pub low : 1 ≤ r
  pub small : sum ≤ most * (r - 1)
  pub whole : sum + total f (rest r n) ≡ total f (from 1 n)

-- what is left leads from what is in hand to what the whole leads to
pub record Folding (f : ℕ → ℕ → ℕ) (start n hand r : ℕ) : Type 0 where
  pub low : 1 ≤ r
  pub whole : foldl f hand (rest r n) ≡ foldl f start (from 1 n)

-- the test holds at none of the numbers passed: the lowest of what is left is the lowest of all
pub record Seeking (p : ℕ → Bool) (n r : ℕ) : Type 0 where
  pub low : 1 ≤ r
  pub whole : lowest p (rest r n) ≡ lowest p (from 1 n)

module _ {most : ℕ} (f : ℕ → ℕ) (n : ℕ) where
  pub summing_starts : Summing most f n 0 1
  summing_starts = record { low = omega arith; small = omega arith; whole = rw rest_all (omega arith) }

  pub summing_goes : {sum r v : ℕ} → Summing most f n sum r → r ≤ n → v ≡ f r → v ≤ most → Summing most f n (sum + v) (r + 1)
  summing_goes {sum} {r} {v} s h e b =
      let passed : r + 1 - 1 ≡ r - 1 + 1 = omega (arith, s.low) in
      let more : most * (r + 1 - 1) ≡ most * (r - 1) + most * 1 = ap (λ k. most * k) passed ∙ mul-add most (r - 1) 1 in
      record {
        low = omega arith;
        small = omega (arith, s.small);
        whole = let step : f r + total f (rest (r + 1) n) ≡ total f (rest r n) = unfold total in rw (rest_more r n h) in omega arith;
      }

  pub summing_ends : {sum r : ℕ} → Summing most f n sum r → n < r → sum ≡ total f (from 1 n)
  summing_ends {sum} {r} s h = let none : total f (rest r n) ≡ 0 = unfold total in rw (rest_none r n h) in omega arith

module _ (f : ℕ → ℕ → ℕ) (start n : ℕ) where
  pub folding_starts : Folding f start n start 1
  folding_starts = record { low = omega arith; whole = rw rest_all refl }

  pub folding_goes : {hand r v : ℕ} → Folding f start n hand r → r ≤ n → v ≡ f hand r → Folding f start n v (r + 1)
  folding_goes {hand} {r} h u e = record { low = omega arith; whole = rw e (ap (foldl f hand) (sym (rest_more r n u)) ∙ h.whole) }

  pub folding_ends : {hand r : ℕ} → Folding f start n hand r → n < r → hand ≡ foldl f start (from 1 n)
  folding_ends {hand} {r} h u = ap (foldl f hand) (sym (rest_none r n u)) ∙ h.whole

module _ (p : ℕ → Bool) (n : ℕ) where
  pub seeking_goes : {r : ℕ} → Seeking p n r → r ≤ n → p r ≡ false → Seeking p n (r + 1)
  unfolding lowest
  seeking_goes {r} s h e =
      let step : lowest p (rest (r + 1) n) ≡ lowest p (rest r n) = rw (rest_more r n h, e) in
      record { low = omega arith; whole = step ∙ s.whole }

  pub seeking_finds : {r : ℕ} → Seeking p n r → r ≤ n → p r ≡ true → r ≡ lowest p (from 1 n)
  unfolding lowest
  seeking_finds {r} s h e = let here : r ≡ lowest p (rest r n) = rw (rest_more r n h, e) in here ∙ s.whole

  pub seeking_ends : {r : ℕ} → Seeking p n r → n < r → 0 ≡ lowest p (from 1 n)
  unfolding lowest
  seeking_ends {r} s h = let none : 0 ≡ lowest p (rest r n) = rw (rest_none r n h) in none ∙ s.whole

  -- what the walk answers: the number found, or nothing
  pub seeking_some : {r : ℕ} → Seeking p n r → r ≤ n → p r ≡ true → Some r ≡ nonzero (lowest p (from 1 n))
  seeking_some {r} s h e = rw (← seeking_finds s h e, ne_eqb r 0 (λ z. omega (arith, s.low)))

  pub seeking_nothing : {r : ℕ} → Seeking p n r → n < r → None ≡ nonzero (lowest p (from 1 n))
  seeking_nothing {r} s h = rw (← seeking_ends s h)

-- v is the lowest of the n numbers from k on at which the test holds, or 0 and it holds at none
pub data Lowest (p : ℕ → Bool) (k n : ℕ) : ℕ → Type 0 where
  none : ((r : ℕ) → k ≤ r → r < k + n → p r ≡ false) → Lowest p k n 0
  here : {r : ℕ} → k ≤ r → r < k + n → p r ≡ true → ((q : ℕ) → k ≤ q → q < r → p q ≡ false) → Lowest p k n r

-- one number more at the front, at which the test fails
lowest_later : (p : ℕ → Bool) (k n : ℕ) → p k ≡ false → {v : ℕ} → Lowest p (k + 1) n v → Lowest p k (suc n) v
lowest_later p k n e (none f) = none (λ r l u. go r (eqb r k) refl l u)
  where
    go : (r : ℕ) (t : Bool) → eqb r k ≡ t → k ≤ r → r < k + suc n → p r ≡ false
    go r true q l u = rw (eqb-true r k q) e
    go r false q l u = let d = eqb-false r k q in f r (omega arith) (omega arith)
lowest_later p k n e (here {r} l u h f) = here {r = r} (omega arith) (omega arith) h (λ q m w. go q (eqb q k) refl m w)
  where
    go : (q : ℕ) (t : Bool) → eqb q k ≡ t → k ≤ q → q < r → p q ≡ false
    go q true i m w = rw (eqb-true q k i) e
    go q false i m w = let d = eqb-false q k i in f q (omega arith) w

pub lowest_from : (p : ℕ → Bool) (k n : ℕ) → Lowest p k n (lowest p (from k n))
unfolding lowest from
lowest_from p k zero = none (λ r l u. absurd (omega arith))
lowest_from p k (suc n) = go (p k) refl (lowest_from p (k + 1) n)
  where
    go : (b : Bool) → p k ≡ b → Lowest p (k + 1) n (lowest p (from (k + 1) n)) → Lowest p k (suc n) (lowest p (from k (suc n)))
    go true e ih = rw e (here {r = k} (omega arith) (omega arith) e (λ q l u. absurd (omega arith)))
    go false e ih = rw e (lowest_later p k n e ih)

-- tests that agree have the same lowest
pub lowest_ext : (p q : ℕ → Bool) (k n : ℕ) → ((r : ℕ) → k ≤ r → r < k + n → p r ≡ q r) → lowest p (from k n) ≡ lowest q (from k n)
unfolding lowest from
lowest_ext p q k zero h = refl
lowest_ext p q k (suc n) h = rw (h k (omega arith) (omega arith), lowest_ext p q (k + 1) n (λ r l u. h r (omega arith) (omega arith))) refl

module _ (p : ℕ → Bool) (n : ℕ) where
  -- where the lowest is 0, the test holds nowhere
  pub lowest_none : lowest p (from 1 n) ≡ 0 → (r : ℕ) → 1 ≤ r → r ≤ n → p r ≡ false
  lowest_none z r l u = go (lowest_from p 1 n) z
    where
      go : {v : ℕ} → Lowest p 1 n v → v ≡ 0 → p r ≡ false
      go (none f) e = f r l (omega arith)
      go (here a b h f) e = absurd (omega arith)

  -- and where the test holds nowhere, it is 0
  pub none_lowest : ((r : ℕ) → 1 ≤ r → r ≤ n → p r ≡ false) → lowest p (from 1 n) ≡ 0
  none_lowest f = go (lowest_from p 1 n)
    where
      go : {v : ℕ} → Lowest p 1 n v → v ≡ 0
      go (none g) = refl
      go (here {r} l u t g) = absurd (false≢true (sym (f r l (omega arith)) ∙ t))

  -- where it is not 0, it is one of the numbers, and the test holds there
  pub lowest_holds : (lowest p (from 1 n) ≡ 0 → ⊥) → (1 ≤ lowest p (from 1 n)) × (lowest p (from 1 n) ≤ n) × (p (lowest p (from 1 n)) ≡ true)
  lowest_holds d = go (lowest_from p 1 n) d
    where
      go : {v : ℕ} → Lowest p 1 n v → (v ≡ 0 → ⊥) → (1 ≤ v) × (v ≤ n) × (p v ≡ true)
      go (none f) d = absurd (d refl)
      go (here a b h f) d = (a, omega arith, h)

  pub lowest_le : lowest p (from 1 n) ≤ n
  lowest_le = go (lowest_from p 1 n)
    where
      go : {v : ℕ} → Lowest p 1 n v → v ≤ n
      go (none f) = omega arith
      go (here a b h f) = omega arith

-- the test holds somewhere where the lowest is not 0
anywhere_from : (p : ℕ → Bool) (k n : ℕ) → 1 ≤ k → not (eqb (lowest p (from k n)) 0) ≡ anywhere p (from k n)
unfolding anywhere lowest from
anywhere_from p k zero h = refl
anywhere_from p k (suc n) h = go (p k) refl (anywhere_from p (k + 1) n (omega arith))
  where
    go : (b : Bool) → p k ≡ b → not (eqb (lowest p (from (k + 1) n)) 0) ≡ anywhere p (from (k + 1) n)
        → not (eqb (lowest p (from k (suc n))) 0) ≡ anywhere p (from k (suc n))
    go true e ih = rw e (ap not (ne_eqb k 0 (omega arith)))
    go false e ih = rw e ih

pub anywhere_lowest : (p : ℕ → Bool) (n : ℕ) → not (eqb (lowest p (from 1 n)) 0) ≡ anywhere p (from 1 n)
anywhere_lowest p n = anywhere_from p 1 n (omega arith)

-- what is found is something where it is not 0
pub is_some_nonzero : (n : ℕ) → is_some (nonzero n) ≡ not (eqb n 0)
is_some_nonzero n = go (eqb n 0)
  where
    go : (b : Bool) → is_some (if b then None else Some n) ≡ not b
    go true = refl
    go false = refl

-- what is found is the number, which is not 0; where nothing is, it is 0
pub nonzero_some : (n : ℕ) {r : ℕ} → Some r ≡ nonzero n → (r ≡ n) × (1 ≤ n)
nonzero_some n {r} e = go (eqb n 0) refl e
  where
    go : (b : Bool) → eqb n 0 ≡ b → Some r ≡ (if b then None else Some n) → (r ≡ n) × (1 ≤ n)
    go true z h = absurd cc
    go false z h = let p : r ≡ n = cc in let d = eqb-false n 0 z in (p, omega arith)

-- the number itself, where nothing is 0
pub nonzero_value : (n : ℕ) → unwrap_or (nonzero n) 0 ≡ n
nonzero_value n = go (eqb n 0) refl
  where
    go : (b : Bool) → eqb n 0 ≡ b → unwrap_or (if b then None else Some n) 0 ≡ n
    go true z = sym (eqb-true n 0 z)
    go false z = refl

pub nonzero_none : (n : ℕ) → None ≡ nonzero n → n ≡ 0
nonzero_none n e = go (eqb n 0) refl e
  where
    go : (b : Bool) → eqb n 0 ≡ b → None ≡ (if b then None else Some n) → n ≡ 0
    go true z h = eqb-true n 0 z
    go false z h = absurd cc

-- a test that holds at none of the n numbers from k on, and the converse
pub nowhere_from : (p : ℕ → Bool) (k n : ℕ) → anywhere p (from k n) ≡ false → (r : ℕ) → k ≤ r → r < k + n → p r ≡ false
unfolding anywhere from
nowhere_from p k zero e r l u = absurd (omega arith)
nowhere_from p k (suc n) e r l u = go (eqb r k) refl (λ m. nowhere_from p (k + 1) n parts.1 r m (omega arith))
  where
    parts : (p k ≡ false) × (anywhere p (from (k + 1) n) ≡ false)
    parts = or_parts (p k) _ e

    go : (t : Bool) → eqb r k ≡ t → (k + 1 ≤ r → p r ≡ false) → p r ≡ false
    go true q later = rw (eqb-true r k q) parts.0
    go false q later = let d = eqb-false r k q in later (omega arith)

pub from_nowhere : (p : ℕ → Bool) (k n : ℕ) → ((r : ℕ) → k ≤ r → r < k + n → p r ≡ false) → anywhere p (from k n) ≡ false
unfolding anywhere from
from_nowhere p k zero f = refl
from_nowhere p k (suc n) f =
    rw (f k (omega arith) (omega arith)) (from_nowhere p (k + 1) n (λ r l u. f r (omega arith) (omega arith)))

pub anywhere_none : (p : ℕ → Bool) (n : ℕ) → anywhere p (from 1 n) ≡ false → (r : ℕ) → 1 ≤ r → r ≤ n → p r ≡ false
anywhere_none p n e r l u = nowhere_from p 1 n e r l (omega arith)

pub none_anywhere : (p : ℕ → Bool) (n : ℕ) → ((r : ℕ) → 1 ≤ r → r ≤ n → p r ≡ false) → anywhere p (from 1 n) ≡ false
none_anywhere p n f = from_nowhere p 1 n (λ r l u. f r l (omega arith))

-- the numbers from k on, in two parts
pub from_both : (k a b : ℕ) → from k (a + b) ≡ from k a ++ from (k + a) b
unfolding from
from_both k zero b = let e : 0 + b ≡ b = omega arith in let d : k + 0 ≡ k = omega arith in rw (e, d)
from_both k (suc a) b =
    let e : suc a + b ≡ suc (a + b) = omega arith in
    let d : k + suc a ≡ k + 1 + a = omega arith in
    rw (e, d) (ap (λ xs. k ∷ xs) (from_both (k + 1) a b))

-- the last of them
pub from_last : (k n : ℕ) → from k (suc n) ≡ from k n ++ ((k + n) ∷ [])
unfolding from
from_last k n = let e : suc n ≡ n + 1 = omega arith in ap (from k) e ∙ from_both k n 1

-- a test that holds somewhere in two parts holds in one of them; where it holds in neither, it holds nowhere
pub anywhere_both : (p : ℕ → Bool) (xs ys : List ℕ) → anywhere p (xs ++ ys) ≡ (anywhere p xs || anywhere p ys)
unfolding anywhere
anywhere_both p [] ys = refl
anywhere_both p (x ∷ xs) ys = go (p x) (anywhere_both p xs ys)
  where
    go : (b : Bool) → anywhere p (xs ++ ys) ≡ (anywhere p xs || anywhere p ys)
        → (b || anywhere p (xs ++ ys)) ≡ ((b || anywhere p xs) || anywhere p ys)
    go true ih = refl
    go false ih = ih

pub nowhere_both : (p : ℕ → Bool) (xs ys : List ℕ) → anywhere p xs ≡ false → anywhere p ys ≡ false → anywhere p (xs ++ ys) ≡ false
nowhere_both p xs ys e f = anywhere_both p xs ys ∙ ap₂ ◌||◌ e f
