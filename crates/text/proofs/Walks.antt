-- A loop that puts a text for each of the numbers from k on, by what it has yet to put.
use Prim.Native.Nat.{ℕ, suc, ◌+◌, ◌-◌, ◌≤◌, ◌<◌}
use mathlib.Core.Path.{◌≡◌, subst}
use mathlib.Core.List.{List, [], ◌++◌}
use native.Mathlib.Omega.{arith}
use Rattle.lists.specs.Lists.{from}
use Rattle.text.specs.Text.{texts}
use Rattle.text.specs.Written.{LongEnough, Put}
use Rattle.text.specs.declared.Pen.{Pen}
use Rattle.text.proofs.Writing.{Left, left_starts, left_fits, left_goes, left_ends}

texts_more : (f : ℕ → List ℕ) (i e : ℕ) → i < e → texts f (from i (e - i)) ≡ f i ++ texts f (from (i + 1) (e - (i + 1)))
unfolding texts from
texts_more f i e h = let step : e - i ≡ suc (e - (i + 1)) = omega arith in rw step

texts_none : (f : ℕ → List ℕ) (i e : ℕ) → e ≤ i → texts f (from i (e - i)) ≡ []
unfolding texts from
texts_none f i e h = let none : e - i ≡ 0 = omega arith in rw none

-- the texts of the n numbers from k on are put up to number i
pub record Walking (f : ℕ → List ℕ) (k n : ℕ) (before : Pen ℕ) (i : ℕ) (now : Pen ℕ) : Type 0 where
  pub low : k ≤ i
  pub left : Left (texts f (from k n)) before (texts f (from i (k + n - i))) now

pub walking_starts : (f : ℕ → List ℕ) (k n : ℕ) (before : Pen ℕ) → LongEnough (texts f (from k n)) before → Walking f k n before k before
walking_starts f k n before fits =
    let e : n ≡ k + n - k = omega arith in
    record { low = omega arith; left = subst (λ m. Left (texts f (from k n)) before (texts f (from k m)) before) e (left_starts fits) }

module _ {f : ℕ → List ℕ} {k n i : ℕ} {before now : Pen ℕ} (w : Walking f k n before i now) where
  module _ (more : i < k + n) where
    next_left : Left (texts f (from k n)) before (f i ++ texts f (from (i + 1) (k + n - (i + 1)))) now
    next_left = subst (λ t. Left (texts f (from k n)) before t now) (texts_more f i (k + n) more) w.left

    pub walking_fits : LongEnough (f i) now
    walking_fits = left_fits (f i) _ next_left

    pub walking_goes : {next : Pen ℕ} → Put (f i) now next → Walking f k n before (i + 1) next
    walking_goes d = record { low = omega (arith, w.low); left = left_goes (f i) _ next_left d }

  pub walking_ends : k + n ≤ i → Put (texts f (from k n)) before now
  walking_ends none = left_ends (subst (λ t. Left (texts f (from k n)) before t now) (texts_none f i (k + n) none) w.left)
