-- Buffers that are written over number by number, from the left or from the right; and that a slice of bytes is bytes.
use Prim.Native.Nat.{ℕ, zero, suc, ◌+◌, ◌-◌, ◌≤◌, ◌<◌}
use mathlib.Core.Path.{◌≡◌, refl, sym, ap, ◌∙◌}
use mathlib.Core.List.{List, [], ◌∷◌, ◌++◌}
use native.Mathlib.Omega.{arith}
use native.Mathlib.Numerals.{add-one}
use lib.ListN.{length, get_or, take, drop, set, length-append, length-drop, length-take, take-append-drop, drop_of_length-le}
use lib.ListN.{get_or-append}
use lib.Seq.{take-length, take_at, drop_at}
use Rattle.std.proofs.Common.{Fits, w8, append-nil}
use Rattle.lists.specs.Lists.{over, Bytes}

-- what a `&[u8]` is known to hold
pub bytes_small : {xs : List ℕ} → ((i : ℕ) → Fits w8 (get_or xs i 0)) → Bytes xs
bytes_small h = record { small = λ i. omega (arith, h i) }

-- one number more from the left, and from the right
one_up : (a b : List ℕ) (i : ℕ) → i < length a → i < length b → set (take i a ++ drop i b) i (get_or a i 0) ≡ take (suc i) a ++ drop (suc i) b
one_up [] b i h k = absurd (omega arith)
one_up (x ∷ a) [] i h k = absurd (omega arith)
one_up (x ∷ a) (y ∷ b) zero h k = refl
one_up (x ∷ a) (y ∷ b) (suc i) h k = ap (λ (l : List ℕ). x ∷ l) (one_up a b i (omega arith) (omega arith))

one_down : (a b : List ℕ) (i : ℕ) → i < length a → i < length b → set (take (suc i) a ++ drop (suc i) b) i (get_or b i 0) ≡ take i a ++ drop i b
one_down [] b i h k = absurd (omega arith)
one_down (x ∷ a) [] i h k = absurd (omega arith)
one_down (x ∷ a) (y ∷ b) zero h k = refl
one_down (x ∷ a) (y ∷ b) (suc i) h k = ap (λ (l : List ℕ). x ∷ l) (one_down a b i (omega arith) (omega arith))

pub over_long : (text buffer : List ℕ) → length text ≤ length buffer → length (over text buffer) ≡ length buffer
unfolding over
over_long text buffer h = simp (length-append, length-drop) (omega arith)

-- what was written, what is past it, and each number of what was written
pub over_taken : (text buffer : List ℕ) (n : ℕ) → length text ≡ n → take n (over text buffer) ≡ text
unfolding over
over_taken text buffer n e = take_at text (drop (length text) buffer) n e

pub over_past : (text buffer : List ℕ) (n : ℕ) → length text ≡ n → drop n (over text buffer) ≡ drop n buffer
unfolding over
over_past text buffer n e = drop_at text (drop (length text) buffer) n e ∙ ap (λ k. drop k buffer) e

pub over_at_lem : (text buffer : List ℕ) (i : ℕ) → i < length text → get_or (over text buffer) i 0 ≡ get_or text i 0
unfolding over
over_at_lem text buffer i h = get_or-append text (drop (length text) buffer) 0 i h

-- where a buffer's first numbers are written over whole, the buffer is
pub over_part : (text buffer : List ℕ) (n : ℕ) → length text ≡ n → over text (take n buffer) ++ drop n buffer ≡ over text buffer
unfolding over
over_part text buffer n e =
    let none = drop_of_length-le (take n buffer) {i = length text} (omega (arith, length-take n buffer)) in
    rw (none, append-nil, e) refl

-- a loop's invariant: the first i numbers of the text stand in the buffer, and the rest is as it was
pub record Rising (text buffer now : List ℕ) (i : ℕ) : Type 0 where
  pub most : i ≤ length text
  pub fits : length text ≤ length buffer
  pub whole : now ≡ take i text ++ drop i buffer

pub rising_starts : {text buffer : List ℕ} → length text ≤ length buffer → Rising text buffer buffer 0
rising_starts h = record { most = omega arith; fits = h; whole = refl }

module _ {text buffer now : List ℕ} {i : ℕ} (h : Rising text buffer now i) where
  pub rising_goes : {v : ℕ} → i < length text → v ≡ get_or text i 0 → Rising text buffer (set now i v) (i + 1)
  rising_goes l e = record {
    most = omega arith;
    fits = h.fits;
    whole = rw (h.whole, e, add-one) (one_up text buffer i l (omega (arith, h.fits)));
  }

  pub rising_ends : length text ≤ i → now ≡ over text buffer
  unfolding over
  rising_ends l = let e : i ≡ length text = omega (arith, h.most) in h.whole ∙ rw (e, take-length)

-- the same from the right: the numbers from i on stand, and the rest is as it was
pub record Falling (text buffer now : List ℕ) (i : ℕ) : Type 0 where
  pub most : i ≤ length text
  pub fits : length text ≤ length buffer
  pub whole : now ≡ take i buffer ++ drop i (over text buffer)

pub falling_starts : {text buffer : List ℕ} → length text ≤ length buffer → Falling text buffer buffer (length text)
unfolding over
falling_starts {text} {buffer} h = record {
  most = omega arith;
  fits = h;
  whole = sym (take-append-drop (length text) buffer) ∙ rw (drop_at text (drop (length text) buffer) (length text) refl);
}

module _ {text buffer now : List ℕ} {i : ℕ} (h : Falling text buffer now i) (l : 0 < i) where
  before : now ≡ take (suc (i - 1)) buffer ++ drop (suc (i - 1)) (over text buffer)
  before = let e : i ≡ suc (i - 1) = omega arith in h.whole ∙ ap (λ k. take k buffer ++ drop k (over text buffer)) e

  inside : i - 1 < length buffer
  inside = omega (arith, h.most, h.fits)

  pub falling_goes : {v : ℕ} → v ≡ get_or text (i - 1) 0 → Falling text buffer (set now (i - 1) v) (i - 1)
  falling_goes e = record {
    most = omega (arith, h.most);
    fits = h.fits;
    whole =
        rw (before, e, ← over_at_lem text buffer (i - 1) (omega (arith, h.most)))
        (one_down buffer (over text buffer) (i - 1) inside (rw (over_long text buffer h.fits) inside));
  }
