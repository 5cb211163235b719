-- A list at a place: two numbers that stand there, and a buffer that is written over there, piece by piece.
use Prim.Native.Nat.{ℕ, suc, ◌+◌, ◌≤◌, ◌<◌}
use mathlib.Core.Path.{◌≡◌, sym, ap, ◌∙◌}
use mathlib.Core.List.{List, [], ◌∷◌, ◌++◌, append_assoc}
use native.Mathlib.Numerals.{add-one}
use native.Mathlib.Omega.{arith}
use lib.ListN.{length, get_or, take, drop, length-append, length-drop, take-append-drop}
use lib.Seq.{drop-cons, take_at, drop_at, take-append-le, take-take, drop-drop, length-take-le}
use Rattle.lists.specs.Lists.{over, over_at}

-- the two numbers at a place, and what follows them
pub two_at : (xs : List ℕ) (i : ℕ) → i + 1 < length xs → drop i xs ≡ get_or xs i 0 ∷ get_or xs (i + 1) 0 ∷ drop (i + 2) xs
two_at xs i h =
    let e : suc i ≡ i + 1 = sym (add-one i) in
    let f : suc (i + 1) ≡ i + 2 = omega arith in
    drop-cons xs i 0 (omega arith) ∙ rw (e, drop-cons xs (i + 1) 0 h, f)

-- what follows a piece that stands at a place
pub after_list : {A : Type 0} (xs : List A) (i n : ℕ) (s rest : List A) → length s ≡ n → drop i xs ≡ s ++ rest → drop (i + n) xs ≡ rest
after_list xs i n s rest e h = sym (drop-drop n i xs) ∙ rw h (drop_at s rest n e)

-- nothing
pub over_nothing : {A : Type 0} (at : ℕ) (buffer : List A) → over_at at [] buffer ≡ buffer
unfolding over over_at
over_nothing at buffer = take-append-drop at buffer

-- what is written inside a buffer leaves its length
pub over_length : {A : Type 0} (at : ℕ) (s buffer : List A) → at + length s ≤ length buffer → length (over_at at s buffer) ≡ length buffer
unfolding over over_at
over_length at s buffer h = simp (length-append, length-drop) (omega (arith, length-take-le at buffer (omega arith)))

-- a piece after another
pub over_both : {A : Type 0} (at to : ℕ) (s t buffer : List A) → at ≤ length buffer → to ≡ at + length s
    → over_at to t (over_at at s buffer) ≡ over_at at (s ++ t) buffer
unfolding over over_at
over_both at to s t buffer h z =
    let front = take at buffer ++ s in
    let rest = drop at buffer in
    let back = drop (length s) rest in
    let long : length front ≡ at + length s = length-append (take at buffer) s ∙ ap (λ k. k + length s) (length-take-le at buffer h) in
    let whole : take at buffer ++ (s ++ back) ≡ front ++ back = sym (append_assoc (take at buffer) s back) in
    rw (z, whole, take_at front back _ long, drop_at front back _ long, drop-drop (length t) (length s) rest, ← length-append s t) (simp append_assoc)

-- a piece before another
pub over_before : {A : Type 0} (at to : ℕ) (s t buffer : List A) → to ≤ length buffer → to ≡ at + length s
    → over_at at s (over_at to t buffer) ≡ over_at at (s ++ t) buffer
unfolding over over_at
over_before at to s t buffer h z =
    let back = t ++ drop (length t) (drop to buffer) in
    let long : length (take to buffer) ≡ to = length-take-le to buffer h in
    let before : take at (take to buffer ++ back) ≡ take at buffer =
    take-append-le at (take to buffer) back (omega arith) ∙ take-take at to buffer (omega arith) in
    let after : drop (length s) (drop at (take to buffer ++ back)) ≡ back =
    drop-drop (length s) at (take to buffer ++ back) ∙ drop_at (take to buffer) back (at + length s) (long ∙ z) in
    let same : to + length t ≡ at + length (s ++ t) = rw length-append (omega arith) in
    let count : drop (length t) (drop to buffer) ≡ drop (length (s ++ t)) (drop at buffer) =
    drop-drop (length t) to buffer ∙ ap (λ n. drop n buffer) same ∙ sym (drop-drop (length (s ++ t)) at buffer) in
    rw (before, after, count) (simp append_assoc)
