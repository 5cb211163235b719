-- Texts, one after the other: equal where each is, how long they are, in two parts, and the last of them.
use Prim.Native.Nat.{ℕ, zero, suc, ◌+◌, ◌≤◌, ◌<◌}
use mathlib.Core.Path.{◌≡◌, refl, sym, ap, ◌∙◌}
use mathlib.Core.List.{List, [], ◌∷◌, ◌++◌, append_assoc, append-nil}
use native.Mathlib.Omega.{arith}
use lib.ListN.{length, length-append}
use Rattle.lists.specs.Lists.{from, total}
use Rattle.lists.proofs.Walk.{from_last}
use Rattle.text.specs.Text.{texts}

pub texts_ext : (f g : ℕ → List ℕ) (a n : ℕ) → ((r : ℕ) → a ≤ r → r < a + n → f r ≡ g r) → texts f (from a n) ≡ texts g (from a n)
unfolding texts from
texts_ext f g a zero h = refl
texts_ext f g a (suc n) h = rw (h a (omega arith) (omega arith), texts_ext f g (a + 1) n (λ r l u. h r (omega arith) (omega arith)))

pub texts_length : (f : ℕ → List ℕ) (ns : List ℕ) → length (texts f ns) ≡ total (λ n. length (f n)) ns
unfolding texts total
texts_length f [] = refl
texts_length f (n ∷ ns) = rw (length-append, texts_length f ns)

pub texts_both : (f : ℕ → List ℕ) (xs ys : List ℕ) → texts f (xs ++ ys) ≡ texts f xs ++ texts f ys
unfolding texts
texts_both f [] ys = refl
texts_both f (x ∷ xs) ys = ap (λ s. f x ++ s) (texts_both f xs ys) ∙ sym (append_assoc (f x) (texts f xs) (texts f ys))

pub texts_last : (f : ℕ → List ℕ) (k n : ℕ) → texts f (from k (suc n)) ≡ texts f (from k n) ++ f (k + n)
unfolding texts
texts_last f k n =
    ap (texts f) (from_last k n) ∙ texts_both f (from k n) ((k + n) ∷ []) ∙ ap (λ s. texts f (from k n) ++ s) (append-nil (f (k + n)))
