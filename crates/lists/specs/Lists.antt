-- Tests, lists of numbers, and buffers that are written over: the few functions that the other definitions share.
use Rattle.std.specs.Prelude.{if◌then◌else◌, ℕ, zero, suc, ◌+◌, ◌<◌, Bool, true, false, ◌||◌, List, [], ◌∷◌, ◌++◌, Option, Some, None, length, get_or, take, drop, eqb}

-- 1 where a test holds, else 0
abbrev pub one : Bool → ℕ
one b = if b then 1 else 0

-- a number is above 0
abbrev pub positive : ℕ → Bool
positive zero = false
positive (suc n) = true

-- the n numbers from k on
unfoldable pub from : ℕ → ℕ → List ℕ
from k zero = []
from k (suc n) = k ∷ from (k + 1) n

-- the test holds somewhere in the list
unfoldable pub anywhere : (ℕ → Bool) → List ℕ → Bool
anywhere p [] = false
anywhere p (x ∷ xs) = p x || anywhere p xs

-- the sum of f over the list
unfoldable pub total : (ℕ → ℕ) → List ℕ → ℕ
total f [] = 0
total f (x ∷ xs) = f x + total f xs

-- the first number of the list at which the test holds, 0 if there is none
unfoldable pub lowest : (ℕ → Bool) → List ℕ → ℕ
lowest p [] = 0
lowest p (x ∷ xs) = let later = lowest p xs in if p x then x else later

-- a number that counts from 1; 0 is none
abbrev pub nonzero : ℕ → Option ℕ
nonzero n = if eqb n 0 then None else Some n

-- numbers written at the beginning of a buffer; the rest of the buffer is unchanged
unfoldable pub over : {A : Type 0} → List A → List A → List A
over text buffer = text ++ drop (length text) buffer

-- numbers written in a buffer at a place: what stands before the place stays, and they are written over the rest
unfoldable pub over_at : {A : Type 0} → ℕ → List A → List A → List A
over_at at text buffer = take at buffer ++ over text (drop at buffer)

-- a list of bytes
pub record Bytes (xs : List ℕ) : Type 0 where
  pub small : (i : ℕ) → get_or xs i 0 < 256
