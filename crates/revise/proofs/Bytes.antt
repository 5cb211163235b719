-- The bytes of a revised outline: four of them are those of the new length, the others are as they were.
use Prim.Native.Nat.{ℕ, ◌+◌, ◌*◌, ◌-◌, ◌≤◌, ◌<◌}
use mathlib.Core.Path.{◌≡◌, refl, sym, ap, ap₂, ◌∙◌}
use mathlib.Core.Logic.{◌≢◌}
use mathlib.Core.Bool.{Bool, true, false}
use mathlib.Core.List.{List, ◌++◌, append_assoc}
use native.Mathlib.Omega.{arith}
use lib.Dec.{ltb}
use lib.ListN.{length, get_or, take, drop, length-append, length-drop, get_or-append}
use lib.Seq.{get_or-drop, get_or-take, drop_at, length-take-le}
use borrow.Author.Tests.{ltb-true, ltb-false}
use Rattle.outline.specs.Outline.{short, long, branch, price, bytes, IsRecord}
use Rattle.records.proofs.Records.{long_in}
use Rattle.laws.proofs.Alike.{Alike}
use Rattle.revise.specs.Revised.{length_place, revised}

module _ (o : List ℕ) (r n : ℕ) (is : IsRecord o r) where
  abbrev at : ℕ
  at = length_place r

  at_inside : at + 4 ≤ length o
  at_inside = omega (arith, is.low, is.high)

  front_long : length (take at o) ≡ at
  front_long = length-take-le at o (omega (arith, at_inside))

  pub revised_length : length (revised o r n) ≡ length o
  unfolding revised bytes
  revised_length = simp (length-append, length-drop, front_long) (omega (arith, at_inside))

  -- what follows the length
  rest_same : drop (at + 4) (revised o r n) ≡ drop (at + 4) o
  unfolding revised bytes
  rest_same =
      ap (drop (at + 4)) (sym (append_assoc (take at o) (bytes 4 n) (drop (at + 4) o)))
      ∙ drop_at (take at o ++ bytes 4 n) (drop (at + 4) o) (at + 4) (length-append (take at o) (bytes 4 n) ∙ omega (arith, front_long))

  past_them : (i : ℕ) → (at ≤ i → i < at + 4 → ⊥) → at ≤ i → at + 4 ≤ i
  past_them i apart l = go (ltb i (at + 4)) refl
    where
      go : (b : Bool) → ltb i (at + 4) ≡ b → at + 4 ≤ i
      go true e = absurd (apart l (ltb-true i (at + 4) e))
      go false e = ltb-false i (at + 4) e

  -- a byte that is none of the four
  pub byte_kept : (i : ℕ) → (at ≤ i → i < at + 4 → ⊥) → get_or (revised o r n) i 0 ≡ get_or o i 0
  unfolding revised
  byte_kept i apart = go (ltb i at) refl
    where
      go : (b : Bool) → ltb i at ≡ b → get_or (revised o r n) i 0 ≡ get_or o i 0
      go true e =
          let l = ltb-true i at e in
          get_or-append (take at o) (bytes 4 n ++ drop (at + 4) o) 0 i (omega (arith, front_long)) ∙ get_or-take at o i 0 l
      go false e =
          let past : at + 4 ≤ i = past_them i apart (ltb-false i at e) in
          let place : at + 4 + (i - (at + 4)) ≡ i = omega arith in
          rw (← place, ← get_or-drop (at + 4) (revised o r n) (i - (at + 4)) 0, rest_same) (get_or-drop (at + 4) o (i - (at + 4)) 0)

  short_kept : (i : ℕ) → (at ≤ i + 1 → i < at + 4 → ⊥) → short (revised o r n) i ≡ short o i
  unfolding short
  short_kept i apart =
      ap₂ (λ a b. a + 256 * b) (byte_kept i (λ l u. apart (omega arith) u)) (byte_kept (i + 1) (λ l u. apart l (omega arith)))

  long_kept : (i : ℕ) → (at ≤ i + 3 → i < at + 4 → ⊥) → long (revised o r n) i ≡ long o i
  unfolding long
  long_kept i apart =
      ap₂ (λ a b. a + 65536 * b) (short_kept i (λ l u. apart (omega arith) u)) (short_kept (i + 2) (λ l u. apart (omega arith) (omega arith)))

  pub revised_alike : Alike o (revised o r n)
  revised_alike = record {
    as_long = revised_length;
    nexts = λ q. short_kept (16 * (q - 1)) (λ l u. omega arith);
    firsts = λ q. short_kept (16 * (q - 1) + 2) (λ l u. omega arith);
    plate_fields = λ q. long_kept (16 * (q - 1) + 12) (λ l u. omega arith);
  }

  pub revised_price : (q : ℕ) → price (revised o r n) q ≡ price o q
  revised_price q = long_kept (16 * (q - 1) + 8) (λ l u. omega arith)

  -- the other lengths, and the new one
  pub other_length : (q : ℕ) → 1 ≤ q → q ≢ r → branch (revised o r n) q ≡ branch o q
  other_length q l d = long_kept (16 * (q - 1) + 4) (λ k u. d (omega (arith, is.low)))

  pub new_length : n < 4294967296 → branch (revised o r n) r ≡ n
  unfolding revised bytes
  new_length h =
      let e : at ≡ at + 0 = omega arith in
      ap (long (revised o r n)) e
      ∙ long_in (revised o r n) at 0 (drop_at (take at o) (bytes 4 n ++ drop (at + 4) o) at front_long) ∙ omega arith
