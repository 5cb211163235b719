-- The fields of a record and its sixteen bytes: each gives the other. Records one after the other.
use Prim.Native.Nat.{ℕ, zero, suc, ◌+◌, ◌*◌, ◌-◌, ◌/◌, ◌%◌, ◌<◌}
use mathlib.Core.Path.{◌≡◌, refl, sym, ap, ap₂, ◌∙◌}
use mathlib.Core.List.{List, ◌∷◌, ◌++◌, append_assoc}
use native.Mathlib.Omega.{arith}
use Rattle.std.specs.Int.{w16, w32, to_le_bytes}
use lib.ListN.{length, get_or, drop, length-append}
use lib.Seq.{get_or-drop, drop-drop, drop_at}
use Rattle.lists.specs.Lists.{from, Bytes}
use Rattle.lists.proofs.Pieces.{two_at}
use Rattle.outline.specs.Outline.{short, long, next, first, branch, price, plate_field, bytes, record_bytes, IsRecord}
use Rattle.text.specs.Text.{texts}

-- the bytes that std gives of a number, of its two lower bytes and of all four
pub two_bytes : (v : ℕ) → to_le_bytes w16 (v % 65536) ≡ bytes 2 v
unfolding bytes
two_bytes v =
    let low : v % 65536 % 256 ≡ v % 256 = omega arith in
    let high : v % 65536 / 256 % 256 ≡ v / 256 % 256 = omega arith in
    rw (low, high)

pub four_bytes : (v : ℕ) → to_le_bytes w32 v ≡ bytes 4 v
unfolding bytes
four_bytes v =
    let third : v / 65536 ≡ v / 256 / 256 = omega arith in
    let fourth : v / 16777216 ≡ v / 256 / 256 / 256 = omega arith in
    rw (third, fourth)

-- four bytes are twice two
pub bytes_halves : (v : ℕ) → bytes 2 (v % 65536) ++ bytes 2 (v / 65536) ≡ bytes 4 v
unfolding bytes
bytes_halves v =
    let high : v / 65536 ≡ v / 256 / 256 = omega arith in
    let low : v % 65536 / 256 ≡ v / 256 % 256 = omega arith in
    let a : v % 65536 % 256 ≡ v % 256 = omega arith in
    let b : v / 256 % 256 % 256 ≡ v / 256 % 256 = omega arith in
    rw (a, low, b, high)

-- a record has sixteen bytes
pub record_length : (next first branch price plate : ℕ) → length (record_bytes next first branch price plate) ≡ 16
unfolding record_bytes bytes
record_length next first branch price plate = refl

-- ---- records one after the other
module _ (f : ℕ → List ℕ) (sixteen : (r : ℕ) → length (f r) ≡ 16) where
  pub records_length : (k n : ℕ) → length (texts f (from k n)) ≡ 16 * n
  unfolding texts from
  records_length k zero = refl
  records_length k (suc n) = length-append (f k) (texts f (from (k + 1) n)) ∙ omega (arith, sixteen k, records_length (k + 1) n)

  -- from the record after i others on
  pub records_at : (k n i : ℕ) → i < n → drop (16 * i) (texts f (from k n)) ≡ f (k + i) ++ texts f (from (k + i + 1) (n - i - 1))
  unfolding texts from
  records_at k zero i h = absurd (omega arith)
  records_at k (suc n) zero h =
      let e : k + 0 ≡ k = omega arith in
      let m : suc n - 0 - 1 ≡ n = omega arith in
      rw (e, m)
  records_at k (suc n) (suc i) h =
      let rest = texts f (from (k + 1) n) in
      let e : 16 * suc i ≡ 16 + 16 * i = omega arith in
      let place : k + 1 + i ≡ k + suc i = omega arith in
      let left : n - i - 1 ≡ suc n - suc i - 1 = omega arith in
      ap (λ j. drop j (f k ++ rest)) e
      ∙ sym (drop-drop (16 * i) 16 (f k ++ rest))
      ∙ ap (drop (16 * i)) (drop_at (f k) rest 16 (sixteen k))
      ∙ records_at (k + 1) n i (omega arith)
      ∙ ap₂ (λ j m. f j ++ texts f (from (j + 1) m)) place left

-- ---- fields from bytes
module _ (o : List ℕ) where
  -- a number of two bytes, inside what is left, and one of four
  short_in : (i j : ℕ) {s : List ℕ} → drop i o ≡ s → short o (i + j) ≡ get_or s j 0 + 256 * get_or s (j + 1) 0
  unfolding short
  short_in i j h = let e : i + j + 1 ≡ i + (j + 1) = omega arith in rw (e, ← get_or-drop i o j 0, ← get_or-drop i o (j + 1) 0, h)

  pub long_in : (i j : ℕ) {s : List ℕ} → drop i o ≡ s
      → long o (i + j) ≡ get_or s j 0 + 256 * get_or s (j + 1) 0 + 65536 * (get_or s (j + 2) 0 + 256 * get_or s (j + 2 + 1) 0)
  unfolding long
  long_in i j h = let e : i + j + 2 ≡ i + (j + 2) = omega arith in rw (e, short_in i j h, short_in i (j + 2) h)

  -- the fields of a record that was written with these numbers
  pub record Fields (r next' first' branch' price' field' : ℕ) : Type 0 where
    pub next_is : next o r ≡ next' % 65536
    pub first_is : first o r ≡ first' % 65536
    pub branch_is : branch o r ≡ branch' % 4294967296
    pub price_is : price o r ≡ price' % 4294967296
    pub field_is : plate_field o r ≡ field' % 4294967296

  pub fields_back : (r n f l c p : ℕ) (rest : List ℕ) → drop (16 * (r - 1)) o ≡ record_bytes n f l c p ++ rest → Fields r n f l c p
  unfolding record_bytes bytes
  fields_back r n f l c p rest h =
      let i = 16 * (r - 1) in
      let e : i ≡ i + 0 = omega arith in
      record {
        next_is = ap (short o) e ∙ short_in i 0 h ∙ omega arith;
        first_is = short_in i 2 h ∙ omega arith;
        branch_is = long_in i 4 h ∙ four l;
        price_is = long_in i 8 h ∙ four c;
        field_is = long_in i 12 h ∙ four p;
      }
    where
      four : (v : ℕ) → v % 256 + 256 * (v / 256 % 256) + 65536 * (v / 256 / 256 % 256 + 256 * (v / 256 / 256 / 256 % 256)) ≡ v % 4294967296
      four v = omega arith

-- ---- bytes from fields
module _ (o : List ℕ) (small : Bytes o) where
  short_small : (i : ℕ) → short o i < 65536
  unfolding short
  short_small i = omega (arith, small.small i, small.small (i + 1))

  pub long_small : (i : ℕ) → long o i < 4294967296
  unfolding long
  long_small i = omega (arith, short_small i, short_small (i + 2))

  short_split : (i : ℕ) → i + 1 < length o → drop i o ≡ bytes 2 (short o i) ++ drop (i + 2) o
  unfolding short bytes
  short_split i h =
      let a = small.small i in
      let b = small.small (i + 1) in
      let low : get_or o i 0 ≡ (get_or o i 0 + 256 * get_or o (i + 1) 0) % 256 = omega arith in
      let tenth : (get_or o i 0 + 256 * get_or o (i + 1) 0) / 256 ≡ get_or o (i + 1) 0 = omega arith in
      let high : get_or o (i + 1) 0 ≡ (get_or o i 0 + 256 * get_or o (i + 1) 0) / 256 % 256 = rw tenth (omega arith) in
      two_at o i h ∙ ap₂ (λ (x : ℕ) (y : ℕ). x ∷ y ∷ drop (i + 2) o) low high

  long_split : (i j : ℕ) → j ≡ i + 4 → i + 3 < length o → drop i o ≡ bytes 4 (long o i) ++ drop j o
  unfolding long
  long_split i j e h =
      let a = short_small i in
      let low : (short o i + 65536 * short o (i + 2)) % 65536 ≡ short o i = omega arith in
      let high : (short o i + 65536 * short o (i + 2)) / 65536 ≡ short o (i + 2) = omega arith in
      let after : i + 2 + 2 ≡ j = omega arith in
      rw (← bytes_halves (short o i + 65536 * short o (i + 2)), low, high, append_assoc (bytes 2 (short o i)) (bytes 2 (short o (i + 2))) (drop j o), ← after)
      (short_split i (omega arith) ∙ ap (λ s. bytes 2 (short o i) ++ s) (short_split (i + 2) (omega arith)))

  -- a record and what follows it
  pub record_split : (r : ℕ) → IsRecord o r
      → drop (16 * (r - 1)) o
      ≡ record_bytes (next o r) (first o r) (branch o r) (price o r) (plate_field o r) ++ drop (16 * r) o
  unfolding record_bytes bytes
  record_split r k =
      let i = 16 * (r - 1) in
      let l = k.low in
      let u = k.high in
      let e : i + 2 + 2 ≡ i + 4 = omega arith in
      short_split i (omega arith)
      ∙ ap (λ s. bytes 2 (next o r) ++ s) (short_split (i + 2) (omega arith)
      ∙ ap (λ j. bytes 2 (first o r) ++ drop j o) e
      ∙ ap (λ s. bytes 2 (first o r) ++ s) (long_split (i + 4) (i + 8) (omega arith) (omega arith)
      ∙ ap (λ s. bytes 4 (branch o r) ++ s) (long_split (i + 8) (i + 12) (omega arith) (omega arith)
      ∙ ap (λ s. bytes 4 (price o r) ++ s) (long_split (i + 12) (16 * r) (omega arith) (omega arith)))))
