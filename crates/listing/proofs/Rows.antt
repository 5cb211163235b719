-- Rows of a list, read by chunks: the columns of a curve, and the rows of a sheet.
use Rattle.std.specs.Simd.{first_chunks}
use Prim.Native.Nat.{ℕ, zero, suc, ◌+◌, ◌*◌, ◌/◌, ◌<◌}
use mathlib.Core.Path.{◌≡◌, refl, ap, ◌∙◌}
use mathlib.Core.List.{List, [], ◌∷◌}
use native.Mathlib.Omega.{arith}
use lib.ListN.{length, get_or, take, drop, length-take}
use lib.Seq.{get_or-take, get_or-drop}
use Rattle.text.specs.Text.{line}
use Rattle.listing.specs.FromBuffers.{column_text, taxon_text}

-- number i of chunk k
chunk_at : (n count k i m : ℕ) (xs : List ℕ) → k < count → i < n → m ≡ n * k + i
    → get_or (get_or (first_chunks n count xs) k []) i 0 ≡ get_or xs m 0
chunk_at n zero k i m xs h l e = absurd (omega arith)
chunk_at n (suc count) zero i m xs h l e = get_or-take n xs i 0 l ∙ ap (λ j. get_or xs j 0) (omega arith)
chunk_at n (suc count) (suc k) i m xs h l e =
    chunk_at n count k i (n * k + i) (drop n xs) (omega arith) l refl ∙ get_or-drop n xs (n * k + i) 0 ∙ ap (λ j. get_or xs j 0) (omega arith)

-- the first rows of n numbers each, and one of them
module _ (n k rows : ℕ) (xs : List ℕ) {chunks : List (List ℕ)} (e : chunks ≡ first_chunks n (length xs / n) xs)
    (whole : length chunks ≡ length xs / n) (h : k < length (take rows chunks)) where
  -- its number i
  number_at : (i m : ℕ) → i < n → m ≡ n * k + i → get_or (get_or (take rows chunks) k []) i 0 ≡ get_or xs m 0
  number_at i m l f =
      let within = rw length-take at h in
      ap (λ (row : List ℕ). get_or row i 0) (get_or-take rows chunks k [] (omega (arith, within)))
      ∙ rw e (chunk_at n (length xs / n) k i m xs (omega (arith, within)) l f)

-- a column's line
pub column_read : (curve : List ℕ) (b width : ℕ) {columns : List (List ℕ)} → columns ≡ first_chunks 2 (length curve / 2) curve
    → length columns ≡ length curve / 2 → b < length (take width columns)
    → line (b ∷ get_or (get_or (take width columns) b []) 0 0 ∷ get_or (get_or (take width columns) b []) 1 0 ∷ []) ≡ column_text curve b
unfolding column_text
column_read curve b width e whole h =
    let number = number_at 2 b width curve e whole h in
    rw (number 0 (2 * b) (omega arith) (omega arith), number 1 (2 * b + 1) (omega arith) refl)

-- a row's line
pub row_read : (sheet : List ℕ) (k rows : ℕ) {chunks : List (List ℕ)} → chunks ≡ first_chunks 3 (length sheet / 3) sheet
    → length chunks ≡ length sheet / 3 → k < length (take rows chunks)
    → line (get_or (get_or (take rows chunks) k []) 0 0 ∷ get_or (get_or (take rows chunks) k []) 1 0 ∷ get_or (get_or (take rows chunks) k []) 2 0 ∷ [])
    ≡ taxon_text sheet k
unfolding taxon_text
row_read sheet k rows e whole h =
    let number = number_at 3 k rows sheet e whole h in
    rw (number 0 (3 * k) (omega arith) (omega arith), number 1 (3 * k + 1) (omega arith) refl, number 2 (3 * k + 2) (omega arith) refl)
