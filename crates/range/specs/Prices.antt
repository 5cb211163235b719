-- Prices not yet agreed: outlines that differ in prices only.
use Rattle.std.specs.Prelude.{ℕ, ◌%◌, ◌≤◌, ◌≡◌, Bool, false, ◌&&◌, List, leb, ltb, length, get_or}
use Rattle.outline.specs.Outline.{price, IsRecord}

-- place i of an outline has a byte of a price: bytes 8 to 11 of a record
abbrev pub of_price : ℕ → Bool
of_price i = leb 8 (i % 16) && ltb (i % 16) 12

-- "they may differ in prices only, and no low is above its high": p is as long as o, byte for byte the same outside the prices, and no price of o
-- is above that of p
pub record NoDearer (o p : List ℕ) : Type 0 where
  pub as_long : length p ≡ length o
  pub others_same : (i : ℕ) → of_price i ≡ false → get_or p i 0 ≡ get_or o i 0
  pub no_above : (r : ℕ) → IsRecord o r → price o r ≤ price p r

-- "all prices between": those of an outline that differs from both in prices only, with none below the low one or above the high one
pub record PricesBetween (low mid high : List ℕ) : Type 0 where
  pub from_low : NoDearer low mid
  pub to_high : NoDearer mid high
