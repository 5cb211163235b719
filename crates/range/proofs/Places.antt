-- Which places of an outline have bytes of prices: those 8 to 11 past the beginning of a record.
use Prim.Native.Nat.{ℕ, ◌%◌, ◌≤◌, ◌<◌}
use mathlib.Core.Path.{◌≡◌, refl, ap, ap₂, ◌∙◌}
use mathlib.Core.Bool.{true, false, ◌&&◌, and-false}
use lib.Dec.{leb}
use borrow.Author.Tests.{lt-leb, le-leb, lt-ltb, le-ltb}
use Rattle.range.specs.Prices.{of_price}

pub before_price : (i : ℕ) → i % 16 < 8 → of_price i ≡ false
before_price i h = rw (lt-leb 8 (i % 16) h) refl

pub past_price : (i : ℕ) → 12 ≤ i % 16 → of_price i ≡ false
past_price i h = ap (λ b. leb 8 (i % 16) && b) (le-ltb (i % 16) 12 h) ∙ and-false (leb 8 (i % 16))

pub at_price : (i : ℕ) → 8 ≤ i % 16 → i % 16 < 12 → of_price i ≡ true
at_price i h l = ap₂ ◌&&◌ (le-leb 8 (i % 16) h) (lt-ltb (i % 16) 12 l)
