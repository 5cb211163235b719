-- How large the two numbers of a refusal are.
use Rattle.std.specs.Prelude.{if◌then◌else◌}
use Prim.Native.Nat.{ℕ, ◌≤◌}
use mathlib.Core.Path.{◌≡◌, refl}
use mathlib.Core.Bool.{Bool, true, false}
use native.Mathlib.Omega.{arith}
use lib.Dec.{eqb}
use borrow.Author.Tests.{eqb-true}
use Rattle.lists.specs.Lists.{from, lowest}
use Rattle.lists.proofs.Walk.{lowest_le}
use Rattle.refusals.specs.Refusals.{Ruling, ruling, passed, row, row_at, ◌▸◌}

-- the number is at most the greatest of the table, and the place at most so many
pub record Placed (greatest most : ℕ) (t : Ruling) : Type 0 where
  pub number_most : t.number ≤ greatest
  pub place_most : t.place ≤ most

module _ (greatest most : ℕ) where
  pub row_placed : (n : ℕ) (holds : Bool) → n ≤ greatest → Placed greatest most (row n holds)
  row_placed n true h = record { number_most = h; place_most = omega arith }
  row_placed n false h = record { number_most = omega arith; place_most = omega arith }

  pub row_at_placed : (n : ℕ) (holds : ℕ → Bool) (size : ℕ) → n ≤ greatest → size ≤ most → Placed greatest most (row_at n holds size)
  row_at_placed n holds size h few = go (eqb (lowest holds (from 1 size)) 0)
    where
      go : (t : Bool) → Placed greatest most (if t then passed else ruling n (lowest holds (from 1 size)))
      go true = record { number_most = omega arith; place_most = omega arith }
      go false = record { number_most = h; place_most = omega (arith, lowest_le holds size) }

  -- a row is looked at only where those before it pass
  pub then_placed : (a b : Ruling) → Placed greatest most a → (a.number ≡ 0 → Placed greatest most b) → Placed greatest most (a ▸ b)
  then_placed a b p q = go (eqb a.number 0) refl
    where
      go : (t : Bool) → eqb a.number 0 ≡ t → Placed greatest most (if t then b else a)
      go true e = q (eqb-true _ _ e)
      go false e = p
