-- How far a number moved, and that it moved with another.
use Rattle.std.specs.Prelude.{ℕ, ◌≤◌, ℤ, pos, ◌-ℤ◌, ◌<ℤ◌, nat_abs}

-- the new number minus the old, with its sign
abbrev pub moved : ℕ → ℕ → ℤ
moved old new = pos new -ℤ pos old

-- "never larger in size than that difference and never of the other sign, 0 allowed"
pub record MovesWith (best length : ℤ) : Type 0 where
  pub never_larger : nat_abs best ≤ nat_abs length
  pub rises_with : pos 0 <ℤ best → pos 0 <ℤ length
  pub falls_with : best <ℤ pos 0 → length <ℤ pos 0
