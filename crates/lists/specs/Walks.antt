-- What the calls of a walk's closure decide.
use Rattle.std.specs.Prelude.{ℕ, ◌≤◌, ◌≡◌, Bool}

-- at each of the numbers 1 to n a call answers whether the test holds
abbrev pub Decides : (ℕ → Bool → Type 0) → ℕ → (ℕ → Bool) → Type 0
Decides answers n holds = (r : ℕ) → 1 ≤ r → r ≤ n → (b : Bool) → answers r b → b ≡ holds r
