-- Tables of refusals in words, for any entry point: rows with their conditions, in the order in which they are judged; which
-- row a call is given; and the mission's first demand.
use Rattle.std.specs.Prelude.{ℕ, ◌≤◌, ◌<◌, ◌≡◌, Bool, true, false, List, [], ◌∷◌, length, replicate}
use Rattle.refusals.specs.Refusals.{Ruling, ruling, passed}

-- record r is the lowest of so many at which a condition holds
pub record LowestAt (size : ℕ) (holds : ℕ → Bool) (r : ℕ) : Type 0 where
  pub low : 1 ≤ r
  pub high : r ≤ size
  pub here : holds r ≡ true
  pub before : (q : ℕ) → 1 ≤ q → q < r → holds q ≡ false

-- a row: its number, and that it holds, with its place
pub record Row : Type 1 where
  pub number : ℕ
  pub holds : ℕ → Type 0

-- a row of the whole, whose place is 0; and a row whose place is the lowest record at which its condition holds
abbrev pub whole : ℕ → Type 0 → Row
whole n C = record { number = n; holds = λ p. (p ≡ 0) × C }

abbrev pub lowest_at : ℕ → ℕ → (ℕ → Bool) → Row
lowest_at n size condition = record { number = n; holds = LowestAt size condition }

-- no row of a table holds
pub data NoRow : List Row → Type 1 where
  end : NoRow []
  fails : {r : Row} {rs : List Row} → ((p : ℕ) → r.holds p → ⊥) → NoRow rs → NoRow (r ∷ rs)

-- the first row of a table that holds has number n, and place p
pub data FirstRow : List Row → ℕ → ℕ → Type 1 where
  here : {r : Row} {rs : List Row} {p : ℕ} → r.holds p → FirstRow (r ∷ rs) r.number p
  later : {r : Row} {rs : List Row} {n p : ℕ} → ((q : ℕ) → r.holds q → ⊥) → FirstRow rs n p → FirstRow (r ∷ rs) n p

-- what a table gives: 0 and 0 where no row holds, else the number and the place of the first that does; no other number or
-- place is the first's
pub data Gives (rows : List Row) : Ruling → Type 1 where
  gives_none : NoRow rows → Gives rows passed
  gives_first : {n p : ℕ} → 1 ≤ n → FirstRow rows n p → ((m q : ℕ) → FirstRow rows m q → (m ≡ n) × (q ≡ p)) → Gives rows (ruling n p)

-- the mission's first demand, of a call's number and place, the other numbers that it is given, and the lent buffers before and
-- after it: no refusal, or exactly one of the table, under its condition only; then the other numbers are 0, and no lent byte is
-- changed
pub record Decided (rows : List Row) (t : Ruling) (others : List ℕ) (before after : List (List ℕ)) : Type 1 where
  pub given : Gives rows t
  pub others_zero : 1 ≤ t.number → others ≡ replicate (length others) 0
  pub unchanged : 1 ≤ t.number → after ≡ before
