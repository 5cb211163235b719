-- Candidates: what a set of taxa is worth, which of two is better, the sum of two, and one below a heading.
use Rattle.std.specs.Prelude.{if◌then◌else◌, ℕ, ◌+◌, ◌≤◌, Bool, ◌||◌, ◌&&◌, eqb, ltb, leb}

-- what a set is worth: how many locked taxa it holds, its diversity, its cost, and its code, which is the set read as a binary number,
-- the first taxon the most significant digit
pub record Value : Type 0 where
  pub locked : ℕ
  pub diversity : ℕ
  pub cost : ℕ
  pub code : ℕ

-- the worth of two sets with no taxon in common, taken together
abbrev pub plus : Value → Value → Value
plus v w = record {
  locked = v.locked + w.locked;
  diversity = v.diversity + w.diversity;
  cost = v.cost + w.cost;
  code = v.code + w.code;
}

-- the empty set
abbrev pub nothing_worth : Value
nothing_worth = record { locked = 0; diversity = 0; cost = 0; code = 0 }

-- a heading: a branch and a price, and no taxon
abbrev pub heading : ℕ → ℕ → Value
heading length price = record { locked = 0; diversity = length; cost = price; code = 0 }

-- more locked taxa, then more diversity, then less cost, then the first taxon on which they differ
unfoldable pub beats : Value → Value → Bool
beats v w =
    ltb w.locked v.locked
    || (eqb v.locked w.locked
    && (ltb w.diversity v.diversity
    || (eqb v.diversity w.diversity
    && (ltb v.cost w.cost || (eqb v.cost w.cost && ltb w.code v.code)))))

-- a set's worth, or no set
pub data Cand : Type 0 where
  none : Cand
  some : Value → Cand

-- the better of two; none only if both are
unfoldable pub better_of : Cand → Cand → Cand
better_of none c = c
better_of (some v) none = some v
better_of (some v) (some w) = if beats w v then some w else some v

-- two sets with no taxon in common, taken together; none if either is none
unfoldable pub join_of : Cand → Cand → Cand
join_of none c = none
join_of (some v) none = none
join_of (some v) (some w) = some (plus v w)

-- a set below a heading is charged with its branch and its price
abbrev pub charge_of : Cand → ℕ → ℕ → Cand
charge_of c length price = join_of (some (heading length price)) c

-- the one value, where it fits b
unfoldable pub one_at : Value → ℕ → Cand
one_at v b = if leb v.cost b then some v else none

-- a candidate that is there is a value of P that fits b
pub data From (P : Value → Type 0) (b : ℕ) : Cand → Type 0 where
  nothing : From P b none
  this : {v : Value} → P v → v.cost ≤ b → From P b (some v)
