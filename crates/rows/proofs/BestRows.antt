-- The best candidate of sums, and rows that hold the best candidate in each column.
use Prim.Native.Nat.{ℕ, ◌+◌, ◌-◌, ◌≤◌}
use mathlib.Core.Path.{◌≡◌, refl, ap}
use mathlib.Core.Logic.{◌⊎◌}
use native.Mathlib.Omega.{arith}
use Rattle.laws.specs.Candidate.{Value, plus, Cand, join_of, From, nothing, this}
use Rattle.laws.proofs.Order.{atleast_both}
use Rattle.laws.proofs.Best.{Covers, by, Best, best_one, best_either}
use Rattle.rows.specs.Rows.{Row, better_row, join_row}

pub covers_join : {c d : Cand} {v w : Value} → Covers c v → Covers d w → Covers (join_of c d) (plus v w)
unfolding join_of
covers_join (by p) (by q) = by (atleast_both p q)

-- rows: up to column n, each is the best for its page count
abbrev pub BestRow : (Value → Type 0) → ℕ → Row → Type 0
BestRow P n x = (b : ℕ) → b ≤ n → Best P b (x b)

pub row_either : {P Q : Value → Type 0} (n : ℕ) {x y : Row} → BestRow P n x → BestRow Q n y → BestRow (λ v. P v ⊎ Q v) n (better_row x y)
row_either n p q b l = best_either (p b l) (q b l)

-- a value of P and one of Q, taken together
abbrev pub Plus : (Value → Type 0) → (Value → Type 0) → Value → Type 0
Plus P Q v = (p : Value) × (q : Value) × P p × Q q × (v ≡ plus p q)

-- the one value v, together with one of Q
abbrev pub Shifted : Value → (Value → Type 0) → Value → Type 0
Shifted v Q w = (q : Value) × Q q × (w ≡ plus v q)

from_join : {Q : Value → Type 0} {b : ℕ} {c d : Cand} (v : Value)
    → From (λ w. w ≡ v) b c → From Q (b - v.cost) d → From (Shifted v Q) b (join_of c d)
unfolding join_of
from_join v nothing q = nothing
from_join v (this p k) nothing = nothing
from_join v (this p k) (this {v = q} h l) = rw p (this (q, h, refl) (omega (arith, ap (λ (w : Value). w.cost) p)))

-- column b of v joined with a row is v together with a value of the row's column b - cost
pub from_join_row : {Q : Value → Type 0} (v : Value) (x : Row) (b : ℕ) → From Q (b - v.cost) (x (b - v.cost)) → From (Shifted v Q) b (join_row v x b)
unfolding join_row
from_join_row v x b p = from_join v (best_one v b).is p

pub best_join_row : {Q : Value → Type 0} (v : Value) (x : Row) (b : ℕ) → Best Q (b - v.cost) (x (b - v.cost)) → Best (Shifted v Q) b (join_row v x b)
unfolding join_row
best_join_row v x b p = record {
  is = from_join_row v x b p.is;
  covers = λ w (q, h, e) l.
      let m : v.cost + q.cost ≤ b = rw e at l in
      rw e (covers_join ((best_one v b).covers v refl (omega arith)) (p.covers q h (omega arith)));
}
