-- The best candidate among the values with a property P that fit page count b.
use Rattle.std.specs.Prelude.{if◌then◌else◌}
use Prim.Native.Nat.{ℕ, ◌≤◌}
use mathlib.Core.Path.{◌≡◌, refl, ap}
use mathlib.Core.Logic.{◌⊎◌, inl, inr, ⊎_elim}
use mathlib.Core.Bool.{Bool, true, false}
use native.Mathlib.Omega.{arith}
use lib.Dec.{leb}
use borrow.Author.Tests.{leb-true, leb-false}
use Rattle.laws.specs.Candidate.{Value, nothing_worth, beats, Cand, none, some, better_of, one_at, nothing, this, From}
use Rattle.laws.proofs.Order.{AtLeast, atleast_trans, atleast_antisym, Decided, beats_decides}

-- the candidate is there, and is w or better
pub data Covers : Cand → Value → Type 0 where
  by : {v w : Value} → AtLeast v w → Covers (some v) w

-- the best of the values of P that fit b, none where none fits
pub record Best (P : Value → Type 0) (b : ℕ) (c : Cand) : Type 0 where
  pub is : From P b c
  pub covers : (w : Value) → P w → w.cost ≤ b → Covers c w

pub covers_none : {w : Value} → Covers none w → ⊥
covers_none p = elim p [ ]

pub covers_some : {v w : Value} → Covers (some v) w → AtLeast v w
covers_some (by p) = p

pub from_some : {P : Value → Type 0} {b : ℕ} {v : Value} → From P b (some v) → P v × (v.cost ≤ b)
from_some (this p l) = (p, l)

-- there is one best
pub best_unique : {P : Value → Type 0} {b : ℕ} {c d : Cand} → Best P b c → Best P b d → c ≡ d
best_unique {P} {b} p q = go p.is p.covers q.is q.covers
  where
    go : {c d : Cand} → From P b c → ((w : Value) → P w → w.cost ≤ b → Covers c w)
        → From P b d → ((w : Value) → P w → w.cost ≤ b → Covers d w) → c ≡ d
    go nothing f nothing g = refl
    go nothing f (this {v = w} q l) g = absurd (covers_none (f w q l))
    go (this {v} p k) f nothing g = absurd (covers_none (g v p k))
    go (this {v} p k) f (this {v = w} q l) g = ap some (atleast_antisym (covers_some (f w q l)) (covers_some (g v p k)))

-- the better of two
pub from_better : {P : Value → Type 0} {b : ℕ} {c d : Cand} → From P b c → From P b d → From P b (better_of c d)
unfolding better_of
from_better nothing q = q
from_better (this p k) nothing = this p k
from_better {P} {b} (this {v} p k) (this {v = w} q l) = go (beats w v)
  where
    go : (t : Bool) → From P b (if t then some w else some v)
    go true = this q l
    go false = this p k

pub covers_better_left : {c : Cand} (d : Cand) {w : Value} → Covers c w → Covers (better_of c d) w
unfolding better_of
covers_better_left none (by p) = by p
covers_better_left (some x) (by {v} {w} p) = go (beats x v) (beats_decides x v)
  where
    go : (t : Bool) → Decided x v t → Covers (if t then some x else some v) w
    go true d = by (atleast_trans (inr d) p)
    go false d = by p

pub covers_better_right : (c : Cand) {d : Cand} {w : Value} → Covers d w → Covers (better_of c d) w
unfolding better_of
covers_better_right none p = p
covers_better_right (some v) (by {v = x} {w} p) = go (beats x v) (beats_decides x v)
  where
    go : (t : Bool) → Decided x v t → Covers (if t then some x else some v) w
    go true d = by p
    go false d = by (atleast_trans d p)

-- the same property in other words
pub from_same : {P Q : Value → Type 0} {b : ℕ} {c : Cand} → ((v : Value) → P v → Q v) → From P b c → From Q b c
from_same f nothing = nothing
from_same f (this {v} p l) = this (f v p) l

pub best_same : {P Q : Value → Type 0} {b : ℕ} {c : Cand} → ((v : Value) → P v → Q v) → ((v : Value) → Q v → P v) → Best P b c → Best Q b c
best_same f g p = record { is = from_same f p.is; covers = λ w q. p.covers w (g w q) }

-- no value, the empty set, one value, and one of two properties
pub best_none : {P : Value → Type 0} {b : ℕ} → ((v : Value) → P v → ⊥) → Best P b none
best_none f = record { is = nothing; covers = λ w p l. absurd (f w p) }

pub best_nothing : (b : ℕ) → Best (λ w. w ≡ nothing_worth) b (some nothing_worth)
best_nothing b = record { is = this refl (omega arith); covers = λ w p l. by (inl p) }

pub best_one : (v : Value) (b : ℕ) → Best (λ w. w ≡ v) b (one_at v b)
unfolding one_at
best_one v b = go (leb v.cost b) refl
  where
    go : (t : Bool) → leb v.cost b ≡ t → Best (λ w. w ≡ v) b (if t then some v else none)
    go true e = record { is = this refl (leb-true _ _ e); covers = λ w p l. by (inl p) }
    go false e = record {
      is = nothing;
      covers = λ w p l.
          let m : v.cost ≤ b = rw p at l in
          let no : ⊥ = omega (arith, leb-false) in
          absurd no;
    }

pub best_either : {P Q : Value → Type 0} {b : ℕ} {c d : Cand} → Best P b c → Best Q b d → Best (λ v. P v ⊎ Q v) b (better_of c d)
best_either {c = c} {d} p q = record {
  is = from_better (from_same (λ v. inl) p.is) (from_same (λ v. inr) q.is);
  covers = λ w. ⊎_elim (λ h l. covers_better_left d (p.covers w h l)) (λ h l. covers_better_right c (q.covers w h l));
}
