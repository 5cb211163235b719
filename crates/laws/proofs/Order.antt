-- The order of values: total, transitive, antisymmetric, kept by sums; and the better of two candidates, in whatever order they come.
use Rattle.std.specs.Prelude.{if◌then◌else◌}
use Prim.Native.Nat.{◌<◌}
use mathlib.Core.Path.{◌≡◌, refl, sym, ap, subst, ◌∙◌}
use mathlib.Core.Logic.{◌⊎◌, inl, inr, ◌≢◌}
use mathlib.Core.Bool.{Bool, true, false, ◌||◌, ◌&&◌}
use native.Mathlib.Omega.{arith}
use native.Mathlib.Nat.{eq-or-lt_of_le}
use lib.Dec.{eqb, ltb}
use borrow.Author.Tests.{ltb-true, ltb-false, eqb-true, eqb-false}
use Rattle.laws.specs.Candidate.{Value, plus, nothing_worth, beats, Cand, none, some, better_of}

-- v is better than w
pub data Beats (v w : Value) : Type 0 where
  more_locked : w.locked < v.locked → Beats v w
  more : v.locked ≡ w.locked → w.diversity < v.diversity → Beats v w
  cheaper : v.locked ≡ w.locked → v.diversity ≡ w.diversity → v.cost < w.cost → Beats v w
  earlier : v.locked ≡ w.locked → v.diversity ≡ w.diversity → v.cost ≡ w.cost → w.code < v.code → Beats v w

-- v is w or better
abbrev pub AtLeast : Value → Value → Type 0
AtLeast v w = (w ≡ v) ⊎ Beats v w

pub value_path : {v w : Value} → v.locked ≡ w.locked → v.diversity ≡ w.diversity → v.cost ≡ w.cost → v.code ≡ w.code → v ≡ w
value_path k p q r = λ i. record { locked = k i; diversity = p i; cost = q i; code = r i }

pub beats_trans : {u v w : Value} → Beats u v → Beats v w → Beats u w
beats_trans (more_locked p) (more_locked q) = more_locked (omega arith)
beats_trans (more_locked p) (more l q) = more_locked (omega arith)
beats_trans (more_locked p) (cheaper l d q) = more_locked (omega arith)
beats_trans (more_locked p) (earlier l d c q) = more_locked (omega arith)
beats_trans (more k p) (more_locked q) = more_locked (omega arith)
beats_trans (more k p) (more l q) = more (omega arith) (omega arith)
beats_trans (more k p) (cheaper l d q) = more (omega arith) (omega arith)
beats_trans (more k p) (earlier l d c q) = more (omega arith) (omega arith)
beats_trans (cheaper k e p) (more_locked q) = more_locked (omega arith)
beats_trans (cheaper k e p) (more l q) = more (omega arith) (omega arith)
beats_trans (cheaper k e p) (cheaper l d q) = cheaper (omega arith) (omega arith) (omega arith)
beats_trans (cheaper k e p) (earlier l d c q) = cheaper (omega arith) (omega arith) (omega arith)
beats_trans (earlier k e f p) (more_locked q) = more_locked (omega arith)
beats_trans (earlier k e f p) (more l q) = more (omega arith) (omega arith)
beats_trans (earlier k e f p) (cheaper l d q) = cheaper (omega arith) (omega arith) (omega arith)
beats_trans (earlier k e f p) (earlier l d c q) = earlier (omega arith) (omega arith) (omega arith) (omega arith)

pub beats_not_self : {v : Value} → Beats v v → ⊥
beats_not_self (more_locked p) = omega arith
beats_not_self (more k p) = omega arith
beats_not_self (cheaper k d p) = omega arith
beats_not_self (earlier k d c p) = omega arith

pub beats_plus : {v w : Value} (u : Value) → Beats v w → Beats (plus v u) (plus w u)
beats_plus u (more_locked p) = more_locked (omega arith)
beats_plus u (more k p) = more (omega arith) (omega arith)
beats_plus u (cheaper k d p) = cheaper (omega arith) (omega arith) (omega arith)
beats_plus u (earlier k d c p) = earlier (omega arith) (omega arith) (omega arith) (omega arith)

pub atleast_trans : {u v w : Value} → AtLeast u v → AtLeast v w → AtLeast u w
atleast_trans (inl p) (inl q) = inl (q ∙ p)
atleast_trans {w = w} (inl p) (inr q) = inr (subst (λ (x : Value). Beats x w) p q)
atleast_trans {u} (inr p) (inl q) = inr (subst (λ (x : Value). Beats u x) (sym q) p)
atleast_trans (inr p) (inr q) = inr (beats_trans p q)

pub atleast_antisym : {v w : Value} → AtLeast v w → AtLeast w v → v ≡ w
atleast_antisym (inl p) q = sym p
atleast_antisym (inr p) (inl q) = q
atleast_antisym (inr p) (inr q) = absurd (beats_not_self (beats_trans p q))

pub atleast_plus : {v w : Value} (u : Value) → AtLeast v w → AtLeast (plus v u) (plus w u)
atleast_plus u (inl p) = inl (ap (λ (x : Value). plus x u) p)
atleast_plus u (inr p) = inr (beats_plus u p)

pub plus_assoc : (u v w : Value) → plus (plus u v) w ≡ plus u (plus v w)
plus_assoc u v w = value_path (omega arith) (omega arith) (omega arith) (omega arith)

pub plus_comm : (v w : Value) → plus v w ≡ plus w v
plus_comm v w = value_path (omega arith) (omega arith) (omega arith) (omega arith)

pub nothing_plus : (v : Value) → plus nothing_worth v ≡ v
nothing_plus v = value_path (omega arith) (omega arith) (omega arith) (omega arith)

pub plus_nothing : (v : Value) → plus v nothing_worth ≡ v
plus_nothing v = plus_comm v nothing_worth ∙ nothing_plus v

pub atleast_both : {v w x y : Value} → AtLeast v w → AtLeast x y → AtLeast (plus v x) (plus w y)
atleast_both {v} {w} {x} {y} p q = atleast_trans (atleast_plus x p) (rw (plus_comm w x, plus_comm w y) (atleast_plus w q))

-- what the test says of the order
abbrev pub Decided : Value → Value → Bool → Type 0
Decided v w true = Beats v w
Decided v w false = AtLeast w v

pub beats_decides : (v w : Value) → Decided v w (beats v w)
unfolding beats
beats_decides v w = go _ _ _ _ _ _ _ refl refl refl refl refl refl refl
  where
    last : v.locked ≡ w.locked → v.diversity ≡ w.diversity → v.cost ≡ w.cost → (v.code ≡ w.code) ⊎ (v.code < w.code) → AtLeast w v
    last k d c (inl e) = inl (value_path k d c e)
    last k d c (inr l) = inr (earlier (omega arith) (omega arith) (omega arith) l)

    go : (x y a b c d e : Bool) → ltb w.locked v.locked ≡ x → eqb v.locked w.locked ≡ y
        → ltb w.diversity v.diversity ≡ a → eqb v.diversity w.diversity ≡ b
        → ltb v.cost w.cost ≡ c → eqb v.cost w.cost ≡ d → ltb w.code v.code ≡ e
        → Decided v w (x || (y && (a || (b && (c || (d && e))))))
    go true y a b c d e f g p q r s t = more_locked (ltb-true _ _ f)
    go false true true b c d e f g p q r s t = more (eqb-true _ _ g) (ltb-true _ _ p)
    go false true false true true d e f g p q r s t = cheaper (eqb-true _ _ g) (eqb-true _ _ q) (ltb-true _ _ r)
    go false true false true false true true f g p q r s t = earlier (eqb-true _ _ g) (eqb-true _ _ q) (eqb-true _ _ s) (ltb-true _ _ t)
    go false true false true false true false f g p q r s t =
        last (eqb-true _ _ g) (eqb-true _ _ q) (eqb-true _ _ s) (eq-or-lt_of_le (ltb-false _ _ t))
    go false true false true false false e f g p q r s t =
        let ne : v.cost ≢ w.cost = eqb-false _ _ s in
        inr (cheaper (omega (arith, eqb-true)) (omega (arith, eqb-true)) (omega (arith, ltb-false)))
    go false true false false c d e f g p q r s t =
        let ne : v.diversity ≢ w.diversity = eqb-false _ _ q in
        inr (more (omega (arith, eqb-true)) (omega (arith, ltb-false)))
    go false false a b c d e f g p q r s t =
        let ne : v.locked ≢ w.locked = eqb-false _ _ g in
        inr (more_locked (omega (arith, ltb-false)))

pub beats_is : {v w : Value} → beats v w ≡ true → Beats v w
beats_is {v} {w} e = subst (Decided v w) e (beats_decides v w)

pub beats_true : {v w : Value} → Beats v w → beats v w ≡ true
beats_true {v} {w} p = go (beats v w) (beats_decides v w)
  where
    go : (t : Bool) → Decided v w t → t ≡ true
    go true q = refl
    go false (inl q) = absurd (beats_not_self (subst (λ (x : Value). Beats x w) q p))
    go false (inr q) = absurd (beats_not_self (beats_trans p q))

pub beats_false : {v w : Value} → AtLeast v w → beats w v ≡ false
beats_false {v} {w} p = go (beats w v) (beats_decides w v) p
  where
    go : (t : Bool) → Decided w v t → AtLeast v w → t ≡ false
    go true q (inl e) = absurd (beats_not_self (subst (λ (x : Value). Beats x v) e q))
    go true q (inr r) = absurd (beats_not_self (beats_trans q r))
    go false q r = refl

-- the same added to both changes nothing
pub beats_same_plus : (u v w : Value) → beats (plus u v) (plus u w) ≡ beats v w
beats_same_plus u v w = rw (plus_comm u v, plus_comm u w) (go (beats v w) (beats_decides v w))
  where
    go : (t : Bool) → Decided v w t → beats (plus v u) (plus w u) ≡ t
    go true p = beats_true (beats_plus u p)
    go false p = beats_false (atleast_plus u p)

pub better_none : (c : Cand) → better_of c none ≡ c
unfolding better_of
better_none none = refl
better_none (some v) = refl

pub better_comm : (c d : Cand) → better_of c d ≡ better_of d c
unfolding better_of
better_comm none none = refl
better_comm none (some w) = refl
better_comm (some v) none = refl
better_comm (some v) (some w) = go (beats w v) (beats v w) (beats_decides w v) (beats_decides v w)
  where
    go : (a b : Bool) → Decided w v a → Decided v w b → (if a then some w else some v) ≡ (if b then some v else some w)
    go true true p q = absurd (beats_not_self (beats_trans p q))
    go true false p q = refl
    go false true p q = refl
    go false false p q = ap some (atleast_antisym p q)

pub better_assoc : (c d e : Cand) → better_of (better_of c d) e ≡ better_of c (better_of d e)
unfolding better_of
better_assoc none d e = refl
better_assoc (some u) none e = refl
better_assoc (some u) (some v) none = better_none _
better_assoc (some u) (some v) (some w) = go (beats v u) (beats w v) (beats_decides v u) (beats_decides w v)
  where
    go : (a b : Bool) → Decided v u a → Decided w v b → better_of (if a then some v else some u) (some w) ≡ better_of (some u) (if b then some w else some v)
    go true true p q = rw (beats_true q, beats_true (beats_trans q p))
    go true false p q = rw (beats_false q, beats_true p)
    go false true p q = refl
    go false false p q = rw (beats_false (atleast_trans p q), beats_false p)

pub better_same : (c : Cand) → better_of c c ≡ c
unfolding better_of
better_same none = refl
better_same (some v) = go (beats v v)
  where
    go : (t : Bool) → (if t then some v else some v) ≡ some v
    go true = refl
    go false = refl
