-- Tests and the conditions that they decide.
use Prim.Native.Nat.{ℕ, ◌<◌}
use mathlib.Core.Path.{◌≡◌, refl}
use mathlib.Core.Logic.Iff
use mathlib.Core.Logic.{◌⊎◌, inl, inr, ⊎_elim, ◌↔◌}
use mathlib.Core.Bool.{Bool, true, false, ◌||◌, ◌&&◌, not, false≢true}
use lib.Dec.{eqb, ltb}
use borrow.Author.Tests.{eqb-true, eq-eqb, ltb-true, lt-ltb}

-- a test succeeds exactly if the condition holds
abbrev pub Decides : Type 0 → Bool → Type 0
Decides C b = b ≡ true ↔ C

pub decides_less : (a b : ℕ) → Decides (a < b) (ltb a b)
decides_less a b = (ltb-true a b, lt-ltb a b)

pub decides_equal : (a b : ℕ) → Decides (a ≡ b) (eqb a b)
decides_equal a b = (eqb-true a b, eq-eqb a b)

not_holds : (b : Bool) → Decides (¬ (b ≡ true)) (not b)
not_holds true = (λ e. absurd (false≢true e), λ n. absurd (n refl))
not_holds false = (λ e f. false≢true f, λ n. refl)

pub decides_not : {C : Type 0} {b : Bool} → Decides C b → Decides (¬ C) (not b)
decides_not d = Iff.trans (not_holds _) (Iff.not d)

pub decides_both : {A B : Type 0} {a b : Bool} → Decides A a → Decides B b → Decides (A × B) (a && b)
decides_both {a = true} d e = (λ h. (d.0 refl, e.0 h), λ (x, y). e.1 y)
decides_both {a = false} d e = (λ h. absurd (false≢true h), λ (x, y). d.1 x)

pub decides_either : {A B : Type 0} {a b : Bool} → Decides A a → Decides B b → Decides (A ⊎ B) (a || b)
decides_either {a = true} d e = (λ _. inl (d.0 refl), λ _. refl)
decides_either {A = A} {B = B} {a = false} d e =
    (λ h. inr (e.0 h), λ h. ⊎_elim (λ (x : A). absurd (false≢true (d.1 x))) (λ (y : B). e.1 y) h)
