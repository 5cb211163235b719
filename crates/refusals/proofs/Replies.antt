-- What a call's reply says of its ruling, and the mission's first demand of it.
use Rattle.std.specs.Prelude.{if◌then◌else◌, Result, Ok, Err}
use Prim.Native.Nat.{ℕ, ◌≤◌}
use mathlib.Core.Path.{◌≡◌, refl, sym, ap, subst, ◌∙◌}
use mathlib.Core.Bool.{Bool, true, false}
use mathlib.Core.List.{List}
use native.Mathlib.Omega.{arith}
use lib.Dec.{eqb}
use lib.ListN.{length, replicate}
use borrow.Author.Tests.{eq-eqb, ne_eqb, eqb-true}
use Rattle.refusals.specs.Refusals.{Ruling, refusal}
use Rattle.refusals.specs.Reply.{Reply, ruling_of, granted, refused, answer_told, replied}
use Rattle.refusals.specs.Table.{Row, Gives, Decided}
use Rattle.refusals.specs.declared.refusal.Refusal.{Refusal}
use Rattle.refusals.proofs.Refusals.{refusal_numbered, refusal_determined}
use Rattle.refusals.proofs.Tables.{gives_passed}

module _ {Figures : Type 0} (none : Figures) (t : Ruling) (f : Figures) where
  -- where no row holds, the figures are told; else there are none
  pub granted_told : t.number ≡ 0 → replied none t f ≡ granted f
  granted_told z = rw (eq-eqb t.number 0 z)

  -- where the number told is 0, no row holds
  pub told_passed : (replied none t f).number ≡ 0 → t.number ≡ 0
  told_passed z = go (eqb t.number 0) refl z
    where
      go : (b : Bool) → eqb t.number 0 ≡ b → (if b then granted f else refused none t).number ≡ 0 → t.number ≡ 0
      go true e h = eqb-true _ _ e
      go false e h = h

  -- the ruling is told as it is
  pub ruling_told : {rows : List Row} → Gives rows t → ruling_of (replied none t f) ≡ t
  ruling_told g = go (eqb t.number 0) refl
    where
      go : (b : Bool) → eqb t.number 0 ≡ b → ruling_of (if b then granted f else refused none t) ≡ t
      go true e = sym (gives_passed g (eqb-true _ _ e))
      go false e = refl

  -- a place is at most what the ruling's is at most
  pub told_place : {most : ℕ} → t.place ≤ most → (replied none t f).place ≤ most
  told_place {most} h = go (eqb t.number 0)
    where
      go : (b : Bool) → (if b then granted f else refused none t).place ≤ most
      go true = omega arith
      go false = h

  -- what holds of no figures, and of the figures where no row holds, holds of those that are told
  pub told_figures : (P : Figures → Type 0) → P none → (t.number ≡ 0 → P f) → P (replied none t f).figures
  told_figures P nothing something = go (eqb t.number 0) refl
    where
      go : (b : Bool) → eqb t.number 0 ≡ b → P (if b then granted f else refused none t).figures
      go true e = something (eqb-true _ _ e)
      go false e = nothing

  -- demand 1, of a call whose rows are a table's, and whose buffers a refusal leaves as they were
  pub decided : (listed : Figures → List ℕ) {r : Reply Figures} {rows : List Row} {before after : List (List ℕ)}
      → listed none ≡ replicate (length (listed none)) 0 → Gives rows t → r ≡ replied none t f → (1 ≤ t.number → after ≡ before)
      → Decided rows (ruling_of r) (listed r.figures) before after
  decided listed {r} zeros g e unchanged =
      let is : ruling_of r ≡ t = ap ruling_of e ∙ ruling_told g in
      let number : r.number ≡ t.number = ap (λ (u : Ruling). u.number) is in
      record {
        given = rw is g;
        others_zero = λ h. rw (e, ne_eqb t.number 0 (λ z. omega arith)) zeros;
        unchanged = λ h. unchanged (omega arith);
      }

-- what is told determines an answer: a refusal is told apart from what is granted, and from every other
module _ {Figures : Type 0} (none : Figures) where
  pub granted_apart : (f : Figures) (e : Refusal) → granted f ≡ refused none (refusal e) → ⊥
  granted_apart f e h =
      let z : 0 ≡ (refusal e).number = ap (λ (r : Reply Figures). r.number) h in
      omega (arith, refusal_numbered e)

  pub answer_determined : (a b : Result Figures Refusal) → answer_told none a ≡ answer_told none b → a ≡ b
  answer_determined (Ok f) (Ok g) h = ap Ok (ap (λ (r : Reply Figures). r.figures) h)
  answer_determined (Ok f) (Err e) h = absurd (granted_apart f e h)
  answer_determined (Err d) (Ok g) h = absurd (granted_apart g d (sym h))
  answer_determined (Err d) (Err e) h = ap Err (refusal_determined d e (ap ruling_of h))

-- a reply has the place of the reply that it is
pub placed_by : {Figures : Type 0} {r s : Reply Figures} {most : ℕ} → r ≡ s → s.place ≤ most → r.place ≤ most
placed_by {most = most} e h = subst (λ (t : Reply _). t.place ≤ most) (sym e) h
