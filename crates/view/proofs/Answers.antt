-- What a call keeps that no row of the table refuses, and the two ways to answer it.
use Prim.Native.Nat.{ℕ, ◌≤◌}
use mathlib.Core.Path.{◌≡◌, ◌∙◌}
use mathlib.Core.Bool.{false}
use mathlib.Core.List.{List}
use native.Mathlib.Omega.{arith}
use lib.Dec.{eqb, ltb}
use lib.ListN.{length}
use borrow.Author.Tests.{ltb-false, eq-eqb}
use Rattle.lists.specs.Lists.{over}
use Rattle.refusals.specs.Refusals.{passed, refusal, row}
use Rattle.refusals.specs.declared.refusal.Refusal.{Refusal}
use Rattle.refusals.proofs.Refusals.{both_pass, row_fails, refusal_not_zero}
use Rattle.outline.specs.WellFormed.{WellFormed}
use Rattle.outline.specs.Answer.{checked}
use Rattle.outline.proofs.WellFormed.{accepted_formed}
use Rattle.view.specs.Answer.{Call, view_taken, judged, view_after, Answered}
use Rattle.view.specs.Demands.{ViewSuffices}

module _ (c : Call) where
  -- no row of the table holds
  module _ (z : (judged c).number ≡ 0) where
    rows_pass : ((checked c.outline).number ≡ 0) × ((row 9 (ltb (length c.view) (view_taken c))).number ≡ 0)
    unfolding judged
    rows_pass = both_pass _ _ z

    pub outline_accepted : (checked c.outline).number ≡ 0
    outline_accepted = rows_pass.0

    pub outline_formed : WellFormed c.outline
    outline_formed = accepted_formed c.outline (eq-eqb _ _ outline_accepted)

    pub view_suffices : ViewSuffices c
    view_suffices = ltb-false _ _ (row_fails _ _ rows_pass.1)

    pub outline_fits : length c.outline ≤ length c.view
    outline_fits = omega (arith, view_suffices, outline_formed.whole)

  module _ (shown : List ℕ → List ℕ) where
    -- a view is written
    pub shown_answered : {view : List ℕ} → passed ≡ judged c → view ≡ over (shown c.outline) c.view → Answered shown c passed view
    unfolding view_after
    shown_answered h w = record { told_judged = h; view_written = w ∙ rw (← h) }

    -- a refusal
    pub refused_answered : (e : Refusal) → refusal e ≡ judged c → Answered shown c (refusal e) c.view
    unfolding view_after
    refused_answered e h =
        let number : eqb (judged c).number 0 ≡ false = rw (← h) (refusal_not_zero e) in
        record { told_judged = h; view_written = rw number }
