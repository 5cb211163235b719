-- How large the place is that a call of a view is told.
use Prim.Native.Nat.{ℕ, ◌≤◌}
use mathlib.Core.List.{List}
use native.Mathlib.Omega.{arith}
use lib.Dec.{ltb}
use lib.ListN.{length}
use Rattle.refusals.specs.Refusals.{Ruling}
use Rattle.refusals.proofs.Placed.{Placed, row_placed, then_placed}
use Rattle.outline.specs.Answer.{checked}
use Rattle.outline.proofs.Placed.{checked_placed}
use Rattle.view.specs.Answer.{Call, view_taken, judged, Answered}
use Rattle.outline.specs.Rules.{most_records}

module _ (c : Call) (shown : List ℕ → List ℕ) where
  pub place_most : {t : Ruling} {view : List ℕ} → Answered shown c t view → t.place ≤ most_records
  unfolding judged
  place_most x =
      let short = ltb (length c.view) (view_taken c) in
      let placed : Placed 9 most_records (judged c) =
      then_placed 9 most_records (checked c.outline) _ (checked_placed 9 (omega arith) c.outline) (λ _. row_placed 9 most_records 9 short (omega arith)) in
      rw x.told_judged placed.place_most
