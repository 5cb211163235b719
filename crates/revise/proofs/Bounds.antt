-- How large the numbers are that a call of `revise` is told.
use Prim.Native.Nat.{◌≤◌}
use native.Mathlib.Omega.{arith}
use Rattle.refusals.specs.Refusals.{row}
use Rattle.refusals.proofs.Placed.{Placed, row_placed, then_placed}
use Rattle.refusals.proofs.Replies.{told_place}
use Rattle.outline.specs.Rules.{most_records}
use Rattle.choice.specs.Inner.{first_rows}
use Rattle.choice.proofs.Bounds.{first_placed, last_placed}
use Rattle.revise.specs.Answer.{Call, bad_revision, judged, reply}
use Rattle.revise.proofs.Answers.{rows_judged}

module _ (c : Call) where
  judged_placed : Placed 16 most_records (judged c)
  judged_placed =
      let bad = bad_revision c.outline c.changed c.to in
      rw rows_judged
      (then_placed 16 most_records (first_rows c.outline c.count c.way) _ (first_placed 16 (omega arith) c.outline c.count c.way)
      (λ _. then_placed 16 most_records (row 16 bad) _ (row_placed 16 most_records 16 bad (omega arith))
      (λ _. last_placed 16 (omega arith) c.outline c.count c.marks c.curve c.work)))

  pub reply_place_most : (reply c).place ≤ most_records
  unfolding reply
  reply_place_most = told_place _ _ _ judged_placed.place_most
