-- How large the numbers are that a call of `sheet` is told.
use Prim.Native.Nat.{◌≤◌}
use native.Mathlib.Omega.{arith}
use lib.Dec.{ltb}
use lib.ListN.{length}
use borrow.Author.Tests.{eq-eqb}
use Rattle.refusals.specs.Refusals.{row, row_at}
use Rattle.refusals.proofs.Placed.{Placed, row_placed, row_at_placed, then_placed}
use Rattle.refusals.proofs.Replies.{told_place}
use Rattle.outline.specs.Outline.{size}
use Rattle.outline.specs.Answer.{checked}
use Rattle.outline.proofs.WellFormed.{accepted_formed}
use Rattle.outline.proofs.Placed.{checked_placed}
use Rattle.choice.specs.Answer.{unknown}
use Rattle.sheet.specs.Answer.{Call, bad_mark, sheet_taken, judged, reply}
use Rattle.outline.specs.Rules.{most_records}

module _ (c : Call) where
  judged_placed : Placed 14 most_records (judged c)
  unfolding judged
  judged_placed =
      let o = c.outline in
      let few = ltb (length c.marks) (size o) in
      then_placed 14 most_records (row 1 (unknown c.way)) _ (row_placed 14 most_records 1 (unknown c.way) (omega arith))
      (λ _. then_placed 14 most_records (checked o) _ (checked_placed 14 (omega arith) o)
      (λ z. then_placed 14 most_records (row 14 few) _ (row_placed 14 most_records 14 few (omega arith))
      (λ _. then_placed 14 most_records (row_at 14 (bad_mark o c.marks) (size o)) _
      (row_at_placed 14 most_records 14 (bad_mark o c.marks) (size o) (omega arith) (accepted_formed o (eq-eqb _ _ z)).size_most)
      (λ _. row_placed 14 most_records 9 (ltb (length c.sheet) (sheet_taken c)) (omega arith)))))

  pub reply_place_most : (reply c).place ≤ most_records
  unfolding reply
  reply_place_most = told_place _ _ _ judged_placed.place_most
