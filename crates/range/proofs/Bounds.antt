-- How large the numbers are that a call of `range` is told.
use Prim.Native.Nat.{ℕ, ◌≤◌}
use mathlib.Core.Path.{◌≡◌}
use mathlib.Core.Bool.{not}
use native.Mathlib.Omega.{arith}
use lib.Dec.{eqb, ltb}
use borrow.Author.Tests.{eq-eqb}
use Rattle.refusals.specs.Refusals.{row}
use Rattle.refusals.proofs.Placed.{Placed, row_placed, row_at_placed, then_placed}
use Rattle.refusals.proofs.Replies.{told_place}
use Rattle.outline.specs.Outline.{size}
use Rattle.outline.specs.Answer.{checked}
use Rattle.outline.specs.Rules.{most_records}
use Rattle.outline.proofs.Placed.{checked_placed}
use Rattle.outline.proofs.WellFormed.{accepted_formed}
use Rattle.choice.specs.Answer.{most_count, unknown}
use Rattle.choice.proofs.Bounds.{last_placed}
use Rattle.range.specs.Answer.{Call, bad_range, price_rows, judged, reply}
use Rattle.range.specs.Prices.{NoDearer}
use Rattle.range.proofs.Answers.{prices_pass, rows_judged}

module _ (c : Call) where
  range_placed : (checked c.low).number ≡ 0 → Placed 17 most_records (price_rows c.low c.high)
  unfolding price_rows
  range_placed z =
      let other = not (eqb (size c.high) (size c.low)) in
      let few = (accepted_formed c.low (eq-eqb _ _ z)).size_most in
      then_placed 17 most_records (row 17 other) _ (row_placed 17 most_records 17 other (omega arith))
      (λ _. row_at_placed 17 most_records 17 (bad_range c.low c.high) (size c.low) (omega arith) few)

  -- the number is at most 12, but for row 17
  module _ (greatest : ℕ) (h : 12 ≤ greatest)
      (prices : (checked c.low).number ≡ 0 → Placed greatest most_records (price_rows c.low c.high)) where
    all_placed : Placed greatest most_records (judged c)
    all_placed =
        let large = ltb most_count c.count in
        rw rows_judged
        (then_placed greatest most_records (row 1 (unknown c.way)) _ (row_placed greatest most_records 1 (unknown c.way) (omega arith))
        (λ _. then_placed greatest most_records (checked c.low) _ (checked_placed greatest (omega arith) c.low)
        (λ low. then_placed greatest most_records (checked c.high) _ (checked_placed greatest (omega arith) c.high)
        (λ _. then_placed greatest most_records (price_rows c.low c.high) _ (prices low)
        (λ _. then_placed greatest most_records (row 4 large) _ (row_placed greatest most_records 4 large (omega arith))
        (λ _. last_placed greatest h c.high c.count c.marks c.curve c.work))))))

  judged_placed : Placed 17 most_records (judged c)
  judged_placed = all_placed 17 (omega arith) range_placed

  -- so it is at most 12 where the outlines differ in prices only, with no low price above its high
  pub judged_most_12 : NoDearer c.low c.high → (judged c).number ≤ 12
  judged_most_12 d = (all_placed 12 (omega arith) apart).number_most
    where
      apart : (checked c.low).number ≡ 0 → Placed 12 most_records (price_rows c.low c.high)
      apart low = record { number_most = omega (arith, prices_pass c.low c.high d); place_most = (range_placed low).place_most }

  pub reply_place_most : (reply c).place ≤ most_records
  unfolding reply
  reply_place_most = told_place _ _ _ judged_placed.place_most
