-- How large the numbers are that a call of `choose` is told.
use Prim.Native.Nat.{ℕ, ◌≤◌}
use mathlib.Core.List.{List}
use native.Mathlib.Omega.{arith}
use lib.Dec.{ltb}
use Rattle.refusals.specs.Refusals.{row}
use Rattle.refusals.proofs.Placed.{Placed, row_placed, then_placed}
use Rattle.refusals.proofs.Replies.{told_place}
use Rattle.outline.specs.Answer.{size_rows}
use Rattle.outline.specs.Rules.{most_records}
use Rattle.outline.proofs.Placed.{sizes_placed, records_placed}
use Rattle.diversity.specs.Diversity.{cost}
use Rattle.laws.specs.Locks.{locked_set}
use Rattle.choice.specs.Answer.{Call, call, most_count, unknown, too_short, judged, reply}
use Rattle.choice.specs.Inner.{first_rows, last_rows}
use Rattle.choice.proofs.Rows.{rows_judged}

-- the two parts of the rows, in a table whose greatest number is at least 12
module _ (greatest : ℕ) (h : 12 ≤ greatest) where
  pub first_placed : (o : List ℕ) (count way : ℕ) → Placed greatest most_records (first_rows o count way)
  unfolding first_rows
  first_placed o count way =
      let large = ltb most_count count in
      then_placed greatest most_records (row 1 (unknown way)) _ (row_placed greatest most_records 1 (unknown way) (omega arith))
      (λ _. then_placed greatest most_records (size_rows o) _ (sizes_placed greatest (omega arith) o)
      (λ sized. then_placed greatest most_records (row 4 large) _ (row_placed greatest most_records 4 large (omega arith))
      (λ _. records_placed greatest (omega arith) o sized)))

  pub last_placed : (o : List ℕ) (count : ℕ) (marks curve work : List ℕ) → Placed greatest most_records (last_rows o count marks curve work)
  unfolding last_rows
  last_placed o count marks curve work =
      let short = too_short (call o count 0 marks curve work) in
      let dear = ltb count (cost o (locked_set o)) in
      then_placed greatest most_records (row 9 short) _ (row_placed greatest most_records 9 short (omega arith))
      (λ _. row_placed greatest most_records 12 dear (omega arith))

module _ (c : Call) where
  pub judged_placed : Placed 12 most_records (judged c)
  judged_placed =
      rw rows_judged
      (then_placed 12 most_records (first_rows c.outline c.count c.way) _ (first_placed 12 (omega arith) c.outline c.count c.way)
      (λ _. last_placed 12 (omega arith) c.outline c.count c.marks c.curve c.work))

  pub reply_place_most : (reply c).place ≤ most_records
  unfolding reply
  reply_place_most = told_place _ _ _ judged_placed.place_most
