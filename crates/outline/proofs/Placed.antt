-- How large the two numbers of the check are: the number is at most 8, and the place at most the number of the last record that an outline may
-- have.
use Prim.Native.Nat.{ℕ, ◌%◌, ◌≤◌}
use mathlib.Core.Path.{◌≡◌}
use mathlib.Core.Bool.{◌||◌, not}
use mathlib.Core.List.{List}
use native.Mathlib.Omega.{arith}
use lib.ListN.{length}
use lib.Dec.{eqb, ltb}
use Rattle.refusals.specs.Refusals.{row}
use Rattle.refusals.proofs.Placed.{Placed, row_placed, row_at_placed, then_placed}
use Rattle.outline.specs.Outline.{size}
use Rattle.outline.specs.Answer.{size_rows, record_rows, checked}
use Rattle.outline.proofs.WellFormed.{sizes_formed}
use Rattle.outline.specs.Rules.{bad_field, bad_link, taxa, is_duplicate, most_records, most_taxa}

module _ (greatest : ℕ) (enough : 8 ≤ greatest) (o : List ℕ) where
  pub sizes_placed : Placed greatest most_records (size_rows o)
  unfolding size_rows
  sizes_placed =
      let partial = eqb (length o) 0 || not (eqb (length o % 16) 0) in
      let many = ltb most_records (size o) in
      then_placed greatest most_records (row 2 partial) (row 3 many) (row_placed greatest most_records 2 partial (omega (arith, enough))) (λ _. row_placed greatest most_records 3 many (omega (arith, enough)))

  pub records_placed : (size_rows o).number ≡ 0 → Placed greatest most_records (record_rows o)
  unfolding size_rows record_rows
  records_placed z =
      let (_, _, few) = sizes_formed o z in
      let many = ltb most_taxa (taxa o) in
      then_placed greatest most_records _ _ (row_at_placed greatest most_records 5 (bad_field o) (size o) (omega (arith, enough)) few)
      (λ _. then_placed greatest most_records _ _ (row_at_placed greatest most_records 6 (bad_link o) (size o) (omega (arith, enough)) few)
      (λ _. then_placed greatest most_records (row 7 many) _ (row_placed greatest most_records 7 many (omega (arith, enough))) (λ _. row_at_placed greatest most_records 8 (is_duplicate o) (size o) (omega (arith, enough)) few)))

  pub checked_placed : Placed greatest most_records (checked o)
  unfolding checked
  checked_placed = then_placed greatest most_records _ _ sizes_placed records_placed
