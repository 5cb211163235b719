-- How large the numbers of a reply are: the place and N are at most the number of the last record that an outline may have.
use Prim.Native.Nat.{ℕ, ◌*◌, ◌%◌, ◌≤◌}
use mathlib.Core.Path.{◌≡◌, ap}
use mathlib.Core.Bool.{true}
use mathlib.Core.List.{List}
use native.Mathlib.Omega.{arith}
use lib.Dec.{ltb}
use lib.ListN.{length}
use borrow.Author.Tests.{eq-eqb, ne_eqb, le-ltb, ltb-false}
use Rattle.refusals.specs.Refusals.{Ruling, passed, row}
use Rattle.refusals.proofs.Placed.{Placed, row_placed, then_placed}
use Rattle.refusals.proofs.Refusals.{both_pass, row_fails}
use Rattle.refusals.proofs.Replies.{told_place, told_figures}
use Rattle.outline.specs.Answer.{size_rows}
use Rattle.outline.proofs.Placed.{records_placed}
use Rattle.newick.specs.Grammar.{part, Tree}
use Rattle.newick.specs.Layout.{count, plates, layout}
use Rattle.newick.specs.Pairs.{price_in, bad_pairs}
use Rattle.newick.specs.Parsing.{Parsed, unread, tree, parsed}
use Rattle.reading.specs.Answer.{Call, Figures, rows_for, judged, count_of, reply}
use Rattle.reading.proofs.Answers.{layout_length, layout_size}
use Rattle.newick.proofs.Layouts.{count_some}
use Rattle.outline.specs.Rules.{most_records}

-- an outline of few records passes rows 2 and 3
pub layout_sized : (price : ℕ → ℕ) (t : Tree part) → count t ≤ most_records → size_rows (layout price t) ≡ passed
unfolding size_rows
layout_sized price t few =
    let o = layout price t in
    let long = layout_length price t in
    let some = count_some t in
    rw (
      ne_eqb (length o) 0 (λ e. omega arith),
      eq-eqb (length o % 16) 0 (omega arith),
      layout_size price t,
      le-ltb most_records (count t) few,
    )

rows_placed : (p : Parsed) (pairs : List ℕ) (room : ℕ) → Placed 11 most_records (rows_for p pairs room)
unfolding rows_for
rows_placed unread pairs room = row_placed 11 most_records 10 true (omega arith)
rows_placed (tree t) pairs room =
    let many = ltb most_records (count t) in
    let bad = bad_pairs (plates t) pairs in
    let short = ltb room (16 * count t) in
    then_placed 11 most_records (row 3 many) _ (row_placed 11 most_records 3 many (omega arith))
    (λ z. then_placed 11 most_records (row 11 bad) _ (row_placed 11 most_records 11 bad (omega arith))
    (λ _. then_placed 11 most_records (row 9 short) _ (row_placed 11 most_records 9 short (omega arith))
    (λ _.
    records_placed 11 (omega arith) (layout (price_in pairs) t)
    (ap (λ (u : Ruling). u.number) (layout_sized (price_in pairs) t (ltb-false most_records (count t) (row_fails 2 many z)))))))

-- where no row holds, N is that of a tree of few records
count_few : (p : Parsed) (pairs : List ℕ) (room : ℕ) → (rows_for p pairs room).number ≡ 0 → count_of p ≤ most_records
unfolding rows_for
count_few unread pairs room z = omega arith
count_few (tree t) pairs room z =
    ltb-false most_records (count t) (row_fails 2 _ (both_pass (row 3 (ltb most_records (count t))) _ z).0)

module _ (c : Call) where
  pub reply_place_most : (reply c).place ≤ most_records
  unfolding reply judged
  reply_place_most = told_place _ _ _ (rows_placed (parsed c.text) c.pairs (length c.outline)).place_most

  pub reply_records_most : (reply c).figures.records ≤ most_records
  unfolding reply judged
  reply_records_most = told_figures _ _ _ (λ (f : Figures). f.records ≤ most_records) (omega arith) (count_few (parsed c.text) c.pairs (length c.outline))
