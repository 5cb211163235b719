-- How large the numbers are that a quick choice counts with, and that a call of `quick` is told.
use Prim.Native.Nat.{ℕ, ◌*◌, ◌≤◌}
use mathlib.Core.Bool.{◌&&◌, not}
use mathlib.Core.List.{List}
use native.Mathlib.Omega.{arith}
use lib.Dec.{ltb, leb}
use lib.ListN.{length}
use Rattle.lists.specs.Lists.{total}
use Rattle.lists.proofs.Bools.{if_most}
use Rattle.refusals.specs.Refusals.{row}
use Rattle.refusals.proofs.Placed.{Placed, row_placed, then_placed}
use Rattle.refusals.proofs.Replies.{told_place}
use Rattle.outline.specs.Outline.{size, records, branch, price, is_taxon}
use Rattle.outline.specs.Answer.{size_rows, record_rows}
use Rattle.outline.specs.WellFormed.{WellFormed}
use Rattle.outline.proofs.Placed.{sizes_placed, records_placed}
use Rattle.outline.specs.Rules.{most_records, most_length, most_price}
use Rattle.diversity.specs.Diversity.{chosen, within, rooted, diversity, cost}
use Rattle.diversity.specs.Search.{none_fits}
use Rattle.laws.proofs.Sums.{total_most}
use Rattle.choice.specs.Answer.{most_count}
use Rattle.quick.specs.Quick.{with_taxon, added}
use Rattle.quick.specs.Answer.{Call, most_picks, judged, reply}
use Rattle.quick.specs.Inner.{ceiling_part}

module _ (o : List ℕ) (formed : WellFormed o) where
  pub diversity_bound : (s : List ℕ) → diversity o 0 s ≤ size o * most_length
  unfolding diversity rooted records
  diversity_bound s =
      total_most _ most_length 1 (size o) (λ r l u. omega (arith, if_most (within o s r) (branch o r), (formed.ranged r l (omega arith)).branch_most))

  pub cost_bound : (s : List ℕ) → cost o s ≤ size o * most_price
  unfolding cost records
  cost_bound s = total_most _ most_price 1 (size o) (λ r l u. omega (arith, if_most (within o s r) (price o r), (formed.ranged r l (omega arith)).price_most))

  pub added_bound : (s : List ℕ) (t : ℕ) → added o s t ≤ size o * most_length
  unfolding added
  added_bound s t = omega (arith, diversity_bound (with_taxon s t))

  pub part_most : (b : ℕ) (s : List ℕ) (r : ℕ) → ceiling_part o b s r ≤ most_records * most_length
  part_most b s r =
      omega (arith, if_most (is_taxon o r && (not (chosen s r) && leb (price o r) b)) (added o s r), added_bound s r, formed.size_most)

  pub parts_most : (b : ℕ) (s : List ℕ) → total (ceiling_part o b s) (records o) ≤ most_records * (most_records * most_length)
  unfolding records
  parts_most b s =
      omega (arith, total_most (ceiling_part o b s) (most_records * most_length) 1 (size o) (λ r l u. part_most b s r), formed.size_most)

module _ (c : Call) where
  judged_placed : Placed 15 most_records (judged c)
  unfolding judged
  judged_placed =
      let o = c.outline in
      let large = ltb most_count c.count in
      let many = ltb most_picks c.picks in
      let short = ltb (length c.marks) (size o) in
      then_placed 15 most_records (size_rows o) _ (sizes_placed 15 (omega arith) o)
      (λ sized. then_placed 15 most_records (row 4 large) _ (row_placed 15 most_records 4 large (omega arith))
      (λ _. then_placed 15 most_records (row 15 many) _ (row_placed 15 most_records 15 many (omega arith))
      (λ _. then_placed 15 most_records (record_rows o) _ (records_placed 15 (omega arith) o sized)
      (λ _. then_placed 15 most_records (row 9 short) _ (row_placed 15 most_records 9 short (omega arith))
      (λ _. row_placed 15 most_records 12 (none_fits o 0 c.count) (omega arith))))))

  pub reply_place_most : (reply c).place ≤ most_records
  unfolding reply
  reply_place_most = told_place _ _ _ judged_placed.place_most
