-- How large the numbers of a reply of `write` are.
use Prim.Native.Nat.{◌≤◌}
use native.Mathlib.Omega.{arith}
use borrow.Author.Tests.{eq-eqb}
use Rattle.refusals.specs.Refusals.{row, row_at}
use Rattle.refusals.proofs.Replies.{told_place, told_figures}
use Rattle.refusals.proofs.Placed.{Placed, row_placed, row_at_placed, then_placed}
use Rattle.outline.specs.Outline.{size}
use Rattle.outline.specs.Answer.{checked}
use Rattle.outline.proofs.WellFormed.{accepted_formed}
use Rattle.outline.proofs.Placed.{checked_placed}
use Rattle.writing.specs.Answer.{Call, Figures, too_short, judged, reply}
use Rattle.newick.specs.Trees.{unwritable}
use Rattle.writing.proofs.OwnBytes.{most_written, text_few}
use Rattle.writing.proofs.Priced.{pairs_count}
use Rattle.writing.proofs.Demands.{judged_plain}
use Rattle.outline.specs.Rules.{most_records, most_taxa}

module _ (c : Call) where
  judged_placed : Placed 13 most_records (judged c)
  unfolding judged
  judged_placed =
      let o = c.outline in
      then_placed 13 most_records (checked o) _ (checked_placed 13 (omega arith) o)
      (λ z. then_placed 13 most_records (row_at 13 (unwritable o) (size o)) (row 9 (too_short c))
      (row_at_placed 13 most_records 13 (unwritable o) (size o) (omega arith) (accepted_formed o (eq-eqb _ _ z)).size_most)
      (λ _. row_placed 13 most_records 9 (too_short c) (omega arith)))

  -- the place is a record's, there are at most 10 bytes for each record and 8 more for each taxon, and at most a pair for each taxon
  pub reply_few : ((reply c).place ≤ most_records) × ((reply c).figures.bytes ≤ most_written) × ((reply c).figures.pairs ≤ most_taxa)
  unfolding reply
  reply_few =
      let few =
      told_figures _ _ _ (λ (f : Figures). (f.bytes ≤ most_written) × (f.pairs ≤ most_taxa)) (omega arith, omega arith)
      (λ z.
      let plain = judged_plain c z in
      (text_few plain, omega (arith, pairs_count c.outline plain.formed, plain.formed.taxa_most)))
      in (told_place _ _ _ judged_placed.place_most, few.0, few.1)
