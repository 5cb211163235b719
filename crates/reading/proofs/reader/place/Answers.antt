-- `reading::reader::place` meets its contract: each way out is a row, or none holds.
use Rattle.std.proofs.Common.{sym, ◌∙◌}
use Rattle.lists.specs.Lists.{over}
use Rattle.refusals.proofs.Refusals.{handed_on}
use Rattle.reading.proofs.Answers.{placed_bad, placed_short, placed_refused, placed_read}
use Rattle.reading.proofs.reader.place.Goals as goal

pub returns-then-bad_pairs : goal.returns-then-bad_pairs
returns-then-bad_pairs c = placed_bad _ _ _ (sym c.bad_pairs.ensures ∙ c.if-bad_pairs.true)

pub returns-then-outline-o : goal.returns-then-outline-o
returns-then-outline-o c = placed_short _ _ _ (sym c.bad_pairs.ensures ∙ c.if-bad_pairs.false) c.if-outline-o.true

pub returns-in_err-check_records : goal.returns-in_err-check_records
returns-in_err-check_records c =
    rw (handed_on _ c.from_residual.ensures.1)
    (placed_refused _ _ _ (sym c.bad_pairs.ensures ∙ c.if-bad_pairs.false) c.if-outline-o.false _ c.in_err-check_records.ensures)

pub returns : goal.returns
unfolding over
returns c =
    placed_read _ _ _ (sym c.bad_pairs.ensures ∙ c.if-bad_pairs.false) c.if-outline-o.false c.in_ok-check_records.ensures
    (rw c.copy_from_slice.ensures.after)
