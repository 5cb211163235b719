-- `outline::checker::check` meets its contract: the rows on the size come first.
use Rattle.std.proofs.Common.{sym, ap}
use Rattle.refusals.specs.Refusals.{Ruling}
use Rattle.refusals.proofs.Refusals.{refusal_not_zero, handed_on}
use Rattle.outline.specs.Answer.{checked}
use Rattle.outline.proofs.WellFormed.{sizes_formed}
use Rattle.outline.proofs.checker.check.Goals as goal

-- the rows on the size passed
pub check_records-requires : goal.check_records-requires
check_records-requires c = (sizes_formed _ (sym (ap (λ (t : Ruling). t.number) c.in_ok-check_size.ensures))).2

pub returns-in_err-check_size : goal.returns-in_err-check_size
unfolding checked
returns-in_err-check_size c =
    rw (handed_on _ c.from_residual.ensures.1) (simp (← c.in_err-check_size.ensures, refusal_not_zero))

pub returns : goal.returns
unfolding checked
returns c = simp (← c.in_ok-check_size.ensures, c.check_records.ensures)
