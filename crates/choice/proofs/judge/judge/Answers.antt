-- `choice::judge::judge` meets its contract: it judges by one part of the rows after the other.
use Rattle.refusals.proofs.Refusals.{refusal_not_zero, passed_zero, handed_on}
use Rattle.choice.proofs.Rows.{rows_judged, first_passed}
use Rattle.choice.proofs.judge.judge.Goals as goal

pub returns-in_err-judge_outline : goal.returns-in_err-judge_outline
returns-in_err-judge_outline c =
    rw (handed_on _ c.from_residual.ensures.1, rows_judged) (simp (← c.in_err-judge_outline.ensures, refusal_not_zero))

pub judge_space-requires : goal.judge_space-requires
judge_space-requires c =
    let first = first_passed _ _ _ (passed_zero c.in_ok-judge_outline.ensures) in
    (first.formed, first.low)

pub returns : goal.returns
returns c = rw rows_judged (simp (← c.in_ok-judge_outline.ensures, ← c.judge_space.ensures))
