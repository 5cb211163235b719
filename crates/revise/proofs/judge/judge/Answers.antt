-- `revise::judge::judge` meets its contract: row 16 between the two parts of the rows of choosing.
use Rattle.refusals.proofs.Refusals.{refusal_not_zero, passed_zero, handed_on}
use Rattle.choice.proofs.Rows.{first_passed}
use Rattle.revise.proofs.Answers.{rows_judged}
use Rattle.revise.proofs.judge.judge.Goals as goal

pub returns-in_err-judge_outline : goal.returns-in_err-judge_outline
returns-in_err-judge_outline c =
    rw (handed_on _ c.from_residual.ensures.1, rows_judged) (simp (← c.in_err-judge_outline.ensures, refusal_not_zero))

pub returns-then-is_bad : goal.returns-then-is_bad
returns-then-is_bad c = rw rows_judged (simp (← c.in_ok-judge_outline.ensures, ← c.is_bad.ensures, c.if-is_bad.true))

pub judge_space-requires : goal.judge_space-requires
judge_space-requires c =
    let first = first_passed _ _ _ (passed_zero c.in_ok-judge_outline.ensures) in
    (first.formed, first.low)

pub returns : goal.returns
returns c =
    rw rows_judged (simp (← c.in_ok-judge_outline.ensures, ← c.is_bad.ensures, c.if-is_bad.false, ← c.judge_space.ensures))
