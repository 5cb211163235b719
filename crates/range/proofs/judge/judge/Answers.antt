-- `range::judge::judge` meets its contract: the rows that passed leave the answer to the next one.
use Rattle.std.proofs.Common.{lt-ltb, le-ltb, eq-eqb}
use Rattle.refusals.proofs.Refusals.{refusal_not_zero, passed_zero, handed_on}
use Rattle.outline.proofs.WellFormed.{accepted_formed}
use Rattle.choice.specs.Answer.{most_count}
use Rattle.range.proofs.Answers.{rows_judged}
use Rattle.range.proofs.judge.judge.Goals as goal

pub returns-then-is_unknown : goal.returns-then-is_unknown
returns-then-is_unknown c = rw rows_judged (simp (← c.is_unknown.ensures, c.if-is_unknown.true))

pub returns-in_err-check : goal.returns-in_err-check
returns-in_err-check c =
    rw (handed_on _ c.from_residual.ensures.1, rows_judged)
    (simp (← c.is_unknown.ensures, c.if-is_unknown.false, ← c.in_err-check.ensures, refusal_not_zero))

pub returns-in_err-check-2 : goal.returns-in_err-check-2
returns-in_err-check-2 c =
    rw (handed_on _ c.from_residual-in_err-check-2.ensures.1, rows_judged)
    (simp (← c.is_unknown.ensures, c.if-is_unknown.false, ← c.in_ok-check.ensures, ← c.in_err-check-2.ensures, refusal_not_zero))

pub returns-in_err-judge_prices : goal.returns-in_err-judge_prices
returns-in_err-judge_prices c =
    rw (handed_on _ c.from_residual-in_err-judge_prices.ensures.1, rows_judged)
    (simp (
      ← c.is_unknown.ensures,
      c.if-is_unknown.false,
      ← c.in_ok-check.ensures,
      ← c.in_ok-check-2.ensures,
      ← c.in_err-judge_prices.ensures,
      refusal_not_zero,
    ))

pub returns-then-count-gt-MOST_COUNT : goal.returns-then-count-gt-MOST_COUNT
returns-then-count-gt-MOST_COUNT c =
    rw rows_judged
    (simp (
      ← c.is_unknown.ensures,
      c.if-is_unknown.false,
      ← c.in_ok-check.ensures,
      ← c.in_ok-check-2.ensures,
      ← c.in_ok-judge_prices.ensures,
      lt-ltb most_count c.args.count c.if-count-gt-MOST_COUNT.true,
    ))

pub judge_space-requires : goal.judge_space-requires
judge_space-requires c = (accepted_formed _ (eq-eqb _ _ (passed_zero c.in_ok-check-2.ensures)), c.if-count-gt-MOST_COUNT.false)

pub returns : goal.returns
returns c =
    rw rows_judged
    (simp (
      ← c.is_unknown.ensures,
      c.if-is_unknown.false,
      ← c.in_ok-check.ensures,
      ← c.in_ok-check-2.ensures,
      ← c.in_ok-judge_prices.ensures,
      le-ltb most_count c.args.count c.if-count-gt-MOST_COUNT.false,
      ← c.judge_space.ensures,
    ))
