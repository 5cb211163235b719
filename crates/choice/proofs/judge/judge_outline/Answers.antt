-- `choice::judge::judge_outline` meets its contract: the rows that passed leave the answer to the next one.
use Rattle.std.proofs.Common.{lt-ltb, le-ltb}
use Rattle.refusals.proofs.Refusals.{refusal_not_zero, passed_zero, handed_on}
use Rattle.outline.proofs.WellFormed.{sizes_formed}
use Rattle.choice.specs.Answer.{most_count}
use Rattle.choice.specs.Inner.{first_rows}
use Rattle.choice.proofs.judge.judge_outline.Goals as goal

pub returns-then-is_unknown : goal.returns-then-is_unknown
unfolding first_rows
returns-then-is_unknown c = simp (← c.is_unknown.ensures, c.if-is_unknown.true)

pub returns-in_err-check_size : goal.returns-in_err-check_size
unfolding first_rows
returns-in_err-check_size c =
    rw (handed_on _ c.from_residual.ensures.1) (simp (← c.is_unknown.ensures, c.if-is_unknown.false, ← c.in_err-check_size.ensures, refusal_not_zero))

pub returns-then-count-gt-MOST_COUNT : goal.returns-then-count-gt-MOST_COUNT
unfolding first_rows
returns-then-count-gt-MOST_COUNT c =
    simp (
      ← c.is_unknown.ensures,
      c.if-is_unknown.false,
      ← c.in_ok-check_size.ensures,
      lt-ltb most_count c.args.count c.if-count-gt-MOST_COUNT.true,
    )

pub check_records-requires : goal.check_records-requires
check_records-requires c = (sizes_formed _ (passed_zero c.in_ok-check_size.ensures)).2

pub returns : goal.returns
unfolding first_rows
returns c =
    simp (
      ← c.is_unknown.ensures,
      c.if-is_unknown.false,
      ← c.in_ok-check_size.ensures,
      le-ltb most_count c.args.count c.if-count-gt-MOST_COUNT.false,
      ← c.check_records.ensures,
    )
