-- `quick::judge::judge` meets its contract: the rows that passed leave the answer to the next one.
use Rattle.std.proofs.Common.{length, lt-ltb, le-ltb}
use Rattle.refusals.proofs.Refusals.{refusal_not_zero, passed_zero, handed_on}
use Rattle.outline.specs.Outline.{size}
use Rattle.outline.proofs.WellFormed.{sizes_formed, rows_kept}
use Rattle.laws.proofs.Optimum.{none_exactly}
use Rattle.choice.specs.Answer.{most_count}
use Rattle.quick.specs.Answer.{most_picks, judged}
use Rattle.quick.proofs.judge.judge.Goals as goal

pub returns-in_err-check_size : goal.returns-in_err-check_size
unfolding judged
returns-in_err-check_size c = rw (handed_on _ c.from_residual.ensures.1, ← c.in_err-check_size.ensures, refusal_not_zero)

pub returns-then-count-gt-MOST_COUNT : goal.returns-then-count-gt-MOST_COUNT
unfolding judged
returns-then-count-gt-MOST_COUNT c = simp (← c.in_ok-check_size.ensures, lt-ltb most_count c.args.count c.if-count-gt-MOST_COUNT.true)

pub returns-then-picks-gt-MOST_PICKS : goal.returns-then-picks-gt-MOST_PICKS
unfolding judged
returns-then-picks-gt-MOST_PICKS c =
    simp (
      ← c.in_ok-check_size.ensures,
      le-ltb most_count c.args.count c.if-count-gt-MOST_COUNT.false,
      lt-ltb most_picks c.args.picks c.if-picks-gt-MOST_PICKS.true,
    )

pub check_records-requires : goal.check_records-requires
check_records-requires c = (sizes_formed _ (passed_zero c.in_ok-check_size.ensures)).2

pub returns-in_err-check_records : goal.returns-in_err-check_records
unfolding judged
returns-in_err-check_records c =
    rw (handed_on _ c.from_residual-in_err-check_records.ensures.1) (simp (
      ← c.in_ok-check_size.ensures,
      le-ltb most_count c.args.count c.if-count-gt-MOST_COUNT.false,
      le-ltb most_picks c.args.picks c.if-picks-gt-MOST_PICKS.false,
      ← c.in_err-check_records.ensures,
      refusal_not_zero,
    ))

pub returns-then-marks-outline : goal.returns-then-marks-outline
unfolding judged
returns-then-marks-outline c =
    simp (
      ← c.in_ok-check_size.ensures,
      le-ltb most_count c.args.count c.if-count-gt-MOST_COUNT.false,
      le-ltb most_picks c.args.picks c.if-picks-gt-MOST_PICKS.false,
      ← c.in_ok-check_records.ensures,
      lt-ltb (length c.args.marks.now) (size c.args.outline.now) c.if-marks-outline.true,
    )

pub locked_cost-requires : goal.locked_cost-requires
locked_cost-requires c = rows_kept _ (passed_zero c.in_ok-check_size.ensures) (passed_zero c.in_ok-check_records.ensures)

-- row 12 goes by what the locked taxa cost
pub returns-then-count-locked_cost : goal.returns-then-count-locked_cost
unfolding judged
returns-then-count-locked_cost c =
    simp (
      ← c.in_ok-check_size.ensures,
      le-ltb most_count c.args.count c.if-count-gt-MOST_COUNT.false,
      le-ltb most_picks c.args.picks c.if-picks-gt-MOST_PICKS.false,
      ← c.in_ok-check_records.ensures,
      le-ltb (length c.args.marks.now) (size c.args.outline.now) c.if-marks-outline.false,
      none_exactly,
      ← c.locked_cost.ensures,
      lt-ltb c.args.count c.locked_cost.result c.if-count-locked_cost.true,
    )

pub returns : goal.returns
unfolding judged
returns c =
    simp (
      ← c.in_ok-check_size.ensures,
      le-ltb most_count c.args.count c.if-count-gt-MOST_COUNT.false,
      le-ltb most_picks c.args.picks c.if-picks-gt-MOST_PICKS.false,
      ← c.in_ok-check_records.ensures,
      le-ltb (length c.args.marks.now) (size c.args.outline.now) c.if-marks-outline.false,
      none_exactly,
      ← c.locked_cost.ensures,
      le-ltb c.args.count c.locked_cost.result c.if-count-locked_cost.false,
    )
