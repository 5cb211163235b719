-- `sheet::lister::sheet` meets its contract: a refusal of the table, or the rows.
use Rattle.std.proofs.Common.{sym, arith}
use Rattle.refusals.proofs.Refusals.{passed_zero, handed_on}
use Rattle.sheet.proofs.Answers.{set_long, listable, listed_answered, refused_answered}
use Rattle.sheet.proofs.lister.sheet.Goals as goal

pub slice_bounds-set-end : goal.slice_bounds-set-end
slice_bounds-set-end c = sym (set_long _ (passed_zero c.in_ok-judge.ensures))

pub write_rows-requires : goal.write_rows-requires
write_rows-requires c = listable _ (passed_zero c.in_ok-judge.ensures)

pub measure-sum-requires : goal.measure-sum-requires
measure-sum-requires c =
    let fits = listable _ (passed_zero c.in_ok-judge.ensures) in
    record { formed = fits.formed; marks_long = omega (arith, fits.is_set.whole) }

pub returns-in_err-judge : goal.returns-in_err-judge
returns-in_err-judge c = rw (handed_on _ c.from_residual.ensures.1) (refused_answered _ _ c.in_err-judge.ensures)

pub returns : goal.returns
returns c = listed_answered _ (passed_zero c.in_ok-judge.ensures) c.write_rows.ensures c.measure-sum.ensures
