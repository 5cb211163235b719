-- `quick::chooser::quick` meets its contract: a refusal of the table, or a choice.
use Rattle.std.proofs.Common.{sym}
use Rattle.refusals.proofs.Refusals.{passed_zero, handed_on}
use Rattle.quick.proofs.Answers.{part_inside, part_long, part_fillable, filled_answered, refused_answered}
use Rattle.quick.proofs.chooser.quick.Goals as goal

pub slice_bounds-fill-end : goal.slice_bounds-fill-end
slice_bounds-fill-end c = part_inside _ (passed_zero c.in_ok-judge.ensures)

pub slice_bounds-fill-end-2 : goal.slice_bounds-fill-end-2
slice_bounds-fill-end-2 c = sym (part_long _ (passed_zero c.in_ok-judge.ensures))

pub fill-requires : goal.fill-requires
fill-requires c = part_fillable _ (passed_zero c.in_ok-judge.ensures)

pub returns-in_err-judge : goal.returns-in_err-judge
returns-in_err-judge c = rw (handed_on _ c.from_residual.ensures.1) (refused_answered _ _ c.in_err-judge.ensures)

pub returns : goal.returns
returns c = filled_answered _ (passed_zero c.in_ok-judge.ensures) c.fill.ensures
