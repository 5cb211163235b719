-- `range::finder::range` meets its contract: a refusal of the table, or a range found.
use Rattle.std.proofs.Common.{sym}
use Rattle.refusals.proofs.Refusals.{passed_zero, handed_on}
use Rattle.choice.proofs.Answers.{part_inside, part_long}
use Rattle.range.proofs.Answers.{all_passed, part_rangeable, ranged_answered, refused_answered}
use Rattle.range.proofs.finder.range.Goals as goal

pub returns-in_err-judge : goal.returns-in_err-judge
returns-in_err-judge c = rw (handed_on _ c.from_residual.ensures.1) (refused_answered _ _ c.in_err-judge.ensures)

pub work_taken-taken-requires : goal.work_taken-taken-requires
work_taken-taken-requires c =
    let s = (all_passed _ (passed_zero c.in_ok-judge.ensures)).rangeable.solvable.searchable in
    record { records = s.formed.size_most; columns = s.low }

pub slice_bounds-find-end : goal.slice_bounds-find-end
slice_bounds-find-end c = part_inside _ (all_passed _ (passed_zero c.in_ok-judge.ensures)).rangeable.solvable _ c.work_taken-taken.ensures

pub slice_bounds-find-end-2 : goal.slice_bounds-find-end-2
slice_bounds-find-end-2 c = sym (part_long _ (all_passed _ (passed_zero c.in_ok-judge.ensures)).rangeable.solvable _ c.work_taken-taken.ensures)

pub find-requires : goal.find-requires
find-requires c = part_rangeable _ (passed_zero c.in_ok-judge.ensures) _ c.work_taken-taken.ensures

pub returns : goal.returns
returns c = ranged_answered _ (passed_zero c.in_ok-judge.ensures) _ c.work_taken-taken.ensures c.find.ensures
