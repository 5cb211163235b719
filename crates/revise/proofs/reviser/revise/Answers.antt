-- `revise::reviser::revise` meets its contract: a refusal of the table, or a choice remade.
use Rattle.std.proofs.Common.{sym}
use Rattle.refusals.proofs.Refusals.{passed_zero, handed_on}
use Rattle.choice.proofs.Answers.{part_inside, part_long}
use Rattle.revise.proofs.Answers.{passed_revisable, part_revisable, remade_answered, refused_answered}
use Rattle.revise.proofs.reviser.revise.Goals as goal

pub returns-in_err-judge : goal.returns-in_err-judge
returns-in_err-judge c = rw (handed_on _ c.from_residual.ensures.1) (refused_answered _ _ c.in_err-judge.ensures)

pub work_taken-taken-requires : goal.work_taken-taken-requires
work_taken-taken-requires c =
    let s = (passed_revisable _ (passed_zero c.in_ok-judge.ensures)).solvable.searchable in
    record { records = s.formed.size_most; columns = s.low }

pub slice_bounds-remake-end : goal.slice_bounds-remake-end
slice_bounds-remake-end c = part_inside _ (passed_revisable _ (passed_zero c.in_ok-judge.ensures)).solvable _ c.work_taken-taken.ensures

pub slice_bounds-remake-end-2 : goal.slice_bounds-remake-end-2
slice_bounds-remake-end-2 c = sym (part_long _ (passed_revisable _ (passed_zero c.in_ok-judge.ensures)).solvable _ c.work_taken-taken.ensures)

pub remake-requires : goal.remake-requires
remake-requires c = part_revisable _ (passed_zero c.in_ok-judge.ensures) _ c.work_taken-taken.ensures

pub returns : goal.returns
returns c = remade_answered _ (passed_zero c.in_ok-judge.ensures) _ c.work_taken-taken.ensures c.remake.ensures
