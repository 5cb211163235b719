-- `choice::chooser::choose` meets its contract: a refusal of the table, or a selection.
use Rattle.std.proofs.Common.{◌≡◌, sym, true}
use Rattle.refusals.specs.Refusals.{passed}
use Rattle.refusals.proofs.Refusals.{handed_on}
use Rattle.choice.specs.Answer.{Call, judged, is_selected}
use Rattle.choice.proofs.Answers.{selected_solvable, part_inside, part_long, part_solvable, solved_answered, refused_answered}
use Rattle.choice.proofs.chooser.choose.Goals as goal

-- no row holds
accepted : (k : Call) → passed ≡ judged k → is_selected k ≡ true
accepted k e = rw (← e)

pub work_taken-taken-requires : goal.work_taken-taken-requires
work_taken-taken-requires c =
    let s = selected_solvable _ (accepted _ c.in_ok-judge.ensures) in
    record { records = s.searchable.formed.size_most; columns = s.searchable.low }

pub slice_bounds-solve-end : goal.slice_bounds-solve-end
slice_bounds-solve-end c = part_inside _ (selected_solvable _ (accepted _ c.in_ok-judge.ensures)) _ c.work_taken-taken.ensures

pub slice_bounds-solve-end-2 : goal.slice_bounds-solve-end-2
slice_bounds-solve-end-2 c = sym (part_long _ (selected_solvable _ (accepted _ c.in_ok-judge.ensures)) _ c.work_taken-taken.ensures)

pub solve-requires : goal.solve-requires
solve-requires c = part_solvable _ (selected_solvable _ (accepted _ c.in_ok-judge.ensures)) _ c.work_taken-taken.ensures

pub returns-in_err-judge : goal.returns-in_err-judge
returns-in_err-judge c = rw (handed_on _ c.from_residual.ensures.1) (refused_answered _ _ c.in_err-judge.ensures)

pub returns : goal.returns
returns c = solved_answered _ (accepted _ c.in_ok-judge.ensures) _ c.work_taken-taken.ensures c.solve.ensures
