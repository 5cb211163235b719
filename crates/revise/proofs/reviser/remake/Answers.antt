-- `revise::reviser::remake` meets its contract: the draft is the revised outline, and solved in the same buffers.
use Rattle.choice.proofs.Answers.{solvable_again, solved_again}
use Rattle.revise.proofs.Answers.{drafted, new_solvable, moves_beside, choice_remade}
use Rattle.revise.proofs.reviser.remake.Goals as goal

pub solve-choice-requires : goal.solve-choice-requires
solve-choice-requires c =
    solvable_again _ (drafted _ c.requires _ c.copy_revised.ensures) c.best_of-old.auto.work (new_solvable _ c.requires)

pub movement-requires : goal.movement-requires
movement-requires c =
    let solved = solved_again _ (drafted _ c.requires _ c.copy_revised.ensures) c.best_of-old.auto.work c.solve-choice.ensures in
    moves_beside _ c.requires solved c.best_of-old.ensures c.branch_of.ensures

pub returns : goal.returns
returns c =
    let solved = solved_again _ (drafted _ c.requires _ c.copy_revised.ensures) c.best_of-old.auto.work c.solve-choice.ensures in
    choice_remade _ c.requires solved c.best_of-old.ensures c.branch_of.ensures c.movement.ensures.best c.movement.ensures.length
    c.movement.ensures.tied
