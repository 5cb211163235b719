-- `choice::solver::solve` meets its contract: the filled table is read out, and then cleared.
use Rattle.std.proofs.Common.{arith, ap, ◌∙◌, replicate}
use Rattle.choice.specs.Answer.{diversity_at}
use Rattle.choice.specs.Inner.{level}
use Rattle.choice.proofs.Shown.{parts_low}
use Rattle.choice.proofs.Solving.{alike_most, solved}
use Rattle.choice.proofs.solver.solve.Goals as goal

pub overflow_cast-result : goal.overflow_cast-result
overflow_cast-result c = record { fits = omega (arith, parts_low c.best_at-best.result) }

pub overflow_cast-result-2 : goal.overflow_cast-result-2
overflow_cast-result-2 c = record { fits = omega (arith, parts_low c.best_at-best.result) }

pub overflow_cast-result-3 : goal.overflow_cast-result-3
overflow_cast-result-3 c =
    let curve = c.write_curve.new.curve in
    record { fits = omega (arith, c.spare_of.ensures, alike_most (level curve (diversity_at curve c.args.count)) c.args.count) }

pub returns : goal.returns
returns c =
    let cleared = c.fill-2.ensures.after (λ _ e. e) ∙ ap (λ n. replicate n 0) c.fill.auto.work in
    solved _ c.requires c.fill.new.work c.fill.ensures c.best_at-best.result c.best_at-best.ensures c.write_marks.ensures
    c.locks_of.ensures c.write_curve.ensures cleared c.diversity.ensures c.cost.ensures c.marked.ensures.taxa_is c.spare_of.ensures
