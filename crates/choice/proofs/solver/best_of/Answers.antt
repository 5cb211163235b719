-- `choice::solver::best_of` meets its contract: the last column of the filled table shows the best diversity.
use Rattle.std.proofs.Common.{arith}
use Rattle.choice.proofs.Shown.{parts_low}
use Rattle.choice.proofs.Solving.{best_shown}
use Rattle.choice.proofs.solver.best_of.Goals as goal

pub overflow_cast-result : goal.overflow_cast-result
overflow_cast-result c = record { fits = omega (arith, parts_low c.best_at.result) }

pub returns : goal.returns
returns c = best_shown c.requires c.fill.ensures _ c.best_at.ensures c.diversity.ensures
