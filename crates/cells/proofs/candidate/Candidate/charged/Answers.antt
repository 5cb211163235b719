-- `cells::candidate::Candidate::charged` meets its contract.
use Rattle.std.proofs.Common.{arith}
use Rattle.cells.specs.Cells.{view}
use Rattle.cells.proofs.Words.{charge_none, charge_bounds, charge_some}
use Rattle.cells.proofs.candidate.Candidate.charged.Goals as goal

pub returns-then-self-eq0 : goal.returns-then-self-eq0
unfolding view
returns-then-self-eq0 c = charge_none _ _ _ _ c.if-self-eq0.true

pub overflow_add-result : goal.overflow_add-result
unfolding view
overflow_add-result c = omega (arith, (charge_bounds _ _ _ _ c.if-self-eq0.false c.requires).1)

pub overflow_sub-result : goal.overflow_sub-result
unfolding view
overflow_sub-result c = (charge_bounds _ _ _ _ c.if-self-eq0.false c.requires).2

pub returns : goal.returns
unfolding view
returns c = charge_some _ _ _ _ c.if-self-eq0.false c.requires
