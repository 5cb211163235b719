-- `cells::candidate::Candidate::better` meets its contract.
use Rattle.cells.specs.Cells.{view}
use Rattle.cells.proofs.Words.{greater_set, no_greater_set, greater_score, no_greater_score}
use Rattle.cells.proofs.candidate.Candidate.better.Goals as goal

pub returns-then-self-other-2 : goal.returns-then-self-other-2
unfolding view
returns-then-self-other-2 c = greater_set _ _ _ _ c.if-self-other.true c.if-self-other-2.true

pub returns-then-self-other : goal.returns-then-self-other
unfolding view
returns-then-self-other c = no_greater_set _ _ _ _ c.if-self-other.true c.if-self-other-2.false

pub returns-then-self-other-3 : goal.returns-then-self-other-3
unfolding view
returns-then-self-other-3 c = greater_score _ _ _ _ c.if-self-other-3.true

pub returns : goal.returns
unfolding view
returns c = no_greater_score _ _ _ _ c.if-self-other.false c.if-self-other-3.false
