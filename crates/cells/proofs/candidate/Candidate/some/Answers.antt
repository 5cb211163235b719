-- `cells::candidate::Candidate::some` meets its contract.
use Rattle.cells.specs.Cells.{view}
use Rattle.cells.proofs.Words.{seen_worth}
use Rattle.cells.proofs.candidate.Candidate.some.Goals as goal

pub returns : goal.returns
unfolding view
returns c = seen_worth _ _ _ _ c.requires.1 c.requires.2
