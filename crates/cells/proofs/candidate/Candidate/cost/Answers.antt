-- `cells::candidate::Candidate::cost` meets its contract.
use Rattle.std.proofs.Common.{rules}
use Rattle.cells.specs.Cells.{view, cost_of}
use Rattle.cells.proofs.Words.{part_is}
use Rattle.cells.proofs.candidate.Candidate.cost.Goals as goal

pub returns : goal.returns
unfolding view cost_of
returns c = part_is cost_of (λ z. search rules) (λ n. search rules)
