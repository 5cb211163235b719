-- `cells::candidate::Candidate::locked` meets its contract.
use Rattle.std.proofs.Common.{rules}
use Rattle.cells.specs.Cells.{view, locked_of}
use Rattle.cells.proofs.Words.{part_is}
use Rattle.cells.proofs.candidate.Candidate.locked.Goals as goal

pub returns : goal.returns
unfolding view locked_of
returns c = part_is locked_of (λ z. search rules) (λ n. search rules)
