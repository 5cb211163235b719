-- `cells::candidate::Candidate::diversity` meets its contract.
use Rattle.std.proofs.Common.{rules}
use Rattle.cells.specs.Cells.{view, diversity_of}
use Rattle.cells.proofs.Words.{part_is}
use Rattle.cells.proofs.candidate.Candidate.diversity.Goals as goal

pub returns : goal.returns
unfolding view diversity_of
returns c = part_is diversity_of (λ z. search rules) (λ n. search rules)
