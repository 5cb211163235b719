-- `cells::candidate::Candidate::none` meets its contract.
use Rattle.std.proofs.Common.{refl}
use Rattle.cells.specs.Cells.{view}
use Rattle.cells.proofs.Words.{seen_none}
use Rattle.cells.proofs.candidate.Candidate.none.Goals as goal

pub returns : goal.returns
unfolding view
returns c = seen_none _ _ refl
