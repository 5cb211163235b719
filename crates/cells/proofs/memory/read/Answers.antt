-- `cells::memory::read` meets its contract.
use Rattle.std.proofs.Common.{refl}
use Rattle.cells.specs.Cells.{view, cell}
use Rattle.cells.proofs.memory.read.Goals as goal

pub returns : goal.returns
unfolding view cell
returns c = refl
