-- `cells::memory::put` meets its contract.
use Rattle.cells.specs.Cells.{view}
use Rattle.cells.proofs.RowWritten.{put_words}
use Rattle.cells.proofs.memory.put.Goals as goal

pub returns : goal.returns
unfolding view
returns c = put_words _ _ _ _ c.requires
