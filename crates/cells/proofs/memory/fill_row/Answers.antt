-- `cells::memory::fill_row` meets its contract: each column is the one candidate.
use Rattle.std.proofs.Common.{rules}
use Rattle.cells.proofs.RowWritten.{made_row}
use Rattle.cells.proofs.memory.fill_row.Goals as goal

pub returns : goal.returns
returns c = made_row _ c.each_column.ensures (λ m b d least most same given. search rules)
