-- `cells::memory::charge_from` meets its contract: each turn puts one column, made of two that stand as they did at entry.
use Rattle.cells.specs.Memory.{row_at, charge_over}
use Rattle.cells.proofs.RowWritten.{Filling}
use Rattle.cells.proofs.memory.charge_from.Given as goal

abbrev pub invariant-loop-b : goal.invariant-loop-b
invariant-loop-b l = Filling l.to l.price l.width (charge_over (row_at l.initial.work l.x) l.branch l.price (row_at l.initial.work l.y)) l.initial.work l.work l.b
