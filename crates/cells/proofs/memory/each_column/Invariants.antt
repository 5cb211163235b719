-- `cells::memory::each_column` meets its contract: the columns passed are made.
use Rattle.std.proofs.Common.{◌≡◌, ◌≤◌, ◌⊎◌}
use Rattle.cells.specs.Memory.{Made}
use Rattle.cells.proofs.memory.each_column.Given as goal

abbrev pub invariant-loop-b : goal.invariant-loop-b
invariant-loop-b g l = record {
  made : Made (goal.F-post g l.make) l.to l.lo l.b l.initial.work l.work;
  inside : (l.b ≡ l.lo) ⊎ (l.b ≤ l.hi);
}
