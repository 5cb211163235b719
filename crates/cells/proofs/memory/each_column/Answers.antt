use Rattle.std.proofs.Common.{arith, refl, inr}
use Rattle.cells.proofs.RowWritten.{made_goes}
use Rattle.cells.proofs.memory.each_column.Goals as goal

pub loop-b-preserved : goal.loop-b-preserved
loop-b-preserved g c = record {
  made = made_goes c.loop-b.invariant.made (omega arith) _ refl c.make-c.ensures c.put.ensures c.put.auto.work;
  inside = inr (omega arith);
}
