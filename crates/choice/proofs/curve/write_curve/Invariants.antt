-- `choice::curve::write_curve` meets its contract: each turn puts one column.
use Rattle.text.proofs.Walks.{Walking}
use Rattle.choice.specs.Inner.{top_diversity, top_cost}
use Rattle.choice.proofs.Columns.{column}
use Rattle.choice.proofs.curve.write_curve.Given as goal

abbrev pub invariant-loop-b : goal.invariant-loop-b
invariant-loop-b l = Walking (column (top_diversity l.work l.width l.locks) (top_cost l.work l.width l.locks)) 0 l.width l.initial.pen l.b l.pen
