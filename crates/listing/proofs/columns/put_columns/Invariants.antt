-- `listing::columns::put_columns` meets its contract: each turn puts a column's line.
use Rattle.text.proofs.Walks.{Walking}
use Rattle.listing.specs.FromBuffers.{column_text}
use Rattle.listing.proofs.columns.put_columns.Given as goal

abbrev pub invariant-loop-b : goal.invariant-loop-b
invariant-loop-b l = Walking (column_text l.curve) 0 l.width l.initial.pen l.b l.pen
