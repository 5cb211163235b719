-- `view::buyer::write_cleared` meets its contract: the records passed are put.
use Rattle.outline.specs.Outline.{size}
use Rattle.text.proofs.Walks.{Walking}
use Rattle.view.specs.View.{buyer_record}
use Rattle.view.proofs.buyer.write_cleared.Given as goal

abbrev pub invariant-loop-r : goal.invariant-loop-r
invariant-loop-r l = Walking (buyer_record l.o) 1 (size l.o) l.initial.pen l.r l.pen
