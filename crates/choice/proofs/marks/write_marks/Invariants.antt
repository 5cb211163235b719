-- `choice::marks::write_marks` meets its contract: the marks of the records passed stand.
use Rattle.choice.proofs.Digits.{Reading}
use Rattle.choice.proofs.marks.write_marks.Given as goal

abbrev pub invariant-loop-r : goal.invariant-loop-r
invariant-loop-r l = Reading l.o l.set l.initial.marks l.marks l.left l.r
