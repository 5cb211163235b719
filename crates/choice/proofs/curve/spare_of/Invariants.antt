-- `choice::curve::spare_of` meets its contract: the columns passed have a set, and the diversity of the last.
use Rattle.choice.specs.Inner.{level}
use Rattle.choice.proofs.Columns.{Level}
use Rattle.choice.proofs.curve.spare_of.Given as goal

abbrev pub invariant-loop-b : goal.invariant-loop-b
invariant-loop-b l = Level (level l.curve l.diversity) l.count l.b

abbrev pub decreases-loop-b : goal.decreases-loop-b
decreases-loop-b l = l.b
