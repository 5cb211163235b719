-- `quick::ways::Ways::hold` meets its contract: what is on the way up is held, or is still to come.
use Rattle.quick.proofs.Holding.{Going}
use Rattle.quick.proofs.ways.Ways.hold.Given as goal

abbrev pub invariant-loop-at : goal.invariant-loop-at
invariant-loop-at l = Going l.initial.self l.t l.at l.self

abbrev pub decreases-loop-at : goal.decreases-loop-at
decreases-loop-at l = l.at
