-- `quick::picks::make_picks` meets its contract: the picks that are left lead to the same set.
use Rattle.quick.proofs.Taking.{Taking}
use Rattle.quick.proofs.picks.make_picks.Given as goal

abbrev pub invariant-loop : goal.invariant-loop
invariant-loop l = Taking l.o l.count l.initial.marks l.picks l.marks l.ways l.spent l.counter
