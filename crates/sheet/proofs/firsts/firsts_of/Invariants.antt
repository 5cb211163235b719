-- `sheet::firsts::firsts_of` meets its contract: the chains that begin after record r are known.
use Rattle.sheet.proofs.Along.{Backwards}
use Rattle.sheet.proofs.firsts.firsts_of.Given as goal

abbrev pub invariant-loop-r : goal.invariant-loop-r
invariant-loop-r l = Backwards l.o l.set l.r l.firsts
