-- `sheet::firsts::place_of` meets its contract.
use Rattle.sheet.specs.Inner.{place_of}
use Rattle.sheet.proofs.firsts.place_of.Goals as goal

pub returns-then-is_chosen : goal.returns-then-is_chosen
unfolding place_of
returns-then-is_chosen c = rw (← c.is_chosen.ensures, c.if-is_chosen.true)

pub returns-else-is_chosen : goal.returns-else-is_chosen
unfolding place_of
returns-else-is_chosen c = rw (← c.is_chosen.ensures, c.if-is_chosen.false)
