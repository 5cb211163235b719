-- `outline::rules::count_link` meets its contract.
use Rattle.std.proofs.Common.{arith, lt-ltb, le-ltb}
use Rattle.outline.specs.Inner.{numbers, counted}
use Rattle.outline.proofs.rules.count_link.Goals as goal

pub returns-then-link-lt-NUMBERS : goal.returns-then-link-lt-NUMBERS
unfolding counted
returns-then-link-lt-NUMBERS c = rw (lt-ltb c.args.link numbers (omega (arith, c.if-link-lt-NUMBERS.true)))

pub returns-else-link-lt-NUMBERS : goal.returns-else-link-lt-NUMBERS
unfolding counted
returns-else-link-lt-NUMBERS c = rw (le-ltb c.args.link numbers (omega (arith, c.if-link-lt-NUMBERS.false)))
