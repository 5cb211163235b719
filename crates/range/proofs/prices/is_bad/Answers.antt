-- `range::prices::is_bad` meets its contract: the bytes before the price and those past it are compared as two parts.
use Rattle.range.proofs.Differing.{bad_if}
use Rattle.range.proofs.prices.is_bad.Goals as goal

pub returns : goal.returns
returns c =
    bad_if _ _ c.args.r c.requires.0 c.requires.1 c.ne-before.ensures c.ne-after.ensures c.price_of.ensures c.price_of-2.ensures
