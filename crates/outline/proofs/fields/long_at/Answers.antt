-- `outline::fields::long_at` meets its contract.
use Rattle.std.proofs.Common.{rules}
use Rattle.outline.specs.Outline.{short, long}
use Rattle.outline.proofs.fields.long_at.Goals as goal

pub returns : goal.returns
unfolding short long
returns c = search rules
