-- `outline::fields::short_at` meets its contract.
use Rattle.std.proofs.Common.{rules}
use Rattle.outline.specs.Outline.{short}
use Rattle.outline.proofs.fields.short_at.Goals as goal

pub returns : goal.returns
unfolding short
returns c = search rules
