-- `table::push::follow_row` meets its contract.
use Rattle.table.proofs.Pushing.{followed_first}
use Rattle.table.proofs.push.follow_row.Goals as goal

pub returns-then-rest-eq0 : goal.returns-then-rest-eq0
returns-then-rest-eq0 c = followed_first c.requires c.if-rest-eq0.true
