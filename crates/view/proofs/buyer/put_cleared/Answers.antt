-- `view::buyer::put_cleared` meets its contract: the record's own fields are put, but for its price and its lock.
use Rattle.view.specs.View.{buyer_record}
use Rattle.view.proofs.Cleared.{record_fits}
use Rattle.view.proofs.buyer.put_cleared.Goals as goal

pub put-requires : goal.put-requires
put-requires c = record_fits c.requires _ _ _ _ _

pub returns : goal.returns
unfolding buyer_record
returns c =
    rw (← c.next_of.ensures, ← c.first_of.ensures, ← c.branch_of.ensures, ← c.plate_of.ensures) c.put.ensures
