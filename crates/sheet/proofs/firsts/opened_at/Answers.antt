-- `sheet::firsts::opened_at` meets its contract.
use Rattle.sheet.proofs.Places.{price_since}
use Rattle.sheet.proofs.firsts.opened_at.Goals as goal

pub returns : goal.returns
returns c =
    let p = c.requires in
    rw (c.min.ensures, c.place_of.ensures, c.first_of.ensures) (price_since p.base.formed p.is_record _ p.members)
