-- `reading::place::Place::onward` meets its contract: a comma and a taxon, or a closing bracket.
use Rattle.std.proofs.Common.{refl}
use Rattle.reading.proofs.Scanning.{onward_fails, onward_goes, onward_stops, onward_taken}
use Rattle.reading.proofs.place.Place.onward.Goals as goal

pub returns-in-Comma : goal.returns-in-Comma
returns-in-Comma c = onward_goes c.requires c.in-Comma.is c.past_taxon.ensures

pub returns-in_err-token-in-Close : goal.returns-in_err-token-in-Close
returns-in_err-token-in-Close c = rw c.from_residual.ensures (onward_stops c.requires c.in-Close.is c.in_err-token-in-Close.ensures)

pub returns-in_ok-token-in-Close : goal.returns-in_ok-token-in-Close
returns-in_ok-token-in-Close c = onward_taken c.requires c.in-Close.is c.in_ok-token-in-Close.ensures refl

pub returns-in_default : goal.returns-in_default
returns-in_default c = onward_fails c.requires c.in_default.not-Comma c.in_default.not-Close
