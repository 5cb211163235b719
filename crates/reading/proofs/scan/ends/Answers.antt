-- `reading::scan::ends` meets its contract: a semicolon and nothing after it, or anything else.
use Rattle.reading.proofs.Endings.{ended, not_ended}
use Rattle.reading.proofs.scan.ends.Goals as goal

pub returns-in-Semicolon : goal.returns-in-Semicolon
returns-in-Semicolon c = ended _ c.in-Semicolon.is c.is_blank.ensures

pub returns-in_default : goal.returns-in_default
returns-in_default c = not_ended _ _ c.in_default.not-Semicolon
