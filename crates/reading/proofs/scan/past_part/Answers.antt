use Rattle.reading.proofs.Scanning.{scan_starts}
use Rattle.reading.proofs.scan.past_part.Goals as goal

pub returns-in_err-place : goal.returns-in_err-place
returns-in_err-place c = rw c.from_residual.ensures (c.in_err-place.ensures.taken _ (scan_starts _))

pub loop-place-init : goal.loop-place-init
loop-place-init c = c.in_ok-place.ensures.taken _ (scan_starts _)
