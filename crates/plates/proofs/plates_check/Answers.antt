-- `plates::plates_check` meets its contract.
use Rattle.std.proofs.Common.{ap, arith}
use Rattle.refusals.specs.Refusals.{Ruling}
use Rattle.outline.proofs.Placed.{checked_placed}
use Rattle.plates.proofs.plates_check.Goals as goal

-- a place fits 32 bits
pub overflow_cast-place : goal.overflow_cast-place
overflow_cast-place c =
    record { fits = omega (arith, c.place.ensures, ap (λ (t : Ruling). t.place) c.in-Err.ensures, checked_placed 8 (omega arith) c.args.outline.now) }
