use Rattle.std.proofs.Common.{refl}
use Rattle.reading.proofs.Lengths.{met_next, stuck_next}
use Rattle.reading.proofs.Scanning.{descending_ends, descending_fails, descending_goes, descending_stops, descending_taken}
use Rattle.reading.proofs.place.Place.past_taxon.Goals as goal

pub loop-token-preserved : goal.loop-token-preserved
loop-token-preserved c =
    descending_goes c.loop-token.invariant (met_next _ c.read_token.result c.read_token.ensures c.in_ok-token.ensures.value)
    c.in-Open.is

pub returns-in_err-token : goal.returns-in_err-token
returns-in_err-token c =
    rw c.from_residual.ensures
    (descending_ends c.loop-token.invariant (stuck_next _ c.read_token.result c.read_token.ensures c.in_err-token.ensures.value))

pub returns-in_err-token-in-Number : goal.returns-in_err-token-in-Number
returns-in_err-token-in-Number c =
    rw c.from_residual-in_err-token-in-Number.ensures
    (descending_stops c.loop-token.invariant (met_next _ c.read_token.result c.read_token.ensures c.in_ok-token.ensures.value)
    c.in-Number.is c.in_err-token-in-Number.ensures)

pub returns-in-Number : goal.returns-in-Number
returns-in-Number c =
    descending_taken c.loop-token.invariant (met_next _ c.read_token.result c.read_token.ensures c.in_ok-token.ensures.value)
    c.in-Number.is c.in_ok-token-in-Number.ensures refl

pub returns-in_default : goal.returns-in_default
returns-in_default c =
    descending_fails c.loop-token.invariant (met_next _ c.read_token.result c.read_token.ensures c.in_ok-token.ensures.value)
    c.in_default.not-Open c.in_default.not-Number
