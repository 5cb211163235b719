-- `reading::length::follow` meets its contract: a colon, a number and a token, or a token, or nothing.
use Rattle.reading.proofs.Lengths.{met_next, stuck_next, stops_nowhere, follows_other, colon_stops, length_stops, length_follows}
use Rattle.reading.proofs.length.follow.Goals as goal

pub returns-in_err-token : goal.returns-in_err-token
returns-in_err-token c =
    rw c.from_residual.ensures
    (stops_nowhere _ (stuck_next _ c.read_token.result c.read_token.ensures c.in_err-token.ensures.value))

pub returns-in_err-length-in-Colon : goal.returns-in_err-length-in-Colon
returns-in_err-length-in-Colon c =
    rw c.from_residual-in_err-length-in-Colon.ensures
    (colon_stops (met_next _ c.read_token.result c.read_token.ensures c.in_ok-token.ensures.value) c.in-Colon.is
    c.in_err-length-in-Colon.ensures)

pub returns-in_err-token-in-Colon : goal.returns-in_err-token-in-Colon
returns-in_err-token-in-Colon c =
    rw c.from_residual-in_err-token-in-Colon.ensures
    (length_stops (met_next _ c.read_token.result c.read_token.ensures c.in_ok-token.ensures.value) c.in-Colon.is
    c.in_ok-length-in-Colon.ensures
    (stuck_next _ c.read_token-in-Colon.result c.read_token-in-Colon.ensures c.in_err-token-in-Colon.ensures.value))

pub returns-in_ok-token-in-Colon : goal.returns-in_ok-token-in-Colon
returns-in_ok-token-in-Colon c =
    length_follows (met_next _ c.read_token.result c.read_token.ensures c.in_ok-token.ensures.value) c.in-Colon.is
    c.in_ok-length-in-Colon.ensures
    (met_next _ c.read_token-in-Colon.result c.read_token-in-Colon.ensures c.in_ok-token-in-Colon.ensures.value)

pub returns-in_default : goal.returns-in_default
returns-in_default c =
    follows_other (met_next _ c.read_token.result c.read_token.ensures c.in_ok-token.ensures.value) c.in_default.not-Colon
