-- `reading::length::number_after` meets its contract: a number, or any other token, or none.
use Rattle.reading.proofs.Lengths.{met_next, stuck_next, number_nowhere, number_missing, number_there}
use Rattle.reading.proofs.length.number_after.Goals as goal

pub returns-in_err-token : goal.returns-in_err-token
returns-in_err-token c =
    rw c.from_residual.ensures
    (number_nowhere _ (stuck_next _ c.read_token.result c.read_token.ensures c.in_err-token.ensures.value))

pub returns-in-Number : goal.returns-in-Number
returns-in-Number c =
    number_there (met_next _ c.read_token.result c.read_token.ensures c.in_ok-token.ensures.value) _ c.in-Number.is

pub returns-in_default : goal.returns-in_default
returns-in_default c =
    number_missing (met_next _ c.read_token.result c.read_token.ensures c.in_ok-token.ensures.value) c.in_default.not-Number
