-- `view::buyer::view_buyer` meets its contract: a refusal of the table, or the cleared records.
use Rattle.refusals.proofs.Refusals.{handed_on}
use Rattle.view.specs.Answer.{judged}
use Rattle.view.specs.View.{buyer_view}
use Rattle.view.proofs.Answers.{shown_answered, refused_answered}
use Rattle.view.proofs.buyer.view_buyer.Goals as goal

pub returns-in_err-check_with_room : goal.returns-in_err-check_with_room
unfolding judged
returns-in_err-check_with_room c = rw (handed_on _ c.from_residual.ensures.1) (refused_answered _ buyer_view _ c.in_err-check_with_room.ensures)

pub returns : goal.returns
unfolding judged
returns c = shown_answered _ buyer_view c.in_ok-check_with_room.ensures c.write_cleared.ensures
