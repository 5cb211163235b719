-- `view::house::view_house` meets its contract: a refusal of the table, or the outline's bytes.
use Rattle.refusals.proofs.Refusals.{handed_on, passed_zero}
use Rattle.view.specs.Answer.{judged}
use Rattle.view.specs.View.{house_view}
use Rattle.view.proofs.Answers.{outline_fits, shown_answered, refused_answered}
use Rattle.view.proofs.house.view_house.Goals as goal

pub write_whole-requires : goal.write_whole-requires
unfolding judged
write_whole-requires c = outline_fits _ (passed_zero c.in_ok-check_with_room.ensures)

pub returns-in_err-check_with_room : goal.returns-in_err-check_with_room
unfolding judged
returns-in_err-check_with_room c = rw (handed_on _ c.from_residual.ensures.1) (refused_answered _ house_view _ c.in_err-check_with_room.ensures)

pub returns : goal.returns
unfolding judged
returns c = shown_answered _ house_view c.in_ok-check_with_room.ensures c.write_whole.ensures
