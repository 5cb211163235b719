-- `house::form::house_form` meets its contract: a refusal of the table, or the house form.
use Rattle.refusals.proofs.Refusals.{handed_on}
use Rattle.lists.proofs.Buffers.{bytes_small}
use Rattle.house.specs.Answer.{judged}
use Rattle.house.proofs.Answers.{form_fits, form_answered, form_refused}
use Rattle.house.proofs.form.house_form.Goals as goal

pub write_form-requires : goal.write_form-requires
unfolding judged
write_form-requires c = form_fits _ c.in_ok-check_with_room.ensures

pub returns-in_err-check_with_room : goal.returns-in_err-check_with_room
unfolding judged
returns-in_err-check_with_room c =
    rw (handed_on _ c.from_residual.ensures.1) (form_refused _ (bytes_small c.type_inv.outline) _ c.in_err-check_with_room.ensures)

pub returns : goal.returns
unfolding judged
returns c = form_answered _ (bytes_small c.type_inv.outline) c.in_ok-check_with_room.ensures c.write_form.ensures
