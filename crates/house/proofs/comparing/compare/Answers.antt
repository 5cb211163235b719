-- `house::comparing::compare` meets its contract: a refusal of the table, or both house forms, compared.
use Rattle.std.proofs.Common.{sym, ◌∙◌, ap₂, length-take-le}
use Rattle.std.specs.Ordering.{nat_cmp}
use Rattle.std.specs.Cmp.Lexicographic.{slice_cmp}
use Rattle.refusals.proofs.Refusals.{handed_on}
use Rattle.lists.proofs.Buffers.{bytes_small}
use Rattle.house.proofs.Answers.{both_fit, compared_answered, compare_refused}
use Rattle.house.proofs.Writing.{house_within, house_taken}
use Rattle.house.proofs.comparing.compare.Goals as goal

pub returns-in_err-judge : goal.returns-in_err-judge
returns-in_err-judge c =
    rw (handed_on _ c.from_residual.ensures.1)
    (compare_refused _ (bytes_small c.type_inv.a) (bytes_small c.type_inv.b) _ c.in_err-judge.ensures)

pub write_form-requires : goal.write_form-requires
write_form-requires c = (both_fit _ c.in_ok-judge.ensures).0

pub write_form-requires-2 : goal.write_form-requires-2
write_form-requires-2 c = (both_fit _ c.in_ok-judge.ensures).1

pub slice_bounds-order_of-end : goal.slice_bounds-order_of-end
slice_bounds-order_of-end c = house_within (both_fit _ c.in_ok-judge.ensures).0 _ c.write_form.auto.form

pub slice_bounds-order_of-end-2 : goal.slice_bounds-order_of-end-2
slice_bounds-order_of-end-2 c = sym (length-take-le _ _ (house_within (both_fit _ c.in_ok-judge.ensures).0 _ c.write_form.auto.form))

pub slice_bounds-order_of-end-3 : goal.slice_bounds-order_of-end-3
slice_bounds-order_of-end-3 c = house_within (both_fit _ c.in_ok-judge.ensures).1 _ c.write_form-2.auto.form

pub slice_bounds-order_of-end-4 : goal.slice_bounds-order_of-end-4
slice_bounds-order_of-end-4 c = sym (length-take-le _ _ (house_within (both_fit _ c.in_ok-judge.ensures).1 _ c.write_form-2.auto.form))

pub returns : goal.returns
returns c =
    let both = both_fit _ c.in_ok-judge.ensures in
    compared_answered _ (bytes_small c.type_inv.a) (bytes_small c.type_inv.b) c.in_ok-judge.ensures
    (c.order_of.ensures ∙ ap₂ (slice_cmp nat_cmp) (house_taken both.0 c.write_form.ensures) (house_taken both.1 c.write_form-2.ensures))
    c.write_form.ensures c.write_form-2.ensures
