-- `listing::list::list_outline` meets its contract: choosing answers the call, and the lines come from its curve and from the sheet of
-- its marks.
use Rattle.std.proofs.Common.{◌≡◌, true, ℕ, ◌+◌, ◌*◌, ◌≤◌, List, [], ◌∷◌, ◌++◌, length, take, Ok, Err, arith, subst, sym}
use Rattle.refusals.specs.Refusals.{refusal}
use Rattle.refusals.specs.declared.refusal.Refusal.{Refusal}
use Rattle.refusals.proofs.Refusals.{refusal_numbered}
use Rattle.outline.specs.Outline.{size}
use Rattle.choice.specs.declared.answer.Figures.{Figures}
use Rattle.choice.specs.Answer.{Call, Answered, told, is_selected}
use Rattle.choice.proofs.Answers.{selected_solvable}
use Rattle.text.specs.Text.{line}
use Rattle.text.specs.Written.{LongEnough}
use Rattle.text.specs.declared.Pen.{Pen}
use Rattle.text.proofs.Writing.{Left, left_starts, left_fits, left_goes}
use Rattle.listing.specs.FromBuffers.{columns_text, Listed}
use Rattle.listing.specs.Printed.{call_with, refusal_text, sheet_text, answer_text}
use Rattle.listing.proofs.Answers.{refused_text, selection_listed, is_selected_lem, selected_text}
use Rattle.listing.proofs.list.list_outline.Goals as goal

module _ (o : List ℕ) (count way : ℕ) where
  abbrev call : Call
  call = call_with o count way

  refusal-printed : (e : Refusal) {marks curve work : List ℕ} → Answered call (told (Err e)) marks curve work
      → refusal_text (refusal e) ≡ answer_text call
  refusal-printed e x = refused_text call (refusal e) (refusal_numbered e) x.told_reply

  module _ {f : Figures} {marks curve work : List ℕ} (x : Answered call (told (Ok f)) marks curve work) where
    selection : is_selected call ≡ true
    selection = is_selected_lem call f x.told_reply

    -- its columns are within the curve
    columns-within : length curve ≡ 1024 → 2 * (count + 1) ≤ length curve
    unfolding call_with
    columns-within long = omega (arith, (selected_solvable call selection).curve_long)

    -- its marks are listed
    marks-listed : Listed o way marks
    unfolding call_with
    marks-listed = selection_listed call selection x.marks_written

    -- its lines are yet to be put
    begun : (pen : Pen ℕ) → LongEnough (answer_text call) pen
        → Left (answer_text call) pen
        (line (count ∷ way ∷ f.diversity ∷ f.cost ∷ f.taxa ∷ []) ++ (columns_text curve (count + 1) ++ sheet_text o way (take (size o) marks))) pen
    unfolding call_with
    begun pen h =
        subst (λ t. Left (answer_text call) pen t pen) (sym (selected_text call f x.told_reply x.marks_written x.curve_written)) (left_starts h)

pub put_refusal-requires : goal.put_refusal-requires
unfolding call_with
put_refusal-requires c = let a = c.args in rw (refusal-printed a.outline.now a.count a.way _ c.in-Err.ensures) c.requires

pub put_line-requires : goal.put_line-requires
unfolding call_with
put_line-requires c =
    let a = c.args in
    (omega arith, left_fits _ _ (begun a.outline.now a.count a.way c.in-Ok.ensures a.pen.now c.requires))

pub put_columns-requires : goal.put_columns-requires
unfolding call_with
put_columns-requires c =
    let a = c.args in
    let start = begun a.outline.now a.count a.way c.in-Ok.ensures a.pen.now c.requires in
    (columns-within a.outline.now a.count a.way c.in-Ok.ensures c.choose.auto.curve, left_fits _ _ (left_goes _ _ start c.put_line.ensures))

pub put_sheet-requires-clause-listed : goal.put_sheet-requires-clause-listed
unfolding call_with
put_sheet-requires-clause-listed c = let a = c.args in marks-listed a.outline.now a.count a.way c.in-Ok.ensures

pub put_sheet-requires-clause-long_enough : goal.put_sheet-requires-clause-long_enough
unfolding call_with
put_sheet-requires-clause-long_enough c =
    let a = c.args in
    let start = begun a.outline.now a.count a.way c.in-Ok.ensures a.pen.now c.requires in
    (left_goes _ _ (left_goes _ _ start c.put_line.ensures) c.put_columns.ensures).fits

pub returns-in-Err : goal.returns-in-Err
unfolding call_with
returns-in-Err c = let a = c.args in rw (refusal-printed a.outline.now a.count a.way _ c.in-Err.ensures) at c.put_refusal.ensures

pub returns-in-Ok : goal.returns-in-Ok
unfolding call_with
returns-in-Ok c =
    let a = c.args in
    let start = begun a.outline.now a.count a.way c.in-Ok.ensures a.pen.now c.requires in
    (left_goes _ _ (left_goes _ _ start c.put_line.ensures) c.put_columns.ensures).completes c.put_sheet.ensures
