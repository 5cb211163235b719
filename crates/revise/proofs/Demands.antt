-- What is promised of every call of `revise`: what its contract says of the answer and the buffers is what the words ask.
use Rattle.std.specs.Prelude.{Result}
use Prim.Native.Nat.{ℕ, ◌≤◌}
use mathlib.Core.Path.{◌≡◌, refl, sym, ap, ◌∙◌}
use mathlib.Core.Bool.{true}
use mathlib.Core.List.{List}
use native.Mathlib.Omega.{arith}
use borrow.Author.Tests.{ne_eqb}
use Rattle.refusals.specs.declared.refusal.Refusal.{Refusal}
use Rattle.refusals.specs.Reply.{Reply, granted}
use Rattle.refusals.specs.Table.{Gives}
use Rattle.refusals.proofs.Replies.{told_passed, decided, answer_determined}
use Rattle.refusals.proofs.Tests.{decides_less, decides_equal, decides_either}
use Rattle.refusals.proofs.Tables.{gives_then, gives_whole, gives_way}
use Rattle.outline.specs.Outline.{IsRecord}
use Rattle.outline.specs.Answer.{is_accepted}
use Rattle.outline.specs.Rules.{most_length}
use Rattle.outline.proofs.Demands.{sizes_give, records_give}
use Rattle.outline.proofs.WellFormed.{accepted_formed}
use Rattle.laws.proofs.Accepted.{formed_accepted}
use Rattle.choice.specs.Answer as choose
use Rattle.choice.specs.declared.answer.Figures.{Figures as Choice}
use Rattle.choice.specs.Demands.{TrueOfMarks, FoundBySearch, CallAt}
use Rattle.choice.proofs.Demands.{none_decided, short_decided, demand_2, demand_3, best_told}
use Rattle.revise.specs.Revised.{revised}
use Rattle.revise.specs.Answer.{Call, Figures, no_figures, new_outline, old_choice, new_choice, Answered, numbers_of, told, bad_revision, judged, figures, reply, marks_after, curve_after, work_after}
use Rattle.revise.specs.Demands.{revise_table, RevisedOrRefused, LengthReplaced, SameSetsFit, choice_in, MovementsTrue}
use Rattle.revise.specs.Inner.{Revisable}
use Rattle.revise.proofs.Answers.{passed_revisable, old_selected, new_selected}
use Rattle.revise.proofs.Bytes.{revised_length, byte_kept, new_length}
use Rattle.revise.proofs.Revisions.{fit_alike, revised_formed}

-- ---- the revised outline
module _ (o : List ℕ) (r n : ℕ) (is : IsRecord o r) (most : n ≤ most_length) where
  -- it is the given one with that length of that record
  pub length_replaced : LengthReplaced o (revised o r n) r n
  length_replaced = record { as_long = revised_length o r n is; others = byte_kept o r n is; length_is = new_length o r n is (omega arith) }

  -- and accepted where the given one is
  pub replaced_accepted : is_accepted o ≡ true → is_accepted (revised o r n) ≡ true
  replaced_accepted a = formed_accepted (revised o r n) (revised_formed o r n is most (accepted_formed o a))

-- the numbers told determine the answer
pub told_determined : (a b : Result Figures Refusal) → told a ≡ told b → a ≡ b
told_determined = answer_determined no_figures

module _ (c : Call) where
  -- what a call is judged is what its table gives
  judged_gives : Gives (revise_table c) (judged c)
  unfolding judged bad_revision
  judged_gives =
      gives_then (gives_way c.way)
      (gives_then (sizes_give c.outline)
      (gives_then (gives_whole 3 (decides_less choose.most_count c.count))
      (gives_then (records_give c.outline)
      (gives_then (gives_whole 15 (decides_either (decides_equal _ _) (decides_either (decides_less _ _) (decides_less _ _))))
      (gives_then (gives_whole 8 (short_decided (old_choice c)))
      (gives_whole 11 (none_decided c.outline c.way c.count)))))))

module _ (c : Call) {r : Reply Figures} {marks curve work : List ℕ} (x : Answered c r marks curve work) where
  -- demand 1: a choice on the revised outline, or exactly one refusal of the table, under its condition only; a refusal changes no byte of a buffer
  pub demand_1 : RevisedOrRefused c r marks curve work
  unfolding reply marks_after curve_after work_after
  demand_1 =
      decided _ _ _ numbers_of refl (judged_gives c) x.told_reply
      (λ h. rw (x.marks_written, x.curve_written, x.work_cleared, ne_eqb (judged c).number 0 (λ z. omega arith)))

  -- where the number told is 0
  module _ (z : r.number ≡ 0) where
    pub passes : (judged c).number ≡ 0
    unfolding reply
    passes = told_passed _ _ _ (sym (ap (λ (a : Reply Figures). a.number) x.told_reply) ∙ z)

    pub revisable : Revisable c
    revisable = passed_revisable c passes

    pub told_is : r ≡ granted (figures c)
    unfolding reply
    told_is = x.told_reply ∙ rw passes

    -- the revised outline is the given one with that length of that record, and accepted
    pub outline_revised : LengthReplaced c.outline (new_outline c) c.changed c.to
    outline_revised = length_replaced c.outline c.changed c.to revisable.is_record revisable.length_most

    pub outline_accepted : is_accepted (new_outline c) ≡ true
    outline_accepted =
        replaced_accepted c.outline c.changed c.to revisable.is_record revisable.length_most
        (formed_accepted c.outline revisable.solvable.searchable.formed)

    -- the same sets fit both, for every page count
    pub sets_same : SameSetsFit c.outline (new_outline c)
    sets_same = fit_alike c.outline c.changed c.to revisable.is_record

    -- what is told and left is what a call of `choose` on the revised outline, lent the same buffers, is told and leaves
    pub chosen : choose.Answered (new_choice c) (choice_in r) marks curve work
    unfolding figures choose.reply choose.marks_after choose.curve_after choose.work_after marks_after curve_after work_after
    chosen =
        let e = new_selected c passes in
        record {
          told_reply = rw (told_is, e);
          marks_written = x.marks_written ∙ rw (passes, e);
          curve_written = x.curve_written ∙ rw (passes, e);
          work_cleared = x.work_cleared ∙ rw (passes, e);
        }

    -- so demands 2 and 3 hold of it
    pub chosen_true : TrueOfMarks (new_choice c) (choice_in r) marks
    chosen_true = demand_2 (new_choice c) chosen z

    pub chosen_found : FoundBySearch (new_choice c) (choice_in r) marks curve
    chosen_found = demand_3 (new_choice c) chosen z

    -- `choose` on the given outline, lent the same buffers, is not refused either
    pub old_chosen : {old : Reply Choice} {m k w : List ℕ} → choose.Answered (old_choice c) old m k w → old.number ≡ 0
    unfolding choose.reply
    old_chosen y = ap (λ (a : Reply Choice). a.number) y.told_reply ∙ rw (old_selected c passes)

    -- `new_choice` is a call on the revised outline, at the same count and by the same way
    pub new_at : CallAt (new_outline c) c.count c.way (new_choice c)
    new_at = record { outline_is = refl; count_is = refl; way_is = refl }

    -- the best diversity moved from what any call of `choose` on the given outline is told to what is told here
    pub movements_true : {d : choose.Call} → CallAt c.outline c.count c.way d → {old : Reply Choice} {m k w : List ℕ}
        → choose.Answered d old m k w → old.number ≡ 0 → MovementsTrue c r old
    unfolding figures
    movements_true at {old} y f =
        record { best_true = rw (best_told at y f, best_told new_at chosen z, told_is); length_true = rw told_is }
