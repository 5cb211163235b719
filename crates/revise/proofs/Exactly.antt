-- What is promised of a call of `revise` beside any call of `choose` on the given outline, at the same count and by the same way, whatever buffers
-- each was lent; it may be the call before, in the same buffers. Where the set that it marked spans the revised branch and the length rises,
-- the best rises by exactly the difference; where it does not span it and the length falls, the best stays; and that set stays chosen.
use Prim.Native.Nat.{ℕ, ◌≤◌}
use mathlib.Core.Path.{◌≡◌, refl, sym, ap, ◌∙◌}
use mathlib.Core.Bool.{Bool}
use mathlib.Core.List.{List}
use lib.ListN.{take, take-append-drop}
use Rattle.lists.specs.Lists.{over}
use Rattle.refusals.specs.Reply.{Reply}
use Rattle.outline.specs.Outline.{size}
use Rattle.diversity.specs.Diversity.{cost, chosen_taxa}
use Rattle.diversity.specs.Search.{optimum, best_diversity}
use Rattle.laws.specs.Locks.{locked_set}
use Rattle.laws.proofs.Alike.{Alike, alike_size, alike_cost, alike_taxa}
use Rattle.laws.proofs.Optimum.{optimum_set}
use Rattle.choice.specs.Answer as choose
use Rattle.choice.specs.declared.answer.Figures.{Figures as Choice}
use Rattle.choice.specs.Demands.{marked_set, TrueOfMarks, CallAt}
use Rattle.choice.proofs.Demands.{demand_2, spare_is_left, best_told, best_marked}
use Rattle.revise.specs.Spans.{spans}
use Rattle.revise.specs.Answer.{Call, Figures, new_outline, old_choice, new_choice, old_best, new_best, Answered, figures, marks_after}
use Rattle.revise.specs.Demands.{old_spans, SetStays, ExactlyAsMuch}
use Rattle.revise.specs.Inner.{Revisable}
use Rattle.revise.proofs.Bytes.{revised_alike, revised_price}
use Rattle.revise.proofs.Demands.{passes, revisable, told_is, chosen, chosen_true, new_at}
use Rattle.revise.proofs.Revisions.{rises_exactly, stays_exactly}
use Rattle.revise.proofs.Signs.{moved_alike, moved_nowhere}

module _ (c : Call) {r : Reply Figures} {marks curve work : List ℕ} (x : Answered c r marks curve work) (z : r.number ≡ 0)
    {d : choose.Call} (at : CallAt c.outline c.count c.way d) {old : Reply Choice} {before k w : List ℕ} (y : choose.Answered d old before k w)
    (f : old.number ≡ 0) where
  abbrev best : List ℕ
  best = optimum c.outline c.way c.count

  can_revise : Revisable c
  can_revise = revisable c x z

  fit : cost c.outline (locked_set c.outline) ≤ c.count
  fit = can_revise.solvable.searchable.locked_fit

  before_is : marked_set (old_choice c) before ≡ best
  before_is = best_marked at y f

  before_true : TrueOfMarks d old before
  before_true = demand_2 d y f

  old_told : old.figures.diversity ≡ best_diversity c.outline c.way c.count
  old_told = best_told at y f

  new_told : r.figures.choice.diversity ≡ best_diversity (new_outline c) c.way c.count
  new_told = best_told (new_at c x z) (chosen c x z) z

  spans_best : {b : Bool} → old_spans c before ≡ b → spans c.outline c.way best c.changed ≡ b
  spans_best s = ap (λ t. spans c.outline c.way t c.changed) (sym before_is) ∙ s

  -- where the search on the revised outline ends with the same set: that set is marked again, and its cost, number of taxa and spare are told
  -- again
  module _ (same : optimum (new_outline c) c.way c.count ≡ best) where
    alike : Alike c.outline (new_outline c)
    alike = revised_alike c.outline c.changed c.to can_revise.is_record

    now_is : marked_set (new_choice c) marks ≡ best
    now_is = best_marked (new_at c x z) (chosen c x z) z ∙ same

    -- a measure of sets that is the same on both outlines is told as before, of the set that is marked
    told_stays : (measure : List ℕ → List ℕ → ℕ) → measure (new_outline c) best ≡ measure c.outline best → {n m : ℕ}
        → n ≡ measure (new_outline c) (marked_set (new_choice c) marks) → m ≡ measure d.outline (marked_set d before) → n ≡ m
    told_stays measure e p q = p ∙ ap (measure (new_outline c)) now_is ∙ e ∙ sym (q ∙ rw (at.outline_is, before_is) refl)

    cost_stays : r.figures.choice.cost ≡ old.figures.cost
    cost_stays =
        told_stays cost (alike_cost alike (revised_price c.outline c.changed c.to can_revise.is_record) best)
        (chosen_true c x z).cost_true before_true.cost_true

    taxa_stay : r.figures.choice.taxa ≡ old.figures.taxa
    taxa_stay = told_stays chosen_taxa (alike_taxa alike best) (chosen_true c x z).taxa_true before_true.taxa_true

    spare_stays : r.figures.choice.spare ≡ old.figures.spare
    spare_stays = spare_is_left (new_choice c) (chosen c x z) z ∙ rw (cost_stays, ← at.count_is) (sym (spare_is_left d y f))

    -- the marks that the old choice left are written over themselves
    buffer_stays : c.marks ≡ before → marks ≡ before
    unfolding marks_after over
    buffer_stays lent =
        x.marks_written
        ∙ rw (passes c x z, lent, same, (optimum_set c.outline c.way c.count fit).whole, ← before_is) (take-append-drop (size c.outline) before)

    set_stays : SetStays c r marks old before
    set_stays = record {
      same_set = ap (λ n. take n marks) (sym (alike_size alike)) ∙ now_is ∙ sym before_is;
      same_cost = cost_stays;
      same_taxa = taxa_stay;
      same_spare = spare_stays;
      same_buffer = buffer_stays;
    }

  pub exactly_as_much : ExactlyAsMuch c r marks old before
  unfolding figures
  exactly_as_much = record {
    spanned_rises = λ s h.
        let (same, best) = rises_exactly c.outline c.changed c.to can_revise.is_record can_revise.length_most c.way c.count fit (spans_best s) h in
        record {
          moved_as_length = rw (told_is c x z) (moved_alike (old_best c) (new_best c) _ _ h best);
          diversity_rises = rw (new_told, old_told) best;
          set_stays = set_stays same;
        };
    unspanned_falls = λ s h.
        let (same, best) = stays_exactly c.outline c.changed c.to can_revise.is_record can_revise.length_most c.way c.count fit (spans_best s) h in
        record {
          moved_nowhere = rw (told_is c x z, best) (moved_nowhere (old_best c));
          diversity_stays = rw (new_told, old_told) best;
          set_stays = set_stays same;
        };
  }
