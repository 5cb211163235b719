-- What is promised of every call of `quick`: what its contract says of the answer and the marks is what the words ask.
use Rattle.std.specs.Prelude.{Result}
use Prim.Native.Nat.{ℕ, ◌≤◌}
use mathlib.Core.Path.{◌≡◌, refl, sym, ap, ap₂, ◌∙◌}
use mathlib.Core.Bool.{true}
use mathlib.Core.List.{List}
use native.Mathlib.Omega.{arith}
use lib.ListN.{length}
use lib.Seq.{take_at}
use borrow.Author.Tests.{ne_eqb}
use Rattle.lists.specs.Lists.{over}
use Rattle.refusals.specs.declared.refusal.Refusal.{Refusal}
use Rattle.refusals.specs.Reply.{Reply, granted}
use Rattle.refusals.specs.Table.{Gives}
use Rattle.refusals.proofs.Replies.{told_passed, decided, answer_determined}
use Rattle.refusals.proofs.Tests.{decides_less}
use Rattle.refusals.proofs.Tables.{gives_then, gives_whole}
use Rattle.outline.specs.Outline.{size, locked, IsRecord}
use Rattle.outline.proofs.Demands.{sizes_give, records_give}
use Rattle.diversity.specs.Diversity.{chosen, diversity, chosen_taxa}
use Rattle.laws.specs.Locks.{locked_set}
use Rattle.laws.proofs.Locks.{held_each, locked_taxa}
use Rattle.laws.proofs.Optimum.{greatest_diversity}
use Rattle.choice.specs.Answer as choose
use Rattle.choice.specs.declared.answer.Figures.{Figures as ChoiceFigures}
use Rattle.choice.specs.Demands.{CallAt}
use Rattle.choice.proofs.Demands.{none_decided, best_told}
use Rattle.quick.specs.Quick.{quick}
use Rattle.quick.specs.Answer.{Call, Figures, no_figures, Answered, numbers_of, told, most_picks, judged, quick_set, figures_of, reply, marks_after}
use Rattle.quick.specs.Demands.{quick_table, ChosenOrRefused, marked_set, TrueChoice, PicksMade, BestBetween, MorePicks}
use Rattle.quick.proofs.Answers.{outline_formed, locked_fit, quick_good}
use Rattle.quick.proofs.Picking.{Picking, quick_picking, quick_rises}
use Rattle.quick.proofs.Submodular.{ceiling_most}

-- the numbers told determine the answer
pub told_determined : (a b : Result Figures Refusal) → told a ≡ told b → a ≡ b
told_determined = answer_determined no_figures

module _ (c : Call) where
  -- what a call is judged is what its table gives
  judged_gives : Gives (quick_table c) (judged c)
  unfolding judged
  judged_gives =
      gives_then (sizes_give c.outline)
      (gives_then (gives_whole 3 (decides_less choose.most_count c.count))
      (gives_then (gives_whole 14 (decides_less most_picks c.picks))
      (gives_then (records_give c.outline)
      (gives_then (gives_whole 8 (decides_less (length c.marks) (size c.outline)))
      (gives_whole 11 (none_decided c.outline 0 c.count))))))

module _ (c : Call) {r : Reply Figures} {marks : List ℕ} (x : Answered c r marks) where
  -- demand 1: a choice, or exactly one refusal of the table, under its condition only; a refusal leaves the marks
  pub demand_1 : ChosenOrRefused c r marks
  unfolding reply marks_after
  demand_1 =
      decided _ _ _ numbers_of refl (judged_gives c) x.told_reply
      (λ h. rw (x.marks_written, ne_eqb (judged c).number 0 (λ z. omega arith)))

  -- the number told is 0
  module _ (z : r.number ≡ 0) where
    passes : (judged c).number ≡ 0
    unfolding reply
    passes = told_passed _ _ _ (sym (ap (λ (a : Reply Figures). a.number) x.told_reply) ∙ z)

    told_is : r ≡ granted (figures_of c.outline c.count (quick_set c))
    unfolding reply
    told_is = x.told_reply ∙ rw passes

    -- exactly the rule's picks are marked, after the locked taxa
    pub marked_is : marked_set c marks ≡ quick_set c
    unfolding marks_after over
    marked_is = rw (x.marks_written, passes) (take_at (quick_set c) _ (size c.outline) (quick_good c passes).0.whole)

    -- the marks are a set that fits and holds every locked taxon, and the numbers are its own
    pub true_choice : TrueChoice c r marks
    unfolding figures_of
    true_choice = record {
      marked_is_set = rw marked_is (quick_good c passes).0;
      marked_fits = rw marked_is (quick_good c passes).1;
      diversity_true = rw (told_is, marked_is);
      cost_true = rw (told_is, marked_is);
      taxa_true = rw (told_is, marked_is);
      ceiling_true = rw (told_is, marked_is);
    }

    -- each locked taxon is marked
    pub locked_marked : (t : ℕ) → IsRecord c.outline t → locked c.outline t ≡ true → chosen (marked_set c marks) t ≡ true
    locked_marked t i e = (held_each c.outline (marked_set c marks)).0 true_choice.marked_fits.locked_held t i.low i.high e

    -- at most so many taxa are picked, and fewer only where none is left that can be picked
    pub picks_made : PicksMade c r marks
    picks_made = record {
      most = omega (arith, true_choice.taxa_true, ap (chosen_taxa c.outline) marked_is, made.most, locked_taxa c.outline);
      ended = λ h t i. rw marked_is (made.ended (omega (arith, true_choice.taxa_true, ap (chosen_taxa c.outline) marked_is, locked_taxa c.outline)) t i);
    }
      where
        made : Picking c.outline c.count c.picks (locked_set c.outline) (quick_set c)
        made = quick_picking c.outline c.count (locked_fit c passes) c.picks

    -- the best diversity, as a call of `choose` is told it, is never below the choice's and never above its ceiling
    pub best_between : {d : choose.Call} → CallAt c.outline c.count 0 d → {best : Reply ChoiceFigures} {marks' curve work : List ℕ}
        → choose.Answered d best marks' curve work → best.number ≡ 0 → BestBetween r best
    best_between at {best} y e =
        let o = c.outline in
        let t = true_choice in
        let shown = best_told at y e in
        record {
          least = omega (arith, t.diversity_true, greatest_diversity o 0 c.count (marked_set c marks) t.marked_is_set t.marked_fits, shown);
          most = omega (
            arith,
            t.ceiling_true,
            ceiling_most o (outline_formed c passes).linked c.count (locked_fit c passes) (marked_set c marks) t.marked_is_set,
            shown,
          );
        }

-- more picks never lower the diversity
quick_of : {c d : Call} → MorePicks c d → quick_set d ≡ quick c.outline c.count d.picks
quick_of m = rw (m.outline_is, m.count_is)

pub more_picks : (c d : Call) → MorePicks c d → {r q : Reply Figures} {marks marks' : List ℕ} → Answered c r marks → r.number ≡ 0
    → Answered d q marks' → q.number ≡ 0 → r.figures.diversity ≤ q.figures.diversity
more_picks c d m {r} {q} x z y e =
    let first = (true_choice c x z).diversity_true ∙ ap (diversity c.outline 0) (marked_is c x z) in
    let second = (true_choice d y e).diversity_true ∙ ap₂ (λ o s. diversity o 0 s) m.outline_is (marked_is d y e ∙ quick_of m) in
    omega (arith, quick_rises c.outline c.count c.picks d.picks m.picks_more, first, second)
