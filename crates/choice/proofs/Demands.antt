-- The mission's three demands, for every call: what the contract of `choose` says of the answer and the buffers is what they ask.
use Rattle.std.specs.Prelude.{Result}
use Prim.Native.Nat.{ℕ, ◌+◌, ◌-◌, ◌≤◌}
use mathlib.Core.Path.{◌≡◌, refl, sym, ap, ◌∙◌}
use mathlib.Core.Bool.{Bool, true, false}
use mathlib.Core.Logic.Iff
use mathlib.Core.List.{List}
use native.Mathlib.Omega.{arith}
use lib.Dec.{leb}
use lib.ListN.{take}
use lib.Seq.{take_at}
use borrow.Author.Tests.{eq-eqb, ne_eqb, leb-true, leb-false}
use Rattle.lists.specs.Lists.{over}
use Rattle.refusals.specs.declared.refusal.Refusal.{Refusal}
use Rattle.refusals.specs.Reply.{Reply, granted}
use Rattle.refusals.specs.Table.{Gives}
use Rattle.refusals.proofs.Replies.{told_passed, decided, answer_determined}
use Rattle.refusals.proofs.Tests.{Decides, decides_less, decides_either}
use Rattle.refusals.proofs.Tables.{gives_then, gives_whole, gives_way}
use Rattle.outline.specs.Outline.{size, is_taxon, locked}
use Rattle.outline.proofs.Demands.{sizes_give, records_give}
use Rattle.diversity.specs.Diversity.{chosen, cost}
use Rattle.diversity.specs.Behind.{NoneFits}
use Rattle.diversity.specs.Headings.{prices_chosen, headings_opened, Free}
use Rattle.diversity.specs.Search.{optimum, none_fits, best_diversity, least_cost}
use Rattle.diversity.specs.Paths.{SubtreeLength, Ends}
use Rattle.laws.specs.Locks.{locked_set}
use Rattle.laws.proofs.Locks.{held_each, none_fits_lem}
use Rattle.laws.proofs.Optimum.{none_exactly, search_ends, optimum_set, optimum_fits, others_behind, greatest_diversity, least_cost_lem}
use Rattle.laws.proofs.Optimum.{shown_diversity, shown_cost, blank_diversity, blank_cost_lem}
use Rattle.laws.proofs.Spare.{spare_left}
use Rattle.laws.proofs.Subtrees.{diversity_subtree}
use Rattle.laws.proofs.Headings.{cost_opened}
use Rattle.laws.proofs.Free.{free_chosen}
use Rattle.choice.specs.Answer.{Call, Figures, no_figures, Answered, numbers_of, told, most_count, too_short, judged, is_selected}
use Rattle.choice.specs.Answer.{best_set, figures, reply, curve_of, diversity_at, cost_at, marks_after, curve_after, work_after}
use Rattle.choice.specs.Inner.{Solvable}
use Rattle.choice.specs.Demands.{TooShort, choose_table, SelectedOrRefused, marked_set, TrueOfMarks, Shown, some_set, no_set, TrueColumn, FoundBySearch, CallAt}
use Rattle.choice.proofs.Answers.{way_known, selected_solvable}
use Rattle.choice.proofs.Solving.{curve_diversity, curve_cost}

-- ---- what the numbers say of the answer itself
-- a selection tells 0, and its numbers are the answer's; a refusal tells its own number and place
pub told_determined : (a b : Result Figures Refusal) → told a ≡ told b → a ≡ b
told_determined = answer_determined no_figures

-- the search ends with nothing in hand exactly if no set fits
pub none_decided : (o : List ℕ) (way b : ℕ) → Decides (NoneFits o b) (none_fits o way b)
none_decided o way b = rw (none_exactly o way b) (Iff.trans (decides_less b (cost o (locked_set o))) (none_fits_lem o b))

-- a buffer is too short or none is
pub short_decided : (c : Call) → Decides (TooShort c) (too_short c)
unfolding too_short
short_decided c = decides_either (decides_less _ _) (decides_either (decides_less _ _) (decides_less _ _))

module _ (c : Call) where
  -- what a call is judged is what its table gives
  judged_gives : Gives (choose_table c) (judged c)
  unfolding judged
  judged_gives =
      gives_then (gives_way c.way)
      (gives_then (sizes_give c.outline)
      (gives_then (gives_whole 3 (decides_less most_count c.count))
      (gives_then (records_give c.outline)
      (gives_then (gives_whole 8 (short_decided c))
      (gives_whole 11 (none_decided c.outline c.way c.count))))))

module _ (c : Call) {r : Reply Figures} {marks curve work : List ℕ} (x : Answered c r marks curve work) where
  -- demand 1: a selection or exactly one refusal of the table, under its condition only; a refusal changes no byte of a buffer
  pub demand_1 : SelectedOrRefused c r marks curve work
  unfolding reply marks_after curve_after work_after
  demand_1 =
      decided _ _ _ numbers_of refl (judged_gives c) x.told_reply
      (λ h.
      let off : is_selected c ≡ false = ne_eqb (judged c).number 0 (λ z. omega arith) in
      rw (x.marks_written, x.curve_written, x.work_cleared, off))

  -- where the number told is 0, it is a selection
  module _ (z : r.number ≡ 0) where
    pub selected_row : is_selected c ≡ true
    unfolding reply
    selected_row = eq-eqb _ _ (told_passed _ _ _ (sym (ap (λ (r : Reply Figures). r.number) x.told_reply) ∙ z))

    told_is : r ≡ granted (figures c)
    unfolding reply
    told_is = x.told_reply ∙ rw selected_row

    -- what the call keeps
    pub told_solvable : Solvable c
    told_solvable = selected_solvable c selected_row

    -- the locked taxa fit by themselves
    fit : cost c.outline (locked_set c.outline) ≤ c.count
    fit = told_solvable.searchable.locked_fit

    marked_is : marked_set c marks ≡ best_set c
    unfolding marks_after over
    marked_is = rw (x.marks_written, selected_row) (take_at (best_set c) _ (size c.outline) (optimum_set c.outline c.way c.count fit).whole)

    curve_is : curve ≡ over (curve_of c) c.curve
    unfolding curve_after
    curve_is = x.curve_written ∙ rw selected_row

    -- demand 2: the numbers told are those of the marked set
    pub demand_2 : TrueOfMarks c r marks
    unfolding figures
    demand_2 = record {
      way_known = way_known c selected_row;
      diversity_true = rw (told_is, marked_is);
      cost_true = rw (told_is, marked_is);
      taxa_true = rw (told_is, marked_is);
    }

    -- and in the paper's words: the length of the smallest subtree that connects the marked taxa, rooted with the root
    pub demand_2_subtree : SubtreeLength c.outline (Ends c.outline c.way (marked_set c marks)) r.figures.diversity
    demand_2_subtree = rw demand_2.diversity_true (diversity_subtree _ told_solvable.searchable.formed.linked _ _)

    -- and in the request's words: the marked taxa's prices, and the price of each group that has one of them below it
    pub demand_2_headings : r.figures.cost ≡ prices_chosen c.outline (marked_set c marks) + headings_opened c.outline (marked_set c marks)
    demand_2_headings = demand_2.cost_true ∙ rw marked_is (cost_opened _ _ (optimum_set c.outline c.way c.count fit))

    column_diversity : (b : ℕ) → b ≤ c.count → diversity_at curve b ≡ best_diversity c.outline c.way b
    column_diversity b h = rw curve_is (curve_diversity c c.curve b h)

    column_cost : (b : ℕ) → b ≤ c.count → cost_at curve b ≡ least_cost c.outline c.way b
    column_cost b h = rw curve_is (curve_cost c c.curve b h)

    column_shown : (b : ℕ) → b ≤ c.count → Shown c curve b
    column_shown b h = go (leb (cost o (locked_set o)) b) refl
      where
        o : List ℕ
        o = c.outline

        go : (t : Bool) → leb (cost o (locked_set o)) b ≡ t → Shown c curve b
        go true e =
            let f = leb-true _ _ e in
            some_set (optimum o c.way b) (optimum_set o c.way b f) (optimum_fits o c.way b f)
            (sym (column_diversity b h ∙ shown_diversity o c.way b f)) (sym (column_cost b h ∙ shown_cost o c.way b f))
        go false e =
            let short = leb-false _ _ e in
            no_set ((none_fits_lem o b).0 short) (column_diversity b h ∙ blank_diversity o c.way b short) (column_cost b h ∙ blank_cost_lem o c.way b short)

    true_column : (b : ℕ) → b ≤ c.count → TrueColumn c curve b
    true_column b h =
        let o = c.outline in
        let d = column_diversity b h in
        let k = column_cost b h in
        record {
          searched = (d, k);
          shown = column_shown b h;
          greatest = λ t x f. rw d (greatest_diversity o c.way b t x f);
          least = λ t x f same. rw k (least_cost_lem o c.way b t x f (same ∙ d));
        }

    -- demand 3: exactly what the exhaustive search finds
    pub demand_3 : FoundBySearch c r marks curve
    unfolding figures
    demand_3 =
        let o = c.outline in
        let n = c.count in
        record {
          columns = true_column;
          marked = rw marked_is (search_ends o c.way n fit);
          marked_is_set = rw marked_is (optimum_set o c.way n fit);
          marked_fits = rw marked_is (optimum_fits o c.way n fit);
          told_marked = demand_2;
          diversity_is_shown = rw told_is (sym (column_diversity n (omega arith) ∙ shown_diversity o c.way n fit));
          cost_is_shown = rw told_is (sym (column_cost n (omega arith) ∙ shown_cost o c.way n fit));
          others = λ t x f d. rw marked_is (others_behind o c.way n t x f (λ e. d (e ∙ sym marked_is)));
        }

    -- every locked taxon is marked
    pub locked_marked : (r : ℕ) → 1 ≤ r → r ≤ size c.outline → locked c.outline r ≡ true → chosen (marked_set c marks) r ≡ true
    locked_marked = (held_each c.outline (marked_set c marks)).0 demand_3.marked_fits.locked_held

    -- the spare is the page count minus the cost
    pub spare_is_left : r.figures.spare ≡ c.count - r.figures.cost
    unfolding figures
    spare_is_left = rw (told_is, ← shown_cost c.outline c.way c.count fit) (spare_left c.outline c.way c.count fit)

    -- a free taxon is always marked where the headings above it are free too
    pub free_marked : (r : ℕ) → 1 ≤ r → r ≤ size c.outline → is_taxon c.outline r ≡ true → Free c.outline r
        → chosen (marked_set c marks) r ≡ true
    free_marked r l u t e = rw marked_is (free_chosen c.outline c.way c.count fit r l u t e)

-- so a call is told the best diversity of the exhaustive search, whatever buffers it is lent
pub best_told : {o : List ℕ} {count way : ℕ} {c : Call} → CallAt o count way c → {r : Reply Figures} {marks curve work : List ℕ}
    → Answered c r marks curve work → r.number ≡ 0 → r.figures.diversity ≡ best_diversity o way count
best_told {c = c} at x z =
    let f = demand_3 c x z in
    f.diversity_is_shown ∙ (f.columns c.count (omega arith)).searched.0 ∙ rw (at.outline_is, at.way_is, at.count_is)

-- and marks the set with which that search ends
pub best_marked : {o : List ℕ} {count way : ℕ} {c : Call} → CallAt o count way c → {r : Reply Figures} {marks curve work : List ℕ}
    → Answered c r marks curve work → r.number ≡ 0 → take (size o) marks ≡ optimum o way count
best_marked {c = c} at {marks = marks} x z =
    ap (λ o. take (size o) marks) (sym at.outline_is) ∙ marked_is c x z ∙ rw (at.outline_is, at.way_is, at.count_is) refl
