-- What is promised of every call of `range`: what its contract says of the answer and the buffers is what the words ask; and what holds, for all prices
-- between, of the sure set, of the best diversity and of calls of `choose`.
use Rattle.std.specs.Prelude.{Result}
use Prim.Native.Nat.{ℕ, ◌≤◌}
use mathlib.Core.Path.{◌≡◌, refl, sym, ap, subst, ◌∙◌}
use mathlib.Core.Logic.{◌≢◌, ◌⊎◌, ⊎_elim}
use mathlib.Core.Bool.{Bool, true, false}
use mathlib.Core.List.{List}
use lib.ListN.{length, length-replicate}
use native.Mathlib.Omega.{arith}
use native.Mathlib.Nat.{not-le_of_lt, le_trans}
use lib.Dec.{leb}
use borrow.Author.Tests.{ne_eqb, leb-true, leb-false}
use Rattle.refusals.specs.declared.refusal.Refusal.{Refusal}
use Rattle.lists.specs.Lists.{over}
use Rattle.lists.proofs.Buffers.{over_long}
use Rattle.refusals.specs.Refusals.{Ruling, after}
use Rattle.refusals.specs.Reply.{Reply, ruling_of, granted}
use Rattle.refusals.specs.Table.{Gives}
use Rattle.refusals.proofs.Replies.{ruling_told, decided, answer_determined}
use Rattle.refusals.proofs.Tests.{decides_less, decides_equal, decides_not}
use Rattle.refusals.proofs.Tables.{gives_then, gives_whole, gives_lowest, gives_way}
use Rattle.outline.specs.Outline.{size}
use Rattle.outline.specs.WellFormed.{WellFormed}
use Rattle.outline.proofs.Demands.{checked_gives}
use Rattle.diversity.specs.Diversity.{diversity, cost}
use Rattle.diversity.specs.Search.{optimum, best_diversity}
use Rattle.laws.specs.Locks.{locked_set}
use Rattle.laws.proofs.Accepted.{formed_accepted}
use Rattle.laws.proofs.Alike.{alike_size}
use Rattle.laws.proofs.Optimum.{optimum_set, blank_diversity}
use Rattle.choice.specs.Answer as choose
use Rattle.choice.specs.Answer.{most_count, work_taken, too_short, curve_of, diversity_at}
use Rattle.choice.specs.Inner.{Solvable}
use Rattle.choice.proofs.Columns.{columns_long}
use Rattle.choice.specs.declared.answer.Figures.{Figures as Choice}
use Rattle.choice.specs.Demands.{TooShort, TrueOfMarks, FoundBySearch, CallAt}
use Rattle.choice.proofs.Rows.{solvable_if, rows_passed}
use Rattle.choice.proofs.Demands.{none_decided, short_decided, told_solvable, demand_2, demand_3, best_told, best_marked}
use Rattle.range.specs.Prices.{NoDearer, PricesBetween}
use Rattle.range.specs.Answer.{Call, Figures, high_choice, no_figures, Answered, numbers_of, told, bad_range, price_rows, judged, figures, reply, marks_after, curve_after, work_after}
use Rattle.range.specs.Demands.{range_table, RangedOrRefused, choice_in, floor, roof, sure_set, FromFloorToRoof, SureAt, AsLong}
use Rattle.range.proofs.Answers.{Passed, all_passed, all_pass, high_selected}
use Rattle.range.proofs.Bounds.{judged_most_12}
use Rattle.range.proofs.Ranges.{dearer_alike, dearer_cost, cheaper_fit, cheaper_best, dear_set, dear_diversity, cheaper_formed, low_between, high_between}

-- ---- two calls of `choose`, the one at dearer prices and the other at cheaper, at the same count and by the same way, with whatever buffers
-- buffers that are not too short
long_enough : (c : choose.Call) → (TooShort c → ⊥) → too_short c ≡ false
long_enough c long = go (too_short c) refl
  where
    go : (b : Bool) → too_short c ≡ b → too_short c ≡ false
    go true e = absurd (long ((short_decided c).0 e))
    go false e = e

module _ {o p : List ℕ} (d : NoDearer o p) {count way : ℕ} {dear : choose.Call} (there : CallAt p count way dear) {t : Reply Choice} {m k w : List ℕ}
    (y : choose.Answered dear t m k w) (z : t.number ≡ 0) {cheap : choose.Call} (here : CallAt o count way cheap) {u : Reply Choice} {n l v : List ℕ}
    (x : choose.Answered cheap u n l v) where
  -- where there is a choice at the dearer prices, there is one at the cheaper
  pub cheaper_chosen : (TooShort cheap → ⊥) → u.number ≡ 0
  unfolding choose.reply
  cheaper_chosen long =
      let s = (told_solvable dear y z).searchable in
      let fit : cost p (locked_set p) ≤ count = rw (← there.outline_is, ← there.count_is) s.locked_fit in
      let low : count ≤ most_count = rw (← there.count_is) s.low in
      let known : (way ≡ 0) ⊎ (way ≡ 1) = rw (← there.way_is) (demand_2 dear y z).way_known in
      let selected =
      rows_passed cheap (rw here.way_is known)
      (solvable_if cheap (subst WellFormed (sym here.outline_is) (cheaper_formed d (subst WellFormed there.outline_is s.formed)))
      (rw here.count_is low) (rw (here.outline_is, here.count_is) (cheaper_fit d count fit)) (long_enough cheap long)) in
      ap (λ (a : Reply Choice). a.number) x.told_reply ∙ rw selected

  -- and its diversity is no less
  pub cheaper_told : u.number ≡ 0 → t.figures.diversity ≤ u.figures.diversity
  cheaper_told f =
      let fit : cost p (locked_set p) ≤ count = rw (← there.outline_is, ← there.count_is) (told_solvable dear y z).searchable.locked_fit in
      rw (best_told there y z, best_told here x f) (cheaper_best d count fit way)

-- ---- a call of `range`
-- the numbers told determine the answer
pub told_determined : (a b : Result Figures Refusal) → told a ≡ told b → a ≡ b
told_determined = answer_determined no_figures

module _ (c : Call) where
  -- what a call is judged is what its table gives
  judged_gives : Gives (range_table c) (judged c)
  unfolding judged price_rows
  judged_gives =
      gives_then (gives_way c.way)
      (gives_then (checked_gives c.low)
      (gives_then (checked_gives c.high)
      (gives_then (gives_then (gives_whole 16 (decides_not (decides_equal (size c.high) (size c.low)))) (gives_lowest 16 (size c.low) (bad_range c.low c.high)))
      (gives_then (gives_whole 3 (decides_less choose.most_count c.count))
      (gives_then (gives_whole 8 (short_decided (high_choice c)))
      (gives_whole 11 (none_decided c.high c.way c.count)))))))

module _ (c : Call) {r : Reply Figures} {marks curve work : List ℕ} (x : Answered c r marks curve work) where
  -- demand 1: a range, or exactly one refusal of the table, under its condition only; a refusal changes no byte of a buffer
  pub demand_1 : RangedOrRefused c r marks curve work
  unfolding reply marks_after curve_after work_after
  demand_1 =
      decided _ _ _ numbers_of refl (judged_gives c) x.told_reply
      (λ h. rw (x.marks_written, x.curve_written, x.work_cleared, ne_eqb (judged c).number 0 (λ z. omega arith)))

  number_is : r.number ≡ (judged c).number
  unfolding reply
  number_is = ap (λ (t : Ruling). t.number) (ap ruling_of x.told_reply ∙ ruling_told no_figures (judged c) (figures c) (judged_gives c))

  -- outlines that differ in prices only, with no low price above its high, never get 17
  pub never_17 : NoDearer c.low c.high → r.number ≢ 17
  never_17 d e = omega (arith, number_is, judged_most_12 c d)

  -- and no refusal, where a call of `choose` at high prices, at the same count and by the same way, is no refusal, and the buffers are long enough
  pub granted_if : NoDearer c.low c.high → {d : choose.Call} → CallAt c.high c.count c.way d → {t : Reply Choice} {m k w : List ℕ}
      → choose.Answered d t m k w → t.number ≡ 0 → (TooShort (high_choice c) → ⊥) → r.number ≡ 0
  granted_if prices {d} at y z long =
      let s = (told_solvable d y z).searchable in
      let solvable =
      solvable_if (high_choice c) (subst WellFormed at.outline_is s.formed) (rw (← at.count_is) s.low)
      (rw (← at.outline_is, ← at.count_is) s.locked_fit) (long_enough (high_choice c) long) in
      number_is ∙ all_pass c (rw (← at.way_is) (demand_2 d y z).way_known) (record { no_dearer = prices; solvable = solvable })

  -- where the number told is 0
  module _ (z : r.number ≡ 0) where
    passes : (judged c).number ≡ 0
    passes = sym number_is ∙ z

    passed : Passed c
    passed = all_passed c passes

    told_is : r ≡ granted (figures c)
    unfolding reply
    told_is = x.told_reply ∙ rw passes

    -- the outlines differ in prices only, and no low price is above its high
    pub prices_only : NoDearer c.low c.high
    prices_only = passed.rangeable.no_dearer

    -- what is told and left is what a call of `choose` at high prices, lent the same buffers, is told and leaves
    pub chosen : choose.Answered (high_choice c) (choice_in r) marks curve work
    unfolding figures choose.reply choose.marks_after choose.curve_after choose.work_after marks_after curve_after work_after
    chosen =
        let e = high_selected c passes in
        record {
          told_reply = rw (told_is, e);
          marks_written = x.marks_written ∙ rw (passes, e);
          curve_written = x.curve_written ∙ rw (passes, e);
          work_cleared = x.work_cleared ∙ rw (passes, e);
        }

    -- so demands 2 and 3 hold of it
    pub chosen_true : TrueOfMarks (high_choice c) (choice_in r) marks
    chosen_true = demand_2 (high_choice c) chosen z

    pub chosen_found : FoundBySearch (high_choice c) (choice_in r) marks curve
    chosen_found = demand_3 (high_choice c) chosen z

    high_at : CallAt c.high c.count c.way (high_choice c)
    high_at = record { outline_is = refl; count_is = refl; way_is = refl }

    floor_is : floor r ≡ best_diversity c.high c.way c.count
    floor_is = best_told high_at chosen z

    roof_is : roof r ≡ best_diversity c.low c.way c.count
    unfolding figures
    roof_is = ap (λ (a : Reply Figures). a.figures.roof) told_is

    sure_is : sure_set c marks ≡ optimum c.high c.way c.count
    sure_is = best_marked high_at chosen z

    solvable : Solvable (high_choice c)
    solvable = passed.rangeable.solvable

    fit : cost c.high (locked_set c.high) ≤ c.count
    fit = solvable.searchable.locked_fit

    -- the buffers are left as long as they were lent
    pub left_as_long : AsLong c marks curve work
    unfolding marks_after curve_after work_after curve_of
    left_as_long = record {
      marks_long = kept _ _ x.marks_written (rw (optimum_set c.high c.way c.count fit).whole solvable.marks_long);
      curve_long = kept _ _ x.curve_written (rw columns_long solvable.curve_long);
      work_long = kept _ _ x.work_cleared (rw length-replicate solvable.searchable.work_long);
    }
      where
        kept : (text buffer : List ℕ) {left : List ℕ} → left ≡ after (judged c) text buffer → length text ≤ length buffer
            → length buffer ≤ length left
        kept text buffer {left} e h = let is : left ≡ over text buffer = e ∙ rw passes in omega (arith, ap length is, over_long text buffer h)

    -- for all prices between
    module _ {mid : List ℕ} (at : PricesBetween c.low mid c.high) where
      mid_fit : cost mid (locked_set mid) ≤ c.count
      mid_fit = cheaper_fit at.to_high c.count fit

      pub sure_at : SureAt c r marks mid
      sure_at =
          let (set, fits) = dear_set at.to_high c.count fit c.way in
          record {
            accepted = formed_accepted mid (cheaper_formed at.to_high solvable.searchable.formed);
            is_set = rw sure_is set;
            fits = rw sure_is fits;
            cost_most = rw chosen_true.cost_true (dearer_cost at.to_high (sure_set c marks));
            diversity_is = ap (diversity mid c.way) sure_is ∙ dear_diversity at.to_high c.count fit c.way ∙ sym floor_is;
            best_between = record {
              floor_least = rw floor_is (cheaper_best at.to_high c.count fit c.way);
              roof_most = rw roof_is (cheaper_best at.from_low c.count mid_fit c.way);
            };
          }

      -- buffers that are as long as those of the call, or longer, are long enough for a call of `choose` there
      pub as_long_suffice : {m k w : List ℕ} → AsLong c m k w → TooShort (choose.call mid c.count c.way m k w) → ⊥
      as_long_suffice l =
          let same = alike_size (dearer_alike at.to_high) in
          ⊎_elim (λ h. omega (arith, solvable.marks_long, l.marks_long))
          (⊎_elim (λ h. omega (arith, solvable.curve_long, l.curve_long))
          (λ h. not-le_of_lt h (le_trans (rw same at solvable.searchable.work_long) l.work_long)))

      -- a call of `choose` there, at the same count and by the same way
      module _ {d : choose.Call} (here : CallAt mid c.count c.way d) {t : Reply Choice} {m k w : List ℕ} (y : choose.Answered d t m k w) where
        -- is no refusal, if its buffers are long enough
        pub between_chosen : (TooShort d → ⊥) → t.number ≡ 0
        between_chosen = cheaper_chosen at.to_high high_at chosen z here y

        -- and is told a diversity from floor to roof
        pub between_told : t.number ≡ 0 → FromFloorToRoof r t.figures.diversity
        between_told f = rw (best_told here y f) sure_at.best_between

      -- a call for a smaller count that is no refusal is told no less than the curve has for it
      pub column_told : {b : ℕ} → b ≤ c.count → {d : choose.Call} → CallAt mid b c.way d → {t : Reply Choice} {m k w : List ℕ}
          → choose.Answered d t m k w → t.number ≡ 0 → diversity_at curve b ≤ t.figures.diversity
      column_told {b} h here y f = rw ((chosen_found.columns b h).searched.0, best_told here y f) (go (leb (cost c.high (locked_set c.high)) b) refl)
        where
          go : (t : Bool) → leb (cost c.high (locked_set c.high)) b ≡ t → best_diversity c.high c.way b ≤ best_diversity mid c.way b
          go true e = cheaper_best at.to_high b (leb-true _ _ e) c.way
          go false e = rw (blank_diversity c.high c.way b (leb-false _ _ e)) (omega arith)

    -- so it is at high and at low prices
    pub ends_between : PricesBetween c.low c.low c.high × PricesBetween c.low c.high c.high
    ends_between = (low_between prices_only, high_between prices_only)

    pub floor_to_roof : floor r ≤ roof r
    floor_to_roof = rw floor_is (sure_at (high_between prices_only)).best_between.roof_most

    -- the roof is what such a call at low prices is told, and the floor what one at high prices is told
    pub roof_told : {d : choose.Call} → CallAt c.low c.count c.way d → {t : Reply Choice} {m k w : List ℕ} → choose.Answered d t m k w
        → t.number ≡ 0 → roof r ≡ t.figures.diversity
    roof_told here y f = roof_is ∙ sym (best_told here y f)

    pub floor_told : {d : choose.Call} → CallAt c.high c.count c.way d → {t : Reply Choice} {m k w : List ℕ} → choose.Answered d t m k w
        → t.number ≡ 0 → floor r ≡ t.figures.diversity
    floor_told here y f = floor_is ∙ sym (best_told here y f)
