-- What a call keeps that no row of the table refuses, and the two ways to answer it.
use Rattle.std.specs.Prelude.{Ok, Err}
use Prim.Native.Nat.{ℕ}
use mathlib.Core.Path.{◌≡◌, refl, sym, ap, ap₂, ◌∙◌}
use mathlib.Core.Logic.{◌⊎◌}
use mathlib.Core.Bool.{not}
use mathlib.Core.List.{List, ◌++◌}
use lib.Dec.{eqb, ltb}
use lib.ListN.{take, drop}
use borrow.Author.Tests.{eqb-true, eq-eqb, le-ltb, ltb-false, not-false}
use Rattle.lists.proofs.Walk.{lowest_none}
use Rattle.refusals.specs.Refusals.{Ruling, row, row_at, ◌▸◌, refusal}
use Rattle.refusals.specs.declared.refusal.Refusal.{Refusal}
use Rattle.refusals.proofs.Refusals.{both_pass, both_passes, row_fails, row_passes, row_at_fails, row_at_passes, refused_not_zero}
use Rattle.refusals.proofs.Tables.{two_ways, known_way}
use Rattle.refusals.specs.Reply.{Reply, granted}
use Rattle.choice.specs.declared.answer.Figures.{Figures as Choice}
use Rattle.outline.specs.Outline.{size}
use Rattle.outline.specs.Answer.{checked}
use Rattle.outline.specs.WellFormed.{WellFormed}
use Rattle.outline.proofs.WellFormed.{accepted_formed}
use Rattle.laws.proofs.Accepted.{formed_accepted}
use Rattle.laws.proofs.Alike.{alike_size}
use Rattle.choice.specs.Answer as choose
use Rattle.choice.specs.Answer.{most_count, unknown, work_taken, curve_of}
use Rattle.choice.specs.Inner.{last_rows, Searchable, Solvable}
use Rattle.choice.proofs.Answers.{part_solvable, solved_answered}
use Rattle.choice.proofs.Rows.{last_is, last_passed, last_passes, rows_passed}
use Rattle.range.specs.Prices.{NoDearer}
use Rattle.range.specs.Answer.{Call, call, Figures, high_choice, with_roof, Answered, told, bad_range, price_rows, judged, figures, reply, marks_after, curve_after, work_after}
use Rattle.range.specs.Inner.{Rangeable, RangeFound}
use Rattle.range.proofs.Differing.{none_bad, none_dearer}
use Rattle.range.proofs.Ranges.{dearer_alike, cheaper_formed, cheaper_fit}

-- ---- the rows
-- those of the buffers and the locked taxa are the last of choosing at high prices
pub rows_judged : (c : Call)
    → judged c
    ≡ (row 1 (unknown c.way)
    ▸ checked c.low
    ▸ checked c.high
    ▸ price_rows c.low c.high
    ▸ row 4 (ltb most_count c.count)
    ▸ last_rows c.high c.count c.marks c.curve c.work)
unfolding judged
rows_judged c = rw (last_is (high_choice c)) refl

-- where row 17 passes, on outlines that keep the rules
range_passed : (low high : List ℕ) → WellFormed low → WellFormed high → (price_rows low high).number ≡ 0 → NoDearer low high
unfolding price_rows
range_passed low high cheap dear z =
    let both = both_pass (row 17 (not (eqb (size high) (size low)))) _ z in
    none_dearer low high (eqb-true _ _ (not-false _ (row_fails _ _ both.0))) cheap.whole dear.whole
    (lowest_none (bad_range low high) (size low) (row_at_fails _ (bad_range low high) (size low) both.1))

-- and it passes on outlines that differ so
pub prices_pass : (low high : List ℕ) → NoDearer low high → (price_rows low high).number ≡ 0
unfolding price_rows
prices_pass low high d =
    both_passes (row 17 (not (eqb (size high) (size low)))) (row_at 17 (bad_range low high) (size low))
    (row_passes 17 _ (ap not (eq-eqb _ _ (alike_size (dearer_alike d)))))
    (row_at_passes 17 (bad_range low high) (size low) (λ r l u. none_bad low high d r (record { low = l; high = u })))

-- where no row holds
pub record Passed (c : Call) : Type 0 where
  pub way_known : (c.way ≡ 0) ⊎ (c.way ≡ 1)
  pub rangeable : Rangeable c

module _ (c : Call) where
  pub all_passed : (judged c).number ≡ 0 → Passed c
  all_passed z =
      let one = both_pass (row 1 (unknown c.way)) _ (ap (λ (t : Ruling). t.number) (sym (rows_judged c)) ∙ z) in
      let low = both_pass (checked c.low) _ one.1 in
      let high = both_pass (checked c.high) _ low.1 in
      let prices = both_pass (price_rows c.low c.high) _ high.1 in
      let four = both_pass (row 4 (ltb most_count c.count)) _ prices.1 in
      let cheap = accepted_formed c.low (eq-eqb _ _ low.0) in
      let dear = accepted_formed c.high (eq-eqb _ _ high.0) in
      record {
        way_known = two_ways c.way (row_fails _ _ one.0);
        rangeable = record {
          no_dearer = range_passed c.low c.high cheap dear prices.0;
          solvable = last_passed (high_choice c) dear (ltb-false _ _ (row_fails _ _ four.0)) four.1;
        };
      }

  -- the converse
  pub all_pass : (c.way ≡ 0) ⊎ (c.way ≡ 1) → Rangeable c → (judged c).number ≡ 0
  all_pass known h =
      let s = h.solvable in
      let passes : (o : List ℕ) → WellFormed o → (checked o).number ≡ 0 = λ o formed. eqb-true _ _ (formed_accepted o formed) in
      ap (λ (t : Ruling). t.number) (rows_judged c)
      ∙ both_passes (row 1 (unknown c.way)) _ (row_passes 1 (unknown c.way) (known_way known))
      (both_passes (checked c.low) _ (passes c.low (cheaper_formed h.no_dearer s.searchable.formed))
      (both_passes (checked c.high) _ (passes c.high s.searchable.formed)
      (both_passes (price_rows c.low c.high) _ (prices_pass c.low c.high h.no_dearer)
      (both_passes (row 4 (ltb most_count c.count)) _ (row_passes 4 _ (le-ltb _ _ s.searchable.low)) (last_passes (high_choice c) s)))))

  -- the call with the first n numbers of work
  abbrev pub with_work : ℕ → Call
  with_work n = call c.low c.high c.count c.way c.marks c.curve (take n c.work)

  module _ (z : (judged c).number ≡ 0) where
    high_solvable : Solvable (high_choice c)
    high_solvable = (all_passed z).rangeable.solvable

    -- no row of choosing at high prices holds either
    pub high_selected : (choose.judged (high_choice c)).number ≡ 0
    high_selected = rows_passed (high_choice c) (all_passed z).way_known high_solvable

    -- where n are the numbers of work that it takes
    module _ (n : ℕ) (taken : n ≡ work_taken c.high c.count) where
      pub part_rangeable : Rangeable (with_work n)
      part_rangeable =
          record { no_dearer = (all_passed z).rangeable.no_dearer; solvable = part_solvable (high_choice c) high_solvable n taken }

      -- a range
      pub ranged_answered : {f : Figures} {marks curve work : List ℕ} → RangeFound (with_work n) f marks curve work
          → Answered c (told (Ok f)) marks curve (work ++ drop n c.work)
      unfolding reply figures choose.reply marks_after curve_after work_after choose.marks_after choose.curve_after choose.work_after
      ranged_answered s =
          let e = high_selected in
          let y = solved_answered (high_choice c) (eq-eqb _ _ e) n taken s.solved in
          let chosen : _ ≡ choose.figures (high_choice c) = ap (λ (r : Reply Choice). r.figures) y.told_reply ∙ rw e in
          record {
            told_reply = ap granted (ap₂ with_roof chosen s.roof_is) ∙ rw z;
            marks_written = y.marks_written ∙ rw (z, e);
            curve_written = y.curve_written ∙ rw (z, e);
            work_cleared = y.work_cleared ∙ rw (z, e);
          }

  -- a refusal
  pub refused_answered : (e : Refusal) → refusal e ≡ judged c → Answered c (told (Err e)) c.marks c.curve c.work
  unfolding reply marks_after curve_after work_after
  refused_answered e h =
      let number = refused_not_zero e h in
      record {
        told_reply = rw (number, h);
        marks_written = rw number;
        curve_written = rw number;
        work_cleared = rw number;
      }

-- ---- finding
module _ (c : Call) (h : Rangeable c) where
  -- the best diversity at low prices can be found in the same work
  pub low_searchable : Searchable c.low c.count c.work
  low_searchable =
      let s = h.solvable.searchable in
      record {
        formed = cheaper_formed h.no_dearer s.formed;
        low = s.low;
        locked_fit = cheaper_fit h.no_dearer c.count s.locked_fit;
        work_long = rw (← alike_size (dearer_alike h.no_dearer)) s.work_long;
      }
