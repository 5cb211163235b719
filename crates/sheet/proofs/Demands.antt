-- What is promised of every call of `sheet`: what its contract says of the answer and the sheet is what the words ask.
use Rattle.std.specs.Prelude.{Result}
use Prim.Native.Nat.{ℕ, zero, suc, ◌+◌, ◌*◌, ◌-◌, ◌≤◌, ◌<◌}
use mathlib.Core.Path.{◌≡◌, refl, sym, ap, subst, ◌∙◌}
use mathlib.Core.Logic.{◌⊎◌, ⊎_elim}
use mathlib.Core.Bool.{true, false, ◌||◌, ◌&&◌, not}
use mathlib.Core.List.{List}
use native.Mathlib.Omega.{arith}
use lib.Dec.{eqb, ltb}
use lib.ListN.{length, get_or, take, drop, length-take}
use lib.Seq.{get_or-take, take_all}
use borrow.Author.Tests.{ne_eqb, le-ltb}
use Rattle.lists.specs.Lists.{from, lowest, over}
use Rattle.lists.proofs.Buffers.{over_past}
use Rattle.lists.proofs.Walk.{none_lowest}
use Rattle.refusals.specs.declared.refusal.Refusal.{Refusal}
use Rattle.refusals.specs.Reply.{Reply, granted}
use Rattle.refusals.specs.Table.{Gives}
use Rattle.refusals.proofs.Replies.{told_passed, granted_told, decided, answer_determined}
use Rattle.refusals.proofs.Tests.{decides_less}
use Rattle.refusals.proofs.Tables.{gives_then, gives_passed, gives_whole, gives_lowest, gives_way, known_way}
use Rattle.outline.specs.Outline.{size, is_taxon, IsRecord}
use Rattle.outline.specs.Answer.{checked}
use Rattle.outline.proofs.Demands.{checked_gives}
use Rattle.diversity.specs.Diversity.{chosen, diversity, cost, chosen_taxa}
use Rattle.diversity.specs.Behind.{MarkAt, IsSet}
use Rattle.laws.proofs.Prefixes.{cost_step, diversity_step}
use Rattle.choice.specs.Answer as choose
use Rattle.choice.specs.declared.answer.Figures.{Figures as ChoiceFigures}
use Rattle.choice.proofs.Answers.{selected_accepted}
use Rattle.choice.proofs.Demands.{selected_row, demand_2, demand_3}
use Rattle.sheet.specs.Answer.{Call, Figures, no_figures, sums, Answered, numbers_of, told, marked_set, bad_mark, sheet_taken, judged, figures, reply, sheet_after}
use Rattle.sheet.specs.Demands.{sheet_table, ListedOrRefused, AddsUp, TrueRow, RowsGiven, HandedMarks}
use Rattle.sheet.specs.Sheet.{row_of, rows_of}
use Rattle.sheet.proofs.Answers.{way_known, outline_accepted, set_long, marked_is_set}
use Rattle.sheet.proofs.Opening.{quarters_opened}
use Rattle.sheet.proofs.Sums.{quarters_sum, diversity_sum, rows_long, row_over, kth_taxon}

-- the numbers told determine the answer
pub told_determined : (a b : Result Figures Refusal) → told a ≡ told b → a ≡ b
told_determined = answer_determined no_figures

module _ (c : Call) where
  -- what a call is judged is what its table gives
  judged_gives : Gives (sheet_table c) (judged c)
  unfolding judged
  judged_gives =
      gives_then (gives_way c.way)
      (gives_then (checked_gives c.outline)
      (gives_then (gives_whole 13 (decides_less (length c.marks) (size c.outline)))
      (gives_then (gives_lowest 13 (size c.outline) (bad_mark c.outline c.marks))
      (gives_whole 8 (decides_less (length c.sheet) (sheet_taken c))))))

module _ (c : Call) {r : Reply Figures} {sheet : List ℕ} (x : Answered c r sheet) where
  -- demand 1: the set is listed, or exactly one refusal of the table, under its condition only; a refusal leaves the sheet
  pub demand_1 : ListedOrRefused c r sheet
  unfolding reply sheet_after
  demand_1 =
      decided _ _ _ numbers_of refl (judged_gives c) x.told_reply
      (λ h. rw (x.sheet_written, ne_eqb (judged c).number 0 (λ z. omega arith)))

  -- where no row of the table holds, the number told is 0
  told_zero : (judged c).number ≡ 0 → r.number ≡ 0
  unfolding reply
  told_zero z = ap (λ (a : Reply Figures). a.number) (x.told_reply ∙ granted_told _ _ _ z)

  -- the number told is 0
  module _ (z : r.number ≡ 0) where
    passes : (judged c).number ≡ 0
    unfolding reply
    passes = told_passed _ _ _ (sym (ap (λ (a : Reply Figures). a.number) x.told_reply) ∙ z)

    told_sums :
        r ≡ granted (sums (chosen_taxa c.outline (marked_set c)) (cost c.outline (marked_set c)) (diversity c.outline c.way (marked_set c)))
    unfolding reply figures
    told_sums =
        let o = c.outline in
        let s = marked_set c in
        x.told_reply ∙ rw (passes, quarters_sum o s (set_long c passes), diversity_sum o s (set_long c passes) c.way)

    -- the sheet adds up
    pub adds_up : AddsUp c r
    adds_up = record {
      accepted = gives_passed (checked_gives c.outline) (outline_accepted c passes);
      way_known = way_known c passes;
      marked_is_set = marked_is_set c passes;
      rows_true = ap (λ (a : Reply Figures). a.figures.rows) told_sums;
      quarters_true = ap (λ (a : Reply Figures). a.figures.quarters) told_sums;
      diversity_true = ap (λ (a : Reply Figures). a.figures.diversity) told_sums;
    }

    sheet_is : sheet ≡ over (rows_of c.outline c.way (marked_set c)) c.sheet
    unfolding sheet_after
    sheet_is = x.sheet_written ∙ rw passes

    rows_are : length (rows_of c.outline c.way (marked_set c)) ≡ 3 * r.figures.rows
    rows_are = rows_long c.outline c.way (marked_set c) ∙ ap (λ k. 3 * k) (sym adds_up.rows_true)

    -- the row of each chosen taxon
    module _ (i : ℕ) (l : i < size c.outline) (e : chosen (marked_set c) (suc i) ≡ true) where
      number_at : (j : ℕ) → j < 3
          → get_or sheet (3 * chosen_taxa c.outline (take i (marked_set c)) + j) 0 ≡ get_or (row_of c.outline c.way (marked_set c) (suc i)) j 0
      number_at j h =
          let o = c.outline in
          let s = marked_set c in
          ap (λ xs. get_or xs (3 * chosen_taxa o (take i s) + j) 0) sheet_is ∙ row_over o c.way s i j l e h c.sheet

      row_true : TrueRow c sheet (suc i)
      unfolding row_of
      row_true =
          let o = c.outline in
          let s = marked_set c in
          let before : suc i - 1 ≡ i = omega arith in
          let k = chosen_taxa o (take i s) in
          let first : 3 * k ≡ 3 * k + 0 = omega arith in
          record {
            k = k;
            before = ap (λ n. chosen_taxa o (take n s)) before;
            its_plate = ap (λ n. get_or sheet n 0) first ∙ number_at 0 (omega arith);
            its_quarters = omega (arith, number_at 1 (omega arith), ap (λ n. cost o (take n s)) before, cost_step s i o);
            its_diversity =
                omega (arith, number_at 2 (omega arith), ap (λ n. diversity o c.way (take n s)) before, diversity_step s i o c.way);
            own_and_headings = number_at 1 (omega arith) ∙ quarters_opened o s (marked_is_set c passes) i l e;
          }

    pub rows_given : RowsGiven c r sheet
    rows_given = record {
      row_true = each;
      each_row = λ k l.
          kth_taxon c.outline (marked_set c) (size c.outline) k (omega arith)
          (omega (arith, adds_up.rows_true, ap (chosen_taxa c.outline) whole));
      rest =
          ap (drop (3 * r.figures.rows)) sheet_is ∙ over_past (rows_of c.outline c.way (marked_set c)) c.sheet (3 * r.figures.rows) rows_are;
    }
      where
        whole : take (size c.outline) (marked_set c) ≡ marked_set c
        whole = take_all (size c.outline) (marked_set c) (omega (arith, set_long c passes))

        each : (t : ℕ) → IsRecord c.outline t → chosen (marked_set c) t ≡ true → TrueRow c sheet t
        each zero is e = absurd (omega (arith, is.low))
        each (suc i) is e = row_true i (omega (arith, is.high)) e

-- ---- a set of taxa of an accepted outline is listed, where there is room
no_bad : (o marks : List ℕ) → IsSet o (take (size o) marks) → lowest (bad_mark o marks) (from 1 (size o)) ≡ 0
unfolding bad_mark
no_bad o marks x = none_lowest (bad_mark o marks) (size o) each
  where
    good : (r m : ℕ) → MarkAt o r m → (ltb 1 m || (eqb m 1 && not (is_taxon o r))) ≡ false
    good r m = ⊎_elim (λ (z : m ≡ 0). rw z) (λ (h : (m ≡ 1) × (is_taxon o r ≡ true)). rw (h.0, h.1))

    each : (r : ℕ) → 1 ≤ r → r ≤ size o → bad_mark o marks r ≡ false
    each r l u =
        let same = get_or-take (size o) marks (r - 1) 0 (omega arith) in
        good r (get_or marks (r - 1) 0) (subst (MarkAt o r) same (x.marks r l u))

module _ (c : Call) (accepted : (checked c.outline).number ≡ 0) (known : (c.way ≡ 0) ⊎ (c.way ≡ 1)) (x : IsSet c.outline (marked_set c))
    (room : sheet_taken c ≤ length c.sheet) where
  pub set_listed : (judged c).number ≡ 0
  unfolding judged
  set_listed =
      let long : size c.outline ≤ length c.marks = omega (arith, x.whole, length-take (size c.outline) c.marks) in
      rw (known_way known, accepted, le-ltb _ _ long, no_bad c.outline c.marks x, le-ltb _ _ room)

-- a choice's marks are accepted as they are, and the sums are the choice's cost and diversity
pub choice_listed : (c : choose.Call) {r : Reply ChoiceFigures} {marks curve work : List ℕ} → choose.Answered c r marks curve work → r.number ≡ 0
    → (d : Call) {t : Reply Figures} {sheet : List ℕ} → HandedMarks c r marks d → Answered d t sheet
    → t ≡ granted (sums r.figures.taxa r.figures.cost r.figures.diversity)
choice_listed c {r} {marks} x z d {t} h y =
    let true_of = demand_2 c x z in
    let taxa : chosen_taxa d.outline (marked_set d) ≡ r.figures.taxa = rw (h.outline_is, h.marks_are) (sym true_of.taxa_true) in
    let cost_is : cost d.outline (marked_set d) ≡ r.figures.cost = rw (h.outline_is, h.marks_are) (sym true_of.cost_true) in
    let diversity_is : diversity d.outline d.way (marked_set d) ≡ r.figures.diversity =
    rw (h.outline_is, h.way_is, h.marks_are) (sym true_of.diversity_true) in
    let passes =
    set_listed d (rw h.outline_is (selected_accepted c (selected_row c x z))) (rw h.way_is true_of.way_known)
    (rw (h.outline_is, h.marks_are) (demand_3 c x z).marked_is_set) (omega (arith, h.room, taxa)) in
    told_sums d y (told_zero d y passes) ∙ rw (taxa, cost_is, diversity_is)
