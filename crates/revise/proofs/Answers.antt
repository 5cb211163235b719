-- What a call keeps that no row of the table refuses, and the two ways to answer it.
use Rattle.std.proofs.lemmas.Bool.{or_parts}
use Rattle.std.specs.Prelude.{Ok, Err}
use Prim.Native.Nat.{ℕ, ◌+◌, ◌*◌, ◌≤◌}
use mathlib.Core.Path.{◌≡◌, refl, sym, ap, ap₂, ◌∙◌}
use mathlib.Core.Bool.{false}
use mathlib.Core.List.{List, ◌++◌}
use native.Mathlib.Omega.{arith}
use lib.ListN.{length, take, drop}
use borrow.Author.Tests.{ltb-false, eqb-false, eq-eqb}
use Rattle.lists.specs.Lists.{over}
use Rattle.lists.proofs.Buffers.{over_taken}
use Rattle.refusals.specs.Refusals.{Ruling, row, ◌▸◌, refusal}
use Rattle.refusals.specs.Reply.{Reply, granted}
use Rattle.refusals.specs.declared.refusal.Refusal.{Refusal}
use Rattle.refusals.proofs.Refusals.{both_pass, row_fails, refused_not_zero}
use Rattle.outline.specs.Outline.{branch, IsRecord}
use Rattle.outline.specs.Rules.{most_length}
use Rattle.laws.proofs.Alike.{alike_size}
use Rattle.laws.proofs.Optimum.{shown_diversity}
use Rattle.choice.specs.Answer as choose
use Rattle.choice.specs.declared.answer.Figures.{Figures as Choice}
use Rattle.choice.specs.Answer.{work_taken, curve_of}
use Rattle.choice.specs.Inner.{first_rows, last_rows, Solvable, Solved}
use Rattle.choice.proofs.Answers.{part_solvable, solved_answered}
use Rattle.choice.proofs.Rows.{first_then, last_is, FirstPassed, first_passed, last_passed, rows_passed}
use Rattle.revise.specs.Moved.{moved, MovesWith}
use Rattle.revise.specs.Answer.{Call, Figures, Moved, new_outline, old_choice, new_choice, old_best, new_best, movements, remade, Answered, told, bad_revision, judged, figures, reply, marks_after, curve_after, work_after}
use Rattle.revise.specs.Inner.{Revisable, Remade}
use Rattle.revise.proofs.Bytes.{revised_length, revised_alike}
use Rattle.revise.proofs.Revisions.{revised_fit, movement_alike, revised_formed}
use Rattle.revise.proofs.Signs.{both_still}

-- ---- the rows
-- row 16, and those of choosing that follow it
abbrev later_rows : Call → Ruling
later_rows c = row 16 (bad_revision c.outline c.changed c.to) ▸ last_rows c.outline c.count c.marks c.curve c.work

-- those of choosing, with row 16 between their two parts
pub rows_judged : (c : Call) → judged c ≡ (first_rows c.outline c.count c.way ▸ later_rows c)
unfolding judged
rows_judged c = rw (first_then c.outline c.count c.way (later_rows c), last_is (old_choice c)) refl

-- a record of the outline, and a length in its range
good_revision : {o : List ℕ} {r n : ℕ} → bad_revision o r n ≡ false → IsRecord o r × (n ≤ most_length)
unfolding bad_revision
good_revision {o} {r} {n} e =
    let one = or_parts _ _ e in
    let two = or_parts _ _ one.1 in
    let some = eqb-false r 0 one.0 in
    (record { low = omega arith; high = ltb-false _ _ two.0 }, ltb-false _ _ two.1)

module _ (c : Call) where
  -- no row of the table holds
  module _ (z : (judged c).number ≡ 0) where
    parts : ((first_rows c.outline c.count c.way).number ≡ 0) × ((later_rows c).number ≡ 0)
    parts = both_pass _ _ (ap (λ (t : Ruling). t.number) (sym (rows_judged c)) ∙ z)

    later : ((row 16 (bad_revision c.outline c.changed c.to)).number ≡ 0) × ((last_rows c.outline c.count c.marks c.curve c.work).number ≡ 0)
    later = both_pass _ _ parts.1

    first_part : FirstPassed c.outline c.count c.way
    first_part = first_passed _ _ _ parts.0

    pub passed_revisable : Revisable c
    passed_revisable =
        let good = good_revision (row_fails _ _ later.0) in
        record {
          solvable = last_passed (old_choice c) first_part.formed first_part.low later.1;
          is_record = good.0;
          length_most = good.1;
        }

-- ---- remaking
module _ (c : Call) (h : Revisable c) where
  -- what is copied to the beginning of a draft
  pub drafted : {draft : List ℕ} (buffer : List ℕ) → draft ≡ over (new_outline c) buffer → take (length c.outline) draft ≡ new_outline c
  drafted buffer e =
      ap (take (length c.outline)) e
      ∙ over_taken (new_outline c) buffer (length c.outline) (revised_length c.outline c.changed c.to h.is_record)

  -- the revised outline can be solved in the same buffers
  pub new_solvable : Solvable (new_choice c)
  new_solvable =
      let s = h.solvable in
      let same = alike_size (revised_alike c.outline c.changed c.to h.is_record) in
      record {
        searchable = record {
          formed = revised_formed c.outline c.changed c.to h.is_record h.length_most s.searchable.formed;
          low = s.searchable.low;
          locked_fit = revised_fit c.outline c.changed c.to h.is_record c.count s.searchable.locked_fit;
          work_long = rw same s.searchable.work_long;
        };
        marks_long = rw same s.marks_long;
        curve_long = s.curve_long;
      }

  -- solved, it tells its best diversity, which moves with the length
  module _ {marks curve cleared : List ℕ} {choice : Choice} (s : Solved (new_choice c) choice marks curve cleared) where
    new_shown : choice.diversity ≡ new_best c
    unfolding choose.figures
    new_shown =
        ap (λ (f : Choice). f.diversity) s.told_figures
        ∙ sym (shown_diversity _ c.way c.count (revised_fit c.outline c.changed c.to h.is_record c.count h.solvable.searchable.locked_fit))

    module _ {old from : ℕ} (d : old ≡ old_best c) (f : from ≡ branch c.outline c.changed) where
      pub moves_beside : MovesWith (moved old choice.diversity) (moved from c.to)
      moves_beside =
          rw (d, new_shown, f)
          (movement_alike c.outline c.changed c.to h.is_record h.length_most c.way c.count h.solvable.searchable.locked_fit)

      pub choice_remade : {m : Moved} → m.best ≡ moved old choice.diversity → m.length ≡ moved from c.to → MovesWith m.best m.length
          → Remade c (remade choice m) marks curve cleared
      choice_remade {m} p q w =
          record { solved = s; moved_is = ap₂ movements (p ∙ ap₂ moved d new_shown) (q ∙ ap (λ k. moved k c.to) f); moves_with = w }

-- ---- the two ways to answer it
module _ (c : Call) where
  -- the call with the first n numbers of work
  abbrev pub with_work : ℕ → Call
  with_work n = record {
    outline = c.outline;
    changed = c.changed;
    to = c.to;
    count = c.count;
    way = c.way;
    marks = c.marks;
    curve = c.curve;
    work = take n c.work;
  }

  -- where no row of revising holds, no row of choosing does, on the given outline and on the revised one
  pub old_selected : (judged c).number ≡ 0 → (choose.judged (old_choice c)).number ≡ 0
  old_selected z = rows_passed (old_choice c) (first_part c z).way_known (passed_revisable c z).solvable

  pub new_selected : (judged c).number ≡ 0 → (choose.judged (new_choice c)).number ≡ 0
  new_selected z = rows_passed (new_choice c) (first_part c z).way_known (new_solvable c (passed_revisable c z))

  module _ (z : (judged c).number ≡ 0) (n : ℕ) (taken : n ≡ work_taken c.outline c.count) where
    pub part_revisable : Revisable (with_work n)
    part_revisable =
        let r = passed_revisable c z in
        record { solvable = part_solvable (old_choice c) r.solvable n taken; is_record = r.is_record; length_most = r.length_most }

    new_taken : n ≡ work_taken (new_outline c) c.count
    new_taken =
        let r = passed_revisable c z in
        taken ∙ ap (λ k. 4 * ((k + 2) * (c.count + 1))) (sym (alike_size (revised_alike c.outline c.changed c.to r.is_record)))

    -- a choice remade
    pub remade_answered : {f : Figures} {marks curve work : List ℕ} → Remade (with_work n) f marks curve work
        → Answered c (told (Ok f)) marks curve (work ++ drop n c.work)
    unfolding reply figures choose.reply marks_after curve_after work_after choose.marks_after choose.curve_after choose.work_after
    remade_answered s =
        let e = new_selected z in
        let y = solved_answered (new_choice c) (eq-eqb _ _ e) n new_taken s.solved in
        let chosen : _ ≡ choose.figures (new_choice c) = ap (λ (r : Reply Choice). r.figures) y.told_reply ∙ rw e in
        record {
          told_reply = ap granted (ap₂ remade chosen s.moved_is) ∙ rw z;
          moves_with = s.moves_with;
          marks_written = y.marks_written ∙ rw (z, e);
          curve_written = y.curve_written ∙ rw (z, e);
          work_cleared = y.work_cleared ∙ rw (z, e);
        }

  -- a refusal
  pub refused_answered : (e : Refusal) → refusal e ≡ judged c → Answered c (told (Err e)) c.marks c.curve c.work
  unfolding reply marks_after curve_after work_after
  refused_answered e h =
      let number = refused_not_zero e h in
      record {
        told_reply = rw (number, h);
        moves_with = both_still;
        marks_written = rw number;
        curve_written = rw number;
        work_cleared = rw number;
      }
