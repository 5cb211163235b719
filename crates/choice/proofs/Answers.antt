-- What a call keeps that no row of the table refuses, and the two ways to answer it.
use Rattle.std.specs.Prelude.{Ok, Err}
use Prim.Native.Nat.{ℕ, ◌≤◌}
use mathlib.Core.Path.{◌≡◌, sym, ap, ◌∙◌}
use mathlib.Core.Logic.{◌⊎◌}
use mathlib.Core.Bool.{true, false}
use mathlib.Core.List.{List, ◌++◌}
use native.Mathlib.Omega.{arith}
use lib.ListN.{length, take, drop, replicate, length-replicate}
use lib.Seq.{length-take-le}
use borrow.Author.Tests.{eqb-true}
use Rattle.lists.specs.Lists.{over}
use Rattle.refusals.specs.Refusals.{Ruling, refusal}
use Rattle.refusals.specs.declared.refusal.Refusal.{Refusal}
use Rattle.refusals.proofs.Refusals.{both_pass, refused_not_zero}
use Rattle.outline.specs.Answer.{checked}
use Rattle.choice.specs.Answer.{Call, call, Figures, Answered, told, work_taken, judged, is_selected, figures, reply}
use Rattle.choice.specs.Answer.{curve_of, marks_after, curve_after, work_after}
use Rattle.choice.specs.Inner.{first_rows, last_rows, Solvable, Solved}
use Rattle.choice.proofs.Rows.{rows_judged, FirstPassed, first_passed, last_passed}

module _ (c : Call) where
  both_parts : is_selected c ≡ true
      → ((first_rows c.outline c.count c.way).number ≡ 0) × ((last_rows c.outline c.count c.marks c.curve c.work).number ≡ 0)
  both_parts e = both_pass _ _ (ap (λ (t : Ruling). t.number) (sym (rows_judged c)) ∙ eqb-true _ _ e)

  first_part : is_selected c ≡ true → FirstPassed c.outline c.count c.way
  first_part e = first_passed _ _ _ (both_parts e).0

  pub way_known : is_selected c ≡ true → (c.way ≡ 0) ⊎ (c.way ≡ 1)
  way_known e = (first_part e).way_known

  -- the check accepts its outline
  pub selected_accepted : is_selected c ≡ true → (checked c.outline).number ≡ 0
  selected_accepted e = (first_part e).accepted

  pub selected_solvable : is_selected c ≡ true → Solvable c
  selected_solvable e = last_passed c (first_part e).formed (first_part e).low (both_parts e).1

  -- the same call with other numbers in as much work can be solved too, and what solves that solves this
  module _ {o work : List ℕ} (same : o ≡ c.outline) (as_long : length work ≡ length c.work) where
    pub solvable_again : Solvable c → Solvable (call o c.count c.way c.marks c.curve work)
    solvable_again s =
        let h = s.searchable in
        rw same (record {
          searchable = record { formed = h.formed; low = h.low; locked_fit = h.locked_fit; work_long = rw as_long h.work_long };
          marks_long = s.marks_long;
          curve_long = s.curve_long;
        })

    pub solved_again : {f : Figures} {marks curve cleared : List ℕ} → Solved (call o c.count c.way c.marks c.curve work) f marks curve cleared
        → Solved c f marks curve cleared
    unfolding figures curve_of
    solved_again s = record {
      told_figures = s.told_figures ∙ rw same;
      marks_written = s.marks_written ∙ rw same;
      curve_written = s.curve_written ∙ rw same;
      work_cleared = s.work_cleared ∙ ap (λ n. replicate n 0) as_long;
    }

  -- the call with the first n numbers of work
  abbrev pub with_work : ℕ → Call
  with_work n = record { outline = c.outline; count = c.count; way = c.way; marks = c.marks; curve = c.curve; work = take n c.work }

  -- where these are the numbers that it takes
  module _ (s : Solvable c) (n : ℕ) (taken : n ≡ work_taken c.outline c.count) where
    pub part_inside : n ≤ length c.work
    part_inside = omega (arith, s.searchable.work_long)

    pub part_long : length (take n c.work) ≡ n
    part_long = length-take-le n c.work part_inside

    pub part_solvable : Solvable (with_work n)
    part_solvable = record {
      searchable = record {
        formed = s.searchable.formed;
        low = s.searchable.low;
        locked_fit = s.searchable.locked_fit;
        work_long = omega (arith, part_long);
      };
      marks_long = s.marks_long;
      curve_long = s.curve_long;
    }

  module _ (e : is_selected c ≡ true) (n : ℕ) (taken : n ≡ work_taken c.outline c.count) where
    -- a selection
    pub solved_answered : {f : Figures} {marks curve work : List ℕ} → Solved (with_work n) f marks curve work
        → Answered c (told (Ok f)) marks curve (work ++ drop n c.work)
    unfolding reply figures marks_after curve_after work_after curve_of over
    solved_answered s = record {
      told_reply = rw (e, s.told_figures);
      marks_written = rw e s.marks_written;
      curve_written = rw e s.curve_written;
      work_cleared = rw (e, s.work_cleared, part_long (selected_solvable e) n taken, ← taken, length-replicate);
    }

  -- a refusal
  pub refused_answered : (e : Refusal) → refusal e ≡ judged c → Answered c (told (Err e)) c.marks c.curve c.work
  unfolding reply marks_after curve_after work_after
  refused_answered e h =
      let number : is_selected c ≡ false = refused_not_zero e h in
      record {
        told_reply = rw (number, h);
        marks_written = rw number;
        curve_written = rw number;
        work_cleared = rw number;
      }
