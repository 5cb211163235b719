-- What a call keeps that no row of the table refuses, and the two ways to answer it.
use Rattle.std.proofs.lemmas.Bool.{or_parts}
use Rattle.std.specs.Prelude.{Ok, Err}
use Prim.Native.Nat.{ℕ, ◌-◌, ◌≤◌}
use mathlib.Core.Path.{◌≡◌, refl, sym}
use mathlib.Core.Logic.{◌⊎◌, inl, inr}
use mathlib.Core.Bool.{Bool, true, false, ◌||◌, ◌&&◌, not, false≢true}
use mathlib.Core.List.{List}
use native.Mathlib.Omega.{arith}
use lib.Dec.{eqb, ltb}
use lib.ListN.{length, get_or}
use lib.Seq.{length-take-le, get_or-take}
use borrow.Author.Tests.{ltb-false, eqb-true, eqb-false, eq-eqb}
use Rattle.lists.specs.Lists.{over}
use Rattle.lists.proofs.Walk.{lowest_none}
use Rattle.refusals.specs.Refusals.{refusal, row_at}
use Rattle.refusals.specs.declared.refusal.Refusal.{Refusal}
use Rattle.refusals.proofs.Tables.{two_ways}
use Rattle.refusals.proofs.Refusals.{both_pass, row_fails, row_at_fails, refused_not_zero}
use Rattle.outline.specs.Outline.{size, is_taxon}
use Rattle.outline.specs.Answer.{checked}
use Rattle.outline.proofs.WellFormed.{accepted_formed}
use Rattle.diversity.specs.Behind.{MarkAt, IsSet}
use Rattle.measures.specs.Measures.{Measured}
use Rattle.choice.specs.Answer.{unknown}
use Rattle.measures.specs.declared.figures.Measure.{Measure}
use Rattle.sheet.specs.Answer.{Call, sums, Answered, bad_mark, marked_set, sheet_taken, judged, told, figures, reply, sheet_after}
use Rattle.sheet.specs.Inner.{Listable}
use Rattle.sheet.specs.Sheet.{rows_of}
use Rattle.sheet.proofs.Sums.{quarters_sum, diversity_sum}

-- a mark that is not bad may stand at its record
mark_good : (o : List ℕ) (r m : ℕ) (t : Bool) → is_taxon o r ≡ t → (b : Bool) → eqb m 1 ≡ b → (ltb 1 m || (b && not t)) ≡ false → MarkAt o r m
mark_good o r m true t true e h = inr (eqb-true m 1 e, t)
mark_good o r m false t true e h = absurd (false≢true (sym (or_parts (ltb 1 m) true h).1))
mark_good o r m a t false e h = let d = eqb-false m 1 e in inl (omega (arith, ltb-false 1 m (or_parts (ltb 1 m) false h).0))

module _ (c : Call) where
  -- the rows, one by one, where none holds
  record Passes : Type 0 where
    ways : unknown c.way ≡ false
    accepted : (checked c.outline).number ≡ 0
    long : size c.outline ≤ length c.marks
    good : (row_at 14 (bad_mark c.outline c.marks) (size c.outline)).number ≡ 0
    room : sheet_taken c ≤ length c.sheet

  rows_pass : (judged c).number ≡ 0 → Passes
  unfolding judged
  rows_pass z =
      let one = both_pass _ _ z in
      let eight = both_pass _ _ one.1 in
      let few = both_pass _ _ eight.1 in
      let bad = both_pass _ _ few.1 in
      record {
        ways = row_fails _ _ one.0;
        accepted = eight.0;
        long = ltb-false _ _ (row_fails _ _ few.0);
        good = bad.0;
        room = ltb-false _ _ (row_fails _ _ bad.1);
      }

  -- no row of the table holds
  module _ (z : (judged c).number ≡ 0) where
    pub way_known : (c.way ≡ 0) ⊎ (c.way ≡ 1)
    way_known = two_ways c.way (rows_pass z).ways

    pub outline_accepted : (checked c.outline).number ≡ 0
    outline_accepted = (rows_pass z).accepted

    pub marks_long : size c.outline ≤ length c.marks
    marks_long = (rows_pass z).long

    pub set_long : length (marked_set c) ≡ size c.outline
    set_long = length-take-le (size c.outline) c.marks marks_long

    -- the marks are those of a set of taxa
    pub marked_is_set : IsSet c.outline (marked_set c)
    unfolding bad_mark
    marked_is_set = record {
      whole = set_long;
      marks = λ r l u. rw (get_or-take (size c.outline) c.marks (r - 1) 0 (omega arith))
          (mark_good c.outline r (get_or c.marks (r - 1) 0) _ refl _ refl
          (lowest_none (bad_mark c.outline c.marks) (size c.outline) (row_at_fails 13 _ _ (rows_pass z).good) r l u));
    }

    pub listable : Listable c.outline (marked_set c) c.sheet
    listable = record { formed = accepted_formed c.outline (eq-eqb _ _ outline_accepted); is_set = marked_is_set; room = (rows_pass z).room }

    -- a listing
    pub listed_answered : {m : Measure} {sheet : List ℕ} → sheet ≡ over (rows_of c.outline c.way (marked_set c)) c.sheet
        → Measured c.outline (marked_set c) c.way m → Answered c (told (Ok (sums m.taxa m.cost m.diversity))) sheet
    unfolding reply figures sheet_after
    listed_answered w m =
        let quarters = quarters_sum c.outline (marked_set c) set_long in
        let diversities = diversity_sum c.outline (marked_set c) set_long c.way in
        record { told_reply = rw (z, quarters, diversities, m.taxa_is, m.cost_is, m.diversity_is); sheet_written = rw z w }

  -- a refusal
  pub refused_answered : (e : Refusal) → refusal e ≡ judged c → Answered c (told (Err e)) c.sheet
  unfolding reply sheet_after
  refused_answered e h =
      let number = refused_not_zero e h in
      record { told_reply = rw (number, h); sheet_written = rw number }
