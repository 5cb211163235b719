-- What a call of `write` is answered, row by row.
use Rattle.std.specs.Prelude.{Some, None, Ok, Err}
use Prim.Native.Nat.{ℕ, ◌+◌, ◌*◌, ◌/◌, ◌≤◌, ◌<◌}
use mathlib.Core.Path.{◌≡◌, refl, sym, ap, ◌∙◌}
use mathlib.Core.Bool.{true, false, ◌||◌}
use mathlib.Core.List.{List}
use native.Mathlib.Omega.{arith}
use lib.Dec.{eqb, ltb}
use lib.ListN.{length}
use borrow.Author.Tests.{lt-ltb, le-ltb}
use Rattle.lists.specs.Lists.{total, lowest, nonzero, over, Bytes}
use mathlib.Core.Logic.{◌⊎◌, inl, inr}
use Rattle.std.proofs.lemmas.Bool.{or_right}
use Rattle.lists.proofs.Walk.{nonzero_none}
use Rattle.refusals.specs.Refusals.{Ruling, passed, refusal, row}
use Rattle.refusals.specs.declared.refusal.Refusal.{Refusal}
use Rattle.refusals.proofs.Refusals.{refusal_not_zero, refused_not_zero, row_at_found, row_at_passed}
use Rattle.outline.specs.WellFormed.{WellFormed}
use Rattle.outline.specs.Outline.{size, records}
use Rattle.outline.specs.Answer.{checked}
use Rattle.outline.proofs.WellFormed.{accepted_formed}
use Rattle.writing.specs.Text.{outline_text, outline_pairs}
use Rattle.writing.specs.Answer.{Call, counts, told, too_short, judged, reply, text_after, pairs_after, Answered}
use Rattle.newick.specs.Trees.{unwritable}
use Rattle.writing.specs.Inner.{own_bytes, Writable}
use Rattle.writing.proofs.OwnBytes.{text_length, most_written, text_few}
use Rattle.newick.proofs.Plain.{Plain}
use Rattle.writing.proofs.Priced.{pairs_count}
use Rattle.writing.proofs.Demands.{plain_by}
use Rattle.outline.specs.Rules.{taxa}

module _ (c : Call) (small : Bytes c.outline) where
  refused_by : (e : Refusal) → judged c ≡ refusal e → Answered c (told (Err e)) c.text c.pairs
  unfolding reply text_after pairs_after
  refused_by e h =
      let off : eqb (judged c).number 0 ≡ false = refused_not_zero e (sym h) in
      record { told_reply = rw (off, h); text_written = rw off; pairs_written = rw off; outline_bytes = small }

  -- the check refuses
  pub check_refused : (e : Refusal) → refusal e ≡ checked c.outline → Answered c (told (Err e)) c.text c.pairs
  unfolding judged
  check_refused e h = refused_by e (rw (← h, refusal_not_zero e))

  -- the check passes
  module _ (h : passed ≡ checked c.outline) where
    passes : checked c.outline ≡ passed
    passes = sym h

    pub formed_by : WellFormed c.outline
    formed_by = accepted_formed c.outline (ap (λ (t : Ruling). eqb t.number 0) passes)

    -- a record is unwritable
    pub place_refused : {p : ℕ} → Some p ≡ nonzero (lowest (unwritable c.outline) (records c.outline))
        → Answered c (told (Err (Refusal.Unwritable p))) c.text c.pairs
    unfolding judged records
    place_refused {p} e = refused_by (Refusal.Unwritable p) (rw (passes, row_at_found 13 (unwritable c.outline) (size c.outline) refl e))

    -- none is
    module _ (e : None ≡ nonzero (lowest (unwritable c.outline) (records c.outline))) where
      last_row : judged c ≡ row 9 (too_short c)
      unfolding judged records
      last_row = rw (passes, row_at_passed 13 (unwritable c.outline) (size c.outline) refl e)

      plain : Plain c.outline
      unfolding records
      plain = plain_by c.outline (ap (λ (t : Ruling). t.number) passes) (nonzero_none _ e)

      module _ {b : ℕ} (bytes : b ≡ total (own_bytes c.outline) (records c.outline)) where
        bytes_are : b + 1 ≡ length (outline_text c.outline)
        bytes_are = omega (arith, text_length c.outline formed_by.linked)

        pub bytes_few : b + 1 ≤ most_written
        bytes_few = omega (arith, bytes_are, text_few plain)

        module _ {k : ℕ} (count : k ≡ taxa c.outline) where
          pairs_are : 2 * k ≡ length (outline_pairs c.outline)
          pairs_are = omega (arith, pairs_count c.outline formed_by)

          short_is : (ltb (length c.text) (b + 1) || ltb (length c.pairs) (2 * k)) ≡ too_short c
          unfolding too_short
          short_is = rw (bytes_are, pairs_are)

          -- a buffer is short
          pub room_refused : (length c.text < b + 1) ⊎ (length c.pairs < 2 * k) → Answered c (told (Err Refusal.BufferTooShort)) c.text c.pairs
          room_refused s = refused_by Refusal.BufferTooShort (last_row ∙ ap (row 9) (sym short_is ∙ either_short s))
            where
              either_short : (length c.text < b + 1) ⊎ (length c.pairs < 2 * k) → (ltb (length c.text) (b + 1) || ltb (length c.pairs) (2 * k)) ≡ true
              either_short (inl h) = rw (lt-ltb (length c.text) (b + 1) h) refl
              either_short (inr h) = rw (lt-ltb (length c.pairs) (2 * k) h) (or_right (ltb (length c.text) (b + 1)) true refl)

          -- or there is room, and all is written
          module _ (roomy : b + 1 ≤ length c.text) (spare : 2 * k ≤ length c.pairs) where
            pub writable : Writable c.outline c.text c.pairs
            writable = record {
              accepted = ap (λ (t : Ruling). eqb t.number 0) passes;
              text_room = omega (arith, bytes_are);
              pairs_room = omega (arith, pairs_are);
            }

            pub all_written : {text pairs : List ℕ} → text ≡ over (outline_text c.outline) c.text → pairs ≡ over (outline_pairs c.outline) c.pairs
                → Answered c (told (Ok (counts (b + 1) k))) text pairs
            unfolding reply text_after pairs_after
            all_written d f =
                let enough : (ltb (length c.text) (b + 1) || ltb (length c.pairs) (2 * k)) ≡ false =
                rw (le-ltb (length c.text) (b + 1) roomy, le-ltb (length c.pairs) (2 * k) spare) in
                let none : judged c ≡ passed = last_row ∙ ap (row 9) (sym short_is ∙ enough) in
                let half : k ≡ length (outline_pairs c.outline) / 2 = omega (arith, pairs_are) in
                record { told_reply = rw (none, bytes_are, half); text_written = rw none d; pairs_written = rw none f; outline_bytes = small }
