-- What is promised of every call of `write`: what its contract says of the answer and the buffers is what the words ask.
use Rattle.std.specs.Prelude.{if◌then◌else◌, Result}
use Prim.Native.Nat.{ℕ, ◌*◌, ◌+◌, ◌/◌, ◌≤◌}
use mathlib.Core.Path.{◌≡◌, refl, sym, ap, subst, ◌∙◌}
use mathlib.Core.Bool.{Bool, true, false}
use mathlib.Core.List.{List}
use native.Mathlib.Omega.{arith}
use lib.Dec.{eqb}
use lib.ListN.{length, take, drop}
use borrow.Author.Tests.{eqb-true, eq-eqb, ne_eqb, le-ltb}
use Rattle.lists.specs.Lists.{from, lowest, over}
use Rattle.lists.proofs.Buffers.{over_taken, over_past}
use Rattle.lists.proofs.Walk.{lowest_none}
use Rattle.refusals.specs.Refusals.{Ruling, ruling, passed, row, row_at, ◌▸◌}
use Rattle.refusals.specs.declared.refusal.Refusal.{Refusal}
use Rattle.refusals.specs.Reply.{Reply, ruling_of, granted}
use Rattle.refusals.specs.Table.{FirstRow, here, later, Gives, gives_none, gives_first}
use Rattle.refusals.proofs.Refusals.{both_pass, row_at_fails}
use Rattle.refusals.proofs.Replies.{ruling_told, decided, answer_determined}
use Rattle.refusals.proofs.Tests.{decides_less, decides_either}
use Rattle.refusals.proofs.Tables.{gives_then, gives_passed, gives_whole, gives_lowest}
use Rattle.outline.specs.Outline.{size, plate}
use Rattle.outline.specs.Answer.{checked}
use Rattle.outline.specs.Demands.{check_table}
use Rattle.outline.proofs.WellFormed.{accepted_formed}
use Rattle.outline.proofs.Demands.{checked_gives}
use Rattle.reading.specs.Demands.{Pair}
use Rattle.writing.specs.Text.{outline_text, outline_pairs}
use Rattle.writing.specs.Answer.{Call, Figures, no_figures, numbers_of, told, figures, too_short, judged, reply, text_after, pairs_after, Answered}
use Rattle.newick.specs.Trees.{tree_of, unwritable}
use Rattle.writing.specs.Demands.{write_table, WrittenOrRefused, TextGiven, HasRoom}
use Rattle.writing.proofs.Canonical.{text_spells, text_dense}
use Rattle.writing.proofs.OwnBytes.{text_most, text_short}
use Rattle.reading.proofs.Pairing.{priced}
use Rattle.newick.proofs.Plain.{Plain, tree_in_range}
use Rattle.writing.proofs.Priced.{one_pair, own_price, pairs_tree, pairs_count}
use Rattle.outline.specs.Rules.{taxa}

-- the numbers told determine the answer
pub told_determined : (a b : Result Figures Refusal) → told a ≡ told b → a ≡ b
told_determined = answer_determined no_figures

-- ---- what a call is judged is what its table gives
module _ (c : Call) where
  judged_gives : Gives (write_table c) (judged c)
  unfolding judged too_short
  judged_gives =
      gives_then (checked_gives c.outline)
      (gives_then (gives_lowest 12 (size c.outline) (unwritable c.outline))
      (gives_whole 8 (decides_either (decides_less _ _) (decides_less _ _))))

  -- where no row holds, none of the first does
  judged_passes : (judged c).number ≡ 0 → ((checked c.outline).number ≡ 0) × (lowest (unwritable c.outline) (from 1 (size c.outline)) ≡ 0)
  unfolding judged
  judged_passes z =
      let rows = both_pass (checked c.outline) _ z in
      (rows.0, row_at_fails 12 _ _ (both_pass (row_at 13 (unwritable c.outline) (size c.outline)) _ rows.1).0)

-- an outline that is accepted, and that no row 13 stops
pub plain_by : (o : List ℕ) → (checked o).number ≡ 0 → lowest (unwritable o) (from 1 (size o)) ≡ 0 → Plain o
plain_by o accepted none =
    record {
      formed = accepted_formed o (eq-eqb _ _ accepted);
      writable = λ r i. lowest_none (unwritable o) (size o) none r i.low i.high;
    }

pub judged_plain : (c : Call) → (judged c).number ≡ 0 → Plain c.outline
judged_plain c z = let passes = judged_passes c z in plain_by c.outline passes.0 passes.1

-- where there is room, row 9 does not hold
pub roomy : (c : Call) → length (outline_text c.outline) ≤ length c.text → length (outline_pairs c.outline) ≤ length c.pairs
    → too_short c ≡ false
unfolding too_short
roomy c a b = rw (le-ltb _ _ a, le-ltb _ _ b)

-- the check never gives 9
never_nine : (o : List ℕ) → (checked o).number ≡ 9 → ⊥
never_nine o = given (checked_gives o)
  where
    first : {n p : ℕ} → FirstRow (check_table o) n p → n ≡ 9 → ⊥
    first (here h) e = omega arith
    first (later f (here h)) e = omega arith
    first (later f (later g (here h))) e = omega arith
    first (later f (later g (later i (here h)))) e = omega arith
    first (later f (later g (later i (later j (here h))))) e = omega arith
    first (later f (later g (later i (later j (later k (here h)))))) e = omega arith
    first (later f (later g (later i (later j (later k (later l x)))))) e = elim x [ ]

    given : {t : Ruling} → Gives (check_table o) t → t.number ≡ 9 → ⊥
    given (gives_none f) e = omega arith
    given (gives_first l f only) e = first f e

-- ---- the promises
module _ (c : Call) {r : Reply Figures} {text pairs : List ℕ} (x : Answered c r text pairs) where
  ruling_is : ruling_of r ≡ judged c
  unfolding reply
  ruling_is = ap ruling_of x.told_reply ∙ ruling_told _ _ _ (judged_gives c)

  pub number_is : r.number ≡ (judged c).number
  number_is = ap (λ (t : Ruling). t.number) ruling_is

  -- demand 1: an outline is written, or exactly one refusal of the table, under its condition only; a refusal changes neither buffer
  pub demand_1 : WrittenOrRefused c r text pairs
  unfolding reply text_after pairs_after
  demand_1 =
      decided _ _ _ numbers_of refl (judged_gives c) x.told_reply
      (λ h. rw (x.text_written, x.pairs_written, ne_eqb (judged c).number 0 (λ z. omega arith)))

  -- where number 0 is given, the counts are those of the outline's text and of its pairs
  pub told_counts : r.number ≡ 0 → r ≡ granted (figures c)
  unfolding reply
  told_counts z = let none : (judged c).number ≡ 0 = sym number_is ∙ z in x.told_reply ∙ rw none

  -- and these are written
  pub text_given : r.number ≡ 0 → TextGiven c r text pairs
  unfolding text_after pairs_after
  text_given z =
      let o = c.outline in
      let none : (judged c).number ≡ 0 = sym number_is ∙ z in
      let plain = judged_plain c none in
      let bytes_are : r.figures.bytes ≡ length (outline_text o) = ap (λ (a : Reply Figures). a.figures.bytes) (told_counts z) in
      let half : r.figures.pairs ≡ length (outline_pairs o) / 2 = ap (λ (a : Reply Figures). a.figures.pairs) (told_counts z) in
      let twice : length (outline_pairs o) ≡ 2 * r.figures.pairs = omega (arith, pairs_count o plain.formed) in
      let text_now : text ≡ over (outline_text o) c.text = x.text_written ∙ rw none in
      let pairs_now : pairs ≡ over (outline_pairs o) c.pairs = x.pairs_written ∙ rw none in
      let text_is : take r.figures.bytes text ≡ outline_text o = ap (take r.figures.bytes) text_now ∙ over_taken (outline_text o) c.text r.figures.bytes (sym bytes_are) in
      let pairs_are : take (2 * r.figures.pairs) pairs ≡ outline_pairs o =
      ap (take (2 * r.figures.pairs)) pairs_now ∙ over_taken (outline_pairs o) c.pairs (2 * r.figures.pairs) twice in
      record {
        accepted = gives_passed (checked_gives o) (judged_passes c none).0;
        bytes_are = bytes_are;
        text_is = text_is;
        spelled = rw text_is (text_spells (tree_in_range plain) (text_short plain));
        no_blank = rw text_is (text_dense (tree_of o));
        text_rest = ap (drop r.figures.bytes) text_now ∙ over_past (outline_text o) c.text r.figures.bytes (sym bytes_are);
        one_each = omega (arith, pairs_count o plain.formed);
        pairs_are = pairs_are;
        in_order = rw pairs_are (pairs_tree o plain.formed);
        own_price = λ q i e. rw pairs_are
            (subst (λ p. Pair (plate o q) p (outline_pairs o)) (own_price o plain.formed q i e)
            (priced (outline_pairs o) (plate o q) (one_pair o plain.formed q i e)));
        pairs_rest = ap (drop (2 * r.figures.pairs)) pairs_now ∙ over_past (outline_pairs o) c.pairs (2 * r.figures.pairs) twice;
      }

  -- ten bytes for each record, eight more for each taxon, and a pair for each taxon are always enough
  pub always_enough : HasRoom (10 * size c.outline + 8 * taxa c.outline) (taxa c.outline) c → r.number ≡ 9 → ⊥
  unfolding judged
  always_enough room nine = go (eqb (checked o).number 0) (eqb (lowest (unwritable o) (from 1 (size o))) 0) refl refl (sym number_is ∙ nine)
    where
      o : List ℕ
      o = c.outline

      go : (b d : Bool) → eqb (checked o).number 0 ≡ b → eqb (lowest (unwritable o) (from 1 (size o))) 0 ≡ d
          → (if b then (if d then passed else ruling 13 (lowest (unwritable o) (from 1 (size o)))) ▸ row 9 (too_short c) else checked o).number ≡ 9 → ⊥
      go true true e f nine =
          let plain = plain_by o (eqb-true _ _ e) (eqb-true _ _ f) in
          let text_fits : length (outline_text o) ≤ length c.text = omega (arith, text_most plain, room.for_text) in
          let pairs_fit : length (outline_pairs o) ≤ length c.pairs = omega (arith, pairs_count o plain.formed, room.for_pairs) in
          let none = rw (roomy c text_fits pairs_fit) at nine in
          omega arith
      go true false e f nine = omega arith
      go false d e f nine = never_nine o nine
