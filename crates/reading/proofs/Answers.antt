-- What a call is answered, row by row.
use Rattle.std.specs.Prelude.{Ok, Err}
use Prim.Native.Nat.{ℕ, ◌*◌, ◌≤◌, ◌<◌}
use mathlib.Core.Path.{◌≡◌, refl, sym, ap, subst, ◌∙◌}
use mathlib.Core.Bool.{true, false, false≢true}
use mathlib.Core.List.{List}
use native.Mathlib.Omega.{arith}
use lib.Dec.{eqb}
use lib.ListN.{length, take, drop}
use lib.Seq.{take_at}
use borrow.Author.Tests.{lt-ltb, le-ltb}
use Rattle.lists.specs.Lists.{over, over_at}
use Rattle.refusals.specs.Refusals.{Ruling, passed, refusal, after}
use Rattle.refusals.specs.Reply.{Reply}
use Rattle.refusals.specs.declared.refusal.Refusal.{Refusal}
use Rattle.refusals.proofs.Refusals.{refusal_not_zero}
use Rattle.outline.specs.Outline.{size}
use Rattle.outline.specs.Answer.{record_rows}
use Rattle.newick.specs.Grammar.{part, Tree, most_bytes}
use Rattle.newick.specs.Layout.{count, layout}
use Rattle.newick.specs.Pairs.{price_in, bad_pairs}
use Rattle.newick.specs.Parsing.{Parsed, unread, tree, grown, parsed}
use Rattle.reading.specs.Scan.{is_tree}
use Rattle.reading.specs.Answer.{call, Figures, counted, told, rows_for, judged, reply, outline_after, Answered}
use Rattle.newick.specs.Inner.{plates_of}
use Rattle.reading.specs.Inner.{TreeDrafted, NotDrafted, no_tree, large_tree, place_rows, TreePlaced}
use Rattle.reading.specs.declared.draft.Draft.{Draft}
use Rattle.reading.specs.declared.flaw.Flaw.{Flaw}
use Rattle.newick.proofs.Regrown.{layout_plates}
use Rattle.newick.proofs.Ranges.{spells_in_range}
use Rattle.newick.proofs.Layouts.{rows_length}
use Rattle.newick.proofs.Spelling.{parsed_sound}
use Rattle.outline.specs.Rules.{most_records}

-- ---- rows 11, 9 and 5 to 8, for a drafted outline
module _ (o pairs outline : List ℕ) where
  place_refused : (e : Refusal) → refusal e ≡ place_rows o pairs (length outline) → TreePlaced o pairs outline (told (Err e)) outline
  place_refused e h =
      let f : eqb (place_rows o pairs (length outline)).number 0 ≡ false = sym (ap (λ (t : Ruling). eqb t.number 0) h) ∙ refusal_not_zero e in
      record { told_placed = rw (f, ← h); outline_placed = rw f }

  pub placed_bad : bad_pairs (plates_of o) pairs ≡ true → TreePlaced o pairs outline (told (Err Refusal.BadPairs)) outline
  placed_bad e = place_refused Refusal.BadPairs (unfold place_rows in rw e)

  module _ (e : bad_pairs (plates_of o) pairs ≡ false) where
    pub placed_short : length outline < length o → TreePlaced o pairs outline (told (Err Refusal.BufferTooShort)) outline
    placed_short h = place_refused Refusal.BufferTooShort (unfold place_rows in rw (e, lt-ltb (length outline) (length o) h))

    module _ (h : length o ≤ length outline) where
      rest : place_rows o pairs (length outline) ≡ record_rows o
      unfolding place_rows
      rest = rw (e, le-ltb (length outline) (length o) h)

      pub placed_refused : (r : Refusal) → refusal r ≡ record_rows o → TreePlaced o pairs outline (told (Err r)) outline
      placed_refused r f = place_refused r (f ∙ sym rest)

      pub placed_read : {left : List ℕ} → passed ≡ record_rows o → left ≡ over o outline → TreePlaced o pairs outline (told (Ok (counted (size o)))) left
      placed_read f d =
          let t : passed ≡ place_rows o pairs (length outline) = f ∙ sym rest in
          record { told_placed = rw (← t); outline_placed = rw (← t) d }

-- ---- the tree of a text, and its outline
parsed_short : (text : List ℕ) → length text ≤ most_bytes → parsed text ≡ grown text
unfolding parsed
parsed_short text h = rw (le-ltb most_bytes (length text) h)

parsed_long : (text : List ℕ) → most_bytes < length text → parsed text ≡ unread
unfolding parsed
parsed_long text h = rw (lt-ltb most_bytes (length text) h)

pub layout_length : (price : ℕ → ℕ) (t : Tree part) → length (layout price t) ≡ 16 * count t
unfolding layout
layout_length price t = rows_length price t 1 0

pub layout_size : (price : ℕ → ℕ) (t : Tree part) → size (layout price t) ≡ count t
layout_size price t = omega (arith, layout_length price t)

-- ---- rows 10 and 3, and the others for a tree of few records
rows_thick : (t : Tree part) (pairs : List ℕ) (room : ℕ) → most_records < count t → rows_for (tree t) pairs room ≡ refusal Refusal.TooManyRecords
unfolding rows_for
rows_thick t pairs room h = rw (lt-ltb most_records (count t) h)

rows_placed : (text : List ℕ) (t : Tree part) (pairs : List ℕ) (room : ℕ) → parsed text ≡ tree t → count t ≤ most_records
    → rows_for (tree t) pairs room ≡ place_rows (layout (price_in pairs) t) pairs room
unfolding rows_for place_rows
rows_placed text t pairs room e h =
    rw (
      le-ltb most_records (count t) h,
      layout_plates (price_in pairs) t (spells_in_range (parsed_sound t text e)) h,
      layout_length (price_in pairs) t,
    )

-- ---- a drafted tree
-- it begins with the tree's outline
begins : (pairs draft after : List ℕ) (n : ℕ) (t : Tree part) → n ≡ count t → after ≡ over_at 0 (layout (price_in pairs) t) draft
    → take (16 * n) after ≡ layout (price_in pairs) t
unfolding over over_at
begins pairs draft after n t c d =
    let o = layout (price_in pairs) t in
    ap (take (16 * n)) d ∙ take_at o (drop (length o) draft) (16 * n) (omega (arith, layout_length (price_in pairs) t))

-- ---- every way out
module _ (text pairs outline : List ℕ) where
  -- a refusal leaves the outline as it was
  refuses : (e : Refusal) → rows_for (parsed text) pairs (length outline) ≡ refusal e
      → Answered (call text pairs outline) (told (Err e)) outline
  unfolding judged reply outline_after
  refuses e h =
      let f : eqb (rows_for (parsed text) pairs (length outline)).number 0 ≡ false = ap (λ (t : Ruling). eqb t.number 0) h ∙ refusal_not_zero e in
      record { told_reply = rw (f, h); outline_written = rw f }

  unread_answered : parsed text ≡ unread → Answered (call text pairs outline) (told (Err Refusal.BadText)) outline
  unfolding rows_for
  unread_answered e = refuses Refusal.BadText (rw e)

  pub long_answered : most_bytes < length text → Answered (call text pairs outline) (told (Err Refusal.BadText)) outline
  long_answered h = unread_answered (parsed_long text h)

  module _ (h : length text ≤ most_bytes) where
    pub bad_answered : NotDrafted text Flaw.Malformed → Answered (call text pairs outline) (told (Err Refusal.BadText)) outline
    bad_answered (no_tree e) = unread_answered (parsed_short text h ∙ e)

    -- more records than 127 begin: a tree of too many, or none
    pub many_answered : NotDrafted text Flaw.TooMany → true ≡ is_tree (grown text)
        → Answered (call text pairs outline) (told (Err Refusal.TooManyRecords)) outline
    many_answered (large_tree g) f = go (grown text) refl f
      where
        go : (p : Parsed) → grown text ≡ p → true ≡ is_tree p → Answered (call text pairs outline) (told (Err Refusal.TooManyRecords)) outline
        go unread e f = absurd (false≢true (sym f))
        go (tree t) e f = refuses Refusal.TooManyRecords (rw (parsed_short text h, e) (rows_thick t pairs (length outline) (g t e)))

    pub none_answered : false ≡ is_tree (grown text) → Answered (call text pairs outline) (told (Err Refusal.BadText)) outline
    none_answered f = go (grown text) refl f
      where
        go : (p : Parsed) → grown text ≡ p → false ≡ is_tree p → Answered (call text pairs outline) (told (Err Refusal.BadText)) outline
        go unread e f = unread_answered (parsed_short text h ∙ e)
        go (tree t) e f = absurd (false≢true f)

    -- a tree of few records, judged and written
    pub placed_answered : {d : Draft} {r : Reply Figures} {left : List ℕ} → TreeDrafted pairs text d
        → TreePlaced (take (16 * d.cursor.records) d.bytes) pairs outline r left → Answered (call text pairs outline) r left
    unfolding judged reply outline_after
    placed_answered {d} {r} {left} k w =
        let t = k.tree_of in
        let p : parsed text ≡ tree t = parsed_short text h ∙ k.grown_is in
        let w' : TreePlaced (layout (price_in pairs) t) pairs outline r left =
        subst (λ o. TreePlaced o pairs outline r left) (begins pairs k.drafted.0 d.bytes d.cursor.records t k.counted k.drafted.2) w in
        record {
          told_reply = rw (p, rows_placed text t pairs (length outline) p (omega (arith, k.counted, d.cursor.few)), ← layout_size (price_in pairs) t) w'.told_placed;
          outline_written = rw (p, rows_placed text t pairs (length outline) p (omega (arith, k.counted, d.cursor.few))) w'.outline_placed;
        }
