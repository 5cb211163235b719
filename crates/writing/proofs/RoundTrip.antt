-- Reading what was written and writing what was read: laws of trees and of the two contracts, with no look into either's loops.
use Prim.Native.Nat.{ℕ, ◌*◌, ◌≤◌}
use mathlib.Core.Path.{◌≡◌, refl, sym, ap, ◌∙◌}
use mathlib.Core.Bool.{Bool, true, false, false≢true}
use mathlib.Core.List.{List}
use native.Mathlib.Omega.{arith}
use lib.Dec.{eqb}
use lib.ListN.{length, take}
use borrow.Author.Tests.{eqb-true, eqb-false, le-ltb}
use Rattle.lists.specs.Lists.{from, lowest, over, Bytes}
use Rattle.lists.proofs.Buffers.{over_taken}
use Rattle.lists.proofs.Walk.{lowest_holds}
use Rattle.refusals.specs.Refusals.{Ruling, passed}
use Rattle.refusals.specs.Reply.{Reply, granted}
use Rattle.refusals.proofs.Refusals.{both_pass}
use Rattle.refusals.proofs.Tables.{gives_passed}
use Rattle.outline.specs.Outline.{size}
use Rattle.outline.specs.Answer.{size_rows, record_rows, checked}
use Rattle.outline.proofs.Demands.{records_give}
use Rattle.diversity.specs.Order.{InTextOrder}
use Rattle.laws.proofs.Chains.{clade_size}
use Rattle.reading.specs.Answer as read
use Rattle.reading.specs.declared.answer.Figures.{Figures as ReadingFigures}
use Rattle.reading.specs.Demands.{TreeGiven}
use Rattle.newick.specs.Grammar.{part, Tree, Spells}
use Rattle.newick.specs.Layout.{count, layout}
use Rattle.newick.specs.Pairs.{price_in}
use Rattle.newick.specs.Parsing.{tree, parsed}
use Rattle.reading.proofs.Settled.{layout_settled}
use Rattle.writing.proofs.Reread.{regrown_passes}
use Rattle.writing.specs.Text.{outline_text, outline_pairs}
use Rattle.newick.specs.Trees.{tree_of}
use Rattle.writing.specs.Answer.{Call, Figures, judged, Answered}
use Rattle.newick.specs.Trees.{unwritable}
use Rattle.writing.specs.Demands.{Handed, Returned, GivenBack, HasRoom, WroteAlike}
use Rattle.reading.proofs.Demands.{tree_given, read_tree}
use Rattle.newick.proofs.Ordered.{own_layout}
use Rattle.newick.proofs.Plain.{Plain}
use Rattle.writing.proofs.Priced.{own_price, pairs_count, pairs_good}
use Rattle.newick.proofs.Ranges.{spells_in_range}
use Rattle.newick.proofs.Spelling.{parsed_complete}
use Rattle.newick.proofs.Traced.{tree_traced, traced_count}
use Rattle.writing.proofs.Demands.{judged_plain, number_is, told_counts, roomy, text_given}
use Rattle.outline.specs.Rules.{most_records, taxa}

-- no record is unwritable
writable_nowhere : {o : List ℕ} → Plain o → lowest (unwritable o) (from 1 (size o)) ≡ 0
writable_nowhere {o} plain = go (eqb (lowest (unwritable o) (from 1 (size o))) 0) refl
  where
    go : (b : Bool) → eqb (lowest (unwritable o) (from 1 (size o))) 0 ≡ b → lowest (unwritable o) (from 1 (size o)) ≡ 0
    go true e = eqb-true _ _ e
    go false e =
        let (low, high, is) = lowest_holds (unwritable o) (size o) (eqb-false _ _ e) in
        absurd (false≢true (sym (plain.writable _ (record { low = low; high = high })) ∙ is))

-- ---- where the records stand in text order, reading what was written gives back the same bytes
module _ (o : List ℕ) (plain : Plain o) (small : Bytes o) (accepted : checked o ≡ passed) (order : InTextOrder o) where
  tree_size : count (tree_of o) ≡ size o
  tree_size = traced_count (tree_traced o plain.formed.linked) ∙ clade_size o plain.formed.linked

  same_layout : layout (price_in (outline_pairs o)) (tree_of o) ≡ o
  same_layout = own_layout plain small (price_in (outline_pairs o)) (own_price o plain.formed) order

  -- no row of reading holds
  rows_pass : (room : ℕ) → length o ≤ room → read.rows_for (tree (tree_of o)) (outline_pairs o) room ≡ passed
  unfolding read.rows_for checked
  rows_pass room long =
      let fields = gives_passed (records_give o) (both_pass (size_rows o) (record_rows o) (ap (λ (t : Ruling). t.number) accepted)).1 in
      rw (
        le-ltb most_records (count (tree_of o)) (omega (arith, tree_size, plain.formed.size_most)),
        pairs_good o plain.formed,
        le-ltb room (16 * count (tree_of o)) (omega (arith, tree_size, plain.formed.whole)),
        same_layout,
      ) fields

  back : {c : read.Call} {r : Reply ReadingFigures} {outline : List ℕ} → parsed c.text ≡ tree (tree_of o) → c.pairs ≡ outline_pairs o
      → length o ≤ length c.outline → read.Answered c r outline → GivenBack o c r outline
  unfolding read.judged read.reply read.outline_after
  back {c} e f long x =
      let none = rows_pass (length c.outline) long in
      record {
        told_size = x.told_reply ∙ rw (e, f, none) (ap (λ n. granted (read.counted n)) tree_size);
        same_bytes = x.outline_written ∙ rw (e, f, none) (ap (λ p. over p c.outline) same_layout);
      }

-- of calls: what was written is handed to a call of `read`, with a buffer that suffices
pub same_bytes : {c : Call} {r : Reply Figures} {text pairs : List ℕ} → Answered c r text pairs → r.number ≡ 0 → InTextOrder c.outline
    → {d : read.Call} {s : Reply ReadingFigures} {outline : List ℕ} → Handed r text pairs d → length c.outline ≤ length d.outline
    → read.Answered d s outline → GivenBack c.outline d s outline
same_bytes {c} x z order {d} h long y =
    let given = text_given c x z in
    let spelled : Spells (tree_of c.outline) d.text = rw h.text_is given.spelled in
    back c.outline (judged_plain c (sym (number_is c x) ∙ z)) x.outline_bytes given.accepted order
    (parsed_complete (tree_of c.outline) d.text spelled) (h.pairs_are ∙ given.pairs_are) long y

-- whatever the order of its records: where what was written is read, it is as many records, of the same tree
pub same_tree : {c : Call} {r : Reply Figures} {text pairs : List ℕ} → Answered c r text pairs → r.number ≡ 0
    → {d : read.Call} {s : Reply ReadingFigures} {outline : List ℕ} → Handed r text pairs d → read.Answered d s outline → s.number ≡ 0
    → (s.figures.records ≡ size c.outline) × (tree_of (take (16 * s.figures.records) outline) ≡ tree_of c.outline)
same_tree {c} x z {d} h y e =
    let written = text_given c x z in
    let back = tree_given d y e in
    let spelled : Spells (tree_of c.outline) d.text = rw h.text_is written.spelled in
    let same : tree_of c.outline ≡ back.tree = back.only (tree_of c.outline) spelled in
    let linked = (judged_plain c (sym (number_is c x) ∙ z)).formed.linked in (
      back.records_are ∙ ap (λ (t : Tree part). count t) (sym same) ∙ traced_count (tree_traced c.outline linked) ∙ clade_size c.outline linked,
      read_tree d y e (tree_of c.outline) spelled,
    )

-- and it is read, where the buffer suffices
pub written_accepted : {c : Call} {r : Reply Figures} {text pairs : List ℕ} → Answered c r text pairs → r.number ≡ 0
    → {d : read.Call} {s : Reply ReadingFigures} {outline : List ℕ} → Handed r text pairs d → length c.outline ≤ length d.outline → read.Answered d s outline
    → (s.number ≡ 0) × (s.figures.records ≡ size c.outline) × (tree_of (take (16 * s.figures.records) outline) ≡ tree_of c.outline)
unfolding read.rows_for read.judged read.reply
written_accepted {c} x z {d} {s} h long y =
    let o = c.outline in
    let written = text_given c x z in
    let plain = judged_plain c (sym (number_is c x) ∙ z) in
    let spelled : Spells (tree_of o) d.text = rw h.text_is written.spelled in
    let some = traced_count (tree_traced o plain.formed.linked) ∙ clade_size o plain.formed.linked in
    let none : read.rows_for (tree (tree_of o)) (outline_pairs o) (length d.outline) ≡ passed =
    rw (
      le-ltb most_records (count (tree_of o)) (omega (arith, some, plain.formed.size_most)),
      pairs_good o plain.formed,
      le-ltb (length d.outline) (16 * count (tree_of o)) (omega (arith, some, plain.formed.whole)),
    ) (regrown_passes o plain) in
    let read_it : s.number ≡ 0 =
    ap (λ (a : Reply ReadingFigures). a.number) y.told_reply
    ∙ rw (parsed_complete (tree_of o) d.text spelled, h.pairs_are ∙ written.pairs_are, none) in
    let same = same_tree x z h y read_it in
    (read_it, same.0, same.1)

-- ---- what is read from an accepted text
module _ {c : read.Call} {r : Reply ReadingFigures} {outline : List ℕ} (x : read.Answered c r outline) (z : r.number ≡ 0) where
  given : TreeGiven c r outline
  given = tree_given c x z

  -- nothing but too little room stops a writing of it
  module _ (w : Call) (ret : Returned r outline w) where
    returned : Plain w.outline
    returned = rw (ret, given.begins) (layout_settled (price_in c.pairs) given.tree (spells_in_range given.spelled) (rw given.begins at given.accepted)).plain

    pub read_written : {s : Reply Figures} {text pairs : List ℕ} → Answered w s text pairs → HasRoom (length (outline_text w.outline)) (taxa w.outline) w
        → s.number ≡ 0
    unfolding judged
    read_written y room =
        let accepted : checked w.outline ≡ passed = rw ret given.accepted in
        let fits : length (outline_pairs w.outline) ≤ length w.pairs = omega (arith, pairs_count w.outline returned.formed, room.for_pairs) in
        number_is w y ∙ rw (accepted, writable_nowhere returned, roomy w room.for_text fits)

    -- what was read and written is read again, and is the same outline
    pub read_again : {s : Reply Figures} {text pairs : List ℕ} → Answered w s text pairs → s.number ≡ 0
        → {d : read.Call} {u : Reply ReadingFigures} {again : List ℕ} → Handed s text pairs d → length w.outline ≤ length d.outline
        → read.Answered d u again → GivenBack w.outline d u again
    read_again y e = same_bytes y e (rw ret given.in_order)

-- from any accepted text, a second writing equals the first: what was read is written, read again, and written again
pub second_writing : {c d : read.Call} {r q : Reply ReadingFigures} {outline again : List ℕ} {w v : Call} {s u : Reply Figures} {text pairs text' pairs' : List ℕ}
    → read.Answered c r outline → r.number ≡ 0
    → Returned r outline w → Answered w s text pairs → s.number ≡ 0
    → Handed s text pairs d → length w.outline ≤ length d.outline → read.Answered d q again
    → Returned q again v → HasRoom s.figures.bytes s.figures.pairs v → Answered v u text' pairs'
    → WroteAlike s text pairs u text' pairs'
second_writing {r = r} {q = q} {outline = outline} {w = w} {v = v} {s = s} x z ret y e h long p ret' room y' =
    let back = read_again x z w ret y e h long p in
    let first = text_given w y e in
    let many : q.figures.records ≡ size w.outline = ap (λ (a : Reply ReadingFigures). a.figures.records) back.told_size in
    let whole : length w.outline ≡ 16 * q.figures.records = omega (arith, (returned x z w ret).formed.whole) in
    let same : v.outline ≡ w.outline =
    ret' ∙ ap (take (16 * q.figures.records)) back.same_bytes ∙ over_taken w.outline _ (16 * q.figures.records) whole in
    let enough : HasRoom (length (outline_text v.outline)) (taxa v.outline) v =
    record {
      for_text = rw same (omega (arith, first.bytes_are, room.for_text));
      for_pairs = rw same (omega (arith, first.one_each, room.for_pairs));
    } in
    let zero = read_written p (ap (λ (a : Reply ReadingFigures). a.number) back.told_size) v ret' y' enough in
    let second = text_given v y' zero in
    record {
      told_alike = told_counts v y' zero ∙ rw same (sym (told_counts w y e));
      same_text = second.text_is ∙ rw same (sym first.text_is);
      same_pairs = second.pairs_are ∙ rw same (sym first.pairs_are);
    }
