-- A chain as it is written: a record after what is below it, and after the rest of its chain.
use Rattle.std.specs.Prelude.{if◌then◌else◌}
use Prim.Native.Nat.{ℕ, ◌+◌, ◌*◌, ◌-◌, ◌≤◌, ◌<◌}
use mathlib.Core.Path.{◌≡◌, sym, ap, ap₂, ◌∙◌}
use mathlib.Core.List.{List, ◌++◌}
use native.Mathlib.Omega.{arith}
use lib.Dec.{eqb}
use borrow.Author.Tests.{eq-eqb, ne_eqb}
use lib.ListN.{length, get_or, take}
use Rattle.lists.specs.Lists.{one, over, over_at}
use Rattle.lists.proofs.Buffers.{over_taken}
use Rattle.lists.proofs.Pieces.{over_nothing, over_both, over_before}
use Rattle.outline.specs.Inner.{numbers}
use Rattle.outline.specs.Outline.{branch, price, plate_field, record_bytes}
use Rattle.laws.specs.Forest.{Forest, empty, node, records_in, count_in, tree}
use Rattle.laws.proofs.Forest.{in_tree}
use Rattle.records.proofs.Records.{record_length}
use Rattle.canonical.specs.House.{smallest, link, written, house_form}
use Rattle.canonical.proofs.HouseForm.{house_length}
use Rattle.canonical.proofs.Laid.{written_length}
use Rattle.canonical.proofs.Sorting.{sorted_sum, sorted_records}
use Rattle.house.specs.Inner.{ordered_tree, InOrder, RecordFits, ForestFits, ForestWritten, ChainWritten, FormFits}
use Rattle.house.specs.declared.chains.Chains.{Chains}
use Rattle.house.proofs.Tables.{counts_itself, none_there, Begins, begins, records_from, records_from_is}

-- no chain
pub none_written : {o : List ℕ} {c : Chains} {r k : ℕ} {form : List ℕ} → r ≡ 0 → ChainWritten o c r k form form k
unfolding written
none_written {o} {c} {r} {k} {form} z F x = rw (none_there x.stands z) (record {
  form_is = sym (over_nothing (16 * (k - 1)) form);
  number_is = omega arith;
})

-- a chain is linked to if it has records
pub link_is : (k : ℕ) (F : Forest) → (if eqb k (k + records_in F) then 0 else k) ≡ link k F
link_is k empty = let same : k ≡ k + 0 = omega arith in ap (λ b. if◌then◌else◌ {A = ℕ} b 0 k) (eq-eqb k (k + 0) same)
link_is k (node r f n) = ap (λ b. if◌then◌else◌ {A = ℕ} b 0 k) (ne_eqb k (k + records_in (node r f n)) (λ e. omega arith))

-- a record with these links, where those are told by the numbers of what follows
abbrev pub linked_bytes : List ℕ → ℕ → ℕ → ℕ → ℕ → List ℕ
linked_bytes o r k below end =
    record_bytes (if eqb below end then 0 else below) (if eqb (k + 1) below then 0 else k + 1) (branch o r) (price o r) (plate_field o r)

module _ {o : List ℕ} {c : Chains} {F : Forest} {r k : ℕ} {form : List ℕ} (x : ForestFits o c F r k form) (low : 1 ≤ r) where
  abbrev parts : Begins c F r
  parts = begins x.stands low

  -- how many records there are, and which
  sizes : records_in F ≡ 1 + (records_in parts.members + records_in parts.rest)
  sizes = ap records_in parts.is

  counts : (q : ℕ) → count_in q F ≡ one (eqb q r) + (count_in q parts.members + count_in q parts.rest)
  counts q = ap (count_in q) parts.is

  -- what is below fits after the record, and the rest of the chain after that
  pub first_fits : ForestFits o c parts.members (get_or c.firsts r 0) (k + 1) form
  first_fits = record {
    long = x.long;
    stands = parts.first_stands;
    are_records = λ q p. x.are_records q (omega (arith, counts q));
    few = omega (arith, x.few, sizes);
    low = omega arith;
    room = omega (arith, x.room, sizes);
  }

  pub next_fits : {below : ℕ} {now : List ℕ} → below ≡ k + 1 + records_in parts.members → length now ≡ length form
      → ForestFits o c parts.rest (get_or c.nexts r 0) below now
  next_fits e h = record {
    long = x.long;
    stands = parts.next_stands;
    are_records = λ q p. x.are_records q (omega (arith, counts q));
    few = omega (arith, x.few, sizes);
    low = omega (arith, x.low);
    room = omega (arith, x.room, sizes);
  }

  pub own_fits : {now : List ℕ} → length now ≡ length form → RecordFits o r k now
  own_fits h = record {
    is_record = x.are_records r (omega (arith, counts r, counts_itself r));
    low = x.low;
    room = omega (arith, x.room, sizes);
  }

  -- a recursion along the links ends
  pub first_falls : records_from numbers c (get_or c.firsts r 0) < records_from numbers c r
  first_falls =
      omega (
        arith,
        sizes,
        x.few,
        records_from_is numbers x.stands (omega (arith, x.few)),
        records_from_is numbers parts.first_stands (omega (arith, x.few, sizes)),
      )

  pub next_falls : records_from numbers c (get_or c.nexts r 0) < records_from numbers c r
  next_falls =
      omega (
        arith,
        sizes,
        x.few,
        records_from_is numbers x.stands (omega (arith, x.few)),
        records_from_is numbers parts.next_stands (omega (arith, x.few, sizes)),
      )

  -- the record is put before them
  pub chain_written : {below end : ℕ} {mid late last : List ℕ} → ForestWritten o parts.members (k + 1) form mid below
      → ForestWritten o parts.rest below mid late end → last ≡ over_at (16 * (k - 1)) (linked_bytes o r k below end) late
      → ForestWritten o F k form last end
  unfolding written
  chain_written {below} {end} {mid} {late} a b e =
      let m = records_in parts.members in
      let text = written o (k + 1) parts.members in
      let more = written o (k + 1 + m) parts.rest in
      let own = record_bytes (link (k + 1 + m) parts.rest) (link (k + 1) parts.members) (branch o r) (price o r) (plate_field o r) in
      let l = x.low in
      let u = x.room in
      let s = sizes in
      let t = written_length o (k + 1) parts.members in
      let place : 16 * (k + 1 - 1) ≡ 16 * k = omega arith in
      let onward : 16 * (below - 1) ≡ 16 * k + length text = omega (arith, a.number_is) in
      let both : late ≡ over_at (16 * k) (text ++ more) form =
      b.form_is
      ∙ ap₂ (λ k' now. over_at (16 * (below - 1)) (written o k' parts.rest) now) a.number_is (a.form_is ∙ ap (λ i. over_at i text form) place)
      ∙ over_both (16 * k) (16 * (below - 1)) text more form (omega arith) onward in
      let links : linked_bytes o r k below end ≡ own =
      rw (b.number_is, a.number_is, link_is (k + 1 + m) parts.rest, link_is (k + 1) parts.members) in
      let before : 16 * k ≡ 16 * (k - 1) + length own =
      omega (arith, record_length (link (k + 1 + m) parts.rest) (link (k + 1) parts.members) (branch o r) (price o r) (plate_field o r)) in
      record {
        form_is =
            rw parts.is (
            e ∙ ap₂ (λ bytes now. over_at (16 * (k - 1)) bytes now) links both
            ∙ over_before (16 * (k - 1)) (16 * k) own (text ++ more) form (omega arith) before
            );
        number_is = omega (arith, b.number_is, a.number_is);
      }

-- ---- the whole form
module _ {o form : List ℕ} (h : FormFits o form) where
  pub house_fits : {c : Chains} → InOrder o c → ForestFits o c (ordered_tree o) 1 1 form
  house_fits x =
      let all = sorted_records o h.formed (smallest o) in
      record {
        long = x.long;
        stands = x.stands;
        are_records = λ q p.
            in_tree o h.formed.linked 1 h.formed.linked.filled q
            (omega (arith, sorted_sum (smallest o) (λ r. one (eqb q r)) (tree o 1)));
        few = omega (arith, h.formed.size_most);
        low = omega arith;
        room = omega (arith, h.room);
      }

  pub house_written : {now : List ℕ} {end : ℕ} → ForestWritten o (ordered_tree o) 1 form now end → now ≡ over (house_form o) form
  unfolding house_form over over_at
  house_written w = w.form_is

  -- the house form is as long as the outline, so it is that many bytes of the form
  pub house_within : (now : List ℕ) → length now ≡ length form → length o ≤ length now
  house_within now e = omega (arith, h.room, h.formed.whole)

  pub house_taken : {now : List ℕ} → now ≡ over (house_form o) form → take (length o) now ≡ house_form o
  house_taken e = ap (take (length o)) e ∙ over_taken (house_form o) form (length o) (omega (arith, house_length o h.formed, h.formed.whole))
