-- The house form of an accepted outline is accepted and is the same tree; its chains ascend, and its records stand in text order.
use Prim.Native.Nat.{ℕ, zero, suc, ◌+◌, ◌*◌, ◌/◌, ◌%◌, ◌≤◌, ◌<◌}
use mathlib.Core.Path.{◌≡◌, refl, sym, ap, subst, ◌∙◌}
use mathlib.Core.Bool.{Bool, true, false}
use mathlib.Core.List.{List, [], ◌∷◌, ◌++◌, append-nil}
use native.Mathlib.Omega.{arith}
use lib.Dec.{eqb}
use lib.ListN.{length, get_or}
use borrow.Author.Tests.{eqb-true, eqb-false, ne_eqb}
use Rattle.lists.specs.Lists.{one, from, total, Bytes}
use Rattle.outline.specs.Outline.{size, records, next, first, branch, price, plate_field, lock_bit, plate, is_taxon, record_bytes, bytes, IsRecord}
use Rattle.outline.specs.Rules.{naming, named, taxa_in, taxa}
use Rattle.outline.specs.WellFormed.{Later, Linked, Ranged, WellFormed}
use Rattle.outline.proofs.WellFormed.{accepted_formed}
use Rattle.diversity.specs.Order.{InTextOrder}
use Rattle.diversity.specs.Paths.{Parent, of_root, of_first, of_next}
use Rattle.laws.specs.Forest.{Forest, empty, node, records_in, tree}
use Rattle.laws.proofs.Accepted.{formed_accepted}
use Rattle.laws.proofs.Chains.{clade_root}
use Rattle.laws.proofs.Forest.{listed, sum_all, chain_listed}
use Rattle.laws.proofs.Subtrees.{parent_one}
use Rattle.laws.proofs.Sums.{occurs, occurs_once}
use Rattle.laws.proofs.Members.{Root, root_none, root_head, root_rest, root_alone, parent_first}
use Rattle.canonical.specs.SameTree.{Accepted, SameTree}
use Rattle.canonical.specs.House.{smallest, sorted, link, written, house_form}
use Rattle.canonical.specs.Rules.{Ascending}
use Rattle.canonical.proofs.Laid.{Entry, Laid, laid, laid_at, laid_named, laid_total, laid_listed, written_length}
use Rattle.canonical.proofs.Places.{At, at_here, at_below, at_rest, at_range, at_member, at_next, at_all, at_ranked, record_at, place_of, record_stands, place_stands, none_before, one_record, one_place}
use Rattle.canonical.proofs.Renumbering.{smallest_to}
use Rattle.canonical.proofs.Smallest.{member_record}
use Rattle.canonical.proofs.Sorting.{All, all_more, Full, sorted_sum, sorted_full, sorted_ranked, root_one, sorted_records, sorted_once}

-- ---- bytes
bytes_more : (x : ℕ) {xs : List ℕ} → x < 256 → Bytes xs → Bytes (x ∷ xs)
bytes_more x {xs} h b = record { small = all }
  where
    all : (i : ℕ) → get_or (x ∷ xs) i 0 < 256
    all zero = h
    all (suc i) = b.small i

bytes_both : (xs ys : List ℕ) → Bytes xs → Bytes ys → Bytes (xs ++ ys)
bytes_both [] ys a b = b
bytes_both (x ∷ xs) ys a b = bytes_more x (a.small 0) (bytes_both xs ys (record { small = λ i. a.small (suc i) }) b)

number_bytes : (k n : ℕ) → Bytes (bytes k n)
unfolding bytes
number_bytes zero n = record { small = λ i. omega arith }
number_bytes (suc k) n = bytes_more (n % 256) (omega arith) (number_bytes k (n / 256))

written_bytes : (o : List ℕ) (k : ℕ) (F : Forest) → Bytes (written o k F)
unfolding written record_bytes
written_bytes o k empty = record { small = λ i. omega arith }
written_bytes o k (node r f n) =
    bytes_both (record_bytes (link (k + 1 + records_in f) n) (link (k + 1) f) (branch o r) (price o r) (plate_field o r)) _
    (bytes_both (bytes 2 (link (k + 1 + records_in f) n)) _ (number_bytes 2 (link (k + 1 + records_in f) n))
    (bytes_both (bytes 2 (link (k + 1) f)) _ (number_bytes 2 (link (k + 1) f))
    (bytes_both (bytes 4 (branch o r)) _ (number_bytes 4 (branch o r))
    (bytes_both (bytes 4 (price o r)) _ (number_bytes 4 (price o r)) (number_bytes 4 (plate_field o r))))))
    (bytes_both (written o (k + 1) f) _ (written_bytes o (k + 1) f) (written_bytes o (k + 1 + records_in f) n))

pub house_length : (o : List ℕ) → WellFormed o → length (house_form o) ≡ 16 * size o
unfolding house_form
house_length o formed =
    written_length o 1 (sorted (smallest o) (tree o 1)) ∙ ap (λ n. 16 * n) (sorted_records o formed (smallest o))

module _ (o : List ℕ) (ac : Accepted o) where
  formed : WellFormed o
  formed = accepted_formed o ac.passes

  abbrev h : List ℕ
  h = house_form o

  -- the forest that is written
  abbrev S : Forest
  S = sorted (smallest o) (tree o 1)

  full : All (Full o) S
  full = sorted_full o formed (smallest o) 1 formed.linked.filled

  many : records_in S ≡ size o
  many = sorted_records o formed (smallest o)

  size_same : size h ≡ size o
  size_same = omega (arith, house_length o formed)

  stands : Laid o h 1 S
  unfolding house_form
  stands =
      laid o h formed ac.bytes full 1 (omega arith) (omega (arith, many, formed.size_most)) [] (sym (append-nil (written o 1 S)))

  -- ---- the renumbering
  to : ℕ → ℕ
  to j = record_at S 1 j

  back : ℕ → ℕ
  back r = place_of S 1 r

  -- a record of the house form: the record that stands there, with its members and the rest of its chain
  record Placed (j : ℕ) : Type 0 where
    pub members : Forest
    pub rest : Forest
    pub at : At S 1 j (to j) members rest

  placed : (j : ℕ) → IsRecord h j → Placed j
  unfolding to
  placed j i =
      let (g, m, a) = record_stands S 1 j i.low (omega (arith, i.high, many, size_same)) in
      record { members = g; rest = m; at = a }

  -- what stands at a number is its record
  to_is : {j r : ℕ} {g m : Forest} → At S 1 j r g m → to j ≡ r
  unfolding to
  to_is {j} a =
      let w = at_range a in
      let (g, m, b) = record_stands S 1 j w.low (omega (arith, w.high)) in
      one_record b a refl

  -- a link to a chain that comes later leads to a later record
  link_later : {j x : ℕ} (k : ℕ) (F : Forest) → j < k → k + records_in F ≤ 1 + records_in S → x ≡ link k F → Later h j x
  link_later k empty l u e = record { later = λ p. absurd (omega arith); most = omega arith }
  link_later k (node q f n) l u e = record { later = λ p. omega arith; most = omega (arith, many, size_same) }

  module _ {j r : ℕ} {g m : Forest} (a : At S 1 j r g m) where
    own : Full o r g
    own = at_all full a

    entry : Entry o h j r (link (j + 1 + records_in g) m) (link (j + 1) g)
    entry = laid_at stands a

    number : IsRecord h j
    number = let w = at_range a in record { low = w.low; high = omega (arith, w.high, many, size_same) }

    -- its links lead to later records
    first_after : Later h j (first h j)
    first_after = link_later (j + 1) g (omega arith) (omega (arith, (at_range a).high)) entry.first_is

    next_after : Later h j (next h j)
    next_after = link_later (j + 1 + records_in g) m (omega arith) (at_range a).high entry.next_is

    -- a taxon is one still: it has no members
    taxon_same : is_taxon h j ≡ is_taxon o r
    taxon_same = go g own entry.first_is (is_taxon o r) refl
      where
        go : (g : Forest) → Full o r g → first h j ≡ link (j + 1) g → (b : Bool) → is_taxon o r ≡ b → is_taxon h j ≡ b
        go empty x e true t = ap (λ q. eqb q 0) e
        go empty x e false t =
            let d = eqb-false (first o r) 0 t in
            absurd (root_none (first o r) (x.has (first o r) (of_first x.is_record (omega arith))))
        go (node q f n) x e true t =
            absurd (omega (arith, eqb-true (first o r) 0 t, parent_first o formed.linked (x.only q (root_head q f n)) x.is_record.low))
        go (node q f n) x e false t = ap (λ q. eqb q 0) e ∙ ne_eqb (j + 1) 0 (λ z. omega arith)

  -- ---- the check accepts it
  no_next : next h 1 ≡ 0
  no_next = (entry (subst (λ F. At F 1 1 1 (sorted (smallest o) (tree o (first o 1))) empty) (sym (root_one o formed (smallest o))) at_here)).next_is

  named_once : (q : ℕ) → 2 ≤ q → q ≤ size h → named h q ≡ 1
  unfolding named records
  named_once q l u =
      let all : records_in S ≡ size h = many ∙ sym size_same in
      let not_first : one (eqb q (link 1 S)) ≡ 0 =
      ap (λ F. one (eqb q (link 1 F))) (root_one o formed (smallest o)) ∙ ap one (ne_eqb q 1 (λ e. omega arith)) in
      omega (
        arith,
        laid_named q (omega arith) stands,
        ap (λ n. total (naming h q) (from 1 n)) all,
        ap (λ n. occurs q (from 1 n)) all,
        occurs_once q 1 (size h) (omega arith) (omega arith),
      )

  linked : Linked h
  linked = record {
    filled = omega (arith, size_same, formed.linked.filled);
    next_later = λ j l u. next_after (placed j (record { low = l; high = u })).at;
    first_later = λ j l u. first_after (placed j (record { low = l; high = u })).at;
    root_alone = no_next;
    named_once = named_once;
  }

  ranged : (j : ℕ) → IsRecord h j → Ranged h j
  ranged j i =
      let a = (placed j i).at in
      let e = entry a in
      let k = (own a).is_record in
      let g = formed.ranged (to j) k.low k.high in
      record {
        branch_most = rw e.branch_is g.branch_most;
        price_most = rw e.price_is g.price_most;
        taxon_plate = λ t. rw e.field_is (g.taxon_plate (sym (taxon_same a) ∙ t));
        group_plate = λ t. e.field_is ∙ g.group_plate (sym (taxon_same a) ∙ t);
      }

  taxa_same : taxa h ≡ taxa o
  unfolding taxa taxa_in records
  taxa_same =
      ap (λ n. total (λ j. one (is_taxon h j)) (from 1 n)) (size_same ∙ sym many)
      ∙ laid_total (λ j. one (is_taxon h j)) (λ r. one (is_taxon o r)) stands (λ j r g m a. ap one (taxon_same a))
      ∙ sorted_sum (smallest o) (λ r. one (is_taxon o r)) (tree o 1) ∙ sym (sum_all o formed.linked (λ r f. one (is_taxon o r)))

  -- no two numbers have one record
  to_differ : (i j : ℕ) → IsRecord h i → IsRecord h j → to i ≡ to j → i ≡ j
  to_differ i j x y e =
      let a = (placed i x).at in
      one_place a (placed j y).at e (omega (arith, sorted_once o formed (smallest o) (to i) (own a).is_record))

  plates_differ : (q r : ℕ) → IsRecord h q → IsRecord h r → is_taxon h q ≡ true → is_taxon h r ≡ true → plate h q ≡ plate h r → q ≡ r
  plates_differ q r i j t u e =
      let a = (placed q i).at in
      let b = (placed r j).at in
      let x = (own a).is_record in
      let y = (own b).is_record in
      let same : plate o (to q) ≡ plate o (to r) = ap (λ n. n % lock_bit) (sym (entry a).field_is) ∙ e ∙ ap (λ n. n % lock_bit) (entry b).field_is in
      to_differ q r i j (formed.plates_differ (to q) (to r) x.low x.high y.low y.high (sym (taxon_same a) ∙ t) (sym (taxon_same b) ∙ u) same)

  pub house_formed : WellFormed (house_form o)
  house_formed = record {
    whole = omega (arith, house_length o formed, size_same);
    size_most = rw size_same formed.size_most;
    ranged = λ r l u. ranged r (record { low = l; high = u });
    linked = linked;
    taxa_most = rw taxa_same formed.taxa_most;
    plates_differ = λ q r lq uq lr ur. plates_differ q r (record { low = lq; high = uq }) (record { low = lr; high = ur });
  }

  pub house_accepted : Accepted (house_form o)
  unfolding house_form
  house_accepted = record { bytes = written_bytes o 1 S; passes = formed_accepted h house_formed }

  -- ---- it is the same tree
  back_at : (r : ℕ) → IsRecord o r → Placed (back r) × (to (back r) ≡ r)
  unfolding back
  back_at r i =
      let (g, m, a) = place_stands S 1 r (omega (arith, sorted_once o formed (smallest o) r i)) in
      let e = to_is a in
      (record { members = g; rest = m; at = subst (λ q. At S 1 (place_of S 1 r) q g m) (sym e) a }, e)

  -- records of one chain have one parent
  siblings : {F f n : Forest} {k j r q : ℕ} → All (Full o) F → ((v s t : ℕ) → Root s F → Root t F → Parent o v s → Parent o v t)
      → At F k j r f n → Root q n → (v : ℕ) → Parent o v r → Parent o v q
  siblings {q = q} a one (at_here {r = r} {f = f} {n = n}) h v x = one v r q (root_head r f n) (root_rest q r f n h) x
  siblings (all_more {r} {f} {n} x b c) one (at_below y) h v p =
      siblings b (λ v s t i j z. subst (λ u. Parent o u t) (parent_one o formed.linked (x.only s i) z) (x.only t j)) y h v p
  siblings (all_more {r} {f} {n} x b c) one (at_rest y) h v p =
      siblings c (λ v s t i j z. one v s t (root_rest s r f n i) (root_rest t r f n j) z) y h v p

  top_alone : (v s t : ℕ) → Root s S → Root t S → Parent o v s → Parent o v t
  top_alone v s t i j x = rw (only t j ∙ sym (only s i)) x
    where
      only : (q : ℕ) → Root q S → q ≡ 1
      only q m = root_alone q (sorted (smallest o) (tree o (first o 1))) (rw (root_one o formed (smallest o)) at m)

  to_none : to 0 ≡ 0
  unfolding to
  to_none = none_before S 1 0 (omega arith)

  parents : {q j : ℕ} → Parent h q j → Parent o (to q) (to j)
  parents of_root =
      rw (to_none, to_is (subst (λ F. At F 1 1 1 (sorted (smallest o) (tree o (first o 1))) empty) (sym (root_one o formed (smallest o))) at_here)) of_root
  parents (of_first {p} i l) = go (placed p i).members (placed p i).at
    where
      go : (g : Forest) {m : Forest} → At S 1 p (to p) g m → Parent o (to p) (to (first h p))
      go empty a = absurd (omega (arith, l, (entry a).first_is))
      go (node q f n) a = rw (ap to (entry a).first_is ∙ to_is (at_member a)) ((own a).only q (root_head q f n))
  parents (of_next {p} {q} x l) = go (placed q i).rest (placed q i).at (parents x)
    where
      i : IsRecord h q
      i = member_record h linked x

      go : {g : Forest} (m : Forest) → At S 1 q (to q) g m → Parent o (to p) (to q) → Parent o (to p) (to (next h q))
      go empty a y = absurd (omega (arith, l, (entry a).next_is))
      go (node u f n) a y = rw (ap to (entry a).next_is ∙ to_is (at_next a)) (siblings full top_alone a (root_head u f n) (to p) y)

  pub house_tree : SameTree (house_form o) o
  house_tree = record {
    sizes = sym size_same;
    to = to;
    back = back;
    to_record = λ j i. (own (placed j i).at).is_record;
    back_record = λ r i. number (back_at r i).0.at;
    back_to = λ j i.
        let k = (own (placed j i).at).is_record in
        to_differ (back (to j)) j (number (back_at (to j) k).0.at) i (back_at (to j) k).1;
    to_back = λ r i. (back_at r i).1;
    none = to_none;
    parents = λ q j i x. parents x;
    branches = λ j i. sym (entry (placed j i).at).branch_is;
    prices = λ j i. sym (entry (placed j i).at).price_is;
    plate_fields = λ j i. sym (entry (placed j i).at).field_is;
  }

  -- ---- its two rules
  pub house_in_text_order : InTextOrder (house_form o)
  unfolding records tree
  house_in_text_order =
      let starts : link 1 S ≡ 1 = ap (link 1) (root_one o formed (smallest o)) in
      clade_root h linked ∙ chain_listed (size h) h 1
      ∙ sym (ap (λ j. listed (tree h j)) starts)
      ∙ laid_listed linked stands (omega arith) (omega (arith, many, size_same))
      ∙ ap (from 1) (many ∙ sym size_same)

  pub house_ascending : Ascending (house_form o)
  unfolding house_tree
  house_ascending = record { ascends = λ j i l. go j i l (placed j i).rest (placed j i).at }
    where
      same : (j : ℕ) → IsRecord h j → smallest h j ≡ smallest o (to j)
      same j i = sym (smallest_to house_formed formed house_tree j i)

      go : (j : ℕ) → IsRecord h j → 0 < next h j → {g : Forest} (m : Forest) → At S 1 j (to j) g m → smallest h j < smallest h (next h j)
      go j i l empty a = absurd (omega (arith, l, (entry a).next_is))
      go j i l (node u f n) a =
          let later = linked.next_later j i.low i.high in
          let onward : IsRecord h (next h j) = record { low = l; high = later.most } in
          omega (
            arith,
            same j i,
            same (next h j) onward,
            at_ranked (sorted_ranked o formed 1 formed.linked.filled) a u (root_head u f n),
            ap (λ q. smallest o (to q)) (entry a).next_is,
            ap (smallest o) (to_is (at_next a)),
          )
