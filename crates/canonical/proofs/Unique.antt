-- Accepted outlines that are the same tree have one house form: an ascending forest is settled by its first chain.
use Prim.Native.Nat.{ℕ, ◌+◌, ◌<◌}
use mathlib.Core.Path.{◌≡◌, refl, sym, ap, ap₂, subst, ◌∙◌}
use mathlib.Core.List.{List}
use native.Mathlib.Omega.{arith}
use Rattle.outline.specs.Outline.{first, IsRecord}
use Rattle.outline.specs.WellFormed.{WellFormed}
use Rattle.diversity.specs.Paths.{Parent, of_root}
use Rattle.laws.specs.Forest.{Forest, empty, node, records_in, tree}
use Rattle.laws.proofs.Subtrees.{under_root}
use Rattle.laws.proofs.Members.{Root, Split, head, rest, root_none, root_head, root_rest, root_split, root_alone}
use Rattle.canonical.specs.SameTree.{SameTree}
use Rattle.canonical.specs.House.{smallest, sorted, link, written, house_form}
use Rattle.canonical.proofs.Renumbering.{turned, turned_to, to_turned, turned_here, turned_parent, smallest_to}
use Rattle.canonical.proofs.Smallest.{member_record}
use Rattle.canonical.proofs.Sorting.{Ranked, ranked_none, ranked_more, All, all_none, all_more, Full, sorted_full, sorted_ranked, root_one}

-- a forest with its records renumbered
abbrev pub renamed : (ℕ → ℕ) → Forest → Forest
renamed to empty = empty
renamed to (node r f n) = node (to r) (renamed to f) (renamed to n)

records_renamed : (to : ℕ → ℕ) (F : Forest) → records_in (renamed to F) ≡ records_in F
records_renamed to empty = refl
records_renamed to (node r f n) = omega (arith, records_renamed to f, records_renamed to n)

link_renamed : (to : ℕ → ℕ) (k : ℕ) (F : Forest) → link k (renamed to F) ≡ link k F
link_renamed to k empty = refl
link_renamed to k (node r f n) = refl

-- a record that comes after r in its chain goes to the rest of another, whose first comes from r
rest_goes : (o : List ℕ) (to back : ℕ → ℕ) {q r t : ℕ} (g m : Forest) → back (to q) ≡ q → back t ≡ r → smallest o r < smallest o q
    → Root (to q) (node t g m) → Root (to q) m
rest_goes o to back {q} {r} {t} g m home first less h = go (root_split (to q) t g m h)
  where
    go : Split (to q) t m → Root (to q) m
    go (head e) =
        let same : q ≡ r = sym home ∙ ap back e ∙ first in
        absurd (omega (arith, less, ap (smallest o) same))
    go (rest d k) = k

module _ {o p : List ℕ} (formed : WellFormed o) (also : WellFormed p) (s : SameTree o p) where
  abbrev to : ℕ → ℕ
  to = s.to

  -- the way back
  abbrev back : ℕ → ℕ
  back = turned formed also s

  -- two ascending chains of which each record of one goes to one of the other, and each of the other comes from one: their first go to each
  -- other, and so do the others
  module _ (r t : ℕ) (f n g m : Forest) (i : IsRecord o r) (j : IsRecord p t)
      (z : (q : ℕ) → Root q n → smallest o r < smallest o q) (y : (q : ℕ) → Root q m → smallest p t < smallest p q)
      (there : (q : ℕ) → Root q (node r f n) → Root (to q) (node t g m)) (here : (q : ℕ) → Root q (node t g m) → Root (back q) (node r f n)) where
    -- what t comes from is not before r, and what r goes to is not before t
    heads : to r ≡ t
    heads = go (root_split (to r) t g m (there r (root_head r f n))) (root_split (back t) r f n (here t (root_head t g m)))
      where
        go : Split (to r) t m → Split (back t) r n → to r ≡ t
        go (head e) v = e
        go (rest d h) (head e) = sym (ap to e) ∙ to_turned formed also s t j
        go (rest d h) (rest c k) =
            absurd (omega (
              arith,
              y (to r) h,
              smallest_to formed also s r i,
              z (back t) k,
              smallest_to formed also s (back t) (turned_here formed also s t j),
              ap (smallest p) (to_turned formed also s t j),
            ))

    rests_to : (q : ℕ) → IsRecord o q → Root q n → Root (to q) m
    rests_to q k h =
        rest_goes o to back g m (turned_to formed also s q k.high) (ap back (sym heads) ∙ turned_to formed also s r i.high) (z q h)
        (there q (root_rest q r f n h))

    rests_back : (q : ℕ) → IsRecord p q → Root q m → Root (back q) n
    rests_back q k h = rest_goes p back to f n (to_turned formed also s q k) heads (y q h) (here q (root_rest q t g m h))

  -- the members of a record go to the members of the record that it goes to, and come from them
  members_to : (r q : ℕ) → Parent o r q → Parent p (to r) (to q)
  members_to r q x = s.parents r q (member_record o formed.linked x) x

  members_back : (r q : ℕ) → IsRecord o r → Parent p (to r) q → Parent o r (back q)
  members_back r q i x =
      subst (λ v. Parent o v (back q)) (turned_to formed also s r i.high) (turned_parent formed also s (to r) q (member_record p also.linked x) x)

  chain_records : {a : List ℕ} {F : Forest} → All (Full a) F → (q : ℕ) → Root q F → IsRecord a q
  chain_records all_none q h = absurd (root_none q h)
  chain_records {a} (all_more {r} {f} {n} x b c) q h = go (root_split q r f n h) (chain_records c q)
    where
      go : Split q r n → (Root q n → IsRecord a q) → IsRecord a q
      go (head e) ih = rw e x.is_record
      go (rest d h) ih = ih h

  settled : {F G : Forest} → Ranked (smallest o) F → Ranked (smallest p) G → All (Full o) F → All (Full p) G
      → ((q : ℕ) → Root q F → Root (to q) G) → ((q : ℕ) → Root q G → Root (back q) F) → renamed to F ≡ G
  settled ranked_none ranked_none a b there here = refl
  settled ranked_none (ranked_more {r} {f} {n} x y z) a b there here = absurd (root_none (back r) (here r (root_head r f n)))
  settled (ranked_more {r} {f} {n} x y z) ranked_none a b there here = absurd (root_none (to r) (there r (root_head r f n)))
  settled (ranked_more {r} {f} {n} x y z) (ranked_more {r = t} {f = g} {n = m} u v w) (all_more a b c) (all_more d e k) there here =
      let i = a.is_record in
      let j = d.is_record in
      let same = heads r t f n g m i j z w there here in
      let below =
      settled x u b e (λ q h. d.has (to q) (subst (λ v. Parent p v (to q)) same (members_to r q (a.only q h))))
      (λ q h. a.has (back q) (members_back r q i (subst (λ v. Parent p v q) (sym same) (d.only q h)))) in
      let later =
      settled y v c k (λ q h. rests_to r t f n g m i j z w there here q (chain_records c q h) h)
      (λ q h. rests_back r t f n g m i j z w there here q (chain_records k q h) h) in
      ap (λ v. node v (renamed to f) (renamed to n)) same ∙ ap₂ (node t) below later

  -- what is written does not look at record numbers but for what a renumbering keeps
  written_to : (k : ℕ) {F : Forest} → All (Full o) F → written p k (renamed to F) ≡ written o k F
  unfolding written
  written_to k all_none = refl
  written_to k (all_more {r} {f} {n} x b c) =
      let i = x.is_record in
      rw (records_renamed to f, link_renamed to (k + 1 + records_in f) n, link_renamed to (k + 1) f, s.branches r i, s.prices r i, s.plate_fields r i)
      (rw (written_to (k + 1) b, written_to (k + 1 + records_in f) c))

  to_root : to 1 ≡ 1
  to_root =
      let i : IsRecord o 1 = record { low = omega arith; high = formed.linked.filled } in
      under_root p also.linked (s.parents 0 1 i of_root) s.none

  pub same_house : house_form o ≡ house_form p
  unfolding house_form
  same_house =
      sym (written_to 1 (sorted_full o formed (smallest o) 1 formed.linked.filled))
      ∙ ap (written p 1)
      (settled (sorted_ranked o formed 1 formed.linked.filled) (sorted_ranked p also 1 also.linked.filled)
      (sorted_full o formed (smallest o) 1 formed.linked.filled) (sorted_full p also (smallest p) 1 also.linked.filled) there here)
    where
      only : {a : List ℕ} (k : WellFormed a) (key : ℕ → ℕ) (q : ℕ) → Root q (sorted key (tree a 1)) → q ≡ 1
      only {a} k key q h = root_alone q (sorted key (tree a (first a 1))) (rw (root_one a k key) at h)

      one : {a : List ℕ} (k : WellFormed a) (key : ℕ → ℕ) → Root 1 (sorted key (tree a 1))
      one {a} k key = rw (root_one a k key) (root_head 1 (sorted key (tree a (first a 1))) empty)

      there : (q : ℕ) → Root q (sorted (smallest o) (tree o 1)) → Root (to q) (sorted (smallest p) (tree p 1))
      there q h = rw (ap to (only formed (smallest o) q h) ∙ to_root) (one also (smallest p))

      here : (q : ℕ) → Root q (sorted (smallest p) (tree p 1)) → Root (back q) (sorted (smallest o) (tree o 1))
      here q h =
          let i : IsRecord o 1 = record { low = omega arith; high = formed.linked.filled } in
          rw (ap back (only also (smallest p) q h ∙ sym to_root) ∙ turned_to formed also s 1 i.high) (one formed (smallest o))
