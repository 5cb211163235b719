-- The branches that count are the smallest subtree that connects the chosen records, and with the root for rooted diversity.
use Rattle.std.specs.Prelude.{if◌then◌else◌}
use Prim.Native.Nat.{ℕ, zero, suc, ◌+◌, ◌≤◌, ◌<◌}
use mathlib.Core.Path.{◌≡◌, refl, ap, subst}
use mathlib.Core.Logic.{◌⊎◌, inl, inr, ⊎_elim, ◌↔◌}
use mathlib.Core.Bool.{Bool, true, false, ◌&&◌}
use mathlib.Core.List.{List}
use native.Mathlib.Omega.{arith}
use lib.Dec.{eqb, ltb}
use borrow.Author.Tests.{eqb-true, eqb-false, eq-eqb, ne_eqb, ltb-true, ltb-false}
use Rattle.lists.specs.Lists.{one, total}
use Rattle.outline.specs.Outline.{size, next, first, records, IsRecord}
use Rattle.outline.specs.WellFormed.{Linked}
use Rattle.diversity.specs.Diversity.{within, elsewhere, rooted, unrooted, diversity}
use Rattle.diversity.specs.Paths.{Parent, of_root, of_first, of_next, OnWay, itself, parent, Between, Walk, stay, up, down}
use Rattle.diversity.specs.Paths.{SmallestSubtree, IsChosen, RootOrChosen, SubtreeLength, Ends}
use Rattle.laws.specs.Forest.{Forest, empty, node, sum_in, count_in, tree}
use Rattle.laws.proofs.Sums.{total_pair}
use Rattle.laws.proofs.Forest.{tree_step, sum_all, reach, distinct}
use Rattle.laws.proofs.Paths.{parent_later, way_earlier, parent_part, one_side, rooted_on_way, unrooted_between}

-- how often q is in the chain that begins a forest
abbrev pub tops_in : ℕ → Forest → ℕ
tops_in q empty = 0
tops_in q (node r f n) = one (eqb q r) + tops_in q n

-- a record of a forest is in that chain, or a member of one of its records
tops_count : (q : ℕ) (F : Forest) → tops_in q F + sum_in (λ r f. tops_in q f) F ≡ count_in q F
tops_count q empty = refl
tops_count q (node r f n) = omega (arith, tops_count q f, tops_count q n)

-- a walk back, and on from where it began
back : {o : List ℕ} {B : ℕ → Type 0} {x y z : ℕ} → Walk o B x y → Walk o B x z → Walk o B y z
back stay w = w
back (up b x v) w = back v (down b x w)
back (down b x v) w = back v (up b x w)

between_swap : {o : List ℕ} {t u r : ℕ} → Between o t u r → Between o u t r
between_swap (inl b) = inr b
between_swap (inr b) = inl b

-- a walk that begins in reach of z takes branches in reach of z
walk_near : {o : List ℕ} {B : ℕ → Type 0} {x y z : ℕ} → Walk o B x y → Walk o B x z → Walk o (λ r. B r × Walk o B r z) x y
walk_near stay w = stay
walk_near (up b x v) w = up (b, w) x (walk_near v (down b x w))
walk_near (down b x v) w = down (b, up b x w) x (walk_near v (up b x w))

-- the smallest subtree is one piece: from each of its branches a walk along its branches leads to each end
pub smallest_whole : {o : List ℕ} {End : ℕ → Type 0} {counts : ℕ → Bool} → SmallestSubtree o End counts → (x : ℕ) → End x
    → (r : ℕ) → IsRecord o r → counts r ≡ true → Walk o (λ r. counts r ≡ true) r x
smallest_whole tree x a r i e = (tree.least _ (λ y z b c. walk_near (tree.connects y z b c) (tree.connects y x b a)) r i e).1

module _ (o : List ℕ) (linked : Linked o) where
  -- ---- each record has one parent
  pub parent_of : (q : ℕ) → 1 ≤ q → q ≤ size o → (p : ℕ) × Parent o p q
  parent_of q l u =
      reach o linked (λ q. 1 ≤ q → (p : ℕ) × Parent o p q) (λ h. (0, of_root))
      (λ r l u x. (λ h. (r, of_first (record { low = l; high = u }) h), λ h. ((x l).0, of_next (x l).1 h))) q q (omega arith) l u l

  pub under_root : {p q : ℕ} → Parent o p q → p ≡ 0 → q ≡ 1
  under_root of_root e = refl
  under_root (of_first i h) e = absurd (omega (arith, i.low))
  under_root (of_next x h) e = absurd (omega (arith, ap (next o) (under_root x e), linked.root_alone))

  -- how often q is among the members of r
  abbrev pub members_in : ℕ → ℕ → ℕ
  members_in q r = tops_in q (tree o (first o r))

  members_most : (q : ℕ) → total (members_in q) (records o) ≤ 1
  members_most q = omega (arith, sum_all o linked (λ r f. tops_in q f), tops_count q (tree o 1), distinct o linked 1 linked.filled q)

  pub members_some : {p q : ℕ} → Parent o p q → 1 ≤ p → 1 ≤ members_in q p
  members_some {p} {q} x l =
      let later = parent_later o linked x in
      omega (
        arith,
        parent_part o linked (tops_in q) (λ r f n. omega arith) x l,
        ap (tops_in q) (tree_step o linked q (omega arith) later.1),
        ap one (eq-eqb q q refl),
      )

  pub parent_one : {p u q : ℕ} → Parent o p q → Parent o u q → p ≡ u
  unfolding records
  parent_one {p = zero} x y = omega (arith, under_root x refl, parent_later o linked y)
  parent_one {p = suc p} {u = zero} x y = omega (arith, under_root y refl, parent_later o linked x)
  parent_one {p = suc p} {u = suc u} {q} x y = go (eqb (suc p) (suc u)) refl
    where
      go : (b : Bool) → eqb (suc p) (suc u) ≡ b → suc p ≡ suc u
      go true e = eqb-true (suc p) (suc u) e
      go false e =
          let k = parent_later o linked x in
          let l = parent_later o linked y in
          absurd (omega (
            arith,
            total_pair (members_in q) (suc p) (suc u) (size o) (eqb-false (suc p) (suc u) e) (omega arith) (omega arith) (omega arith) (omega arith),
            members_some x (omega arith),
            members_some y (omega arith),
            members_most q,
          ))

  -- ---- ways, from a parent and from its member
  pub way_down : {t u r : ℕ} → OnWay o t r → Parent o t u → OnWay o u r
  way_down itself y = parent itself y
  way_down (parent w x) y = parent (way_down w y) x

  pub way_up : {t u r : ℕ} → OnWay o u r → Parent o t u → (u ≡ r) ⊎ OnWay o t r
  way_up itself y = inl refl
  way_up {t} {u} (parent {p} {q} w x) y =
      ⊎_elim (λ (e : u ≡ q). inr (subst (OnWay o t) (parent_one (subst (Parent o t) e y) x) itself)) (λ (v : OnWay o t q). inr (parent v x)) (way_up w y)

  -- a walk that leaves the clade of r takes the branch of r
  walk_out : {B : ℕ → Type 0} {x y r : ℕ} → Walk o B x y → OnWay o x r → ¬ OnWay o y r → B r
  walk_out stay w n = absurd (n w)
  walk_out {B} {r = r} (up {p} {x} b y v) w n = ⊎_elim (λ (e : x ≡ r). subst B e b) (λ (w : OnWay o p r). walk_out v w n) (way_up w y)
  walk_out (down b y v) w n = walk_out v (way_down w y) n

  module _ (B : ℕ → Type 0) where
    -- B has the branches between t and u
    abbrev Has : ℕ → ℕ → Type 0
    Has t u = (r : ℕ) → IsRecord o r → Between o t u r → B r

    -- from what is before t, walks lead to u
    abbrev Onward : ℕ → ℕ → Type 0
    Onward t u = (p : ℕ) → p < t → Has p u → Walk o B p u

    -- the first step is up, from the later of the two
    climb : {t u : ℕ} → u < t → t ≤ size o → Has t u → Onward t u → Walk o B t u
    climb {t} {u} l h near on =
        let (p, x) = parent_of t (omega arith) h in
        up (near t (record { low = omega arith; high = h }) (inl (itself, λ w. omega (arith, way_earlier o linked w)))) x
        (on p (parent_later o linked x).0 (λ r i b. near r i (wider x b)))
      where
        wider : {p r : ℕ} → Parent o p t → Between o p u r → Between o t u r
        wider x (inl b) = inl (way_down b.0 x, b.1)
        wider {p} {r} x (inr b) =
            inr (b.0, λ w. ⊎_elim (λ (e : t ≡ r). omega (arith, way_earlier o linked b.0)) (λ (v : OnWay o p r). b.1 v) (way_up w x))

    -- two ends are joined along the branches between them
    joined : (k t u : ℕ) → t + u < k → t ≤ size o → u ≤ size o → Has t u → Walk o B t u
    joined zero t u h lt lu near = absurd (omega arith)
    joined (suc k) t u h lt lu near =
        go (eqb t u) (ltb u t) refl refl (λ p l. joined k p u (omega arith) (omega arith) lu) (λ p l. joined k p t (omega arith) (omega arith) lt)
      where
        go : (b c : Bool) → eqb t u ≡ b → ltb u t ≡ c → Onward t u → Onward u t → Walk o B t u
        go true c e f from_t from_u = subst (Walk o B t) (eqb-true t u e) stay
        go false true e f from_t from_u = climb (ltb-true u t f) lt near from_t
        go false false e f from_t from_u =
            let d = eqb-false t u e in
            back (climb (omega (arith, ltb-false u t f)) lu (λ r i b. near r i (between_swap b)) from_u) stay

  -- the branches between two ends are the smallest subtree that connects the ends
  smallest : {End : ℕ → Type 0} {counts : ℕ → Bool} → ((x : ℕ) → End x → x ≤ size o)
      → ((r : ℕ) → IsRecord o r → counts r ≡ true ↔ (t u : ℕ) × End t × End u × Between o t u r) → SmallestSubtree o End counts
  smallest most spans = record {
    connects = λ x y a b. joined _ (x + y + 1) x y (omega arith) (most x a) (most y b) (λ r i d. (spans r i).1 (x, y, a, b, d));
    least = λ B c r i e. let (t, u, a, b, w, n) = one_side ((spans r i).0 e) in walk_out (c t u a b) w n;
  }

  pub rooted_smallest : (s : List ℕ) → SmallestSubtree o (RootOrChosen o s) (within o s)
  rooted_smallest s =
      smallest (λ x a. most a)
      (λ r i. (
        λ e. let (t, c, w) = (rooted_on_way o linked s r i).0 e in (t, 0, inr c, inl refl, inl (w, λ v. omega (arith, way_earlier o linked v, i.low))),
        λ x. let (t, u, a, b, w, n) = one_side x in above i a w,
      ))
    where
      most : {x : ℕ} → RootOrChosen o s x → x ≤ size o
      most (inl e) = omega arith
      most (inr c) = c.0.high

      above : {t r : ℕ} → IsRecord o r → RootOrChosen o s t → OnWay o t r → within o s r ≡ true
      above i (inl e) w = absurd (omega (arith, way_earlier o linked w, i.low))
      above i (inr c) w = (rooted_on_way o linked s _ i).1 (_, c, w)

  pub unrooted_smallest : (s : List ℕ) → SmallestSubtree o (IsChosen o s) (λ r. within o s r && elsewhere o s r)
  unrooted_smallest s = smallest (λ x c. c.0.high) (λ r i. unrooted_between o linked s r i)

  -- rPD and uPD: the length of the smallest subtree that connects the chosen records, rooted with the root
  pub diversity_subtree : (way : ℕ) (s : List ℕ) → SubtreeLength o (Ends o way s) (diversity o way s)
  unfolding diversity rooted unrooted
  diversity_subtree zero s = record { counts = within o s; smallest = rooted_smallest s; sum = refl }
  diversity_subtree (suc n) s = record {
    counts = λ r. within o s r && elsewhere o s r;
    smallest = unrooted_smallest s;
    sum = ap (λ b. if b then rooted o s else unrooted o s) (ne_eqb (suc n) 0 (λ z. omega arith));
  }
