-- The records of a chain and whose members they are; induction from the last record; and that of two members of one record only one is on
-- a way up.
use Prim.Native.Nat.{ℕ, zero, suc, ◌+◌, ◌≤◌, ◌<◌}
use mathlib.Core.Path.{◌≡◌, refl, sym, ap, subst}
use mathlib.Core.Logic.{◌≢◌, ◌⊎◌, inl, inr, ⊎_elim}
use mathlib.Core.Bool.{Bool, true, false}
use mathlib.Core.List.{List}
use native.Mathlib.Omega.{arith}
use lib.Dec.{eqb}
use borrow.Author.Tests.{eqb-true, eqb-false, eq-eqb}
use Rattle.lists.specs.Lists.{one}
use Rattle.outline.specs.Outline.{size, next, first, IsRecord}
use Rattle.outline.specs.WellFormed.{Linked}
use Rattle.diversity.specs.Paths.{Parent, of_root, of_first, of_next, OnWay, itself, parent}
use Rattle.laws.specs.Forest.{Forest, empty, node, tree}
use Rattle.laws.proofs.Forest.{tree_zero, tree_step}
use Rattle.laws.proofs.Paths.{parent_later, way_earlier}
use Rattle.laws.proofs.Subtrees.{tops_in, members_some, way_up}

-- q is a record of the chain that begins a forest
abbrev pub Root : ℕ → Forest → Type 0
Root q F = 0 < tops_in q F

pub root_none : (q : ℕ) → Root q empty → ⊥
root_none q h = omega arith

pub root_head : (r : ℕ) (f n : Forest) → Root r (node r f n)
root_head r f n = omega (arith, ap one (eq-eqb r r refl))

pub root_rest : (q r : ℕ) (f n : Forest) → Root q n → Root q (node r f n)
root_rest q r f n h = omega arith

-- it is the first, or one of the rest
pub data Split (q r : ℕ) (n : Forest) : Type 0 where
  head : q ≡ r → Split q r n
  rest : q ≢ r → Root q n → Split q r n

pub root_split : (q r : ℕ) (f n : Forest) → Root q (node r f n) → Split q r n
root_split q r f n h = go (eqb q r) refl
  where
    go : (b : Bool) → eqb q r ≡ b → Split q r n
    go true e = head (eqb-true q r e)
    go false e = rest (eqb-false q r e) (omega (arith, ap one e))

-- of a chain of one record it is that one
pub root_alone : (q : ℕ) {r : ℕ} (f : Forest) → Root q (node r f empty) → q ≡ r
root_alone q {r} f h = go (root_split q r f empty h)
  where
    go : Split q r empty → q ≡ r
    go (head e) = e
    go (rest d m) = absurd (root_none q m)

module _ (o : List ℕ) (linked : Linked o) where
  -- induction along the links, from the last record on: what 0 has, and each record gets from its links, every record has
  pub grow : (P : ℕ → Type 0) → P 0 → ((r : ℕ) → IsRecord o r → P (first o r) → P (next o r) → P r) → (r : ℕ) → r ≤ size o → P r
  grow P none step r u = go (suc (size o)) r u (λ h. omega arith)
    where
      go : (k r : ℕ) → r ≤ size o → (0 < r → size o < k + r) → P r
      go zero zero u h = none
      go zero (suc r) u h = let e = h (omega arith) in absurd (omega arith)
      go (suc k) zero u h = none
      go (suc k) (suc r) u h =
          let e = h (omega arith) in
          let f = linked.first_later (suc r) (omega arith) u in
          let n = linked.next_later (suc r) (omega arith) u in
          step (suc r) (record { low = omega arith; high = u }) (go k (first o (suc r)) f.most (λ p. let l = f.later p in omega arith))
          (go k (next o (suc r)) n.most (λ p. let l = n.later p in omega arith))

  -- a chain's records have the parent of its first
  pub chain_parent : (x : ℕ) → x ≤ size o → (g : ℕ) → (1 ≤ x → Parent o g x) → (q : ℕ) → Root q (tree o x) → Parent o g q
  chain_parent = grow (λ x. (g : ℕ) → (1 ≤ x → Parent o g x) → (q : ℕ) → Root q (tree o x) → Parent o g q) nobody step
    where
      nobody : (g : ℕ) → (1 ≤ 0 → Parent o g 0) → (q : ℕ) → Root q (tree o 0) → Parent o g q
      nobody g x q h = absurd (root_none q (rw (tree_zero o) at h))

      step : (r : ℕ) → IsRecord o r → ((g : ℕ) → (1 ≤ first o r → Parent o g (first o r)) → (q : ℕ) → Root q (tree o (first o r)) → Parent o g q)
          → ((g : ℕ) → (1 ≤ next o r → Parent o g (next o r)) → (q : ℕ) → Root q (tree o (next o r)) → Parent o g q)
          → (g : ℕ) → (1 ≤ r → Parent o g r) → (q : ℕ) → Root q (tree o r) → Parent o g q
      step r i below later g x q h =
          go (root_split q r (tree o (first o r)) (tree o (next o r)) (rw (tree_step o linked r i.low i.high) at h))
        where
          go : Split q r (tree o (next o r)) → Parent o g q
          go (head e) = rw e (x i.low)
          go (rest d m) = later g (of_next (x i.low)) q m

  -- the members of a record are the records whose parent it is
  pub member_parent : (g q : ℕ) → IsRecord o g → Root q (tree o (first o g)) → Parent o g q
  member_parent g q i = chain_parent (first o g) (linked.first_later g i.low i.high).most g (of_first i) q

  pub parent_member : {g q : ℕ} → Parent o g q → 1 ≤ g → Root q (tree o (first o g))
  parent_member x l = let h = members_some o linked x l in omega arith

  -- a record with members is a group
  pub parent_first : {g q : ℕ} → Parent o g q → 1 ≤ g → 1 ≤ first o g
  parent_first of_root l = absurd (omega arith)
  parent_first (of_first i h) l = h
  parent_first (of_next x h) l = parent_first x l

  -- of two records on one way up, one is on the way up from the other
  way_order : {t q r : ℕ} → OnWay o t q → OnWay o t r → OnWay o q r ⊎ OnWay o r q
  way_order itself v = inl v
  way_order {r = r} (parent {p} {q} w x) v =
      ⊎_elim
      (λ (u : OnWay o q r). ⊎_elim (λ (e : q ≡ r). inr (subst (λ z. OnWay o z p) e (parent itself x))) (λ (u : OnWay o p r). inl u) (way_up o linked u x))
      (λ (u : OnWay o r q). inr (parent u x))
      (way_order w v)

  -- two members of one record on one way up are the same
  pub one_on_way : {g t q r : ℕ} → Parent o g q → Parent o g r → OnWay o t q → OnWay o t r → q ≡ r
  one_on_way {g} {q = q} {r = r} x y v w =
      ⊎_elim (λ (u : OnWay o q r). above x y u) (λ (u : OnWay o r q). sym (above y x u)) (way_order v w)
    where
      above : {q r : ℕ} → Parent o g q → Parent o g r → OnWay o q r → q ≡ r
      above {q} {r} x y u =
          ⊎_elim (λ (e : q ≡ r). e) (λ (k : OnWay o g r). absurd (omega (arith, way_earlier o linked k, parent_later o linked y))) (way_up o linked u x)

  -- they come from the first on
  pub chain_later : (x : ℕ) → x ≤ size o → (q : ℕ) → Root q (tree o x) → (0 < x) × (x ≤ q)
  chain_later = grow (λ x. (q : ℕ) → Root q (tree o x) → (0 < x) × (x ≤ q)) (λ q h. absurd (root_none q (rw (tree_zero o) at h))) step
    where
      step : (r : ℕ) → IsRecord o r → ((q : ℕ) → Root q (tree o (first o r)) → (0 < first o r) × (first o r ≤ q))
          → ((q : ℕ) → Root q (tree o (next o r)) → (0 < next o r) × (next o r ≤ q)) → (q : ℕ) → Root q (tree o r) → (0 < r) × (r ≤ q)
      step r i below later q h =
          (i.low, go (root_split q r (tree o (first o r)) (tree o (next o r)) (rw (tree_step o linked r i.low i.high) at h)))
        where
          go : Split q r (tree o (next o r)) → r ≤ q
          go (head e) = omega arith
          go (rest d m) =
              let (some, from) = later q m in
              let n = (linked.next_later r i.low i.high).later some in
              omega arith
