-- Sums over all records are recursion over the links: each record stands once in the forest of record 1.
use Rattle.std.specs.Prelude.{if◌then◌else◌}
use Prim.Native.Nat.{ℕ, zero, suc, ◌+◌, ◌*◌, ◌≤◌, ◌<◌}
use mathlib.Core.Path.{◌≡◌, refl, sym, ap, ap₂, subst, ◌∙◌}
use mathlib.Core.Bool.{Bool, true, false}
use mathlib.Core.List.{List, [], ◌∷◌, ◌++◌}
use native.Mathlib.Omega.{arith}
use lib.Dec.{eqb}
use borrow.Author.Tests.{eqb-true, eqb-false}
use Rattle.lists.specs.Lists.{one, total}
use Rattle.outline.specs.Outline.{size, next, first, records, is_taxon, IsRecord}
use Rattle.outline.specs.WellFormed.{Linked}
use Rattle.diversity.specs.Diversity.{chain}
use Rattle.laws.specs.Forest.{Forest, empty, node, sum_in, count_in, shape, tree}
use Rattle.laws.proofs.Sums.{occurs, occurs_most, occurs_range, total_append, total_most}
use Rattle.laws.proofs.Links.{Namer, by_next, by_first, namer, total_by_links}

-- the records of a forest
abbrev pub listed : Forest → List ℕ
listed empty = []
listed (node r f n) = r ∷ (listed f ++ listed n)

pub total_listed : (w : ℕ → ℕ) (F : Forest) → total w (listed F) ≡ sum_in (λ r f. w r) F
unfolding total
total_listed w empty = refl
total_listed w (node r f n) = omega (arith, total_append w (listed f) (listed n), total_listed w f, total_listed w n)

pub chain_listed : (k : ℕ) (o : List ℕ) (r : ℕ) → chain k o r ≡ listed (shape k o r)
unfolding chain shape
chain_listed zero o r = refl
chain_listed (suc k) o zero = refl
chain_listed (suc k) o (suc r) = ap₂ (λ xs ys. suc r ∷ (xs ++ ys)) (chain_listed k o (first o (suc r))) (chain_listed k o (next o (suc r)))

shape_zero : (k : ℕ) (o : List ℕ) → shape k o 0 ≡ empty
unfolding shape
shape_zero zero o = refl
shape_zero (suc k) o = refl

pub tree_zero : (o : List ℕ) → tree o 0 ≡ empty
unfolding tree
tree_zero o = shape_zero (size o) o

module _ (o : List ℕ) (linked : Linked o) where
  -- links lead to later records, so that a depth of one for each record left is enough
  shape_enough : (k r : ℕ) → r ≤ size o → (0 < r → size o < k + r) → shape (suc k) o r ≡ shape k o r
  unfolding shape
  shape_enough zero zero most enough = refl
  shape_enough (suc k) zero most enough = refl
  shape_enough zero (suc r) most enough = let e = enough (omega arith) in absurd (omega arith)
  shape_enough (suc k) (suc r) most enough =
      let e = enough (omega arith) in
      let f = linked.first_later (suc r) (omega arith) most in
      let n = linked.next_later (suc r) (omega arith) most in
      ap₂ (node (suc r))
      (shape_enough k (first o (suc r)) f.most (λ p. let l = f.later p in omega arith))
      (shape_enough k (next o (suc r)) n.most (λ p. let l = n.later p in omega arith))

  pub tree_step : (r : ℕ) → 1 ≤ r → r ≤ size o → tree o r ≡ node r (tree o (first o r)) (tree o (next o r))
  unfolding tree shape
  tree_step zero l u = absurd (omega arith)
  tree_step (suc r) l u = sym (shape_enough (size o) (suc r) u (λ p. omega arith))

  -- the members of record r, by whether it is a taxon
  pub members_cases : {A : Type 0} (r : ℕ) → 1 ≤ r → r ≤ size o → (at : Forest → A) (taxon group : A)
      → at empty ≡ taxon → ((q : ℕ) (g m : Forest) → at (node q g m) ≡ group) → at (tree o (first o r)) ≡ (if is_taxon o r then taxon else group)
  members_cases r l u at taxon group e h = go (is_taxon o r) refl
    where
      go : (b : Bool) → is_taxon o r ≡ b → at (tree o (first o r)) ≡ (if b then taxon else group)
      go true t = ap (λ q. at (tree o q)) (eqb-true (first o r) 0 t) ∙ ap at (tree_zero o) ∙ e
      go false t =
          let d = eqb-false (first o r) 0 t in
          ap at (tree_step (first o r) (omega arith) (linked.first_later r l u).most) ∙ h _ _ _

  -- the sum over all records is the sum over the forest of record 1
  pub sum_all : (w : ℕ → Forest → ℕ) → total (λ r. w r (tree o (first o r))) (records o) ≡ sum_in w (tree o 1)
  sum_all w =
      total_by_links o linked (λ r. sum_in w (tree o r)) (ap (sum_in w) (tree_zero o)) (λ r. w r (tree o (first o r))) (λ r l u. ap (sum_in w) (tree_step r l u))

  -- induction along the links: what record 1 has and each record hands on, every record q has; k is at least q
  pub reach : (P : ℕ → Type 0) → P 1 → ((r : ℕ) → 1 ≤ r → r ≤ size o → P r → P (first o r) × P (next o r))
      → (k q : ℕ) → q ≤ k → 1 ≤ q → q ≤ size o → P q
  reach P root down zero q h l u = absurd (omega arith)
  reach P root down (suc k) zero h l u = absurd (omega arith)
  reach P root down (suc k) (suc zero) h l u = root
  reach P root down (suc k) (suc (suc q)) h l u = go (reach P root down k) (namer o linked (suc (suc q)) (omega arith) u)
    where
      go : ((r : ℕ) → r ≤ k → 1 ≤ r → r ≤ size o → P r) → Namer o (suc (suc q)) → P (suc (suc q))
      go ih (by_first r lr ur e) = subst P e (down r lr (omega arith) (ih r (omega arith) lr (omega arith))).0
      go ih (by_next r lr ur e) = subst P e (down r lr (omega arith) (ih r (omega arith) lr (omega arith))).1

  -- a sum over the forest of any record is a part of the sum over all records
  pub sum_part : (w : ℕ → Forest → ℕ) (r : ℕ) → r ≤ size o → sum_in w (tree o r) ≤ total (λ q. w q (tree o (first o q))) (records o)
  sum_part w zero u = omega (arith, ap (sum_in w) (tree_zero o))
  sum_part w (suc r) u =
      reach (λ q. sum_in w (tree o q) ≤ total (λ q. w q (tree o (first o q))) (records o)) (omega (arith, sum_all w))
      (λ q l u h. let e = ap (sum_in w) (tree_step q l u) in (omega arith, omega arith)) (suc r) (suc r) (omega arith) (omega arith) u

  -- so it is at most as many times k as there are records, where no term is greater than k
  pub sum_most : (w : ℕ → Forest → ℕ) (k r : ℕ) → r ≤ size o → ((q : ℕ) (f : Forest) → 1 ≤ q → q ≤ size o → w q f ≤ k)
      → sum_in w (tree o r) ≤ size o * k
  unfolding records
  sum_most w k r u h =
      omega (arith, sum_part w r u, total_most (λ q. w q (tree o (first o q))) k 1 (size o) (λ q l v. h q _ l (omega arith)))

  -- the records of a forest are the outline's, each at most once
  pub inside : (r : ℕ) → r ≤ size o → (t : ℕ) → count_in t (tree o r) ≤ occurs t (records o)
  inside r u t = sum_part (λ q f. one (eqb t q)) r u

  -- so its records are the outline's
  pub in_tree : (r : ℕ) → r ≤ size o → (q : ℕ) → 0 < count_in q (tree o r) → IsRecord o q
  unfolding records
  in_tree r u q h =
      let w = occurs_range q 1 (size o) (omega (arith, inside r u q)) in
      record { low = w.0; high = omega (arith, w.1) }

  pub distinct : (r : ℕ) → r ≤ size o → (t : ℕ) → count_in t (tree o r) ≤ 1
  unfolding records
  distinct r u t = omega (arith, inside r u t, occurs_most t 1 (size o))

  -- a record, what is below it and the rest of its chain have no record in common
  pub disjoint : (r : ℕ) → 1 ≤ r → r ≤ size o → (t : ℕ) → one (eqb t r) + (count_in t (tree o (first o r)) + count_in t (tree o (next o r))) ≤ 1
  disjoint r l u t = omega (arith, distinct r u t, ap (count_in t) (tree_step r l u))
