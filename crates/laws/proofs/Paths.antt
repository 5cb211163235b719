-- Where the branches that count lie: on the way up from a chosen record, and between two chosen records.
use Rattle.std.proofs.lemmas.Bool.{and_parts}
use Prim.Native.Nat.{ℕ, zero, suc, ◌+◌, ◌≤◌, ◌<◌}
use mathlib.Core.Path.{◌≡◌, refl, sym, ap, ap₂, subst, ◌∙◌}
use mathlib.Core.Logic.{inl, inr, ◌↔◌}
use mathlib.Core.Bool.{Bool, true, false, ◌&&◌, not}
use mathlib.Core.List.{List}
use native.Mathlib.Omega.{arith}
use lib.Dec.{eqb}
use borrow.Author.Tests.{eqb-true, eqb-false, eq-eqb, not-true}
use Rattle.lists.specs.Lists.{one, anywhere, total, lowest}
use Rattle.lists.proofs.Walk.{anywhere_lowest, lowest_holds}
use Rattle.refusals.proofs.Tests.{decides_not}
use Rattle.outline.specs.Outline.{size, next, first, records, IsRecord}
use Rattle.outline.specs.WellFormed.{Linked}
use Rattle.diversity.specs.Diversity.{clade, chosen, within, elsewhere}
use Rattle.diversity.specs.Paths.{Parent, of_root, of_first, of_next, OnWay, itself, parent, Between, IsChosen}
use Rattle.laws.specs.Forest.{Forest, node, shape, tree}
use Rattle.laws.proofs.Sums.{positive_some, positive_true, anywhere_count, total_term}
use Rattle.laws.proofs.Forest.{tree_step}
use Rattle.laws.proofs.ByTree.{anywhere_clade}
use Rattle.laws.specs.Measures.{chosen_in}

records_some : (o : List ℕ) (p : ℕ → Bool) → anywhere p (records o) ≡ true ↔ (t : ℕ) × IsRecord o t × (p t ≡ true)
unfolding records
records_some o p = (
  λ e. let h = lowest_holds p (size o) (eqb-false _ _ (not-true _ (anywhere_lowest p (size o) ∙ e))) in
      (lowest p (records o), record { low = h.0; high = h.1 }, h.2),
  λ (t, i, e). let h = total_term (λ q. one (p q)) t 1 (size o) i.low (omega (arith, i.high)) in
      anywhere_count p (records o) ∙ positive_true (total (λ q. one (p q)) (records o)) (omega (arith, ap one e)),
)

-- of two ends with a branch between them, one has it on its way up and the other has not
pub one_side : {o : List ℕ} {End : ℕ → Type 0} {r : ℕ} → (t u : ℕ) × End t × End u × Between o t u r
    → (t u : ℕ) × End t × End u × OnWay o t r × ¬ OnWay o u r
one_side (t, u, a, b, inl d) = (t, u, a, b, d.0, d.1)
one_side (t, u, a, b, inr d) = (u, t, b, a, d.0, d.1)

module _ (o : List ℕ) (linked : Linked o) where
  pub parent_later : {p q : ℕ} → Parent o p q → (p < q) × (q ≤ size o)
  parent_later of_root = (omega arith, linked.filled)
  parent_later (of_first {p} i h) = let f = linked.first_later p i.low i.high in (f.later h, f.most)
  parent_later (of_next {p} {q} x h) =
      let l = parent_later x in
      let n = linked.next_later q (omega arith) l.1 in
      let k = n.later h in
      (omega arith, n.most)

  pub way_earlier : {t r : ℕ} → OnWay o t r → r ≤ t
  way_earlier itself = omega arith
  way_earlier (parent w x) = omega (arith, way_earlier w, parent_later x)

  pub way_most : {t r : ℕ} → OnWay o t r → r ≤ size o → t ≤ size o
  way_most itself u = u
  way_most (parent w x) u = way_most w (parent_later x).1

  -- what is counted from a member on is counted from the first member on
  pub parent_part : {p q : ℕ} (m : Forest → ℕ) → ((r : ℕ) (f n : Forest) → m n ≤ m (node r f n))
      → Parent o p q → 1 ≤ p → m (tree o q) ≤ m (tree o (first o p))
  parent_part m h of_root k = absurd (omega arith)
  parent_part m h (of_first i l) k = omega arith
  parent_part m h (of_next {p} {q} x l) k =
      let later = parent_later x in
      omega (arith, parent_part m h x k, h q (tree o (first o q)) (tree o (next o q)), ap m (tree_step o linked q (omega arith) later.1))

  -- a test holds in r's clade exactly if it holds for a record with r on its way up
  module _ (p : ℕ → Bool) where
    abbrev Found : ℕ → Type 0
    Found r = (t : ℕ) × OnWay o t r × (p t ≡ true)

    below_way : (k r q : ℕ) → (1 ≤ q → Parent o r q) → 0 < chosen_in p (shape k o q) → Found r
    unfolding shape
    below_way zero r zero x h = absurd (omega arith)
    below_way zero r (suc q) x h = absurd (omega arith)
    below_way (suc k) r zero x h = absurd (omega arith)
    below_way (suc k) r (suc q) x h =
        go (p (suc q)) refl _ refl
        (below_way k (suc q) (first o (suc q)) (of_first record { low = omega arith; high = (parent_later up).1 }))
        (below_way k r (next o (suc q)) (of_next up))
      where
        up : Parent o r (suc q)
        up = x (omega arith)

        go : (b : Bool) → p (suc q) ≡ b → (n : ℕ) → chosen_in p (shape k o (first o (suc q))) ≡ n
            → (0 < chosen_in p (shape k o (first o (suc q))) → Found (suc q)) → (0 < chosen_in p (shape k o (next o (suc q))) → Found r) → Found r
        go true e n f members rest = (suc q, parent itself up, e)
        go false e (suc n) f members rest = let (t, w, c) = members (omega arith) in (t, parent w up, c)
        go false e zero f members rest = rest (omega (arith, ap one e))

    way_count : {t r : ℕ} → OnWay o t r → p t ≡ true → 1 ≤ r → 0 < one (p r) + chosen_in p (tree o (first o r))
    way_count itself e l = omega (arith, ap one e)
    way_count (parent {q = q} w x) e l =
        let later = parent_later x in
        omega (
          arith,
          way_count w e (omega arith),
          ap (chosen_in p) (tree_step o linked q (omega arith) later.1),
          parent_part (chosen_in p) (λ r f n. omega arith) x l,
        )

    clade_way : (r : ℕ) → IsRecord o r → anywhere p (clade o r) ≡ true ↔ Found r
    unfolding tree
    clade_way r i = (
      λ e. go (p r) refl (positive_some _ (sym (anywhere_clade p o r) ∙ e)),
      λ (t, w, e). anywhere_clade p o r ∙ positive_true _ (way_count w e i.low),
    )
      where
        go : (b : Bool) → p r ≡ b → 0 < one (p r) + chosen_in p (tree o (first o r)) → Found r
        go true e h = (r, itself, e)
        go false e h = below_way (size o) r (first o r) (of_first i) (omega (arith, ap one e))

  module _ (s : List ℕ) (r : ℕ) (i : IsRecord o r) where
    -- a branch counts in rooted diversity exactly if it is on the way up from a chosen record
    pub rooted_on_way : within o s r ≡ true ↔ (t : ℕ) × IsChosen o s t × OnWay o t r
    unfolding within
    rooted_on_way = (
      λ e. let (t, w, c) = (clade_way (chosen s) r i).0 e in (t, (record { low = omega (arith, way_earlier w, i.low); high = way_most w i.high }, c), w),
      λ (t, c, w). (clade_way (chosen s) r i).1 (t, w, c.1),
    )

    pub in_clade : (t : ℕ) → anywhere (eqb t) (clade o r) ≡ true ↔ OnWay o t r
    in_clade t = (
      λ e. let (q, w, c) = (clade_way (eqb t) r i).0 e in subst (λ q. OnWay o q r) (sym (eqb-true t q c)) w,
      λ w. (clade_way (eqb t) r i).1 (t, w, eq-eqb t t refl),
    )

    elsewhere_off_way : elsewhere o s r ≡ true ↔ (u : ℕ) × IsChosen o s u × ¬ OnWay o u r
    unfolding elsewhere
    elsewhere_off_way = (
      λ e. let (u, j, c) = (records_some o out).0 e in let f = and_parts _ _ c in (u, (j, f.0), (outside u).0 f.1),
      λ (u, c, n). (records_some o out).1 (u, c.0, ap₂ ◌&&◌ c.1 ((outside u).1 n)),
    )
      where
        out : ℕ → Bool
        out u = chosen s u && not (anywhere (eqb u) (clade o r))

        outside : (u : ℕ) → not (anywhere (eqb u) (clade o r)) ≡ true ↔ ¬ OnWay o u r
        outside u = decides_not (in_clade u)

    -- in unrooted diversity exactly if it lies between two chosen records
    pub unrooted_between : (within o s r && elsewhere o s r) ≡ true ↔ (t u : ℕ) × IsChosen o s t × IsChosen o s u × Between o t u r
    unrooted_between = (
      λ e. let f = and_parts _ _ e in
          let (t, c, w) = rooted_on_way.0 f.0 in
          let (u, d, n) = elsewhere_off_way.0 f.1 in
          (t, u, c, d, inl (w, n)),
      λ x. let (t, u, c, d, w, n) = one_side x in ap₂ ◌&&◌ (rooted_on_way.1 (t, c, w)) (elsewhere_off_way.1 (u, d, n)),
    )
