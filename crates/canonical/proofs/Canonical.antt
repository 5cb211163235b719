-- One tree, one file: accepted outlines are the same tree exactly if their house forms are equal bytes, the house form is the one outline of
-- its tree that ascends and stands in text order, and comparing house forms is a total order of trees.
use Prim.Native.Nat.{ℕ}
use mathlib.Core.Path.{◌≡◌, refl, sym, ap, subst, ◌∙◌}
use mathlib.Core.Logic.{◌⊎◌, inl, inr, ◌↔◌}
use mathlib.Core.Bool.{true≢false}
use mathlib.Core.List.{List}
use Rattle.std.specs.Cmp.Lexicographic.{slice_cmp, nat_list_cmp_total}
use Rattle.std.specs.FinMap.{slice_cmp-IsAntisymmetric, nat_cmp-IsAntisymmetric}
use Rattle.std.specs.Ordering.{nat_cmp, ordering_reverse, is_lt}
use Rattle.std.specs.declared.cmp.Ordering.{Ordering}
use Rattle.std.specs.declared.cmp.Ordering.TheVariants.{Less, Equal, Greater}
use Rattle.outline.proofs.WellFormed.{accepted_formed}
use Rattle.diversity.specs.Order.{InTextOrder}
use Rattle.canonical.specs.SameTree.{Accepted, SameTree}
use Rattle.canonical.specs.House.{house_form}
use Rattle.canonical.specs.Rules.{Ascending}
use Rattle.canonical.specs.Compare.{compared, AtOrBefore}
use Rattle.canonical.proofs.Renumbering.{same_sym, same_trans}
use Rattle.canonical.proofs.Unique.{same_house}
use Rattle.canonical.proofs.HouseForm.{house_accepted, house_tree, house_ascending, house_in_text_order}
use Rattle.canonical.proofs.OwnForm.{own_house}

-- ---- one tree, one file
module _ {o p : List ℕ} (a : Accepted o) (b : Accepted p) where
  pub tree_turned : SameTree o p → SameTree p o
  tree_turned s = same_sym (accepted_formed o a.passes) (accepted_formed p b.passes) s

  pub one_form : SameTree o p → house_form o ≡ house_form p
  one_form s = same_house (accepted_formed o a.passes) (accepted_formed p b.passes) s

pub one_tree : {o p : List ℕ} → Accepted o → Accepted p → house_form o ≡ house_form p → SameTree o p
one_tree {o} {p} a b e =
    same_trans (tree_turned (house_accepted o a) a (house_tree o a)) (subst (λ h. SameTree h p) (sym e) (house_tree p b))

pub same_exactly : {o p : List ℕ} → Accepted o → Accepted p → SameTree o p ↔ (house_form o ≡ house_form p)
same_exactly a b = (one_form a b, one_tree a b)

-- the house form of a house form is itself
pub house_of_house : {o : List ℕ} → Accepted o → house_form (house_form o) ≡ house_form o
house_of_house {o} a = one_form (house_accepted o a) a (house_tree o a)

-- ---- the house form keeps both rules, and no other outline of its tree does
pub house_rules : {o : List ℕ} → Accepted o → Ascending (house_form o) × InTextOrder (house_form o)
house_rules {o} a = (house_ascending o a, house_in_text_order o a)

pub house_only : {o p : List ℕ} → Accepted o → Accepted p → SameTree o p → Ascending p → InTextOrder p → p ≡ house_form o
house_only {o} {p} a b s up order = sym (one_form a b s ∙ own_house p b up order)

-- ---- the order of trees
less_greater : Less ≡ Greater → ⊥
less_greater e = true≢false (ap is_lt e)

-- it tells two trees apart exactly if they are not the same
pub compared_same : {o p : List ℕ} → Accepted o → Accepted p → SameTree o p ↔ (compared o p ≡ Equal)
compared_same {o} {p} a b = (
  λ s. ap (λ h. slice_cmp nat_cmp h (house_form p)) (one_form a b s) ∙ itself (house_form p),
  λ e. one_tree a b (slice_cmp-IsAntisymmetric nat_cmp-IsAntisymmetric (house_form o) (house_form p) e),
)
  where
    itself : (xs : List ℕ) → slice_cmp nat_cmp xs xs ≡ Equal
    itself xs = go (slice_cmp nat_cmp xs xs) (nat_list_cmp_total.antisymm xs xs)
      where
        go : (c : Ordering) → c ≡ ordering_reverse c → c ≡ Equal
        go Less e = absurd (less_greater e)
        go Equal e = refl
        go Greater e = absurd (less_greater (sym e))

-- turned round it is turned round
pub compared_turned : (o p : List ℕ) → compared p o ≡ ordering_reverse (compared o p)
compared_turned o p = nat_list_cmp_total.antisymm (house_form p) (house_form o)

pub compared_onward : (o p q : List ℕ) → compared o p ≡ Less → compared p q ≡ Less → compared o q ≡ Less
compared_onward o p q = nat_list_cmp_total.trans (house_form o) (house_form p) (house_form q)

-- the same tree is compared alike, on either side
pub compared_alike : {o p : List ℕ} → Accepted o → Accepted p → SameTree o p → (q : List ℕ)
    → (compared o q ≡ compared p q) × (compared q o ≡ compared q p)
compared_alike {o} {p} a b s q =
    let e = one_form a b s in
    (ap (λ h. slice_cmp nat_cmp h (house_form q)) e, ap (slice_cmp nat_cmp (house_form q)) e)

-- "before or the same" is a total order: reflexive, antisymmetric up to the same tree, transitive, and total
pub order_reflexive : {o p : List ℕ} → Accepted o → Accepted p → SameTree o p → AtOrBefore o p
order_reflexive a b s = inr ((compared_same a b).0 s)

pub order_antisymmetric : {o p : List ℕ} → Accepted o → Accepted p → AtOrBefore o p → AtOrBefore p o → SameTree o p
order_antisymmetric {o} {p} a b (inl e) (inl d) = absurd (less_greater (sym d ∙ compared_turned o p ∙ ap ordering_reverse e))
order_antisymmetric a b (inl e) (inr d) = tree_turned b a ((compared_same b a).1 d)
order_antisymmetric a b (inr e) d = (compared_same a b).1 e

pub order_transitive : {o p q : List ℕ} → Accepted o → Accepted p → Accepted q → AtOrBefore o p → AtOrBefore p q → AtOrBefore o q
order_transitive {o} {p} {q} a b c (inl e) (inl d) = inl (compared_onward o p q e d)
order_transitive {o} {p} {q} a b c (inl e) (inr d) = inl (sym (compared_alike b c ((compared_same b c).1 d) o).1 ∙ e)
order_transitive {o} {p} {q} a b c (inr e) (inl d) = inl ((compared_alike a b ((compared_same a b).1 e) q).0 ∙ d)
order_transitive {o} {p} {q} a b c (inr e) (inr d) = inr ((compared_alike a b ((compared_same a b).1 e) q).0 ∙ d)

pub order_total : (o p : List ℕ) → AtOrBefore o p ⊎ AtOrBefore p o
order_total o p = go (compared o p) refl
  where
    go : (c : Ordering) → compared o p ≡ c → AtOrBefore o p ⊎ AtOrBefore p o
    go Less e = inl (inl e)
    go Equal e = inl (inr e)
    go Greater e = inr (inl (compared_turned o p ∙ ap ordering_reverse e))
