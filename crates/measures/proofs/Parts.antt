-- Sums over the forest of a record: how large they are, and how those of a clade, of a chain and of all records come about.
use Rattle.std.specs.Prelude.{if◌then◌else◌}
use Prim.Native.Nat.{ℕ, ◌+◌, ◌*◌, ◌-◌, ◌^◌, ◌≤◌, ◌<◌}
use mathlib.Core.Path.{◌≡◌, sym, ap, ◌∙◌}
use mathlib.Core.Bool.{Bool, true, false, ◌&&◌}
use mathlib.Core.List.{List}
use native.Mathlib.Omega.{arith}
use lib.Dec.{eqb}
use mir.Val.{bool_byte}
use Rattle.lists.specs.Lists.{one, positive}
use Rattle.lists.proofs.Bools.{byte_one, one_le, if_most}
use Rattle.outline.specs.Outline.{size, next, first, branch, price}
use Rattle.outline.specs.WellFormed.{WellFormed}
use Rattle.diversity.specs.Diversity.{chosen, rooted, unrooted, diversity, chosen_taxa}
use Rattle.laws.specs.Forest.{Forest, node, sum_in, tree}
use Rattle.laws.proofs.Forest.{tree_zero, tree_step, sum_most}
use Rattle.laws.proofs.ByTree.{cost_tree, taxa_tree, rooted_crossing, unrooted_crossing}
use Rattle.measures.specs.Measures.{Measurable, Measured}
use Rattle.measures.specs.Inner.{Addable, Added, Marked, clade_of, InClade, CladeMeasured, ChainMeasured}
use Rattle.measures.specs.declared.figures.Measure.{Measure}
use Rattle.outline.specs.Rules.{most_records, most_length, most_price}
use Rattle.laws.specs.Measures.{chosen_in, cost_in, crossing}

-- ---- how large the sums are
pub record SumsBounded (taxa cost diversity : ℕ) : Type 0 where
  pub taxa_most : taxa ≤ most_records
  pub cost_most : cost ≤ most_records * most_price
  pub diversity_most : diversity ≤ most_records * most_length

abbrev SumsBoundedIn : List ℕ → List ℕ → ℕ → Forest → Type 0
SumsBoundedIn o s all F = SumsBounded (chosen_in (chosen s) F) (cost_in o (chosen s) F) (sum_in (crossing o (chosen s) all) F)

module _ (o : List ℕ) (formed : WellFormed o) (s : List ℕ) (all : ℕ) where
  pub tree_bounded : (r : ℕ) → r ≤ size o → SumsBoundedIn o s all (tree o r)
  tree_bounded r u =
      let few = formed.size_most in
      record {
        taxa_most = omega (arith, sum_most o formed.linked (λ q f. one (chosen s q)) 1 r u (λ q f l v. one_le (chosen s q)));
        cost_most =
            omega (
              arith,
              sum_most o formed.linked (λ q f. if positive (one (chosen s q) + chosen_in (chosen s) f) then price o q else 0) most_price r u
                  (λ q f l v. omega (arith, if_most (positive (one (chosen s q) + chosen_in (chosen s) f)) (price o q), (formed.ranged q l v).price_most)),
            );
        diversity_most =
            omega (
              arith,
              sum_most o formed.linked (crossing o (chosen s) all) most_length r u
                  (λ q f l v. omega (
                    arith,
                    if_most (positive (one (chosen s q) + chosen_in (chosen s) f) && positive (all - (one (chosen s q) + chosen_in (chosen s) f))) (branch o q),
                    (formed.ranged q l v).branch_most,
                  )),
            );
      }

-- ---- a clade
module _ {o : List ℕ} {r : ℕ} {s : List ℕ} {all : ℕ} {members : Measure} (h : InClade o r s all members) where
  -- the chosen taxa at or below record r
  pub below_is : members.taxa + one (chosen s r) ≡ one (chosen s r) + chosen_in (chosen s) (tree o (first o r))
  below_is = omega (arith, h.below.taxa_is)

  -- whatever the record counts of itself, the sums keep to 32 bits
  members_bounded : SumsBoundedIn o s all (tree o (first o r))
  members_bounded =
      let formed = h.base.formed in
      tree_bounded o formed s all (first o r) (formed.linked.first_later r h.is_record.low h.is_record.high).most

  pub taxa_fit : (own : Bool) → members.taxa + bool_byte own < 2 ^ 32
  taxa_fit own = omega (arith, h.below.taxa_is, members_bounded.taxa_most, byte_one own, one_le own)

  pub cost_fits : {v : ℕ} (b : Bool) → v ≡ (if b then price o r else 0) → members.cost + v < 2 ^ 32
  cost_fits b e =
      let ranged = h.base.formed.ranged r h.is_record.low h.is_record.high in
      omega (arith, e, if_most b (price o r), ranged.price_most, h.below.cost_is, members_bounded.cost_most)

  pub diversity_fits : {v : ℕ} (b : Bool) → v ≡ (if b then branch o r else 0) → members.diversity + v < 2 ^ 32
  diversity_fits b e =
      let ranged = h.base.formed.ranged r h.is_record.low h.is_record.high in
      omega (arith, e, if_most b (branch o r), ranged.branch_most, h.below.diversity_is, members_bounded.diversity_most)

  pub cost_counted : {b p : ℕ} → b ≡ members.taxa + one (chosen s r) → p ≡ (if positive b then price o r else 0)
      → members.cost + p ≡ cost_in o (chosen s) (clade_of o r)
  cost_counted e d = omega (arith, h.below.cost_is, rw (e ∙ below_is) at d)

  pub diversity_counted : {b d : ℕ} → b ≡ members.taxa + one (chosen s r) → d ≡ (if positive b && positive (all - b) then branch o r else 0)
      → members.diversity + d ≡ sum_in (crossing o (chosen s) all) (clade_of o r)
  diversity_counted e d = omega (arith, h.below.diversity_is, rw (e ∙ below_is) at d)

  pub clade_measured : {b p d : ℕ} → b ≡ members.taxa + one (chosen s r) → p ≡ (if positive b then price o r else 0)
      → d ≡ (if positive b && positive (all - b) then branch o r else 0)
      → CladeMeasured o r s all (record { taxa = b; cost = members.cost + p; diversity = members.diversity + d })
  clade_measured e p d = record { taxa_is = omega (arith, below_is); cost_is = cost_counted e p; diversity_is = diversity_counted e d }

-- ---- a chain
module _ {o : List ℕ} {s : List ℕ} {all : ℕ} where
  pub no_chain : {r : ℕ} (m : Measure) → r ≡ 0 → (m.taxa ≡ 0) × ((m.cost ≡ 0) × (m.diversity ≡ 0)) → ChainMeasured o r s all m
  no_chain m z (taxa, (cost, diversity)) = rw (z, tree_zero o) (record { taxa_is = taxa; cost_is = cost; diversity_is = diversity })

  module _ {r : ℕ} (base : Measurable o s) (l : 1 ≤ r) (u : r ≤ size o) {own rest : Measure}
      (first_is : CladeMeasured o r s all own) (next_is : ChainMeasured o (next o r) s all rest) where
    step : tree o r ≡ node r (tree o (first o r)) (tree o (next o r))
    step = tree_step o base.formed.linked r l u

    taxa_sum : own.taxa + rest.taxa ≡ chosen_in (chosen s) (tree o r)
    taxa_sum = omega (arith, first_is.taxa_is, next_is.taxa_is, ap (chosen_in (chosen s)) step)

    cost_sum : own.cost + rest.cost ≡ cost_in o (chosen s) (tree o r)
    cost_sum = omega (arith, first_is.cost_is, next_is.cost_is, ap (cost_in o (chosen s)) step)

    diversity_sum : own.diversity + rest.diversity ≡ sum_in (crossing o (chosen s) all) (tree o r)
    diversity_sum = omega (arith, first_is.diversity_is, next_is.diversity_is, ap (sum_in (crossing o (chosen s) all)) step)

    pub parts_addable : Addable own rest
    parts_addable =
        let small = tree_bounded o base.formed s all r u in
        record {
          taxa_fit = omega (arith, taxa_sum, small.taxa_most);
          cost_fits = omega (arith, cost_sum, small.cost_most);
          diversity_fits = omega (arith, diversity_sum, small.diversity_most);
        }

    pub chain_measured : {m : Measure} → Added own rest m → ChainMeasured o r s all m
    chain_measured e = record { taxa_is = e.taxa_is ∙ taxa_sum; cost_is = e.cost_is ∙ cost_sum; diversity_is = e.diversity_is ∙ diversity_sum }

-- ---- all records
pub taxa_few : {o s : List ℕ} {v : ℕ} → Measurable o s → v ≡ chosen_taxa o s → Marked o s v
taxa_few {o} {s} base e = record {
  taxa_is = e;
  few = omega (arith, taxa_tree o base.formed.linked s, (tree_bounded o base.formed s 0 1 base.formed.linked.filled).taxa_most);
}

by_way : (o s : List ℕ) (way all : ℕ) → Measurable o s → all ≡ chosen_taxa o s + one (eqb way 0) → chosen_taxa o s ≡ chosen_in (chosen s) (tree o 1)
    → sum_in (crossing o (chosen s) all) (tree o 1) ≡ diversity o way s
unfolding diversity
by_way o s way all base e taxa = go (eqb way 0) e
  where
    go : (b : Bool) → all ≡ chosen_taxa o s + one b → sum_in (crossing o (chosen s) all) (tree o 1) ≡ (if b then rooted o s else unrooted o s)
    go true e =
        let whole : all ≡ 1 + chosen_in (chosen s) (tree o 1) = omega arith in
        ap (λ c. sum_in (crossing o (chosen s) c) (tree o 1)) whole ∙ sym (rooted_crossing o base.formed.linked s)
    go false e =
        let whole : all ≡ chosen_in (chosen s) (tree o 1) = omega arith in
        ap (λ c. sum_in (crossing o (chosen s) c) (tree o 1)) whole ∙ sym (unrooted_crossing o base.formed.linked s)

pub measured : {o s : List ℕ} {way all : ℕ} {m : Measure} → Measurable o s → all ≡ chosen_taxa o s + one (eqb way 0) → ChainMeasured o 1 s all m → Measured o s way m
measured {o} {s} {way} {all} {m} base e w = record {
  taxa_is = w.taxa_is ∙ sym taxa;
  cost_is = w.cost_is ∙ sym (cost_tree o base.formed.linked s);
  diversity_is = w.diversity_is ∙ counted;
}
  where
    taxa : chosen_taxa o s ≡ chosen_in (chosen s) (tree o 1)
    taxa = taxa_tree o base.formed.linked s

    counted : sum_in (crossing o (chosen s) all) (tree o 1) ≡ diversity o way s
    counted = by_way o s way all base e taxa
