-- How large the candidates of the rows can be, so that no sum in them overflows.
use Rattle.std.specs.Prelude.{if◌then◌else◌}
use Prim.Native.Nat.{ℕ, ◌+◌, ◌*◌, ◌-◌, ◌^◌, ◌≤◌, ◌<◌}
use mathlib.Core.Path.{◌≡◌, ap, ◌∙◌}
use mathlib.Core.List.{List}
use native.Mathlib.Omega.{arith}
use lib.Pow.{pow_mono}
use Rattle.lists.specs.Lists.{total}
use Rattle.outline.specs.Outline.{size, next, first, branch, price, records, is_taxon}
use Rattle.outline.specs.WellFormed.{Linked, WellFormed}
use Rattle.laws.specs.Forest.{Forest, empty, node, tree}
use Rattle.laws.specs.Candidate.{Cand, From, nothing, this}
use Rattle.laws.specs.Locks.{locks}
use Rattle.laws.specs.Numbers.{weight}
use Rattle.laws.proofs.Sums.{total_ext}
use Rattle.laws.proofs.Forest.{tree_step, sum_part, sum_most}
use Rattle.laws.proofs.Best.{from_better, from_same}
use Rattle.laws.proofs.Locks.{locks_most}
use Rattle.laws.proofs.Numbers.{weights_below}
use Rattle.rows.specs.Rows.{Row, better_row, is_leaf, taxon_rooted, heading_rooted, clade_row, pushed, rooted_row}
use Rattle.rows.proofs.BestRows.{from_join_row}
use Rattle.rows.proofs.Steps.{leaf_taxon}
use Rattle.outline.specs.Rules.{taxa, taxa_in, most_records, most_taxa, most_length, most_price}
use Rattle.laws.specs.Measures.{lock}
use Rattle.rows.specs.Bounds.{lockings, prices, all_in, Bounded, codes, branches, BoundedRow}

pub bounded_more : {k d m : ℕ} (l e n : ℕ) {b : ℕ} {c : Cand} → k ≤ l → d ≤ e → m ≤ n → From (Bounded k d m) b c → From (Bounded l e n) b c
bounded_more l e n g h i = from_same (λ v s. record { locked_most = omega arith; diversity_most = omega arith; code_most = omega arith })

module _ (o : List ℕ) (weigh : ℕ → ℕ) where
  clade_bounded : (r : ℕ) (f : Forest) (k d m : ℕ) {x : Row} (g : Row) (b : ℕ) → BoundedRow k d m b x
      → BoundedRow (k + lockings o f) (d + branches o f) (m + codes weigh f) b g
      → From (Bounded (k + (lock o r + lockings o f)) (d + (branch o r + branches o f)) (m + ((if is_leaf f then weigh r else 0) + codes weigh f))) b
      (clade_row o weigh r (is_leaf f) x g b)
  unfolding clade_row
  clade_bounded r empty k d m {x} g b hx hg =
      from_same (λ v (q, s, e). rw e (record { locked_most = omega arith; diversity_most = omega arith; code_most = omega arith }))
      (from_join_row (taxon_rooted o weigh r) x b (hx (b - price o r) (omega arith)))
  clade_bounded r (node s h n) k d m g b hx hg =
      from_same (λ v (q, s, e). rw e (record { locked_most = omega arith; diversity_most = omega arith; code_most = omega arith }))
      (from_join_row (heading_rooted o weigh r) g b (hg (b - price o r) (omega arith)))

  -- pushing adds at most the forest's locks, branches and codes
  pub pushed_bounded : (F : Forest) (k d m n : ℕ) {x : Row} → BoundedRow k d m n x
      → BoundedRow (k + lockings o F) (d + branches o F) (m + codes weigh F) n (pushed o weigh F x)
  unfolding pushed
  pushed_bounded empty k d m n hx b l = nothing
  pushed_bounded (node r f q) k d m n {x} hx b l =
      let y = pushed_bounded q k d m n hx in
      let follow : BoundedRow (k + lockings o q) (d + branches o q) (m + codes weigh q) n (better_row x (pushed o weigh q x)) =
      λ i h. from_better (bounded_more _ _ _ (omega arith) (omega arith) (omega arith) (hx i h)) (y i h) in
      let z = clade_bounded r f _ _ _ _ b (λ i h. follow i (omega arith)) (λ i h. pushed_bounded f _ _ _ n follow i (omega arith)) in
      from_better (bounded_more _ _ _ (omega arith) (omega arith) (omega arith) z) (bounded_more _ _ _ (omega arith) (omega arith) (omega arith) (y b l))

  pub rooted_bounded : (F : Forest) (b : ℕ) → From (Bounded (lockings o F) (branches o F) (codes weigh F)) b (rooted_row o weigh F b)
  unfolding rooted_row
  rooted_bounded F b =
      bounded_more _ _ _ (omega arith) (omega arith) (omega arith)
      (pushed_bounded F 0 0 0 b (λ i l. this (record { locked_most = omega arith; diversity_most = omega arith; code_most = omega arith }) (omega arith)) b (omega arith))

-- the same by links, and against the sums over all records
module _ (o : List ℕ) (linked : Linked o) (w : ℕ → ℕ) (r : ℕ) (u : r ≤ size o) where
  pub all_step : 1 ≤ r → all_in w (tree o r) ≡ w r + (all_in w (tree o (first o r)) + all_in w (tree o (next o r)))
  all_step l = ap (all_in w) (tree_step o linked r l u)

module _ (o : List ℕ) (linked : Linked o) (weigh : ℕ → ℕ) (r : ℕ) (u : r ≤ size o) where
  pub codes_most : codes weigh (tree o r) ≤ total (λ q. if is_taxon o q then weigh q else 0) (records o)
  unfolding records
  codes_most =
      omega (
        arith,
        sum_part o linked (λ q f. if is_leaf f then weigh q else 0) r u,
        total_ext (λ q. if is_leaf (tree o (first o q)) then weigh q else 0) (λ q. if is_taxon o q then weigh q else 0) 1 (size o)
            (λ q l h. ap (λ t. if t then weigh q else 0) (leaf_taxon o linked q l (omega arith))),
      )

  module _ (l : 1 ≤ r) where
    pub codes_step : codes weigh (tree o r) ≡ (if is_taxon o r then weigh r else 0) + (codes weigh (tree o (first o r)) + codes weigh (tree o (next o r)))
    codes_step = ap (codes weigh) (tree_step o linked r l u) ∙ rw (leaf_taxon o linked r l u)

-- what an accepted outline allows
module _ (o : List ℕ) (formed : WellFormed o) (r : ℕ) (u : r ≤ size o) where
  pub branches_limit : branches o (tree o r) ≤ most_records * most_length
  branches_limit = omega (arith, formed.size_most, sum_most o formed.linked (λ q f. branch o q) most_length r u (λ q f l h. (formed.ranged q l h).branch_most))

  pub prices_limit : prices o (tree o r) ≤ most_records * most_price
  prices_limit = omega (arith, formed.size_most, sum_most o formed.linked (λ q f. price o q) most_price r u (λ q f l h. (formed.ranged q l h).price_most))

  pub lockings_limit : lockings o (tree o r) ≤ most_taxa
  unfolding locks
  lockings_limit = omega (arith, sum_part o formed.linked (λ q f. lock o q) r u, locks_most o, formed.taxa_most)

  pub codes_limit : codes (weight o) (tree o r) < 2 ^ most_taxa
  unfolding taxa taxa_in
  codes_limit = omega (arith, codes_most o formed.linked (weight o) r u, weights_below o, pow_mono formed.taxa_most)
