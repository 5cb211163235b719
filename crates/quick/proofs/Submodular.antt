-- A set with others adds no more than each of these adds by itself (rooted diversity is submodular), so the best diversity is never above the
-- ceiling of any set.
use Rattle.std.specs.Prelude.{if◌then◌else◌}
use Prim.Native.Nat.{ℕ, ◌+◌, ◌≤◌}
use mathlib.Core.Path.{◌≡◌, refl, sym, ap, fun_ext, ◌∙◌}
use mathlib.Core.Bool.{Bool, true, false, ◌&&◌, not, false≢true, true≢false, and-true}
use mathlib.Core.List.{List}
use native.Mathlib.Omega.{arith}
use lib.Dec.{leb}
use borrow.Author.Tests.{eq-eqb, le-leb}
use Rattle.lists.specs.Lists.{from, total}
use Rattle.outline.specs.Outline.{size, records, branch, price, is_taxon, IsRecord}
use Rattle.outline.specs.WellFormed.{Linked}
use Rattle.diversity.specs.Diversity.{chosen, within, rooted, diversity, cost}
use Rattle.diversity.specs.Behind.{IsSet}
use Rattle.diversity.specs.Paths.{OnWay, itself, IsChosen}
use Rattle.diversity.specs.Search.{optimum, best_diversity}
use Rattle.laws.specs.Locks.{locked_set}
use Rattle.laws.proofs.Marks.{group_unchosen}
use Rattle.laws.proofs.Optimum.{optimum_set, optimum_fits, shown_diversity}
use Rattle.laws.proofs.Paths.{rooted_on_way}
use Rattle.laws.proofs.Sums.{total_add, total_zero, total_range, total_swap, total_term}
use Rattle.quick.specs.Quick.{with_taxon, added, ceiling}
use Rattle.quick.proofs.Taxon.{with_chosen, newly, added_sum}

-- a test that does not look at the record, taken out of a sum
if_out : (b : Bool) (f : ℕ → ℕ) (xs : List ℕ) → total (λ r. if b then f r else 0) xs ≡ (if b then total f xs else 0)
if_out true f xs = refl
if_out false f xs = total_zero xs

module _ (o : List ℕ) (linked : Linked o) (s t : List ℕ) (x : IsSet o s) where
  -- taxon q is in t and not in s
  abbrev other : ℕ → Bool
  other q = chosen t q && not (chosen s q)

  -- what it counts for at record r
  abbrev share : ℕ → ℕ → ℕ
  share r q = if other q then (if newly o s q r then branch o r else 0) else 0

  -- where t counts, s does, or a taxon that is in t alone adds it
  at_record : (r : ℕ) → IsRecord o r → (if within o t r then branch o r else 0) ≤ (if within o s r then branch o r else 0) + total (share r) (records o)
  unfolding records
  at_record r i = go (within o t r) refl (within o s r) refl
    where
      go : (a : Bool) → within o t r ≡ a → (b : Bool) → within o s r ≡ b
          → (if a then branch o r else 0) ≤ (if b then branch o r else 0) + total (share r) (from 1 (size o))
      go false e b d = omega arith
      go true e true d = omega arith
      go true e false d = counted ((rooted_on_way o linked t r i).0 e)
        where
          counted : (q : ℕ) × IsChosen o t q × OnWay o q r → branch o r ≤ 0 + total (share r) (from 1 (size o))
          counted (q, c, w) =
              let term = total_term (share r) q 1 (size o) c.0.low (omega (arith, c.0.high)) in
              let full : share r q ≡ branch o r = rw (c.1, lacks, newly_there, d) refl in
              omega arith
            where
              lacks : chosen s q ≡ false
              lacks = by (chosen s q) refl
                where
                  by : (b : Bool) → chosen s q ≡ b → b ≡ false
                  by true h = absurd (true≢false (sym ((rooted_on_way o linked s r i).1 (q, (c.0, h), w)) ∙ d))
                  by false h = refl

              joined : chosen (with_taxon s q) q ≡ true
              joined = with_chosen o s x c.0 q c.0 ∙ rw (lacks, eq-eqb q q refl) refl

              newly_there : within o (with_taxon s q) r ≡ true
              newly_there = (rooted_on_way o linked (with_taxon s q) r i).1 (q, (c.0, joined), w)

  pub submodular : diversity o 0 t ≤ diversity o 0 s + total (λ q. if other q then added o s q else 0) (records o)
  unfolding diversity rooted records
  submodular =
      let each = total_range _ (λ r. (if within o s r then branch o r else 0) + total (share r) (records o)) 1 (size o)
      (λ r l u. at_record r (record { low = l; high = omega arith })) in
      let sum = total_add (λ r. if within o s r then branch o r else 0) (λ r. total (share r) (records o)) (records o) in
      let swap = total_swap share (records o) (records o) in
      let one_by_one : total (λ q. total (λ r. share r q) (records o)) (records o) ≡ total (λ q. if other q then added o s q else 0) (records o) =
      ap (λ f. total f (records o))
      (fun_ext (λ q. if_out (other q) _ (records o) ∙ ap (λ n. if other q then n else 0) (sym (added_sum o s q)))) in
      omega arith

-- a chosen taxon's price is at most the cost
price_most : (o : List ℕ) → Linked o → (t : List ℕ) (q : ℕ) → IsRecord o q → chosen t q ≡ true → price o q ≤ cost o t
unfolding cost records
price_most o linked t q i c =
    let here : within o t q ≡ true = (rooted_on_way o linked t q i).1 (q, (i, c), itself) in
    let term = total_term (λ r. if within o t r then price o r else 0) q 1 (size o) i.low (omega (arith, i.high)) in
    rw here at term

module _ (o : List ℕ) (linked : Linked o) (b : ℕ) (fit : cost o (locked_set o) ≤ b) (s : List ℕ) (x : IsSet o s) where
  abbrev best : List ℕ
  best = optimum o 0 b

  -- a taxon of the best set counts in the ceiling
  best_counts : (q : ℕ) → IsRecord o q → (c : Bool) → chosen best q ≡ c → (d : Bool) → is_taxon o q ≡ d
      → (if c && not (chosen s q) then added o s q else 0) ≤ (if d && (not (chosen s q) && leb (price o q) b) then added o s q else 0)
  best_counts q i false e d f = omega arith
  best_counts q i true e false f = absurd (false≢true (sym (group_unchosen o best (optimum_set o 0 b fit) q i.low i.high f) ∙ e))
  best_counts q i true e true f =
      rw (le-leb (price o q) b (omega (arith, price_most o linked best q i e, (optimum_fits o 0 b fit).cost_most)), and-true (not (chosen s q)))
      (omega arith)

  -- the best diversity is never above the ceiling of any set
  pub ceiling_most : best_diversity o 0 b ≤ ceiling o b s
  unfolding ceiling records
  ceiling_most =
      omega (
        arith,
        shown_diversity o 0 b fit,
        submodular o linked s best x,
        total_range (λ q. if chosen best q && not (chosen s q) then added o s q else 0)
            (λ q. if is_taxon o q && (not (chosen s q) && leb (price o q) b) then added o s q else 0) 1 (size o)
            (λ q l u. best_counts q (record { low = l; high = omega arith }) (chosen best q) refl (is_taxon o q) refl),
      )
