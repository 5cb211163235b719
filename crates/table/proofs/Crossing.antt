-- The steps of crossing a group's clade with the rest of its chain, by pushing either side over the other.
use Rattle.std.specs.Prelude.{if◌then◌else◌}
use Prim.Native.Nat.{ℕ, ◌+◌, ◌-◌, ◌<◌}
use mathlib.Core.Path.{◌≡◌, refl, sym, ap, ◌∙◌}
use mathlib.Core.Logic.{inl, inr}
use mathlib.Core.List.{List}
use native.Mathlib.Omega.{arith}
use lib.ListN.{length}
use borrow.Author.Tests.{ne_eqb, eqb-false}
use Rattle.outline.specs.Outline.{next, first, branch, price, is_taxon}
use Rattle.outline.specs.WellFormed.{WellFormed}
use Rattle.laws.specs.Candidate.{better_of, From}
use Rattle.laws.specs.Forest.{tree}
use Rattle.laws.specs.Numbers.{weight}
use Rattle.laws.proofs.Order.{better_none}
use Rattle.laws.proofs.Best.{from_same}
use Rattle.rows.specs.Rows.{heading_rooted, clade_row, alone_row, cross_row}
use Rattle.rows.proofs.BestRows.{from_join_row}
use Rattle.rows.proofs.Bounds.{bounded_more, rooted_bounded, pushed_bounded, lockings_limit, branches_limit, codes_limit}
use Rattle.rows.proofs.Steps.{pushed_same, cross_step}
use Rattle.cells.specs.Cells.{cell}
use Rattle.cells.specs.Memory.{Blank, Charges, Charging}
use Rattle.table.specs.Table.{start, Pushable, Pushed, pushed_from, rooted_from, alone_from, cross_from}
use Rattle.table.specs.Spread.{Crossable, Crossed}
use Rattle.table.proofs.Places.{gap, own_inside, AtRecord, to_next, to_first, lockings_here, branches_here, codes_here}
use Rattle.table.proofs.Pushing.{bounded_locked, bounded_diversity, bounded_cost}
use Rattle.cells.proofs.ByPrice.{join_row_lem, join_same}
use Rattle.rows.specs.Bounds.{Bounded, lockings, branches, codes}

module _ {o : List ℕ} {r to w : ℕ} {l₀ : List ℕ} (s : Crossable o r to w l₀) where
  abbrev formed : WellFormed o
  formed = s.base.formed

  abbrev n : ℕ
  n = next o r

  abbrev f : ℕ
  f = first o r

  abbrev a : AtRecord o r w l₀ n f
  a = record { base = s.base; positive = s.positive; most = s.most; next_is = refl; first_is = refl }

  members : 0 < f
  members =
      let e : f ≡ 0 → ⊥ = eqb-false f 0 s.group in
      omega arith

  codes_group : codes (weight o) (tree o r) ≡ codes (weight o) (tree o f) + codes (weight o) (tree o n)
  codes_group =
      let e : (if is_taxon o r then weight o r else 0) ≡ 0 = rw s.group in
      omega (arith, e, codes_here a)

  -- the members, pushed over the rest
  pub pushable_members : Pushable o f (start w r + w) to w l₀
  pushable_members =
      let g = gap w r f ((to_first a).later members) in
      record {
        base = s.base;
        most = (to_first a).most;
        after_before = λ p. omega arith;
        to_before = λ p. omega (arith, s.to_before);
        to_above = s.to_above;
        apart = inl (omega (arith, s.to_before));
        sums_fit = record {
          most_locked = lockings o (tree o n);
          most_diversity = branches o (tree o n);
          most_code = codes (weight o) (tree o n);
          bounded = λ b h. rw (s.rest_row b (omega (arith, s.base.wide))) (rooted_bounded o (weight o) (tree o n) b);
          locked_fits = omega (arith, lockings_here a, lockings_limit o formed r s.most);
          diversity_fits = omega (arith, branches_here a, branches_limit o formed r s.most);
          code_fits = omega (arith, codes_group, codes_limit o formed r s.most);
        };
      }

  module _ {l₁ : List ℕ} {at : ℕ} (h₁ : Pushed o f (start w r + w) to w l₀ l₁ at) (k₁ : length l₁ ≡ length l₀) where
    at_to : at ≡ to
    at_to = h₁.place ∙ rw (ne_eqb f 0 (eqb-false f 0 s.group))

    pushed₁ : (b : ℕ) → b < w → cell l₁ (to + b) ≡ pushed_from o f (rooted_from o n) b
    pushed₁ b h =
        ap (λ t. cell l₁ (t + b)) (sym at_to) ∙ h₁.row b h
        ∙ pushed_same o (weight o) (tree o f) b (λ i k. s.rest_row i (omega arith))

    none₁ : Blank l₁ 0 w
    none₁ e b h =
        h₁.same (0 + b) (λ p. omega (arith, s.to_above, s.to_before, gap w r f ((to_first a).later p))) (λ p q. omega (arith, s.to_above))
        ∙ ap (cell l₀) (omega arith) ∙ s.base.none_row b h

    pub charges_cross : Charges l₁ to (branch o r) (price o r) 0 w
    charges_cross = record {
      inside = omega (arith, s.to_before, own_inside s.base s.most);
      above = omega (arith, s.to_above);
      over_inside = omega (arith, s.to_before, own_inside s.base s.most);
      over_apart = inr (omega (arith, s.to_above));
      blank = none₁;
      none_row = none₁;
      fits = λ i h.
          let small = pushed_bounded o (weight o) (tree o f) _ _ _ i (λ b k. rooted_bounded o (weight o) (tree o n) b) i (omega arith) in
          rw (pushed₁ i (omega arith))
          (record {
            locked_fits = omega (arith, bounded_locked small, lockings_here a, lockings_limit o formed r s.most);
            diversity_fits = omega (arith, bounded_diversity small, branches_here a, branches_limit o formed r s.most);
            cost_fits = omega (arith, bounded_cost small, s.base.narrow);
          });
    }

    pub crossed_members : {l₂ : List ℕ} → Charging to (branch o r) (price o r) 0 w l₁ l₂ → Crossed o r to w l₀ l₂
    unfolding cross_row clade_row
    crossed_members v = record {
      row = λ b h.
          v.row b (omega arith) h ∙ ap (better_of _) (none₁ refl b h) ∙ better_none _
          ∙ join_same _ _ _ _ b (pushed₁ (b - price o r) (omega arith)) ∙ join_row_lem (heading_rooted o (weight o) r) _ b;
      same = λ k p q.
          v.same k (λ g. q (omega arith)) ∙ h₁.same k (λ g. omega (arith, gap w r f ((to_first a).later g))) (λ g. q);
    }

  -- the rest, pushed over the clade
  alone_bounded : (b : ℕ)
      → From (Bounded (lockings o (tree o f)) (branch o r + branches o (tree o f)) (codes (weight o) (tree o f))) b (alone_from o r f b)
  unfolding alone_row
  alone_bounded b =
      from_same (λ v (q, small, e). rw e (record { locked_most = omega arith; diversity_most = omega arith; code_most = omega arith }))
      (from_join_row (heading_rooted o (weight o) r) _ b (rooted_bounded o (weight o) (tree o f) (b - price o r)))

  -- so is the crossing row
  pub cross_bounded : (b : ℕ) → From (Bounded (lockings o (tree o r)) (branches o (tree o r)) (codes (weight o) (tree o r))) b (cross_from o r f n b)
  cross_bounded b =
      rw (rw s.group at (cross_step o formed.linked (weight o) r s.positive s.most b))
      (bounded_more _ _ _ (omega (arith, lockings_here a)) (omega (arith, branches_here a)) (omega (arith, codes_group))
      (pushed_bounded o (weight o) (tree o n) _ _ _ b (λ i k. alone_bounded i) b (omega arith)))

  pub pushable_rest : Pushable o n (start w r) to w l₀
  pushable_rest =
      let g = gap w r n ((to_next a).later s.more) in
      record {
        base = s.base;
        most = (to_next a).most;
        after_before = λ p. omega arith;
        to_before = λ p. omega (arith, s.to_before);
        to_above = s.to_above;
        apart = inl s.to_before;
        sums_fit = record {
          most_locked = lockings o (tree o f);
          most_diversity = branch o r + branches o (tree o f);
          most_code = codes (weight o) (tree o f);
          bounded = λ b h. rw (s.alone_row_is b (omega (arith, s.base.wide))) (alone_bounded b);
          locked_fits = omega (arith, lockings_here a, lockings_limit o formed r s.most);
          diversity_fits = omega (arith, branches_here a, branches_limit o formed r s.most);
          code_fits = omega (arith, codes_group, codes_limit o formed r s.most);
        };
      }

  pub crossed_rest : {l₁ : List ℕ} {at : ℕ} → Pushed o n (start w r) to w l₀ l₁ at → Crossed o r to w l₀ l₁
  crossed_rest {l₁} {at} h₁ =
      let e : at ≡ to = h₁.place ∙ rw (ne_eqb n 0 (λ z. omega (arith, s.more))) in
      record {
        row = λ b h.
            ap (λ t. cell l₁ (t + b)) (sym e) ∙ h₁.row b h
            ∙ pushed_same o (weight o) (tree o n) b (λ i k. s.alone_row_is i (omega arith))
            ∙ sym (rw s.group at (cross_step o formed.linked (weight o) r s.positive s.most b));
        same = λ k p q. h₁.same k (λ g. omega (arith, gap w r n ((to_next a).later g))) (λ g. q);
      }
