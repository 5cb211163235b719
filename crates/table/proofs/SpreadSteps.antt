-- The steps of spreading at a record: the rest of its chain, its members, and the two together.
use Rattle.std.specs.Prelude.{if◌then◌else◌}
use Prim.Native.Nat.{ℕ, zero, suc, ◌+◌, ◌*◌, ◌-◌, ◌<◌, ◌≤◌}
use mathlib.Core.Path.{◌≡◌, refl, sym, ap, ap₂, ◌∙◌}
use mathlib.Core.Logic.{inl, inr, ⊎_elim}
use mathlib.Core.Bool.{true, false}
use mathlib.Core.List.{List}
use native.Mathlib.Omega.{arith}
use lib.Dec.{eqb}
use lib.ListN.{length}
use borrow.Author.Tests.{eq-eqb, ne_eqb}
use Rattle.outline.specs.Outline.{size, next, branch, price, is_taxon}
use Rattle.outline.specs.Rules.{most_records}
use Rattle.outline.specs.WellFormed.{WellFormed}
use Rattle.std.proofs.lemmas.Bool.{cases_cond}
use Rattle.laws.specs.Candidate.{plus, nothing_worth, heading, none, some, better_of, join_of, one_at}
use Rattle.laws.specs.Forest.{records_in, tree}
use Rattle.laws.specs.Numbers.{weight}
use Rattle.laws.proofs.Forest.{tree_zero, tree_step, sum_most}
use Rattle.laws.proofs.Order.{value_path, better_none}
use Rattle.rows.specs.Rows.{better_row, join_row, taxon_rooted, taxon_unrooted, heading_rooted, clade_row, rooted_row, alone_row, across_row, across_under}
use Rattle.rows.proofs.Bounds.{rooted_bounded, lockings_limit, branches_limit, codes_limit}
use Rattle.rows.proofs.Joins.{join_none, join_at}
use Rattle.rows.proofs.Steps.{pushed_zero, pushed_step, rooted_step, under_step, cross_under, cross_step}
use Rattle.cells.specs.Cells.{cell}
use Rattle.cells.specs.Memory.{row_at, Charges, charge_over, Charging}
use Rattle.table.specs.Table.{taxon_worth, start, Base, pushed_from, rooted_from, across_from, alone_from, cross_from}
use Rattle.table.specs.Spread.{Running, Spreadable, Spread, TaxonSpreadable, TaxonSpread, Crossable, Crossed, Meets, Met}
use Rattle.table.proofs.Places.{gap, base_kept, blank_none, own_inside, own_above, AtRecord, to_next, to_first, lockings_here, branches_here, prices_here, codes_here}
use Rattle.table.proofs.Pushing.{bounded_locked, bounded_diversity, bounded_cost}
use Rattle.table.proofs.Crossing.{cross_bounded}
use Rattle.table.proofs.Spreading.{least_kept, shuffle}
use Rattle.cells.proofs.ByPrice.{join_row_lem, join_same}
use Rattle.rows.specs.Bounds.{lockings, branches, codes}

-- no record
module _ (o : List ℕ) (formed : WellFormed o) (b : ℕ) where
  rooted_zero : rooted_from o 0 b ≡ none
  unfolding rooted_row
  rooted_zero = pushed_zero o formed.linked (weight o) _ b

  across_zero : (above : ℕ) → across_from o above 0 b ≡ none
  unfolding across_under across_row join_row
  across_zero above =
      ap (λ F. join_row (heading 0 above) (across_row o (weight o) F) b) (tree_zero o) ∙ join_none (one_at (heading 0 above) b)

records_zero : (o : List ℕ) → records_in (tree o 0) ≡ 0
records_zero o = ap records_in (tree_zero o)

pub records_most : {o : List ℕ} {r count : ℕ} → WellFormed o → r ≤ size o → count ≡ records_in (tree o r) → count ≤ most_records
records_most {o} {r} formed u e = omega (arith, e, sum_most o formed.linked (λ q f. 1) 1 r u (λ q f l h. omega arith), formed.size_most)

pub spread_none : {o : List ℕ} {above to w : ℕ} {l : List ℕ} → Spreadable o 0 above to w l → Spread o 0 above to w l l 0
spread_none {o} {above} {to} {w} {l} s = record {
  row = λ p. absurd (omega arith);
  top = λ b h. sym (ap (better_of (cell l (2 * w + b))) (across_zero o s.running.base.formed b above) ∙ better_none _);
  same = λ k p q g. refl;
  records = sym (records_zero o);
}

-- spreading keeps the four rows before the records'
pub running_spread : {o : List ℕ} {r above to w : ℕ} {l m : List ℕ} {count : ℕ} → Spreadable o r above to w l
    → Spread o r above to w l m count → length m ≡ length l → Running o w m
running_spread {o} {r} {above} {to} {w} {l} s h len = record {
  base =
      base_kept s.running.base len
      (λ b k. h.same b (λ p. omega (arith, s.to_before p, s.to_above)) (λ p q. omega (arith, s.to_above)) (λ q. omega arith));
  least = λ b k. rw (h.top b k) (least_kept _ _ (s.running.least b k));
}

-- ---- spreading at record r
module _ {o : List ℕ} {r above to w : ℕ} {l₀ : List ℕ} (s : Spreadable o r above to w l₀) {n f : ℕ} (a : AtRecord o r w l₀ n f) where
  records_here : records_in (tree o r) ≡ 1 + (records_in (tree o f) + records_in (tree o n))
  records_here = rw (a.next_is, a.first_is) (ap records_in (tree_step o a.base.formed.linked r a.positive s.most))

  pub spreadable_next : Spreadable o n above (start w r + w) w l₀
  spreadable_next = record {
    running = s.running;
    most = (to_next a).most;
    to_before = λ p. omega (arith, gap w r n ((to_next a).later p));
    to_above = omega (arith, own_above a);
    above_fits = omega (arith, prices_here a, s.above_fits);
  }

  module _ {l₁ : List ℕ} {later : ℕ} (h₁ : Spread o n above (start w r + w) w l₀ l₁ later) (k₁ : length l₁ ≡ length l₀) where
    running₁ : Running o w l₁
    running₁ = running_spread spreadable_next h₁ k₁

    below₁ : (k : ℕ) → k < start w r + w → (2 * w ≤ k → 3 * w ≤ k) → cell l₁ k ≡ cell l₀ k
    below₁ k h g = h₁.same k (λ p. omega (arith, gap w r n ((to_next a).later p))) (λ p q. omega arith) g

    -- a taxon, with the rest of its chain at `rest`
    module _ (z : f ≡ 0) {rest : ℕ} (er : rest ≡ (if eqb n 0 then 0 else start w r + w)) where
      taxon : is_taxon o r ≡ true
      taxon = eq-eqb _ _ (sym a.first_is ∙ z)

      rest_row : (b : ℕ) → b < w → cell l₁ (rest + b) ≡ rooted_from o n b
      rest_row b h = go n refl
        where
          go : (k : ℕ) → n ≡ k → cell l₁ (rest + b) ≡ rooted_from o n b
          go zero e =
              let e' : rest ≡ 0 = er ∙ rw e in
              blank_none running₁.base rest e' b h ∙ sym (ap (λ q. rooted_from o q b) e ∙ rooted_zero o a.base.formed b)
          go (suc k) e =
              let e' : rest ≡ start w r + w = er ∙ rw (ne_eqb n 0 (λ q. omega arith)) in
              ap (λ q. cell l₁ (q + b)) e' ∙ h₁.row (omega arith) b h

      pub taxon_spreadable : TaxonSpreadable o r rest above to w l₁
      taxon_spreadable =
          let weigh : (if is_taxon o r then weight o r else 0) ≡ weight o r = rw taxon in
          record {
            pairs = record {
              running = running₁;
              is = record { formed = a.base.formed; low = a.positive; high = s.most; taxon = taxon };
              rest_place = ⊎_elim inl (λ (e : rest ≡ start w r + w). inr (omega (arith, own_above a))) (cases_cond (eqb n 0) _ _ _ er);
              rest_inside =
                  ⊎_elim (λ (e : rest ≡ 0). omega (arith, own_inside a.base a.most)) (λ (e : rest ≡ start w r + w). omega (arith, own_inside a.base a.most)) (cases_cond (eqb n 0) _ _ _ er);
              most_locked = lockings o (tree o n);
              most_diversity = branches o (tree o n);
              most_code = codes (weight o) (tree o n);
              bounded = λ b h. rw (rest_row b h) (rooted_bounded o (weight o) (tree o n) b);
              locked_fits = omega (arith, lockings_here a, lockings_limit o a.base.formed r s.most);
              diversity_fits = omega (arith, branches_here a, branches_limit o a.base.formed r s.most);
              code_fits = omega (arith, weigh, codes_here a, codes_limit o a.base.formed r s.most);
            };
            above_most = omega (arith, s.above_fits);
            to_above = s.to_above;
            to_inside = omega (arith, s.to_before a.positive, own_inside a.base a.most);
            to_before = ⊎_elim inl (λ (e : rest ≡ start w r + w). inr (omega (arith, s.to_before a.positive))) (cases_cond (eqb n 0) _ _ _ er);
          }

      rooted_taxon : (b : ℕ) → rooted_from o r b
          ≡ better_of (join_row (taxon_rooted o (weight o) r) (better_row (λ i. some nothing_worth) (rooted_from o n)) b) (rooted_from o n b)
      unfolding rooted_row clade_row
      rooted_taxon b = rw a.next_is (rw taxon at (pushed_step o a.base.formed.linked (weight o) r a.positive s.most b (λ i. some nothing_worth)))

      -- below the groups above, the taxon costs them too
      alone_is : plus (heading 0 above) (taxon_unrooted o (weight o) r) ≡ taxon_worth o r 0 (above + price o r)
      alone_is = value_path (omega arith) (omega arith) refl (omega arith)

      pair_is : plus (heading 0 above) (taxon_rooted o (weight o) r) ≡ taxon_worth o r (branch o r) (above + price o r)
      pair_is = value_path (omega arith) (omega arith) refl (omega arith)

      across_taxon : (b : ℕ) → across_from o above r b
          ≡ better_of (better_of (one_at (taxon_worth o r 0 (above + price o r)) b) (across_from o above n b))
          (join_row (taxon_worth o r (branch o r) (above + price o r)) (rooted_from o n) b)
      across_taxon b =
          rw a.next_is
          (under_step o a.base.formed.linked (weight o) above r a.positive s.most b
          ∙ ap₂ better_of
          (ap (λ c. better_of c (across_from o above (next o r) b)) (rw taxon (ap (λ v. one_at v b) alone_is)))
          (cross_under o a.base.formed.linked (weight o) above r a.positive s.most b taxon
          ∙ ap (λ v. join_row v (rooted_from o (next o r)) b) pair_is))

      pub spread_taxon_done : {l₂ : List ℕ} → TaxonSpread o r rest above to w l₁ l₂ → Spread o r above to w l₀ l₂ (1 + later)
      spread_taxon_done h₂ = record {
        row = λ p b h.
            h₂.row b h
            ∙ ap₂ better_of
            (join_same _ _ _ (better_row (λ i. some nothing_worth) (rooted_from o n)) b
            (ap (better_of (some nothing_worth)) (rest_row (b - price o r) (omega arith)))
            ∙ join_row_lem (taxon_rooted o (weight o) r) _ b)
            (rest_row b h)
            ∙ sym (rooted_taxon b);
        top = λ b h.
            h₂.top b h
            ∙ ap₂ better_of (ap (λ c. better_of c (one_at (taxon_worth o r 0 (above + price o r)) b)) (h₁.top b h))
            (join_at _ _ (rooted_from o n) b (rest_row (b - (above + price o r)) (omega arith)))
            ∙ shuffle _ _ _ _ ∙ ap (better_of (cell l₀ (2 * w + b))) (sym (across_taxon b));
        same = λ k p q g. h₂.same k (q a.positive) g ∙ below₁ k (omega (arith, p a.positive)) g;
        records =
            let e : records_in (tree o f) ≡ 0 = ap (λ q. records_in (tree o q)) z ∙ records_zero o in
            omega (arith, e, records_here, h₁.records);
      }

    -- a group
    module _ (z : f ≡ 0 → ⊥) where
      group : is_taxon o r ≡ false
      group = ne_eqb _ _ (λ e. z (a.first_is ∙ e))

      positive : 0 < f
      positive = omega arith

      first_gap : start w r + 2 * w ≤ start w f
      first_gap = gap w r f ((to_first a).later positive)

      rooted_group : (b : ℕ) → rooted_from o r b
          ≡ better_of (better_of (alone_from o r f b) (rooted_from o n b)) (cross_from o r f n b)
      rooted_group b = rw (a.next_is, a.first_is) (rw group at (rooted_step o a.base.formed.linked (weight o) r a.positive s.most b))

      across_group : (b : ℕ) → across_from o above r b
          ≡ better_of (better_of (across_from o (above + price o r) f b) (across_from o above n b)) (join_row (heading 0 above) (cross_from o r f n) b)
      across_group b = rw (a.next_is, a.first_is) (rw group at (under_step o a.base.formed.linked (weight o) above r a.positive s.most b))

      -- a row of the members is charged with r's heading: it is what r's clade has alone
      module _ {l₂ : List ℕ} {at : ℕ} (members : (b : ℕ) → b < w → cell l₂ (at + b) ≡ rooted_from o f b) (base₂ : Base o w l₂)
          (high : w ≤ at) (inside : 2 * (at + w) ≤ length l₂) where
        pub charges_alone : Charges l₂ at (branch o r) (price o r) 0 w
        charges_alone = record {
          inside = inside;
          above = high;
          over_inside = omega (arith, inside);
          over_apart = inr (omega (arith, high));
          blank = blank_none base₂ 0;
          none_row = blank_none base₂ 0;
          fits = λ i h.
              let small = rooted_bounded o (weight o) (tree o f) i in
              rw (members i (omega arith))
              (record {
                locked_fits = omega (arith, bounded_locked small, lockings_here a, lockings_limit o a.base.formed r s.most);
                diversity_fits = omega (arith, bounded_diversity small, branches_here a, branches_limit o a.base.formed r s.most);
                cost_fits = omega (arith, bounded_cost small, base₂.narrow);
              });
        }

        alone_row_is : (b : ℕ) → b < w → charge_over (row_at l₂ at) (branch o r) (price o r) (row_at l₂ 0) b ≡ alone_from o r f b
        unfolding alone_row
        alone_row_is b h =
            ap (better_of _) (blank_none base₂ 0 refl b h) ∙ better_none _
            ∙ join_same _ _ _ _ b (members (b - price o r) (omega arith)) ∙ join_row_lem (heading_rooted o (weight o) r) _ b

      -- the last of its chain
      module _ (last : n ≡ 0) where
        pub spreadable_last : Spreadable o f (above + price o r) to w l₁
        spreadable_last = record {
          running = running₁;
          most = (to_first a).most;
          to_before = λ p. omega (arith, first_gap, s.to_before a.positive);
          to_above = s.to_above;
          above_fits = omega (arith, prices_here a, s.above_fits);
        }

        rest_none : (b : ℕ) → rooted_from o n b ≡ none
        rest_none b = ap (λ q. rooted_from o q b) last ∙ rooted_zero o a.base.formed b

        cross_none : (b : ℕ) → cross_from o r f n b ≡ none
        cross_none b =
            rw (a.next_is, a.first_is) (rw group at (cross_step o a.base.formed.linked (weight o) r a.positive s.most b))
            ∙ ap (λ q. pushed_from o q (alone_from o r f) b) last
            ∙ pushed_zero o a.base.formed.linked (weight o) _ b

        cross_moved : (b : ℕ) → join_row (heading 0 above) (cross_from o r f n) b ≡ none
        unfolding join_row
        cross_moved b = ap (join_of (one_at (heading 0 above) b)) (cross_none (b - above)) ∙ join_none _

        module _ {l₂ : List ℕ} {members : ℕ} (h₂ : Spread o f (above + price o r) to w l₁ l₂ members) (k₂ : length l₂ ≡ length l₁) where
          base₂ : Base o w l₂
          base₂ = (running_spread spreadable_last h₂ k₂).base

          to_inside : 2 * (to + w) ≤ length l₂
          to_inside = omega (arith, s.to_before a.positive, own_inside a.base a.most)

          pub charges_last : Charges l₂ to (branch o r) (price o r) 0 w
          charges_last = charges_alone (h₂.row positive) base₂ (omega (arith, s.to_above)) to_inside

          pub spread_last : {l₃ : List ℕ} → Charging to (branch o r) (price o r) 0 w l₂ l₃ → Spread o r above to w l₀ l₃ (1 + members)
          spread_last v = record {
            row = λ p b h.
                v.row b (omega arith) h ∙ alone_row_is (h₂.row positive) base₂ (omega (arith, s.to_above)) to_inside b h
                ∙ sym (rooted_group b ∙ ap₂ better_of (ap (better_of _) (rest_none b) ∙ better_none _) (cross_none b) ∙ better_none _);
            top = λ b h.
                v.same (2 * w + b) (λ q. omega (arith, s.to_above)) ∙ h₂.top b h
                ∙ ap (λ c. better_of c (across_from o (above + price o r) f b)) (h₁.top b h) ∙ sym (better_none _) ∙ shuffle _ _ _ _
                ∙ ap (better_of (cell l₀ (2 * w + b))) (sym (across_group b ∙ ap (better_of _) (cross_moved b)));
            same = λ k p q g.
                v.same k (λ e. q a.positive (omega arith)) ∙ h₂.same k (λ e. omega (arith, first_gap, p a.positive)) (λ e. q a.positive) g
                ∙ below₁ k (omega (arith, p a.positive)) g;
            records =
                let e : records_in (tree o n) ≡ 0 = ap (λ q. records_in (tree o q)) last ∙ records_zero o in
                omega (arith, e, records_here, h₂.records);
          }

      -- with more after it
      module _ (more : n ≡ 0 → ⊥) where
        next_positive : 0 < n
        next_positive = omega arith

        pub spreadable_first : Spreadable o f (above + price o r) (start w r) w l₁
        spreadable_first = record {
          running = running₁;
          most = (to_first a).most;
          to_before = λ p. omega (arith, first_gap);
          to_above = omega (arith, own_above a);
          above_fits = omega (arith, prices_here a, s.above_fits);
        }

        module _ {l₂ : List ℕ} {members : ℕ} (h₂ : Spread o f (above + price o r) (start w r) w l₁ l₂ members) (k₂ : length l₂ ≡ length l₁) where
          running₂ : Running o w l₂
          running₂ = running_spread spreadable_first h₂ k₂

          pub charges_first : Charges l₂ (start w r) (branch o r) (price o r) 0 w
          charges_first = charges_alone (h₂.row positive) running₂.base (omega (arith, own_above a)) (omega (arith, own_inside a.base a.most))

          rest₂ : (b : ℕ) → b < w → cell l₂ (start w r + w + b) ≡ rooted_from o n b
          rest₂ b h =
              h₂.same (start w r + w + b) (λ p. omega (arith, first_gap)) (λ p q. omega arith) (λ q. omega (arith, own_above a))
              ∙ h₁.row next_positive b h

          module _ {l₃ : List ℕ} (h₃ : Charging (start w r) (branch o r) (price o r) 0 w l₂ l₃) (k₃ : length l₃ ≡ length l₂) where
            alone₃ : (b : ℕ) → b < w → cell l₃ (start w r + b) ≡ alone_from o r f b
            alone₃ b h =
                h₃.row b (omega arith) h
                ∙ alone_row_is (h₂.row positive) running₂.base (omega (arith, own_above a)) (omega (arith, own_inside a.base a.most)) b h

            rest₃ : (b : ℕ) → b < w → cell l₃ (start w r + w + b) ≡ rooted_from o n b
            rest₃ b h = h₃.same (start w r + w + b) (λ q. omega arith) ∙ rest₂ b h

            pub crossable : Crossable o r to w l₃
            crossable = record {
              base = base_kept running₂.base k₃ (λ b h. h₃.same b (λ q. omega (arith, own_above a)));
              positive = a.positive;
              most = s.most;
              group = group;
              to_above = omega (arith, s.to_above);
              to_before = s.to_before a.positive;
              more = rw (← a.next_is) next_positive;
              alone_row_is = rw (← a.first_is) alone₃;
              rest_row = rw (← a.next_is) rest₃;
            }

            module _ {l₄ : List ℕ} (h₄ : Crossed o r to w l₃ l₄) (k₄ : length l₄ ≡ length l₃) where
              cross₄ : (b : ℕ) → b < w → cell l₄ (to + b) ≡ cross_from o r f n b
              cross₄ = rw (a.next_is, a.first_is) h₄.row

              pub meets : Meets l₄ (start w r) to above w
              meets = record {
                top = record {
                  wide = s.running.base.wide;
                  to_above = s.to_above;
                  to_inside = omega (arith, s.to_before a.positive, own_inside a.base a.most);
                  fits = λ i h.
                      let small = cross_bounded crossable i in
                      rw (h₄.row i (omega arith))
                      (record {
                        locked_fits = omega (arith, bounded_locked small, lockings_limit o a.base.formed r s.most);
                        diversity_fits = omega (arith, bounded_diversity small, branches_limit o a.base.formed r s.most);
                        cost_fits = omega (arith, bounded_cost small, a.base.narrow);
                      });
                };
                to_before = s.to_before a.positive;
                inside = omega (arith, own_inside a.base a.most);
              }

              top₄ : (b : ℕ) → b < w
                  → cell l₄ (2 * w + b) ≡ better_of (better_of (cell l₀ (2 * w + b)) (across_from o above n b)) (across_from o (above + price o r) f b)
              top₄ b h =
                  h₄.same (2 * w + b) (omega (arith, own_above a)) (λ q. omega (arith, s.to_above))
                  ∙ h₃.same (2 * w + b) (λ q. omega (arith, own_above a))
                  ∙ h₂.top b h ∙ ap (λ c. better_of c (across_from o (above + price o r) f b)) (h₁.top b h)

              own₄ : (k : ℕ) → start w r ≤ k → k < start w r + 2 * w → cell l₄ k ≡ cell l₃ k
              own₄ k p h = h₄.same k h (λ q. omega (arith, s.to_before a.positive))

              pub spread_more : {l₅ : List ℕ} → Met (start w r) to above w l₄ l₅ → Spread o r above to w l₀ l₅ (1 + members + later)
              spread_more h₅ = record {
                row = λ p b h.
                    h₅.row b h
                    ∙ ap₂ better_of
                    (ap₂ better_of (own₄ (start w r + b) (omega arith) (omega arith) ∙ alone₃ b h) (own₄ (start w r + w + b) (omega arith) (omega arith) ∙ rest₃ b h))
                    (cross₄ b h)
                    ∙ sym (rooted_group b);
                top = λ b h.
                    h₅.top b h ∙ ap₂ better_of (top₄ b h) (join_at _ _ _ b (cross₄ (b - above) (omega arith)))
                    ∙ shuffle _ _ _ _ ∙ ap (better_of (cell l₀ (2 * w + b))) (sym (across_group b));
                same = λ k p q g.
                    h₅.same k (p a.positive) (q a.positive) g ∙ h₄.same k (omega (arith, p a.positive)) (q a.positive)
                    ∙ h₃.same k (λ e. omega (arith, p a.positive))
                    ∙ h₂.same k (λ e. omega (arith, first_gap, p a.positive)) (λ e d. omega (arith, p a.positive)) g
                    ∙ below₁ k (omega (arith, p a.positive)) g;
                records = omega (arith, records_here, h₁.records, h₂.records);
              }
