-- The steps of pushing a row through the chain of a record: what each call asks, and in the end what the push leaves.
use Rattle.std.specs.Prelude.{if◌then◌else◌}
use Prim.Native.Nat.{ℕ, ◌+◌, ◌*◌, ◌-◌, ◌<◌, ◌≤◌}
use mathlib.Core.Path.{◌≡◌, refl, sym, ap, ap₂, ◌∙◌}
use mathlib.Core.Logic.{◌⊎◌, inl, inr, ⊎_elim}
use mathlib.Core.Bool.{true, false}
use mathlib.Core.List.{List}
use native.Mathlib.Omega.{arith}
use lib.Dec.{eqb}
use lib.ListN.{length}
use borrow.Author.Tests.{eq-eqb, ne_eqb}
use Rattle.outline.specs.Outline.{branch, price, is_taxon}
use Rattle.std.proofs.lemmas.Bool.{cases_cond}
use Rattle.laws.specs.Candidate.{Cand, better_of, From, nothing, this}
use Rattle.laws.specs.Forest.{tree}
use Rattle.laws.specs.Numbers.{weight}
use Rattle.laws.proofs.Order.{better_none}
use Rattle.laws.proofs.Best.{from_better}
use Rattle.rows.specs.Rows.{Row, better_row, taxon_rooted, heading_rooted, clade_row}
use Rattle.rows.proofs.Bounds.{bounded_more, pushed_bounded}
use Rattle.rows.proofs.Steps.{pushed_same, pushed_zero, pushed_step}
use Rattle.cells.specs.Cells.{cell, locked_of, diversity_of, cost_of, code_of}
use Rattle.cells.specs.Memory.{row_at, Betters, Charges, Charging}
use Rattle.table.proofs.Places.{gap, base_kept, blank_none, idle_nothing, own_inside, AtRecord, to_next, to_first, lockings_here, branches_here, codes_here}
use Rattle.cells.proofs.ByPrice.{join_row_lem, join_same}
use Rattle.table.specs.Table.{IsTaxon, start, Base, Pushable, Pushed, Followed, TaxonRow, TaxonJoins, pushed_from}
use Rattle.rows.specs.Bounds.{Bounded, BoundedRow, lockings, branches, codes}

-- ---- candidates of bounded size
module _ {k d m b : ℕ} where
  pub bounded_locked : {c : Cand} → From (Bounded k d m) b c → locked_of c ≤ k
  unfolding locked_of
  bounded_locked nothing = omega arith
  bounded_locked (this p h) = p.locked_most

  pub bounded_diversity : {c : Cand} → From (Bounded k d m) b c → diversity_of c ≤ d
  unfolding diversity_of
  bounded_diversity nothing = omega arith
  bounded_diversity (this p h) = p.diversity_most

  pub bounded_code : {c : Cand} → From (Bounded k d m) b c → code_of c ≤ m
  unfolding code_of
  bounded_code nothing = omega arith
  bounded_code (this p h) = p.code_most

  pub bounded_cost : {c : Cand} → From (Bounded k d m) b c → cost_of c ≤ b
  unfolding cost_of
  bounded_cost nothing = omega arith
  bounded_cost (this p h) = h

pub pushed_none : (o : List ℕ) (after to w : ℕ) {l : List ℕ} → Base o w l → Pushed o 0 after to w l l 0
pushed_none o after to w base = record {
  place = refl;
  row = λ b h. ap (cell _) (omega arith) ∙ base.none_row b h ∙ sym (pushed_zero o base.formed.linked (weight o) _ b);
  same = λ k p q. refl;
}

-- ---- what may follow a clade
module _ {to after rest w : ℕ} {l : List ℕ} (h : Betters l to after rest w) where
  pub followed_first : rest ≡ 0 → Followed to after rest w l l after
  followed_first e = record {
    place = rw (eq-eqb rest 0 e);
    row = λ b k. sym (ap (better_of (cell l (after + b))) (h.blank e b k) ∙ better_none (cell l (after + b)));
    same = λ k q. refl;
  }

-- ---- pushing at record r
module _ {o : List ℕ} {r after to w : ℕ} {l₀ : List ℕ} (asked : Pushable o r after to w l₀) {n f : ℕ} (a : AtRecord o r w l₀ n f) where
  -- what the row has room for
  abbrev k : ℕ
  k = asked.sums_fit.most_locked

  abbrev d : ℕ
  d = asked.sums_fit.most_diversity

  abbrev m : ℕ
  m = asked.sums_fit.most_code

  -- what comes after the chain, what the rest of the chain makes of it, and the better of the two
  abbrev x : Row
  x = row_at l₀ after

  abbrev y : Row
  y = pushed_from o n x

  abbrev follow : Row
  follow = better_row x y

  pub pushable_next : Pushable o n after (start w r + w) w l₀
  pushable_next = record {
    base = asked.base;
    most = (to_next a).most;
    after_before = λ p. omega (arith, gap w r n ((to_next a).later p), asked.after_before a.positive);
    to_before = λ p. omega (arith, gap w r n ((to_next a).later p));
    to_above = omega (arith, gap w 0 r a.positive);
    apart = inr (omega (arith, asked.after_before a.positive));
    sums_fit = record {
      most_locked = k;
      most_diversity = d;
      most_code = m;
      bounded = asked.sums_fit.bounded;
      locked_fits = omega (arith, lockings_here a, asked.sums_fit.locked_fits);
      diversity_fits = omega (arith, branches_here a, asked.sums_fit.diversity_fits);
      code_fits = omega (arith, codes_here a, asked.sums_fit.code_fits);
    };
  }

  -- the pushed row, from the rest of the chain and from the members
  here : (b : ℕ)
      → pushed_from o r x b ≡ better_of (clade_row o (weight o) r (is_taxon o r) follow (pushed_from o f follow) b) (y b)
  here b = rw (a.next_is, a.first_is) (pushed_step o a.base.formed.linked (weight o) r a.positive asked.most b x)

  placed : to ≡ (if eqb r 0 then 0 else to)
  placed = rw (ne_eqb r 0 (λ e. omega arith))

  -- after the rest of the chain, whose row stands at `rest`
  module _ {l₁ : List ℕ} {rest : ℕ} (h₁ : Pushed o n after (start w r + w) w l₀ l₁ rest) (k₁ : length l₁ ≡ length l₀) where
    rest_place : (rest ≡ 0) ⊎ (rest ≡ start w r + w)
    rest_place = cases_cond (eqb n 0) _ _ _ h₁.place

    below₁ : (k : ℕ) → k < start w r + w → cell l₁ k ≡ cell l₀ k
    below₁ k h = h₁.same k (λ p. omega (arith, gap w r n ((to_next a).later p))) (λ p q. omega arith)

    pub base₁ : Base o w l₁
    base₁ = base_kept asked.base k₁ (λ b h. below₁ b (omega (arith, asked.to_before a.positive, asked.to_above)))

    x₁ : (b : ℕ) → b < w → cell l₁ (after + b) ≡ x b
    x₁ b h = below₁ (after + b) (omega (arith, asked.after_before a.positive))

    follow₁ : (b : ℕ) → b < w → better_of (cell l₁ (after + b)) (cell l₁ (rest + b)) ≡ follow b
    follow₁ b h = ap₂ better_of (x₁ b h) (h₁.row b h)

    follow_bounded : BoundedRow (k + lockings o (tree o n)) (d + branches o (tree o n)) (m + codes (weight o) (tree o n)) (w - 1) follow
    follow_bounded b h =
        from_better (bounded_more _ _ _ (omega arith) (omega arith) (omega arith) (asked.sums_fit.bounded b h))
        (pushed_bounded o (weight o) (tree o n) k d m (w - 1) asked.sums_fit.bounded b h)

    rest_inside : 2 * (rest + w) ≤ length l₁
    rest_inside = ⊎_elim (λ (e : rest ≡ 0). omega (arith, own_inside asked.base asked.most)) (λ (e : rest ≡ start w r + w). omega (arith, own_inside asked.base asked.most)) rest_place

    -- a taxon is joined with what may follow
    module _ (z : f ≡ 0) where
      taxon : is_taxon o r ≡ true
      taxon = eq-eqb _ _ (sym a.first_is ∙ z)

      taxon_here : IsTaxon o r
      taxon_here = record { formed = a.base.formed; low = a.positive; high = asked.most; taxon = taxon }

      pub joins_taxon : TaxonJoins o r after rest to w l₁
      unfolding locked_of diversity_of cost_of code_of
      joins_taxon = record {
        is = taxon_here;
        narrow = base₁.narrow;
        inside = omega (arith, asked.to_before a.positive, own_inside asked.base asked.most);
        beside = record {
          first_inside = omega (arith, asked.after_before a.positive, own_inside asked.base asked.most);
          first_apart = asked.apart;
          first_idle = idle_nothing base₁ after;
          second_inside = rest_inside;
          second_apart =
              ⊎_elim (λ (e : rest ≡ 0). inr (omega (arith, asked.to_above)))
              (λ (e : rest ≡ start w r + w). inl (omega (arith, asked.to_before a.positive))) rest_place;
          second_blank = blank_none base₁ rest;
        };
        fits = λ i h.
            let s = follow_bounded i (omega arith) in
            let weigh : (if is_taxon o r then weight o r else 0) ≡ weight o r = rw taxon in
            rw (follow₁ i (omega arith))
            (record {
              locked_fits = omega (arith, bounded_locked s, lockings_here a, asked.sums_fit.locked_fits);
              diversity_fits = omega (arith, bounded_diversity s, branches_here a, asked.sums_fit.diversity_fits);
              cost_fits = omega (arith, bounded_cost s, asked.base.narrow);
              code_fits = omega (arith, bounded_code s, codes_here a, weigh, asked.sums_fit.code_fits);
            });
      }

      pub pushed_taxon : {l₂ : List ℕ}
          → TaxonRow o r after rest to w l₁ l₂
          → Pushed o r after to w l₀ l₂ to
      unfolding clade_row
      pushed_taxon v = record {
        place = placed;
        row = λ b h.
            v.row b (omega arith) h
            ∙ ap₂ better_of (join_same _ _ _ _ b (follow₁ (b - price o r) (omega arith)) ∙ join_row_lem (taxon_rooted o (weight o) r) follow b)
            (h₁.row b h)
            ∙ rw (here b, taxon);
        same = λ k p q. v.same k (λ g. q a.positive (omega arith)) ∙ below₁ k (omega (arith, p a.positive));
      }

    -- what may follow r's clade is pushed through its members
    module _ (z : f ≡ 0 → ⊥) {l₂ : List ℕ} {at : ℕ} (h₂ : Followed (start w r) after rest w l₁ l₂ at) (k₂ : length l₂ ≡ length l₁) where
      group : is_taxon o r ≡ false
      group = ne_eqb _ _ (λ e. z (a.first_is ∙ e))

      positive : 0 < f
      positive = omega arith

      at_place : (at ≡ after) ⊎ (at ≡ start w r)
      at_place = cases_cond (eqb rest 0) _ _ _ h₂.place

      below₂ : (k : ℕ) → k < start w r → cell l₂ k ≡ cell l₀ k
      below₂ k h = h₂.same k (λ q. omega arith) ∙ below₁ k (omega arith)

      -- the row of the rest stands before the members' rows, and apart from `to` and from what may follow
      rest_before : rest + w ≤ start w f
      rest_before =
          let g = gap w r f ((to_first a).later positive) in
          ⊎_elim (λ (e : rest ≡ 0). omega (arith, asked.to_above, asked.to_before a.positive)) (λ (e : rest ≡ start w r + w). omega arith) rest_place

      rest_apart : (b : ℕ) → b < w → to ≤ rest + b → to + w ≤ rest + b
      rest_apart b h =
          ⊎_elim (λ (e : rest ≡ 0). λ q. omega (arith, asked.to_above)) (λ (e : rest ≡ start w r + w). λ q. omega (arith, asked.to_before a.positive)) rest_place

      rest₂ : (b : ℕ) → b < w → cell l₂ (rest + b) ≡ y b
      rest₂ b h =
          h₂.same (rest + b)
          (⊎_elim (λ (e : rest ≡ 0). λ q. omega (arith, asked.to_above, asked.to_before a.positive)) (λ (e : rest ≡ start w r + w). λ q. omega arith) rest_place)
          ∙ h₁.row b h

      follow₂ : (b : ℕ) → b < w → cell l₂ (at + b) ≡ follow b
      follow₂ b h = h₂.row b h ∙ follow₁ b h

      base₂ : Base o w l₂
      base₂ = base_kept asked.base (k₂ ∙ k₁) (λ b h. below₂ b (omega (arith, asked.to_before a.positive, asked.to_above)))

      pub pushable_first : Pushable o f at to w l₂
      pushable_first =
          let g = gap w r f ((to_first a).later positive) in
          record {
            base = base₂;
            most = (to_first a).most;
            after_before = λ p.
                ⊎_elim (λ (e : at ≡ after). omega (arith, asked.after_before a.positive)) (λ (e : at ≡ start w r). omega arith) at_place;
            to_before = λ p. omega (arith, asked.to_before a.positive);
            to_above = asked.to_above;
            apart =
                ⊎_elim (λ (e : at ≡ after). rw e asked.apart) (λ (e : at ≡ start w r). inl (omega (arith, asked.to_before a.positive)))
                at_place;
            sums_fit = record {
              most_locked = k + lockings o (tree o n);
              most_diversity = d + branches o (tree o n);
              most_code = m + codes (weight o) (tree o n);
              bounded = λ b h. rw (follow₂ b (omega (arith, asked.base.wide))) (follow_bounded b h);
              locked_fits = omega (arith, lockings_here a, asked.sums_fit.locked_fits);
              diversity_fits = omega (arith, branches_here a, asked.sums_fit.diversity_fits);
              code_fits = omega (arith, codes_here a, asked.sums_fit.code_fits);
            };
          }

      module _ {l₃ : List ℕ} {at₃ : ℕ} (h₃ : Pushed o f at to w l₂ l₃ at₃) (k₃ : length l₃ ≡ length l₂) where
        at_to : at₃ ≡ to
        at_to = h₃.place ∙ rw (ne_eqb f 0 z)

        members₃ : (b : ℕ) → b < w → cell l₃ (to + b) ≡ pushed_from o f follow b
        members₃ b h =
            ap (λ t. cell l₃ (t + b)) (sym at_to) ∙ h₃.row b h
            ∙ pushed_same o (weight o) (tree o f) b (λ i k. follow₂ i (omega arith))

        rest₃ : (b : ℕ) → b < w → cell l₃ (rest + b) ≡ y b
        rest₃ b h = h₃.same (rest + b) (λ p. omega (arith, rest_before)) (λ p. rest_apart b h) ∙ rest₂ b h

        base₃ : Base o w l₃
        base₃ = base_kept base₂ k₃ (λ b h. h₃.same b (λ p. omega (arith, rest_before, asked.to_above)) (λ p q. omega (arith, asked.to_above)))

        pub charges : Charges l₃ to (branch o r) (price o r) rest w
        charges = record {
          inside = omega (arith, asked.to_before a.positive, own_inside asked.base asked.most);
          above = omega (arith, asked.to_above);
          over_inside = omega (arith, rest_inside);
          over_apart =
              ⊎_elim (λ (e : rest ≡ 0). inr (omega (arith, asked.to_above)))
              (λ (e : rest ≡ start w r + w). inl (omega (arith, asked.to_before a.positive))) rest_place;
          blank = λ e b h. rest₃ b h ∙ sym (h₁.row b h) ∙ blank_none base₁ rest e b h;
          none_row = blank_none base₃ 0;
          fits = λ i h.
              let s = pushed_bounded o (weight o) (tree o f) _ _ _ (w - 1) follow_bounded i (omega arith) in
              rw (members₃ i (omega arith))
              (record {
                locked_fits = omega (arith, bounded_locked s, lockings_here a, asked.sums_fit.locked_fits);
                diversity_fits = omega (arith, bounded_diversity s, branches_here a, asked.sums_fit.diversity_fits);
                cost_fits = omega (arith, bounded_cost s, asked.base.narrow);
              });
        }

        pub pushed_group : {l₄ : List ℕ} → Charging to (branch o r) (price o r) rest w l₃ l₄ → Pushed o r after to w l₀ l₄ to
        unfolding clade_row
        pushed_group v = record {
          place = placed;
          row = λ b h.
              v.row b (omega arith) h
              ∙ ap₂ better_of
              (join_same _ _ _ _ b (members₃ (b - price o r) (omega arith)) ∙ join_row_lem (heading_rooted o (weight o) r) (pushed_from o f follow) b)
              (rest₃ b h)
              ∙ rw (here b, group);
          same = λ k p q.
              let g = gap w r f ((to_first a).later positive) in
              v.same k (λ e. q a.positive (omega arith)) ∙ h₃.same k (λ e. omega (arith, p a.positive)) (λ e. q a.positive)
              ∙ below₂ k (p a.positive);
        }
