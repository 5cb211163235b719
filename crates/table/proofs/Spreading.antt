-- The steps of spreading: what each call asks, and what it leaves.
use Rattle.std.proofs.lemmas.Bool.{or_parts}
use Rattle.std.specs.Prelude.{if◌then◌else◌}
use Rattle.std.proofs.lemmas.Bool.{cases_lt}
use Prim.Native.Nat.{ℕ, ◌+◌, ◌*◌, ◌-◌, ◌<◌, ◌≤◌}
use mathlib.Core.Path.{◌≡◌, refl, sym, ap, ap₂, ◌∙◌}
use mathlib.Core.Logic.{inl, inr, ⊎_elim}
use mathlib.Core.Bool.{Bool, true, false, ◌||◌}
use mathlib.Core.List.{List}
use native.Mathlib.Omega.{arith}
use lib.Dec.{eqb, leb}
use lib.ListN.{length}
use borrow.Author.Tests.{le-leb, le-ltb, lt-leb, ne_eqb, eqb-false}
use Rattle.lists.specs.Lists.{one}
use Rattle.outline.specs.Outline.{branch, price, locked}
use Rattle.laws.specs.Candidate.{Value, nothing_worth, heading, beats, Cand, none, some, better_of, join_of, charge_of, one_at, From, this}
use Rattle.laws.proofs.Order.{better_none, better_comm, better_assoc}
use Rattle.laws.proofs.Best.{from_better}
use Rattle.rows.specs.Rows.{Row, better_row, join_row}
use Rattle.rows.proofs.Joins.{join_none, join_at, join_nothing}
use Rattle.cells.specs.Cells.{cell, locked_of, diversity_of, cost_of, code_of}
use Rattle.cells.specs.Memory.{row_at, Apart, RowWritten, join_from, BetteringBy, Bettering, ChargingFrom, Joins, Joining}
use Rattle.table.specs.Table.{taxon_worth, TerminalFilled, Finished, TaxonJoins, TaxonRow, Base}
use Rattle.table.specs.Spread.{Running, Bettered, Pairable, TaxonSpreadable, TaxonSpread, Tops, BySingle, ByPairs, ByRow}
use Rattle.table.proofs.Places.{base_kept, blank_none, idle_nothing, front_inside}
use Rattle.table.proofs.Pushing.{bounded_locked, bounded_diversity, bounded_cost, bounded_code}
use Rattle.cells.proofs.ByPrice.{join_below, join_same, join_row_lem}
use Rattle.table.proofs.Terminal.{taxon, terminal_from, charged_taxon, charged_there}
use Rattle.rows.specs.Bounds.{Bounded}

-- ---- candidates
-- what is nothing or better stays so
pub least_kept : (t x : Cand) → better_of t (some nothing_worth) ≡ t → better_of (better_of t x) (some nothing_worth) ≡ better_of t x
least_kept t x e =
    better_assoc t x _ ∙ ap (better_of t) (better_comm x _) ∙ sym (better_assoc t _ x) ∙ ap (λ c. better_of c x) e

-- what costs something and has no locked taxon and no diversity is no better than nothing
nothing_better : (v : Value) (b : ℕ) → v.locked ≡ 0 → v.diversity ≡ 0 → (v.cost ≡ 0 → ⊥) → better_of (some nothing_worth) (one_at v b) ≡ some nothing_worth
unfolding better_of one_at beats
nothing_better v b k d c = go (leb v.cost b)
  where
    go : (t : Bool) → better_of (some nothing_worth) (if t then some v else none) ≡ some nothing_worth
    go true = rw (k, d, le-ltb v.cost 0 (omega arith), ne_eqb v.cost 0 c)
    go false = refl

-- what costs more than a column is not in it
one_beyond : (v : Value) (b : ℕ) → b < v.cost → better_of (some nothing_worth) (one_at v b) ≡ some nothing_worth
unfolding better_of one_at
one_beyond v b h = rw (lt-leb v.cost b h)

-- the running optimum is bettered in whatever order
pub shuffle : (t n s c : Cand) → better_of (better_of (better_of t n) s) c ≡ better_of t (better_of (better_of s n) c)
shuffle t n s c =
    ap (λ x. better_of x c) (better_assoc t n s ∙ ap (better_of t) (better_comm n s)) ∙ better_assoc t _ c

-- ---- the running optimum bettered by a value joined with a row, from its cost on: below that there is nothing to join
bettered_from : {w : ℕ} {l m : List ℕ} (v : Value) (x : Row)
    → RowWritten (2 * w) v.cost w (λ b. better_of (join_from (some v) v.cost x b) (cell l (2 * w + b))) l m
    → Bettered w (join_row v x) l m
unfolding better_of
bettered_from {w} {l} {m} v x h = record {
  top = λ b k.
      ⊎_elim (below b) (λ q. h.row b q k) (cases_lt b v.cost) ∙ ap (λ c. better_of c (cell l (2 * w + b))) (join_row_lem v x b)
      ∙ better_comm (join_row v x b) (cell l (2 * w + b));
  same = λ k g. h.same k (λ q. omega (arith, g (omega arith)));
}
  where
    below : (b : ℕ) → b < v.cost → cell m (2 * w + b) ≡ better_of (join_from (some v) v.cost x b) (cell l (2 * w + b))
    below b q = h.same (2 * w + b) (λ g. omega arith) ∙ sym (ap (λ c. better_of c (cell l (2 * w + b))) (join_below (some v) v.cost x b q))

-- ---- taxon r alone
module _ {o : List ℕ} {w : ℕ} {l : List ℕ} (running : Running o w l) (r above : ℕ) where
  abbrev single : Value
  single = taxon_worth o r 0 (above + price o r)

  -- it betters the columns from its cost on
  pub bettered_single : {cost : ℕ} → cost ≡ above + price o r → {m : List ℕ} → BetteringBy (2 * w) (some (taxon_worth o r 0 cost)) cost w l m
      → BySingle o r above w l m
  unfolding one_at
  bettered_single {cost} e v = record {
    top = λ b h.
        rw (← e)
        (⊎_elim (λ q. rw (lt-leb cost b q) (v.same (2 * w + b) (λ g. omega arith) ∙ sym (better_none _)))
        (λ q. rw (le-leb cost b q) (v.row b q h)) (cases_lt b cost));
    same = λ k g. v.same k (λ q. omega (arith, g (omega arith)));
  }

  -- what is no better than nothing betters no column
  no_better : ((b : ℕ) → b < w → better_of (some nothing_worth) (one_at single b) ≡ some nothing_worth) → BySingle o r above w l l
  no_better idle = record {
    top = λ b h.
        let least = running.least b h in
        sym least ∙ ap (better_of (cell l (2 * w + b))) (sym (idle b h)) ∙ sym (better_assoc _ _ _) ∙ ap (λ c. better_of c (one_at single b)) least;
    same = λ k g. refl;
  }

  -- so it is where it costs more than the last column, and where it costs something and is not locked
  pub bettered_beyond : w ≤ above + price o r → BySingle o r above w l l
  bettered_beyond q = no_better (λ b h. one_beyond single b (omega arith))

  pub bettered_dear : {cost : ℕ} → cost ≡ above + price o r → (eqb cost 0 || locked o r) ≡ false → BySingle o r above w l l
  bettered_dear {cost} e f =
      let both = or_parts _ _ f in
      no_better (λ b h. nothing_better single b (ap one both.1) refl (λ z. eqb-false cost 0 both.0 (e ∙ z)))

-- ---- the taxon with something of the rest of its chain
module _ {o : List ℕ} {r rest above to w : ℕ} {l : List ℕ} (s : TaxonSpreadable o r rest above to w l) where
  abbrev pairs : Pairable o r rest w l
  pairs = s.pairs

  abbrev base : Base o w l
  base = pairs.running.base

  -- the taxon below the groups above
  abbrev pair : Value
  pair = taxon_worth o r (branch o r) (above + price o r)

  module _ (f : Finished o r to w l) (n : rest ≡ 0 → ⊥) {cost : ℕ} (e : cost ≡ above + price o r) where
    beyond : 3 * w ≤ rest
    beyond = ⊎_elim (λ z. absurd (n z)) (λ h. h) pairs.rest_place

    own_is : (b : ℕ) → cost ≤ b → b < w → cell l (to + b) ≡ some (taxon o r)
    own_is b q h = f b h ∙ terminal_from o r b (omega arith)

    alone : (i : ℕ) → i < w → better_of (cell l (rest + i)) (cell l (0 + i)) ≡ cell l (rest + i)
    alone i h = ap (better_of (cell l (rest + i))) (blank_none base 0 refl i h) ∙ better_none _

    pub joins_pairs : Joins l (2 * w) to above cost rest 0 (2 * w) w
    unfolding locked_of diversity_of cost_of code_of
    joins_pairs = record {
      inside = omega (arith, front_inside base);
      taken = record { inside = s.to_inside; aside = inl (omega (arith, s.to_above)) };
      beside = record {
        first_inside = pairs.rest_inside;
        first_apart = inl (omega (arith, beyond));
        first_idle = λ z. absurd (omega (arith, beyond, base.wide));
        second_inside = omega (arith, front_inside base);
        second_apart = inr (omega arith);
        second_blank = blank_none base 0;
      };
      over = record { inside = omega (arith, front_inside base); aside = inl (omega arith) };
      over_blank = λ z. absurd (omega (arith, base.wide));
      there = λ b q h. rw (own_is b q h) (charged_there o r above);
      charge_fits = λ b q h.
          rw (own_is b q h)
          (record {
            locked_fits = omega (arith, pairs.locked_fits);
            diversity_fits = omega (arith, pairs.diversity_fits);
            cost_fits = omega (arith, base.narrow);
          });
      join_fits = λ b q h.
          let small = pairs.bounded (b - cost) (omega arith) in
          rw (own_is b q h, charged_taxon o r above, alone (b - cost) (omega arith))
          (record {
            locked_fits = omega (arith, bounded_locked small, pairs.locked_fits);
            diversity_fits = omega (arith, bounded_diversity small, pairs.diversity_fits);
            cost_fits = omega (arith, bounded_cost small, base.narrow);
            code_fits = omega (arith, bounded_code small, pairs.code_fits);
          });
    }

    pub bettered_pairs : {m : List ℕ} → Joining (2 * w) to above cost rest 0 (2 * w) w l m → ByPairs o r rest above w l m
    bettered_pairs v =
        bettered_from pair (row_at l rest) (record {
          row = λ b q h.
              v.row b (omega arith) h
              ∙ ap (λ c. better_of c (cell l (2 * w + b)))
              (ap (λ c. join_from c cost (better_row (row_at l rest) (row_at l 0)) b)
              (ap (λ c. charge_of c 0 above) (own_is b (omega arith) h) ∙ charged_taxon o r above)
              ∙ join_same _ _ _ (row_at l rest) b (alone (b - cost) (omega arith)) ∙ ap (λ k. join_from (some pair) k (row_at l rest) b) e);
          same = λ k g. v.same k (λ q. omega (arith, g (omega arith)));
        })

  pub bettered_none : rest ≡ 0 → ByPairs o r rest above w l l
  unfolding join_row
  bettered_none e = record {
    top = λ b h.
        let none_left = blank_none base rest e (b - (above + price o r)) (omega arith) in
        sym (ap (better_of (cell l (2 * w + b))) (ap (join_of (one_at pair b)) none_left ∙ join_none _) ∙ better_none _);
    same = λ k g. refl;
  }

  -- ---- the taxon's rooted row
  rest_apart : Apart to rest w
  rest_apart = ⊎_elim (λ (e : rest ≡ 0). inr (omega (arith, s.to_above, base.wide))) inl s.to_before

  joins_rooted : TaxonJoins o r w rest to w l
  unfolding locked_of diversity_of cost_of code_of
  joins_rooted = record {
    is = pairs.is;
    narrow = base.narrow;
    inside = s.to_inside;
    beside = record {
      first_inside = omega (arith, front_inside base);
      first_apart = inr (omega (arith, s.to_above));
      first_idle = idle_nothing base w;
      second_inside = pairs.rest_inside;
      second_apart = rest_apart;
      second_blank = blank_none base rest;
    };
    fits = λ i h.
        let zero : From (Bounded pairs.most_locked pairs.most_diversity pairs.most_code) i (some nothing_worth) =
        this {v = nothing_worth} (record { locked_most = omega arith; diversity_most = omega arith; code_most = omega arith }) (omega arith) in
        let small = from_better zero (pairs.bounded i (omega arith)) in
        rw (base.nothing_row i (omega arith))
        (record {
          locked_fits = omega (arith, bounded_locked small, pairs.locked_fits);
          diversity_fits = omega (arith, bounded_diversity small, pairs.diversity_fits);
          cost_fits = omega (arith, bounded_cost small, base.narrow);
          code_fits = omega (arith, bounded_code small, pairs.code_fits);
        });
  }

  -- ---- the row at `to` and the running optimum may change
  module _ (m : List ℕ) (len : length m ≡ length l)
      (same : (k : ℕ) → (to ≤ k → to + w ≤ k) → (2 * w ≤ k → 3 * w ≤ k) → cell m k ≡ cell l k) where
    rest_same : (b : ℕ) → b < w → cell m (rest + b) ≡ cell l (rest + b)
    rest_same b h =
        ⊎_elim
        (λ (e : rest ≡ 0). same (rest + b) (λ q. omega (arith, s.to_above)) (λ q. omega arith))
        (λ (e : 3 * w ≤ rest). same (rest + b) (⊎_elim (λ p q. omega arith) (λ p q. omega arith) rest_apart) (λ q. omega arith))
        pairs.rest_place

    spreadable_kept : ((b : ℕ) → b < w → better_of (cell m (2 * w + b)) (some nothing_worth) ≡ cell m (2 * w + b))
        → TaxonSpreadable o r rest above to w m
    spreadable_kept least = record {
      pairs = record {
        running = record { base = base_kept base len (λ k h. same k (λ q. omega (arith, s.to_above)) (λ q. omega arith)); least = least };
        is = pairs.is;
        rest_place = pairs.rest_place;
        rest_inside = omega (arith, pairs.rest_inside);
        most_locked = pairs.most_locked;
        most_diversity = pairs.most_diversity;
        most_code = pairs.most_code;
        bounded = λ b h. rw (rest_same b h) (pairs.bounded b h);
        locked_fits = pairs.locked_fits;
        diversity_fits = pairs.diversity_fits;
        code_fits = pairs.code_fits;
      };
      above_most = s.above_most;
      to_above = s.to_above;
      to_inside = omega (arith, s.to_inside);
      to_before = s.to_before;
    }

  -- the row at `to` alone
  spreadable_filled : {x : Row} {m : List ℕ} → RowWritten to 0 w x l m → length m ≡ length l → TaxonSpreadable o r rest above to w m
  spreadable_filled v len =
      spreadable_kept _ len (λ k p q. v.same k (λ g. p (omega arith)))
      (λ b h. rw (v.same (2 * w + b) (λ q. omega (arith, s.to_above))) (pairs.running.least b h))

  -- the running optimum alone
  module _ {x : Row} {m : List ℕ} (v : Bettered w x l m) where
    spreadable_bettered : length m ≡ length l → TaxonSpreadable o r rest above to w m
    spreadable_bettered len =
        spreadable_kept _ len (λ k p q. v.same k q) (λ b h. rw (v.top b h) (least_kept _ _ (pairs.running.least b h)))

    finished_bettered : Finished o r to w l → Finished o r to w m
    finished_bettered f b h = v.same (to + b) (λ q. omega (arith, s.to_above)) ∙ f b h

-- the taxon's row by itself, the running optimum bettered twice, and the row joined: what each call asks, and what is left
module _ {o : List ℕ} {r rest above to w : ℕ} {l₀ l₁ : List ℕ} (s : TaxonSpreadable o r rest above to w l₀)
    (h₁ : TerminalFilled o r to w l₀ l₁) (k₁ : length l₁ ≡ length l₀) where
  s₁ : TaxonSpreadable o r rest above to w l₁
  s₁ = spreadable_filled s h₁.written k₁

  module _ {l₂ : List ℕ} (h₂ : BySingle o r above w l₁ l₂) (k₂ : length l₂ ≡ length l₁) where
    pub pairs_ask : TaxonSpreadable o r rest above to w l₂ × Finished o r to w l₂
    pairs_ask = (spreadable_bettered s₁ h₂ k₂, finished_bettered s₁ h₂ (λ b h. h₁.written.row b (omega arith) h))

    same₂ : (k : ℕ) → (to ≤ k → to + w ≤ k) → (2 * w ≤ k → 3 * w ≤ k) → cell l₂ k ≡ cell l₀ k
    same₂ k p q = h₂.same k q ∙ h₁.written.same k (λ g. p (omega arith))

    module _ {l₃ : List ℕ} (h₃ : ByPairs o r rest above w l₂ l₃) (k₃ : length l₃ ≡ length l₂) where
      s₃ : TaxonSpreadable o r rest above to w l₃
      s₃ = spreadable_bettered pairs_ask.0 h₃ k₃

      pub join_asks : Finished o r to w l₃ × TaxonJoins o r w rest to w l₃
      join_asks = (finished_bettered pairs_ask.0 h₃ pairs_ask.1, joins_rooted s₃)

      same₃ : (k : ℕ) → (to ≤ k → to + w ≤ k) → (2 * w ≤ k → 3 * w ≤ k) → cell l₃ k ≡ cell l₀ k
      same₃ k p q = h₃.same k q ∙ same₂ k p q

      pub taxon_spread : {l₄ : List ℕ} → TaxonRow o r w rest to w l₃ l₄ → TaxonSpread o r rest above to w l₀ l₄
      taxon_spread v = record {
        row = λ b k.
            v.row b (omega arith) k
            ∙ ap₂ better_of
            (join_same _ _ _ (better_row (λ i. some nothing_worth) (row_at l₀ rest)) b
            (ap₂ better_of (s₃.pairs.running.base.nothing_row (b - price o r) (omega arith))
            (rest_same s l₃ (k₃ ∙ k₂ ∙ k₁) same₃ (b - price o r) (omega arith))))
            (rest_same s l₃ (k₃ ∙ k₂ ∙ k₁) same₃ b k);
        top = λ b k.
            v.same (2 * w + b) (λ q. omega (arith, s.to_above)) ∙ h₃.top b k
            ∙ ap₂ better_of
            (h₂.top b k
            ∙ ap (λ c. better_of c (one_at (taxon_worth o r 0 (above + price o r)) b)) (h₁.written.same (2 * w + b) (λ q. omega (arith, s.to_above))))
            (join_at _ _ (row_at l₀ rest) b (rest_same s l₂ (k₂ ∙ k₁) same₂ (b - (above + price o r)) (omega arith)));
        same = λ k p q. v.same k (λ g. p (omega arith)) ∙ same₃ k p q;
      }

-- ---- the running optimum bettered by the row at `to`, moved right by what is above it
module _ {to above w : ℕ} {l : List ℕ} (s : Tops l to above w) where
  pub bettered_here : above ≡ 0 → {m : List ℕ} → Bettering (2 * w) (2 * w) to w l m → ByRow to above w l m
  bettered_here z h = record {
    top = λ b k. h.row b (omega arith) k ∙ ap (better_of (cell l (2 * w + b))) (sym (rw z (join_nothing (row_at l to) b)));
    same = λ k g. h.same k (λ q. omega (arith, g (omega arith)));
  }

  pub bettered_moved : {m : List ℕ} → ChargingFrom (2 * w) to 0 above (2 * w) w l m → ByRow to above w l m
  bettered_moved v = bettered_from (heading 0 above) (row_at l to) v
