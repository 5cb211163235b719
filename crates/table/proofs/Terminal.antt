-- The row of a taxon by itself: what it shows, how it is filled, and how it is joined where it stands.
use Rattle.std.proofs.lemmas.Bool.{cases_lt}
use Prim.Native.Nat.{ℕ, ◌+◌, ◌-◌, ◌<◌, ◌≤◌, min}
use mathlib.Core.Path.{◌≡◌, refl, sym, ap, ap₂, ◌∙◌}
use mathlib.Core.Logic.{◌≢◌, inl, inr, ⊎_elim}
use mathlib.Core.List.{List}
use native.Mathlib.Omega.{arith}
use lib.Dec.{eqb}
use lib.ListN.{length}
use borrow.Author.Tests.{lt-ltb, le-ltb, eq-eqb}
use Rattle.lists.proofs.Bools.{one_le}
use Rattle.outline.specs.Outline.{branch, price, locked}
use Rattle.laws.specs.Candidate.{Value, nothing_worth, Cand, none, some, better_of, join_of, charge_of}
use Rattle.laws.proofs.Order.{value_path}
use Rattle.rows.specs.Rows.{Row}
use Rattle.rows.proofs.Joins.{join_of_nothing}
use Rattle.rows.proofs.Sets.{no_record}
use Rattle.cells.specs.Cells.{cell, locked_of, diversity_of, cost_of}
use Rattle.cells.specs.Memory.{row_at, RowWritten, join_over, Joins, Joining, Adds}
use Rattle.table.specs.Table.{taxon_worth, terminal_row, Shows, Terminal, TerminalFilled, Finished, TaxonJoins, taxon_over, TaxonRow}
use Rattle.cells.proofs.ByPrice.{join_below, join_same}
use Rattle.cells.proofs.Words.{none_some}

-- ---- what it shows
module _ (o : List ℕ) (r : ℕ) where
  abbrev pub taxon : Value
  taxon = taxon_worth o r (branch o r) (price o r)

  pub terminal_below : (b : ℕ) → b < price o r → terminal_row o r b ≡ some nothing_worth
  unfolding terminal_row
  terminal_below b h = rw (lt-ltb b (price o r) h)

  pub terminal_from : (b : ℕ) → price o r ≤ b → terminal_row o r b ≡ some taxon
  unfolding terminal_row
  terminal_from b h = rw (le-ltb b (price o r) h)

  -- no taxon, and the taxon
  shows_nothing : Shows o r (some nothing_worth) 0
  shows_nothing = record { set = no_record; held = refl; rooted = refl }

  shows_taxon : Shows o r (some taxon) (branch o r)
  shows_taxon = record {
    set = eqb r;
    held = rw (eq-eqb r r refl) (ap some (value_path (omega arith) (omega arith) (omega arith) (omega arith)));
    rooted = rw (eq-eqb r r refl) (omega arith);
  }

  pub shows_terminal : {to w : ℕ} {l : List ℕ} → Finished o r to w l → Terminal o r to w l
  shows_terminal f = record {
    zeros = λ b h q. rw (f b h ∙ terminal_below b q) shows_nothing;
    lengths = λ b h q. rw (f b h ∙ terminal_from b q) shows_taxon;
  }

-- ---- nothing chosen below the price, and then the taxon
module _ (o : List ℕ) (r : ℕ) {to w n : ℕ} {l m : List ℕ} {c : Cand} (e : n ≡ min w (price o r)) (is_nothing : c ≡ some nothing_worth)
    (zeros : RowWritten to 0 n (λ _. c) l m) where
  under : (b : ℕ) → b < w → b < price o r → cell m (to + b) ≡ terminal_row o r b
  under b h q = zeros.row b (omega arith) (omega arith) ∙ is_nothing ∙ sym (terminal_below o r b q)

  -- the price is above the page count
  pub terminal_dear : w ≤ price o r → TerminalFilled o r to w l m
  terminal_dear dear = record {
    terminal = shows_terminal o r (λ b h. under b h (omega arith));
    written = record { row = λ b u h. under b h (omega arith); same = λ k g. zeros.same k (λ q. omega (arith, g q)) };
  }

  module _ {m' : List ℕ} {d : Cand} (taxon_here : d ≡ some (taxon o r)) (lengths : RowWritten to (price o r) w (λ _. d) m m') where
    finished : Finished o r to w m'
    finished b h =
        ⊎_elim (λ q. lengths.same (to + b) (λ g. absurd (omega arith)) ∙ under b h q) (λ q. lengths.row b q h ∙ taxon_here ∙ sym (terminal_from o r b q))
        (cases_lt b (price o r))

    pub terminal_filled : price o r < w → TerminalFilled o r to w l m'
    terminal_filled cheap = record {
      terminal = shows_terminal o r finished;
      written = record {
        row = λ b u h. finished b h;
        same = λ k g. lengths.same k (λ q. omega (arith, g (omega arith))) ∙ zeros.same k (λ q. omega (arith, g q));
      };
    }

-- ---- the rows beside it stay while its columns are written
module _ {o : List ℕ} {r x y to w n : ℕ} {l m : List ℕ} {t : Row} (j : TaxonJoins o r x y to w l) (most : n ≤ w) (v : RowWritten to 0 n t l m) where
  first_same : (i : ℕ) → i < w → cell m (x + i) ≡ cell l (x + i)
  first_same i h = v.same (x + i) (⊎_elim (λ p q. omega arith) (λ p q. omega arith) j.beside.first_apart)

  second_same : (i : ℕ) → i < w → cell m (y + i) ≡ cell l (y + i)
  second_same i h = v.same (y + i) (⊎_elim (λ p q. omega arith) (λ p q. omega arith) j.beside.second_apart)

  pub joins_kept : length m ≡ length l → TaxonJoins o r x y to w m
  joins_kept len = record {
    is = j.is;
    narrow = j.narrow;
    inside = omega (arith, j.inside);
    beside = record {
      first_inside = omega (arith, j.beside.first_inside);
      first_apart = j.beside.first_apart;
      first_idle = λ e b h. first_same b h ∙ j.beside.first_idle e b h;
      second_inside = omega (arith, j.beside.second_inside);
      second_apart = j.beside.second_apart;
      second_blank = λ e b h. second_same b h ∙ j.beside.second_blank e b h;
    };
    fits = λ i h. rw (first_same i (omega arith), second_same i (omega arith)) (j.fits i h);
  }

  -- and so does what the taxon is joined to
  joined_same : (b : ℕ) → b < w → taxon_over o r (row_at m x) (row_at m y) b ≡ taxon_over o r (row_at l x) (row_at l y) b
  joined_same b h =
      ap₂ better_of
      (join_same _ _ _ _ b (ap₂ better_of (first_same (b - price o r) (omega arith)) (second_same (b - price o r) (omega arith))))
      (second_same b h)

-- a row that is joined after it was filled
pub row_kept : {o : List ℕ} {r x y to w : ℕ} {l m m' : List ℕ} {t : Row} → TaxonJoins o r x y to w l → RowWritten to 0 w t l m
    → TaxonRow o r x y to w m m' → TaxonRow o r x y to w l m'
row_kept j v h = record {
  row = λ b u k. h.row b u k ∙ joined_same j (omega arith) v b k;
  same = λ k g. h.same k g ∙ v.same k g;
}

-- ---- the taxon below groups that cost something together
module _ (o : List ℕ) (r above : ℕ) where
  pub charged_taxon : charge_of (some (taxon o r)) 0 above ≡ some (taxon_worth o r (branch o r) (above + price o r))
  unfolding join_of
  charged_taxon = ap some (value_path (omega arith) (omega arith) refl (omega arith))

  pub charged_there : charge_of (some (taxon o r)) 0 above ≢ none
  charged_there e = none_some (sym e ∙ charged_taxon)

-- ---- joined where it stands: below the price, and then from the price on
module _ {o : List ℕ} {r x y to w : ℕ} {l : List ℕ} (j : TaxonJoins o r x y to w l) (f : Finished o r to w l) {n : ℕ} (e : n ≡ min w (price o r)) where
  abbrev p : ℕ
  p = price o r

  pub adds_below : Adds l to y n
  adds_below = record {
    inside = omega (arith, j.inside);
    nothing = λ b h. f b (omega arith) ∙ terminal_below o r b (omega arith);
    other = record {
      inside = omega (arith, j.beside.second_inside);
      aside = ⊎_elim (λ h. inl (omega arith)) (λ h. inr (omega arith)) j.beside.second_apart;
    };
    blank = λ z b h. j.beside.second_blank z b (omega arith);
  }

  module _ {l₁ : List ℕ} (len : length l₁ ≡ length l) (h₁ : RowWritten to 0 n (row_at l y) l l₁) where
    own_is : (b : ℕ) → p ≤ b → b < w → cell l₁ (to + b) ≡ some (taxon o r)
    own_is b q h = h₁.same (to + b) (λ g. omega arith) ∙ f b h ∙ terminal_from o r b q

    uncharged : (b : ℕ) → p ≤ b → b < w → charge_of (cell l₁ (to + b)) 0 0 ≡ some (taxon o r)
    uncharged b q h = join_of_nothing _ ∙ own_is b q h

    pub joins_own : Joins l₁ to to 0 p x y y w
    unfolding locked_of diversity_of cost_of
    joins_own =
        let j₁ = joins_kept j (omega (arith, e)) h₁ len in
        let ranged = j.is.formed.ranged r j.is.low j.is.high in
        record {
          inside = j₁.inside;
          taken = record { inside = j₁.inside; aside = inl (omega arith) };
          beside = j₁.beside;
          over = record { inside = j₁.beside.second_inside; aside = ⊎_elim (λ h. inl (omega arith)) inr j.beside.second_apart };
          over_blank = j₁.beside.second_blank;
          there = λ b q h. rw (own_is b q h) (charged_there o r 0);
          charge_fits = λ b q h.
              rw (own_is b q h)
              (record {
                locked_fits = omega (arith, one_le (locked o r));
                diversity_fits = omega (arith, ranged.branch_most);
                cost_fits = omega (arith, j.narrow);
              });
          join_fits = λ b q h. rw (uncharged b q h) (j₁.fits (b - p) (omega arith));
        }

    pub taxon_row : {l₂ : List ℕ} → Joining to to 0 p x y y w l₁ l₂ → TaxonRow o r x y to w l l₂
    unfolding better_of
    taxon_row {l₂} v = record {
      row = λ b u h. ⊎_elim (under_price b h) (from_price b h) (cases_lt b p);
      same = λ k g. v.same k (λ q. g (omega arith)) ∙ h₁.same k (λ q. omega (arith, g q));
    }
      where
        from_price : (b : ℕ) → b < w → p ≤ b → cell l₂ (to + b) ≡ taxon_over o r (row_at l x) (row_at l y) b
        from_price b h q =
            v.row b q h ∙ ap (λ c. join_over c p (row_at l₁ x) (row_at l₁ y) (row_at l₁ y) b) (uncharged b q h)
            ∙ joined_same j (omega (arith, e)) h₁ b h

        under_price : (b : ℕ) → b < w → b < p → cell l₂ (to + b) ≡ taxon_over o r (row_at l x) (row_at l y) b
        under_price b h q =
            v.same (to + b) (λ g. omega arith) ∙ h₁.row b (omega arith) (omega arith)
            ∙ sym (ap (λ c. better_of c (cell l (y + b))) (join_below (some (taxon o r)) p _ b q))
