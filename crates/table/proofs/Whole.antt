-- The table filled, either way: its top row is the exhaustive search's value in each column.
use Prim.Native.Nat.{ℕ, ◌+◌, ◌*◌, ◌<◌, ◌≤◌}
use mathlib.Core.Path.{◌≡◌, sym, ap, ap₂, ◌∙◌}
use mathlib.Core.Logic.{inr}
use mathlib.Core.List.{List}
use native.Mathlib.Omega.{arith}
use lib.ListN.{length}
use borrow.Author.Tests.{eq-eqb, ne_eqb}
use Rattle.outline.specs.Outline.{size}
use Rattle.laws.specs.Candidate.{nothing_worth, none, some, better_of, this}
use Rattle.laws.specs.Forest.{tree}
use Rattle.laws.specs.Numbers.{weight}
use Rattle.laws.proofs.Order.{better_same}
use Rattle.rows.specs.Rows.{rooted_row, top_row}
use Rattle.rows.proofs.Bounds.{lockings_limit, branches_limit, prices_limit, codes_limit}
use Rattle.rows.proofs.Steps.{pushed_same, under_none}
use Rattle.cells.specs.Cells.{cell}
use Rattle.cells.specs.Memory.{RowWritten, Bettering}
use Rattle.table.specs.Table.{start, Base, Pushable, Pushed, Fillable, Filled, across_from}
use Rattle.table.specs.Spread.{Spreadable, Spread}
use Rattle.table.proofs.Places.{base_kept}

module _ {o : List ℕ} {w : ℕ} {l₀ : List ℕ} (s : Fillable o w l₀) where
  table_inside : 2 * start w (size o + 1) ≤ length l₀
  table_inside = omega (arith, s.long)

  -- the rows of no set and of nothing
  module _ {l₁ l₂ : List ℕ} (h₁ : RowWritten 0 0 w (λ b. none) l₀ l₁) (k₁ : length l₁ ≡ length l₀)
      (h₂ : RowWritten w 0 w (λ b. some nothing_worth) l₁ l₂) (k₂ : length l₂ ≡ length l₁) where
    none₂ : (b : ℕ) → b < w → cell l₂ b ≡ none
    none₂ b h = h₂.same b (λ q. omega arith) ∙ ap (cell l₁) (omega arith) ∙ h₁.row b (omega arith) h

    nothing₂ : (b : ℕ) → b < w → cell l₂ (w + b) ≡ some nothing_worth
    nothing₂ b h = h₂.row b (omega arith) h

    base₂ : Base o w l₂
    base₂ = record { formed = s.formed; wide = s.wide; narrow = s.narrow; long = omega (arith, table_inside); none_row = none₂; nothing_row = nothing₂ }

    -- rooted
    pub pushable_root : Pushable o 1 w (2 * w) w l₂
    pushable_root = record {
      base = base₂;
      most = s.formed.linked.filled;
      after_before = λ p. omega arith;
      to_before = λ p. omega arith;
      to_above = omega arith;
      apart = inr (omega arith);
      sums_fit = record {
        most_locked = 0;
        most_diversity = 0;
        most_code = 0;
        bounded = λ b h.
            rw (nothing₂ b (omega (arith, s.wide)))
            (this {v = nothing_worth} (record { locked_most = omega arith; diversity_most = omega arith; code_most = omega arith }) (omega arith));
        locked_fits = omega (arith, lockings_limit o s.formed 1 s.formed.linked.filled);
        diversity_fits = omega (arith, branches_limit o s.formed 1 s.formed.linked.filled);
        code_fits = omega (arith, codes_limit o s.formed 1 s.formed.linked.filled);
      };
    }

    module _ {l₃ : List ℕ} {at : ℕ} (h₃ : Pushed o 1 w (2 * w) w l₂ l₃ at) (k₃ : length l₃ ≡ length l₂) where
      pub filled_rooted : {way : ℕ} → way ≡ 0 → {l₄ : List ℕ} → Bettering (2 * w) w (2 * w) w l₃ l₄ → Filled o way w l₄
      unfolding top_row rooted_row
      filled_rooted {way} e v = record {
        row = λ b h.
            v.row b (omega arith) h
            ∙ ap₂ better_of (h₃.same (w + b) (λ p. omega arith) (λ p q. omega arith) ∙ nothing₂ b h)
            (ap (λ a. cell l₃ (a + b)) (sym h₃.place) ∙ h₃.row b h ∙ pushed_same o (weight o) (tree o 1) b (λ i k. nothing₂ i (omega arith)))
            ∙ sym (rw (eq-eqb way 0 e));
      }

    -- unrooted
    module _ {l₃ : List ℕ} (h₃ : RowWritten (2 * w) 0 w (λ b. some nothing_worth) l₂ l₃) (k₃ : length l₃ ≡ length l₂) where
      pub spreadable_root : Spreadable o 1 0 (3 * w) w l₃
      spreadable_root = record {
        running = record {
          base = base_kept base₂ k₃ (λ b h. h₃.same b (λ q. omega arith));
          least = λ b h. rw (h₃.row b (omega arith) h) (better_same _);
        };
        most = s.formed.linked.filled;
        to_before = λ p. omega arith;
        to_above = omega arith;
        above_fits = omega (arith, prices_limit o s.formed 1 s.formed.linked.filled);
      }

      pub filled_unrooted : {way : ℕ} → (way ≡ 0 → ⊥) → {l₄ : List ℕ} {count : ℕ} → Spread o 1 0 (3 * w) w l₃ l₄ count → Filled o way w l₄
      unfolding top_row
      filled_unrooted {way} n h₄ = record {
        row = λ b h.
            h₄.top b h ∙ ap (λ c. better_of c (across_from o 0 1 b)) (h₃.row b (omega arith) h)
            ∙ ap (better_of (some nothing_worth)) (under_none o s.formed.linked (weight o) (tree o 1) b) ∙ sym (rw (ne_eqb way 0 n));
      }
