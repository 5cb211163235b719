-- Cells that are put and rows that are written, column by column.
use denote.Ref.{Bor}
use Prim.Native.Nat.{ℕ, ◌+◌, ◌*◌, ◌-◌, ◌<◌, ◌≤◌}
use mathlib.Core.Path.{◌≡◌, ◌∙◌}
use mathlib.Core.Logic.{◌⊎◌, inr, ◌≢◌, ⊎_elim}
use mathlib.Core.List.{List}
use native.Mathlib.Omega.{arith}
use native.Mathlib.Nat.{eq-or-lt_of_le}
use lib.ListN.{length, set, length-set}
use lib.Seq.{get_or-set_same, get_or-set_other}
use borrow.Author.Tests.{le-leb}
use Rattle.laws.specs.Candidate.{Cand, join_of}
use Rattle.rows.specs.Rows.{Row}
use Rattle.cells.specs.declared.candidate.Candidate.{Candidate}
use Rattle.cells.specs.Cells.{seen, view, cell}
use Rattle.cells.specs.Memory.{Apart, Put, RowWritten, Besides, Made, join_from}

-- two words put at a cell of a list
pub put_words : (l : List ℕ) (k s m : ℕ) → 2 * k + 1 < length l → Put k (seen s m) l (set (set l (2 * k) s) (2 * k + 1) m)
unfolding cell
put_words l k s m fits =
    let inside : 2 * k + 1 < length (set l (2 * k) s) = simp length-set fits in
    let other : 2 * k ≢ 2 * k + 1 = omega arith in
    let first : 2 * k < length l = omega arith in
    record {
      here = rw (get_or-set_other, get_or-set_same, get_or-set_same);
      same = λ j n.
          let a : 2 * j ≢ 2 * k + 1 = omega arith in
          let b : 2 * j ≢ 2 * k = omega arith in
          let c : 2 * j + 1 ≢ 2 * k + 1 = omega arith in
          let d : 2 * j + 1 ≢ 2 * k = omega arith in
          simp get_or-set_other;
    }

-- columns that a closure made, from left to right: one more
module _ {post : Bor (List ℕ) → ℕ → Candidate → Type 0} {to lo : ℕ} {l m : List ℕ} where
  pub made_goes : {b : ℕ} {n : List ℕ} → Made post to lo b l m → lo ≤ b → (rows : Bor (List ℕ)) → rows.now ≡ m → {c : Candidate} → post rows b c
      → Put (to + b) (view c) m n → length n ≡ length m → Made post to lo (b + 1) l n
  made_goes {b} h least rows e {c} given p len = record {
    made = λ k u v.
        ⊎_elim (λ (q : k ≡ b). rw q (rows, (c, rw e h.others, given, p.here)))
        (λ (q : k < b). let w = h.made k u q in (w.0, (w.1.0, w.1.1, w.1.2, p.same (to + k) (omega arith) ∙ w.1.3)))
        (eq-or-lt_of_le {m = b} (omega arith));
    others = record {
      long = len ∙ h.others.long;
      same = λ k g. p.same k (λ q. omega (arith, g (omega arith))) ∙ h.others.same k (λ q. omega (arith, g q));
    };
  }

  -- as a row, if each call gave a column of it
  pub made_row : {hi : ℕ} (x : Row) → Made post to lo hi l m
      → ((rows : Bor (List ℕ)) (b : ℕ) (c : Candidate) → lo ≤ b → b < hi → Besides to lo b l rows.now → post rows b c → view c ≡ x b)
      → RowWritten to lo hi x l m
  made_row x h f = record {
    row = λ b u v. let w = h.made b u v in w.1.3 ∙ f w.0 b w.1.0 u v w.1.1 w.1.2;
    same = h.others.same;
  }

-- where they are read, a row that is not overtaken and one that stands apart are still as they were
module _ {to lo b w a : ℕ} {l m : List ℕ} (h : Besides to lo b l m) (most : b < w) where
  pub aside_same : (to ≤ a) ⊎ (a + w ≤ to) → cell m (a + b) ≡ cell l (a + b)
  aside_same d = h.same (a + b) (⊎_elim (λ p q. omega arith) (λ p q. omega arith) d)

  pub apart_same : Apart to a w → {k : ℕ} → k < w → cell m (a + k) ≡ cell l (a + k)
  apart_same d {k} lt = h.same (a + k) (⊎_elim (λ p q. omega arith) (λ p q. omega arith) d)

-- a loop's invariant from right to left: the columns from i up to w are written, of those from lo on
pub record Filling (to lo w : ℕ) (x : Row) (l m : List ℕ) (i : ℕ) : Type 0 where
  pub most : i ≤ w
  pub least : (i ≡ w) ⊎ (lo ≤ i)
  pub long : length m ≡ length l
  pub written : RowWritten to i w x l m

module _ {to lo w : ℕ} {x : Row} {l m : List ℕ} {i : ℕ} (h : Filling to lo w x l m i) where
  pub filling_goes : {c : Cand} {m' : List ℕ} → lo < i → Put (to + (i - 1)) c m m' → length m' ≡ length m → c ≡ x (i - 1)
      → Filling to lo w x l m' (i - 1)
  filling_goes lt p len e = record {
    most = omega (arith, h.most);
    least = inr (omega arith);
    long = len ∙ h.long;
    written = record {
      row = λ b u v.
          let u' : i - 1 ≤ b = u in
          ⊎_elim (λ (q : i - 1 ≡ b). rw q at (p.here ∙ e)) (λ (q : i - 1 < b). p.same (to + b) (omega arith) ∙ h.written.row b (omega arith) v)
          (eq-or-lt_of_le u');
      same = λ k g. p.same k (λ q. omega (arith, g (omega arith), h.most)) ∙ h.written.same k (λ q. omega (arith, g (omega arith)));
    };
  }

  -- a row that is not overtaken is still as it was where it is read
  pub back_same : {a : ℕ} → (a ≤ to) ⊎ (to + w ≤ a) → (k : ℕ) → k < i → cell m (a + k) ≡ cell l (a + k)
  back_same {a} d k lt =
      h.written.same (a + k) (λ q. ⊎_elim (λ (p : a ≤ to). absurd (omega arith)) (λ (p : to + w ≤ a). omega (arith, h.most)) d)

-- a column from the price on
pub join_from_lem : (c : Cand) (price : ℕ) (x : Row) (b : ℕ) → price ≤ b → join_of c (x (b - price)) ≡ join_from c price x b
unfolding join_from
join_from_lem c price x b h = rw (le-leb price b h)
