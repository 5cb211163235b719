-- Where the rows of the table stand, and what is known at a record: where its links lead, and how large what they lead to is.
use Rattle.std.specs.Prelude.{if◌then◌else◌}
use Prim.Native.Nat.{ℕ, ◌+◌, ◌*◌, ◌<◌, ◌≤◌}
use mathlib.Core.Path.{◌≡◌, ap, ◌∙◌}
use mathlib.Core.Logic.{◌≢◌}
use mathlib.Core.List.{List}
use native.Mathlib.Omega.{arith}
use native.Mathlib.Nat.{mul-le-mul_right}
use lib.ListN.{length}
use Rattle.outline.specs.Outline.{size, next, first, branch, price, is_taxon}
use Rattle.outline.specs.WellFormed.{Later}
use Rattle.laws.specs.Forest.{tree}
use Rattle.laws.specs.Numbers.{weight}
use Rattle.rows.proofs.Bounds.{all_step, codes_step}
use Rattle.cells.specs.Cells.{cell}
use Rattle.cells.specs.Memory.{Blank, Idle}
use Rattle.table.specs.Table.{IsTaxon, TerminalFills, start, Base}
use Rattle.laws.specs.Measures.{lock}
use Rattle.rows.specs.Bounds.{lockings, branches, prices, codes}

-- the rows of a record stand before those of a later one
pub gap : (w m n : ℕ) → m < n → start w m + 2 * w ≤ start w n
gap w m n h =
    let k : m + 1 + 1 ≤ n + 1 = omega arith in
    omega (arith, mul-le-mul_right w k)

module _ {o : List ℕ} {w : ℕ} {l : List ℕ} (base : Base o w l) where
  -- as long as the rows of no set and of nothing chosen stay
  pub base_kept : {m : List ℕ} → length m ≡ length l → ((k : ℕ) → k < 2 * w → cell m k ≡ cell l k) → Base o w m
  base_kept long same = record {
    formed = base.formed;
    wide = base.wide;
    narrow = base.narrow;
    long = omega (arith, base.long);
    none_row = λ b h. same b (omega arith) ∙ base.none_row b h;
    nothing_row = λ b h. same (w + b) (omega arith) ∙ base.nothing_row b h;
  }

  pub blank_none : (a : ℕ) → Blank l a w
  blank_none a e b h = ap (cell l) (omega arith) ∙ base.none_row b h

  pub idle_nothing : (a : ℕ) → Idle l a w
  idle_nothing a e b h = ap (λ k. cell l (k + b)) e ∙ base.nothing_row b h

  -- the four rows before the records', and the two of a record
  pub front_inside : 2 * (4 * w) ≤ length l
  front_inside = omega (arith, base.long, gap w 0 (size o + 1) (omega arith))

  pub own_inside : {r : ℕ} → r ≤ size o → 2 * (start w r + 2 * w) ≤ length l
  own_inside {r} u = omega (arith, base.long, gap w r (size o + 1) (omega arith))

  -- a taxon's row can be filled anywhere
  pub terminal_fills : {r to : ℕ} → IsTaxon o r → 2 * (to + w) ≤ length l → TerminalFills o r to w l
  terminal_fills is inside = record {
    is = is;
    inside = inside;
    nothing_inside = omega (arith, front_inside, base.wide);
    nothing = ap (cell l) (omega arith) ∙ base.nothing_row 0 base.wide;
  }

-- at record r, whose members begin at f and the rest of whose chain at n
pub record AtRecord (o : List ℕ) (r w : ℕ) (l : List ℕ) (n f : ℕ) : Type 0 where
  pub base : Base o w l
  pub positive : 0 < r
  pub most : r ≤ size o
  pub next_is : n ≡ next o r
  pub first_is : f ≡ first o r

-- record r, where its links are read
pub at_links : {o : List ℕ} {r w : ℕ} {l : List ℕ} {n f : ℕ} → Base o w l → r ≤ size o → r ≢ 0 → n ≡ next o r → f ≡ first o r → AtRecord o r w l n f
at_links base u some e h = record { base = base; positive = omega arith; most = u; next_is = e; first_is = h }

module _ {o : List ℕ} {r w : ℕ} {l : List ℕ} {n f : ℕ} (a : AtRecord o r w l n f) where
  pub to_next : Later o r n
  to_next = rw a.next_is (a.base.formed.linked.next_later r a.positive a.most)

  pub to_first : Later o r f
  to_first = rw a.first_is (a.base.formed.linked.first_later r a.positive a.most)

  pub own_above : 4 * w ≤ start w r
  own_above = omega (arith, gap w 0 r a.positive)

  pub branches_here : branches o (tree o r) ≡ branch o r + (branches o (tree o f) + branches o (tree o n))
  branches_here = rw (a.next_is, a.first_is) (all_step o a.base.formed.linked (branch o) r a.most a.positive)

  pub lockings_here : lockings o (tree o r) ≡ lock o r + (lockings o (tree o f) + lockings o (tree o n))
  lockings_here = rw (a.next_is, a.first_is) (all_step o a.base.formed.linked (lock o) r a.most a.positive)

  pub prices_here : prices o (tree o r) ≡ price o r + (prices o (tree o f) + prices o (tree o n))
  prices_here = rw (a.next_is, a.first_is) (all_step o a.base.formed.linked (price o) r a.most a.positive)

  pub codes_here : codes (weight o) (tree o r)
      ≡ (if is_taxon o r then weight o r else 0) + (codes (weight o) (tree o f) + codes (weight o) (tree o n))
  codes_here = rw (a.next_is, a.first_is) (codes_step o a.base.formed.linked (weight o) r a.most a.positive)
