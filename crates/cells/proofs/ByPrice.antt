-- Rows by a price, below it and from there on: a candidate joined with a row, and a row charged with a heading in two parts.
use Rattle.std.specs.Prelude.{if◌then◌else◌}
use Rattle.std.proofs.lemmas.Bool.{cases_lt}
use Prim.Native.Nat.{ℕ, ◌+◌, ◌-◌, ◌<◌, ◌≤◌, min}
use mathlib.Core.Path.{◌≡◌, refl, sym, ap, ap₂, ◌∙◌}
use mathlib.Core.Logic.{⊎_elim}
use mathlib.Core.Bool.{Bool, true, false}
use mathlib.Core.List.{List}
use native.Mathlib.Omega.{arith}
use lib.Dec.{leb}
use lib.ListN.{length}
use borrow.Author.Tests.{lt-leb}
use Rattle.laws.specs.Candidate.{Value, heading, Cand, none, some, better_of, join_of, one_at}
use Rattle.laws.proofs.Order.{better_none}
use Rattle.rows.specs.Rows.{Row, join_row}
use Rattle.cells.specs.Cells.{cell}
use Rattle.cells.specs.Memory.{row_at, join_from, charge_over, Bettering, ChargingFrom, Charges, Charging}

-- below the price there is nothing to join
pub join_below : (c : Cand) (price : ℕ) (x : Row) (b : ℕ) → b < price → join_from c price x b ≡ none
unfolding join_from
join_below c price x b h = rw (lt-leb price b h)

pub join_same : (c : Cand) (price : ℕ) (x y : Row) (b : ℕ) → x (b - price) ≡ y (b - price) → join_from c price x b ≡ join_from c price y b
unfolding join_from
join_same c price x y b e = rw e

-- as the rows have it
pub join_row_lem : (v : Value) (x : Row) (b : ℕ) → join_from (some v) v.cost x b ≡ join_row v x b
unfolding join_from join_row one_at join_of
join_row_lem v x b = go (leb v.cost b)
  where
    go : (t : Bool) → (if t then join_of (some v) (x (b - v.cost)) else none) ≡ join_of (if t then some v else none) (x (b - v.cost))
    go true = refl
    go false = refl

-- a row charged in two parts: from the price on, and below it
module _ {l m : List ℕ} {to branch price y w : ℕ} (j : Charges l to branch price y w) (len : length m ≡ length l)
    (above : ChargingFrom to to branch price y w l m) {n : ℕ} (e : n ≡ min w price) where
  over_same : (i : ℕ) → i < w → cell m (y + i) ≡ cell l (y + i)
  over_same i h = above.same (y + i) (⊎_elim (λ p q. omega arith) (λ p q. omega arith) j.over_apart)

  none_same : (i : ℕ) → i < w → cell m (0 + i) ≡ none
  none_same i h = above.same (0 + i) (λ q. omega (arith, j.above)) ∙ j.none_row refl i h

  pub charging_whole : {m' : List ℕ} → Bettering to y 0 n m m' → Charging to branch price y w l m'
  unfolding better_of
  charging_whole {m'} v = record {
    row = λ b u h. ⊎_elim (under b h) (from_price b h) (cases_lt b price);
    same = λ k g. v.same k (λ q. omega (arith, g (omega arith))) ∙ above.same k (λ q. g (omega arith));
  }
    where
      from_price : (b : ℕ) → b < w → price ≤ b → cell m' (to + b) ≡ charge_over (row_at l to) branch price (row_at l y) b
      from_price b h q = v.same (to + b) (λ g. omega arith) ∙ above.row b q h

      under : (b : ℕ) → b < w → b < price → cell m' (to + b) ≡ charge_over (row_at l to) branch price (row_at l y) b
      under b h q =
          v.row b (omega arith) (omega arith) ∙ ap₂ better_of (over_same b h) (none_same b h) ∙ better_none _
          ∙ sym (ap (λ c. better_of c (cell l (y + b))) (join_below (some (heading branch price)) price (row_at l to) b q))
