-- Rows of candidates in a list of numbers, and what is written of them.
use Rattle.std.specs.Prelude.{if◌then◌else◌, ℕ, ◌+◌, ◌*◌, ◌-◌, ◌<◌, ◌≤◌, ◌≡◌, ◌⊎◌, ◌≢◌, List, leb, length}
use denote.Ref.{Bor}
use Rattle.laws.specs.Candidate.{nothing_worth, heading, Cand, none, some, better_of, join_of, charge_of}
use Rattle.rows.specs.Rows.{Row, better_row}
use Rattle.cells.specs.declared.candidate.Candidate.{Candidate}
use Rattle.cells.specs.Cells.{view, cell, Joinable, Chargeable}

-- the row that begins at a cell
abbrev pub row_at : List ℕ → ℕ → Row
row_at l at b = cell l (at + b)

-- two rows of w columns that begin at these cells have no cell in common
abbrev pub Apart : ℕ → ℕ → ℕ → Type 0
Apart x y w = (x + w ≤ y) ⊎ (y + w ≤ x)

-- m is l with c put at cell k
pub record Put (k : ℕ) (c : Cand) (l m : List ℕ) : Type 0 where
  pub here : cell m k ≡ c
  pub same : (j : ℕ) → j ≢ k → cell m j ≡ cell l j

-- m is l with the columns from lo up to hi of the row x written to the row that begins at a cell
pub record RowWritten (to lo hi : ℕ) (x : Row) (l m : List ℕ) : Type 0 where
  pub row : (b : ℕ) → lo ≤ b → b < hi → cell m (to + b) ≡ x b
  pub same : (k : ℕ) → (to + lo ≤ k → to + hi ≤ k) → cell m k ≡ cell l k

-- m is l but for the columns from lo up to hi of the row that begins at a cell
pub record Besides (to lo hi : ℕ) (l m : List ℕ) : Type 0 where
  pub long : length m ≡ length l
  pub same : (k : ℕ) → (to + lo ≤ k → to + hi ≤ k) → cell m k ≡ cell l k

-- for each column a closure may be called, with whatever may stand once those before it are made
pub record Makes (pre : Bor (List ℕ) → ℕ → Type 0) (to lo hi : ℕ) (l : List ℕ) : Type 0 where
  pub callable : (rows : Bor (List ℕ)) (b : ℕ) → lo ≤ b → b < hi → Besides to lo b l rows.now → pre rows b

-- m is l with the columns made: each is what such a call gave
pub record Made (post : Bor (List ℕ) → ℕ → Candidate → Type 0) (to lo hi : ℕ) (l m : List ℕ) : Type 0 where
  pub made : (b : ℕ) → lo ≤ b → b < hi
      → (rows : Bor (List ℕ)) × ((c : Candidate) × Besides to lo b l rows.now × post rows b c × (cell m (to + b) ≡ view c))
  pub others : Besides to lo hi l m

-- the row at a, if it is the one at cell 0, has no set in any column
abbrev pub Blank : List ℕ → ℕ → ℕ → Type 0
Blank l a w = a ≡ 0 → (b : ℕ) → b < w → cell l (a + b) ≡ none

-- the row at a, if it is the one at w, has nothing chosen in any column
abbrev pub Idle : List ℕ → ℕ → ℕ → Type 0
Idle l a w = a ≡ w → (b : ℕ) → b < w → cell l (a + b) ≡ some nothing_worth

-- l has a row of w columns at a, which is not overtaken while the row at `to` is written from left to right
pub record Reads (l : List ℕ) (to a w : ℕ) : Type 0 where
  pub inside : 2 * (a + w) ≤ length l
  pub aside : (to ≤ a) ⊎ (a + w ≤ to)

-- what putting the better of two rows somewhere asks; the second may be the row of no set
pub record Betters (l : List ℕ) (to x y w : ℕ) : Type 0 where
  pub inside : 2 * (to + w) ≤ length l
  pub first : Reads l to x w
  pub second : Reads l to y w
  pub blank : Blank l y w

-- the one candidate from its price on, together with what the row has for the rest
unfoldable pub join_from : Cand → ℕ → Row → Row
join_from c price x b = if leb price b then join_of c (x (b - price)) else none

-- the one candidate joined with the better of x and y, or else z
abbrev pub join_over : Cand → ℕ → Row → Row → Row → Row
join_over c price x y z b = better_of (join_from c price (better_row x y) b) (z b)

-- x below a heading, or else y
abbrev pub charge_over : Row → ℕ → ℕ → Row → Row
charge_over x branch price y b = better_of (join_from (some (heading branch price)) price x b) (y b)

-- the ways to write a row: bettered by one candidate; the better of two; one below a heading or else another, from the price of
-- the heading on, or all of it in place; and one below groups that cost `above`, joined with the better of two or else a third,
-- from a cost on
abbrev pub BetteringBy : ℕ → Cand → ℕ → ℕ → List ℕ → List ℕ → Type 0
BetteringBy to c lo hi l m = RowWritten to lo hi (λ b. better_of (cell l (to + b)) c) l m

abbrev pub Bettering : ℕ → ℕ → ℕ → ℕ → List ℕ → List ℕ → Type 0
Bettering to x y w l m = RowWritten to 0 w (better_row (row_at l x) (row_at l y)) l m

abbrev pub ChargingFrom : ℕ → ℕ → ℕ → ℕ → ℕ → ℕ → List ℕ → List ℕ → Type 0
ChargingFrom to x branch price y w l m = RowWritten to price w (charge_over (row_at l x) branch price (row_at l y)) l m

abbrev pub Charging : ℕ → ℕ → ℕ → ℕ → ℕ → List ℕ → List ℕ → Type 0
Charging to branch price y w l m = RowWritten to 0 w (charge_over (row_at l to) branch price (row_at l y)) l m

abbrev pub Joining : ℕ → ℕ → ℕ → ℕ → ℕ → ℕ → ℕ → ℕ → List ℕ → List ℕ → Type 0
Joining to own above cost x y z w l m =
    RowWritten to cost w (λ b. join_over (charge_of (cell l (own + b)) 0 above) cost (row_at l x) (row_at l y) (row_at l z) b) l m

-- l has a row of w columns at a, which is not overtaken while the row at `to` is written from right to left
pub record ReadsBack (l : List ℕ) (to a w : ℕ) : Type 0 where
  pub inside : 2 * (a + w) ≤ length l
  pub aside : (a ≤ to) ⊎ (to + w ≤ a)

-- what charging the row at a from its price on asks
pub record ChargesFrom (l : List ℕ) (to a branch price b w : ℕ) : Type 0 where
  pub inside : 2 * (to + w) ≤ length l
  pub moved : ReadsBack l to a w
  pub over : ReadsBack l to b w
  pub blank : Blank l b w
  pub fits : (i : ℕ) → i + price < w → Chargeable (cell l (a + i)) branch price

-- what charging the whole row in place asks: b stands apart from it
pub record Charges (l : List ℕ) (to branch price b w : ℕ) : Type 0 where
  pub inside : 2 * (to + w) ≤ length l
  pub above : w ≤ to
  pub over_inside : 2 * (b + w) ≤ length l
  pub over_apart : Apart to b w
  pub blank : Blank l b w
  pub none_row : Blank l 0 w
  pub fits : (i : ℕ) → i + price < w → Chargeable (cell l (to + i)) branch price

-- two rows of w columns beside the one at `to`, apart from it: the first may be that of nothing chosen, the second that of no set
pub record Beside (l : List ℕ) (to x y w : ℕ) : Type 0 where
  pub first_inside : 2 * (x + w) ≤ length l
  pub first_apart : Apart to x w
  pub first_idle : Idle l x w
  pub second_inside : 2 * (y + w) ≤ length l
  pub second_apart : Apart to y w
  pub second_blank : Blank l y w

-- what reading column b of two rows asks
pub record Follows (l : List ℕ) (x y b w : ℕ) : Type 0 where
  pub first_inside : 2 * (x + b) + 1 < length l
  pub idle : x ≡ w → cell l (x + b) ≡ some nothing_worth
  pub second_inside : 2 * (y + b) + 1 < length l
  pub blank : y ≡ 0 → cell l (y + b) ≡ none

-- what joining the row at `own`, below groups that cost `above`, with the rows at x and y asks
pub record Joins (l : List ℕ) (to own above cost x y z w : ℕ) : Type 0 where
  pub inside : 2 * (to + w) ≤ length l
  pub taken : Reads l to own w
  pub beside : Beside l to x y w
  pub over : Reads l to z w
  pub over_blank : Blank l z w
  pub there : (b : ℕ) → cost ≤ b → b < w → charge_of (cell l (own + b)) 0 above ≢ none
  pub charge_fits : (b : ℕ) → cost ≤ b → b < w → Chargeable (cell l (own + b)) 0 above
  pub join_fits : (b : ℕ) → cost ≤ b → b < w
      → Joinable (charge_of (cell l (own + b)) 0 above) (better_of (cell l (x + (b - cost))) (cell l (y + (b - cost))))

-- what adding a row to one of nothing chosen asks
pub record Adds (l : List ℕ) (to y w : ℕ) : Type 0 where
  pub inside : 2 * (to + w) ≤ length l
  pub nothing : (b : ℕ) → b < w → cell l (to + b) ≡ some nothing_worth
  pub other : Reads l to y w
  pub blank : Blank l y w
