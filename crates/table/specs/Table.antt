-- The table: where its rows stand, what is asked before a row is pushed or spread, and what is there afterwards.
use Rattle.std.specs.Prelude.{if◌then◌else◌, ℕ, ◌+◌, ◌*◌, ◌-◌, ◌<◌, ◌≤◌, ◌≡◌, Bool, true, false, List, eqb, ltb, length}
use Rattle.outline.specs.Outline.{size, branch, price, is_taxon}
use Rattle.outline.specs.WellFormed.{WellFormed}
use Rattle.laws.specs.Candidate.{Value, nothing_worth, Cand, none, some, better_of}
use Rattle.laws.specs.Forest.{Forest, empty, node, tree}
use Rattle.laws.specs.Numbers.{weight}
use Rattle.rows.specs.Rows.{Row, pushed, rooted_row, across_under, alone_row, cross_row, top_row}
use Rattle.rows.specs.Worth.{rooted_worth}
use Rattle.cells.specs.Cells.{unit, lift, word_limit, cell, Joinable}
use Rattle.cells.specs.Memory.{row_at, Apart, RowWritten, Beside, join_over}
use Rattle.outline.specs.Rules.{most_records, most_price}
use Rattle.laws.specs.Measures.{lock, rooted_in}
use Rattle.rows.specs.Bounds.{BoundedRow, lockings, branches, codes}

-- record r of an accepted outline is a taxon
pub record IsTaxon (o : List ℕ) (r : ℕ) : Type 0 where
  pub formed : WellFormed o
  pub low : 1 ≤ r
  pub high : r ≤ size o
  pub taxon : is_taxon o r ≡ true

-- what taxon r alone is worth, at the diversity and the cost that it has
abbrev pub taxon_worth : List ℕ → ℕ → ℕ → ℕ → Value
taxon_worth o r d c = record { locked = lock o r; diversity = d; cost = c; code = weight o r }

-- all prices together
abbrev pub most_above : ℕ
most_above = most_records * most_price

-- the row of taxon r by itself: nothing chosen in each column below the price, and the taxon, at its length, in each from the
-- price on
unfoldable pub terminal_row : List ℕ → ℕ → Row
terminal_row o r b = if ltb b (price o r) then some nothing_worth else some (taxon_worth o r (branch o r) (price o r))

-- the clade of a taxon: its record, with no members
abbrev pub terminal_clade : ℕ → Forest
terminal_clade r = node r empty empty

-- c is a set in the clade of taxon r, with what it is worth there, and d is its rooted diversity, "calculated as if" the clade "was
-- the whole tree" (document 000)
pub record Shows (o : List ℕ) (r : ℕ) (c : Cand) (d : ℕ) : Type 0 where
  pub set : ℕ → Bool
  pub held : c ≡ some (rooted_worth o (weight o) set (terminal_clade r))
  pub rooted : rooted_in o set (terminal_clade r) ≡ d

-- "Of a taxon's finished row, before it is joined with others, it is shown that the rooted diversity is 0 in each column below the
-- price and the length in each from the price on."
pub record Terminal (o : List ℕ) (r to w : ℕ) (l : List ℕ) : Type 0 where
  pub zeros : (b : ℕ) → b < w → b < price o r → Shows o r (cell l (to + b)) 0
  pub lengths : (b : ℕ) → b < w → price o r ≤ b → Shows o r (cell l (to + b)) (branch o r)

-- what filling it asks: nothing chosen stands at w
pub record TerminalFills (o : List ℕ) (r to w : ℕ) (l : List ℕ) : Type 0 where
  pub is : IsTaxon o r
  pub inside : 2 * (to + w) ≤ length l
  pub nothing_inside : 2 * w + 1 < length l
  pub nothing : cell l w ≡ some nothing_worth

-- and what it leaves
pub record TerminalFilled (o : List ℕ) (r to w : ℕ) (l m : List ℕ) : Type 0 where
  pub terminal : Terminal o r to w m
  pub written : RowWritten to 0 w (terminal_row o r) l m

-- the finished row stands at `to`
abbrev pub Finished : List ℕ → ℕ → ℕ → ℕ → List ℕ → Type 0
Finished o r to w l = (b : ℕ) → b < w → cell l (to + b) ≡ terminal_row o r b

-- what joining the finished row of taxon r at `to` with the rows at x and y asks
pub record TaxonJoins (o : List ℕ) (r x y to w : ℕ) (l : List ℕ) : Type 0 where
  pub is : IsTaxon o r
  pub narrow : w < unit
  pub inside : 2 * (to + w) ≤ length l
  pub beside : Beside l to x y w
  pub fits : (i : ℕ) → i + price o r < w
      → Joinable (some (taxon_worth o r (branch o r) (price o r))) (better_of (cell l (x + i)) (cell l (y + i)))

-- taxon r joined with the better of x and y, or else y
abbrev pub taxon_over : List ℕ → ℕ → Row → Row → Row
taxon_over o r x y = join_over (some (taxon_worth o r (branch o r) (price o r))) (price o r) x y y

-- what it leaves
abbrev pub TaxonRow : List ℕ → ℕ → ℕ → ℕ → ℕ → ℕ → List ℕ → List ℕ → Type 0
TaxonRow o r x y to w l m = RowWritten to 0 w (taxon_over o r (row_at l x) (row_at l y)) l m

-- the rows of the chain that begins at record r: what is pushed through it, something in it rooted, and unrooted below
-- groups that cost `above`
abbrev pub pushed_from : List ℕ → ℕ → Row → Row
pushed_from o r = pushed o (weight o) (tree o r)

abbrev pub rooted_from : List ℕ → ℕ → Row
rooted_from o r = rooted_row o (weight o) (tree o r)

abbrev pub across_from : List ℕ → ℕ → ℕ → Row
across_from o above r = across_under o (weight o) above (tree o r)

-- of a group r, whose members begin at f and the rest of whose chain at n: its clade alone, and its clade with the rest
abbrev pub alone_from : List ℕ → ℕ → ℕ → Row
alone_from o r f = alone_row o (weight o) r false (tree o f)

abbrev pub cross_from : List ℕ → ℕ → ℕ → ℕ → Row
cross_from o r f n = cross_row o (weight o) r false (tree o f) (tree o n)

-- where the two rows of record r begin, of w columns each
abbrev pub start : ℕ → ℕ → ℕ
start w r = 2 * ((r + 1) * w)

-- before them stand four rows: no set in any column, nothing chosen, the top row, and one more
pub record Base (o : List ℕ) (w : ℕ) (l : List ℕ) : Type 0 where
  pub formed : WellFormed o
  pub wide : 0 < w
  pub narrow : w < unit
  pub long : 2 * start w (size o + 1) ≤ length l
  pub none_row : (b : ℕ) → b < w → cell l b ≡ none
  pub nothing_row : (b : ℕ) → b < w → cell l (w + b) ≡ some nothing_worth

-- the locks, the branches and the codes of a forest can be added to the candidates of a row
pub record SumsFit (o : List ℕ) (w : ℕ) (F : Forest) (x : Row) : Type 0 where
  pub most_locked : ℕ
  pub most_diversity : ℕ
  pub most_code : ℕ
  pub bounded : BoundedRow most_locked most_diversity most_code (w - 1) x
  pub locked_fits : most_locked + lockings o F < unit - 1
  pub diversity_fits : most_diversity + branches o F < lift
  pub code_fits : most_code + codes (weight o) F < word_limit

-- what pushing the row at `after` through the chain of record r to the row at `to` asks: both stand before the rows of r
pub record Pushable (o : List ℕ) (r after to w : ℕ) (l : List ℕ) : Type 0 where
  pub base : Base o w l
  pub most : r ≤ size o
  pub after_before : 0 < r → after + w ≤ start w r
  pub to_before : 0 < r → to + w ≤ start w r
  pub to_above : 2 * w ≤ to
  pub apart : Apart to after w
  pub sums_fit : SumsFit o w (tree o r) (row_at l after)

-- what it leaves: the pushed row at `to`, or at 0 if there is no record; else the rows before r's are as they were
pub record Pushed (o : List ℕ) (r after to w : ℕ) (l m : List ℕ) (at : ℕ) : Type 0 where
  pub place : at ≡ (if eqb r 0 then 0 else to)
  pub row : (b : ℕ) → b < w → cell m (at + b) ≡ pushed_from o r (row_at l after) b
  pub same : (k : ℕ) → (0 < r → k < start w r) → (0 < r → to ≤ k → to + w ≤ k) → cell m k ≡ cell l k

-- the better of the rows at `after` and `rest` stands at a cell: where it was put, or where the first one stood if the second
-- is the row of no set
pub record Followed (to after rest w : ℕ) (l m : List ℕ) (at : ℕ) : Type 0 where
  pub place : at ≡ (if eqb rest 0 then after else to)
  pub row : (b : ℕ) → b < w → cell m (at + b) ≡ better_of (cell l (after + b)) (cell l (rest + b))
  pub same : (k : ℕ) → (to ≤ k → to + w ≤ k) → cell m k ≡ cell l k

-- an accepted outline, some columns, and the numbers that the table takes: four for each column of each row
pub record Fillable (o : List ℕ) (w : ℕ) (l : List ℕ) : Type 0 where
  pub formed : WellFormed o
  pub wide : 0 < w
  pub narrow : w < unit
  pub long : 4 * ((size o + 2) * w) ≤ length l

-- the top row, which shows in each column what the exhaustive search ends with (`top_row_lem` of rows/proofs/TopRow)
pub record Filled (o : List ℕ) (way w : ℕ) (l : List ℕ) : Type 0 where
  pub row : (b : ℕ) → b < w → cell l (2 * w + b) ≡ top_row o way b
