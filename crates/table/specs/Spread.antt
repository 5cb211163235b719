-- The unrooted way: what spreading asks, the running optimum that it betters, and what it leaves.
use Rattle.std.specs.Prelude.{ℕ, ◌+◌, ◌*◌, ◌-◌, ◌<◌, ◌≤◌, ◌≡◌, ◌⊎◌, false, List, length}
use Rattle.outline.specs.Outline.{size, next, first, branch, price, is_taxon}
use Rattle.laws.specs.Candidate.{nothing_worth, heading, some, better_of, one_at, From}
use Rattle.laws.specs.Forest.{records_in, tree}
use Rattle.laws.specs.Numbers.{weight}
use Rattle.rows.specs.Rows.{Row, join_row}
use Rattle.cells.specs.Cells.{unit, lift, word_limit, cell, Chargeable}
use Rattle.cells.specs.Memory.{row_at}
use Rattle.table.specs.Table.{IsTaxon, most_above, taxon_worth, taxon_over, start, Base, rooted_from, across_from, alone_from, cross_from}
use Rattle.laws.specs.Measures.{lock}
use Rattle.rows.specs.Bounds.{Bounded, prices}

-- the rows before the records': that of no set, that of nothing chosen, and the running optimum, which is nothing or better
pub record Running (o : List ℕ) (w : ℕ) (l : List ℕ) : Type 0 where
  pub base : Base o w l
  pub least : (b : ℕ) → b < w → better_of (cell l (2 * w + b)) (some nothing_worth) ≡ cell l (2 * w + b)

-- m is l with the running optimum bettered by a row, and else as it was
pub record Bettered (w : ℕ) (x : Row) (l m : List ℕ) : Type 0 where
  pub top : (b : ℕ) → b < w → cell m (2 * w + b) ≡ better_of (cell l (2 * w + b)) (x b)
  pub same : (k : ℕ) → (2 * w ≤ k → 3 * w ≤ k) → cell m k ≡ cell l k

-- the running optimum is bettered by taxon r alone, and by taxon r with something of the row at `rest`, below groups that cost
-- `above`
abbrev pub BySingle : List ℕ → ℕ → ℕ → ℕ → List ℕ → List ℕ → Type 0
BySingle o r above w l m = Bettered w (one_at (taxon_worth o r 0 (above + price o r))) l m

abbrev pub ByPairs : List ℕ → ℕ → ℕ → ℕ → ℕ → List ℕ → List ℕ → Type 0
ByPairs o r rest above w l m = Bettered w (join_row (taxon_worth o r (branch o r) (above + price o r)) (row_at l rest)) l m

-- what spreading the chain of record r to the row at `to` asks
pub record Spreadable (o : List ℕ) (r above to w : ℕ) (l : List ℕ) : Type 0 where
  pub running : Running o w l
  pub most : r ≤ size o
  pub to_before : 0 < r → to + w ≤ start w r
  pub to_above : 3 * w ≤ to
  pub above_fits : above + prices o (tree o r) ≤ most_above

-- what it leaves: the rooted row of the chain at `to`, and the running optimum bettered by what the chain has unrooted
pub record Spread (o : List ℕ) (r above to w : ℕ) (l m : List ℕ) (count : ℕ) : Type 0 where
  pub row : 0 < r → (b : ℕ) → b < w → cell m (to + b) ≡ rooted_from o r b
  pub top : (b : ℕ) → b < w → cell m (2 * w + b) ≡ better_of (cell l (2 * w + b)) (across_from o above r b)
  pub same : (k : ℕ) → (0 < r → k < start w r) → (0 < r → to ≤ k → to + w ≤ k) → (2 * w ≤ k → 3 * w ≤ k) → cell m k ≡ cell l k
  pub records : count ≡ records_in (tree o r)

-- taxon r, and the row of the rest of its chain at `rest`, which leaves room for the taxon
pub record Pairable (o : List ℕ) (r rest w : ℕ) (l : List ℕ) : Type 0 where
  pub running : Running o w l
  pub is : IsTaxon o r
  pub rest_place : (rest ≡ 0) ⊎ (3 * w ≤ rest)
  pub rest_inside : 2 * (rest + w) ≤ length l
  pub most_locked : ℕ
  pub most_diversity : ℕ
  pub most_code : ℕ
  pub bounded : (b : ℕ) → b < w → From (Bounded most_locked most_diversity most_code) b (cell l (rest + b))
  pub locked_fits : lock o r + most_locked < unit - 1
  pub diversity_fits : branch o r + most_diversity < lift
  pub code_fits : weight o r + most_code < word_limit

-- what spreading taxon r to the row at `to` asks
pub record TaxonSpreadable (o : List ℕ) (r rest above to w : ℕ) (l : List ℕ) : Type 0 where
  pub pairs : Pairable o r rest w l
  pub above_most : above ≤ most_above
  pub to_above : 3 * w ≤ to
  pub to_inside : 2 * (to + w) ≤ length l
  pub to_before : (rest ≡ 0) ⊎ (to + w ≤ rest)

-- the taxon alone, which has no diversity, and the taxon with something of the rest have bettered the running optimum
pub record TaxonSpread (o : List ℕ) (r rest above to w : ℕ) (l m : List ℕ) : Type 0 where
  pub row : (b : ℕ) → b < w
      → cell m (to + b) ≡ taxon_over o r (λ i. some nothing_worth) (row_at l rest) b
  pub top : (b : ℕ) → b < w
      → cell m (2 * w + b)
      ≡ better_of (better_of (cell l (2 * w + b)) (one_at (taxon_worth o r 0 (above + price o r)) b))
      (join_row (taxon_worth o r (branch o r) (above + price o r)) (row_at l rest) b)
  pub same : (k : ℕ) → (to ≤ k → to + w ≤ k) → (2 * w ≤ k → 3 * w ≤ k) → cell m k ≡ cell l k

-- the two rows of group r hold what its clade has alone and what the rest of its chain has
pub record Crossable (o : List ℕ) (r to w : ℕ) (l : List ℕ) : Type 0 where
  pub base : Base o w l
  pub positive : 0 < r
  pub most : r ≤ size o
  pub group : is_taxon o r ≡ false
  pub to_above : 2 * w ≤ to
  pub to_before : to + w ≤ start w r
  pub more : 0 < next o r
  pub alone_row_is : (b : ℕ) → b < w → cell l (start w r + b) ≡ alone_from o r (first o r) b
  pub rest_row : (b : ℕ) → b < w → cell l (start w r + w + b) ≡ rooted_from o (next o r) b

-- the crossing row stands at `to`; the rows up to r's are else as they were
pub record Crossed (o : List ℕ) (r to w : ℕ) (l m : List ℕ) : Type 0 where
  pub row : (b : ℕ) → b < w → cell m (to + b) ≡ cross_from o r (first o r) (next o r) b
  pub same : (k : ℕ) → k < start w r + 2 * w → (to ≤ k → to + w ≤ k) → cell m k ≡ cell l k

-- what bettering the running optimum by the row at `to` asks, below groups that cost `above`
pub record Tops (l : List ℕ) (to above w : ℕ) : Type 0 where
  pub wide : 0 < w
  pub to_above : 3 * w ≤ to
  pub to_inside : 2 * (to + w) ≤ length l
  pub fits : (i : ℕ) → i + above < w → Chargeable (cell l (to + i)) 0 above

-- what it leaves: the row is moved right by `above`
abbrev pub ByRow : ℕ → ℕ → ℕ → List ℕ → List ℕ → Type 0
ByRow to above w l m = Bettered w (join_row (heading 0 above) (row_at l to)) l m

-- rows for a meeting: the running optimum, `to`, and the two at `own`
pub record Meets (l : List ℕ) (own to above w : ℕ) : Type 0 where
  pub top : Tops l to above w
  pub to_before : to + w ≤ own
  pub inside : 2 * (own + 2 * w) ≤ length l

-- the running optimum and the row at `to` bettered
pub record Met (own to above w : ℕ) (l m : List ℕ) : Type 0 where
  pub top : (b : ℕ) → b < w → cell m (2 * w + b) ≡ better_of (cell l (2 * w + b)) (join_row (heading 0 above) (row_at l to) b)
  pub row : (b : ℕ) → b < w → cell m (to + b) ≡ better_of (better_of (cell l (own + b)) (cell l (own + w + b))) (cell l (to + b))
  pub same : (k : ℕ) → k < own → (to ≤ k → to + w ≤ k) → (2 * w ≤ k → 3 * w ≤ k) → cell m k ≡ cell l k
