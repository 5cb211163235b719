-- The rows of the table, by recursion over a forest: a row is pushed through the forest, from its last clade to its first.
-- `weigh r` is what taxon r adds to a set's number.
use Rattle.std.specs.Prelude.{if◌then◌else◌, ℕ, ◌-◌, Bool, not, List, eqb}
use Rattle.lists.specs.Lists.{one}
use Rattle.outline.specs.Outline.{branch, price, locked}
use Rattle.laws.specs.Forest.{Forest, empty, node, tree, is_group}
use Rattle.laws.specs.Numbers.{weight}
use Rattle.laws.specs.Candidate.{Value, nothing_worth, heading, Cand, none, some, better_of, join_of, one_at}

-- a candidate for each page count
abbrev pub Row : Type 0
Row = ℕ → Cand

-- the better of two rows, column by column
abbrev pub better_row : Row → Row → Row
better_row x y b = better_of (x b) (y b)

-- the one value, together with what the row has for the rest of the page count
unfoldable pub join_row : Value → Row → Row
join_row v x b = join_of (one_at v b) (x (b - v.cost))

-- a record with these members is a taxon
abbrev pub is_leaf : Forest → Bool
is_leaf f = not (is_group f)

module _ (o : List ℕ) (weigh : ℕ → ℕ) where
  -- what a taxon alone is worth
  abbrev pub taxon_rooted : ℕ → Value
  taxon_rooted r = record { locked = one (locked o r); diversity = branch o r; cost = price o r; code = weigh r }

  abbrev pub taxon_unrooted : ℕ → Value
  taxon_unrooted r = record { locked = one (locked o r); diversity = 0; cost = price o r; code = weigh r }

  -- a group's heading, with its branch and without
  abbrev pub heading_rooted : ℕ → Value
  heading_rooted r = heading (branch o r) (price o r)

  abbrev pub heading_unrooted : ℕ → Value
  heading_unrooted r = heading 0 (price o r)

  -- something in r's clade, and then what may follow: for a taxon, x is what may follow; for a group, g is something of its
  -- members and then what may follow, which moves right by the price of its heading
  unfoldable pub clade_row : ℕ → Bool → Row → Row → Row
  clade_row r taxon x g b = if taxon then join_row (taxon_rooted r) x b else join_row (heading_rooted r) g b

  -- something in the forest, and then what x has
  unfoldable pub pushed : Forest → Row → Row
  pushed empty x b = none
  pushed (node r f n) x b =
      let y : Row = pushed n x in
      let follow : Row = better_row x y in
      better_of (clade_row r (is_leaf f) follow (pushed f follow) b) (y b)

  -- something in the forest, and then nothing
  unfoldable pub rooted_row : Forest → Row
  rooted_row F = pushed F (λ b. some nothing_worth)

  -- something in r's clade, and then nothing
  unfoldable pub alone_row : ℕ → Bool → Forest → Row
  alone_row r taxon f b = if taxon then one_at (taxon_rooted r) b else join_row (heading_rooted r) (rooted_row f) b

  -- something in r's clade, and something in the rest of its chain
  unfoldable pub cross_row : ℕ → Bool → Forest → Forest → Row
  cross_row r taxon f n = clade_row r taxon (rooted_row n) (pushed f (rooted_row n))

  -- something in r's clade, and nothing in the rest of its chain, unrooted: a taxon alone, or what g has of a group's members
  unfoldable pub inside_row : ℕ → Bool → Row → Row
  inside_row r taxon g b = if taxon then one_at (taxon_unrooted r) b else join_row (heading_unrooted r) g b

  -- something in the forest, unrooted
  unfoldable pub across_row : Forest → Row
  across_row empty b = none
  across_row (node r f n) b = better_of (better_of (inside_row r (is_leaf f) (across_row f) b) (across_row n b)) (cross_row r (is_leaf f) f n b)

  -- the same below groups that cost `above` together
  unfoldable pub across_under : ℕ → Forest → Row
  across_under above F = join_row (heading 0 above) (across_row F)

-- the table's last row: nothing, or something in the clade of record 1, by the way of counting
unfoldable pub top_row : List ℕ → ℕ → Row
top_row o way b =
    let rooted = rooted_row o (weight o) (tree o 1) b in
    let unrooted = across_row o (weight o) (tree o 1) b in
    better_of (some nothing_worth) (if eqb way 0 then rooted else unrooted)
