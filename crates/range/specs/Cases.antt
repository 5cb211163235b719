-- Worked calls of a range of prices: tree A, with plate 11 for 3 to 4 quarters and others; a heading's range; a lock; refusals. Then outlines at prices
-- between, with the best there.
use Rattle.std.specs.Prelude.{ℕ, ◌+◌, ◌≡◌, refl, replicate}
use mathlib.Core.List.{List, [], ◌∷◌, ◌++◌, map}
use Rattle.lists.specs.Lists.{from, anywhere, total, lowest, over}
use Rattle.refusals.specs.Refusals.{Ruling, passed}
use Rattle.refusals.specs.Reply.{Reply, granted}
use Rattle.outline.specs.Outline.{short, long, records, bytes, record_bytes, locked}
use Rattle.outline.specs.Answer.{size_rows, record_rows, checked}
use Rattle.outline.specs.Rules.{bad_field, naming, named, bad_link, taxa_in, taxa, has_plate, is_duplicate}
use Rattle.diversity.specs.Diversity.{chain, clade, chosen, within, elsewhere, rooted, unrooted, diversity, cost, holds_locked, chosen_taxa}
use Rattle.diversity.specs.Search.{subsets, leads, better, fits, turn, exhaustive_search, is_holding, set_of, optimum, none_fits, best_diversity, columns_alike, spare}
use Rattle.choice.specs.Answer.{too_short, figures as figures_chosen}
use Rattle.range.specs.Answer.{Call, call, Figures, with_roof, bad_range, price_rows, judged, figures, reply, marks_after}
use Rattle.range.specs.Demands.{floor, roof}

-- tree A, with the price of the heading of its second group, that of plate 11, what is added to its field, and the length of plate 13
tree_a : ℕ → ℕ → ℕ → ℕ → List ℕ
tree_a heading price more length =
    record_bytes 0 2 0 0 0
    ++ record_bytes 5 3 3 heading 0
    ++ record_bytes 4 0 4 price (more + 11)
    ++ record_bytes 0 0 2 1 12
    ++ record_bytes 0 0 length 2 13

-- the lock of plate 11
abbrev lock : ℕ
lock = 2147483648

-- plate 13 moved into the second group
moved : List ℕ
moved =
    record_bytes 0 2 0 0 0
    ++ record_bytes 0 3 3 0 0
    ++ record_bytes 4 0 4 3 11
    ++ record_bytes 5 0 2 1 12
    ++ record_bytes 0 0 5 2 13

-- a taxon of this length alone
alone : ℕ → List ℕ
alone length = record_bytes 0 0 length 1 1

-- what a call is told, and the marks after it
pub record Case : Type 0 where
  pub given : Call
  pub told : Reply Figures
  pub leaves : List ℕ

-- outlines at low and at high prices, a page count and a way, marks
abbrev case : List ℕ → List ℕ → ℕ → ℕ → List ℕ → Reply Figures → List ℕ → Case
case low high count way marks reply leaves =
    record { given = call low high count way marks (replicate 12 9) (replicate 168 9); told = reply; leaves = leaves }

abbrev pub computed : Case → Case
computed x = record { given = x.given; told = reply x.given; leaves = marks_after x.given }

-- the floor, cost, taxa and spare, and the roof
abbrev gives : ℕ → ℕ → ℕ → ℕ → ℕ → Reply Figures
gives floor cost taxa spare roof = granted (with_roof (record { diversity = floor; cost = cost; taxa = taxa; spare = spare }) roof)

abbrev refuses : ℕ → ℕ → Reply Figures
refuses number place =
    record { number = number; place = place; figures = with_roof (record { diversity = 0; cost = 0; taxa = 0; spare = 0 }) 0 }

-- six marks as they came in, and four, too few
abbrev nines : List ℕ
nines = 9 ∷ 9 ∷ 9 ∷ 9 ∷ 9 ∷ 9 ∷ []

abbrev few : List ℕ
few = 9 ∷ 9 ∷ 9 ∷ 9 ∷ []

-- the marks of plates 11 and 13, 12 and 13, 11 and 12, 11, 13, and none
abbrev marks_11_13 : List ℕ
marks_11_13 = 0 ∷ 0 ∷ 1 ∷ 0 ∷ 1 ∷ 9 ∷ []

abbrev marks_12_13 : List ℕ
marks_12_13 = 0 ∷ 0 ∷ 0 ∷ 1 ∷ 1 ∷ 9 ∷ []

abbrev marks_11_12 : List ℕ
marks_11_12 = 0 ∷ 0 ∷ 1 ∷ 1 ∷ 0 ∷ 9 ∷ []

abbrev marks_11 : List ℕ
marks_11 = 0 ∷ 0 ∷ 1 ∷ 0 ∷ 0 ∷ 9 ∷ []

abbrev marks_13 : List ℕ
marks_13 = 0 ∷ 0 ∷ 0 ∷ 0 ∷ 1 ∷ 9 ∷ []

abbrev marks_none : List ℕ
marks_none = 0 ∷ 0 ∷ 0 ∷ 0 ∷ 0 ∷ 9 ∷ []

pub cases : List Case
cases =
    -- for 4 quarters plate 11 does not go with plate 13, so that 12 and 13 are sure, for 10; for 3 quarters it does, for 12
    case (tree_a 0 3 0 5) (tree_a 0 4 0 5) 5 0 nines (gives 10 3 2 2 12) marks_12_13
    ∷ case (tree_a 0 3 0 5) (tree_a 0 4 0 5) 5 1 nines (gives 10 3 2 2 12) marks_12_13
    -- prices that are agreed: floor and roof are the best
    ∷ case (tree_a 0 3 0 5) (tree_a 0 3 0 5) 5 0 nines (gives 12 5 2 0 12) marks_11_13
    -- a heading of 0 to 3 quarters: with the heading plate 13 does not go with any other
    ∷ case (tree_a 0 3 0 5) (tree_a 3 3 0 5) 5 0 nines (gives 5 2 1 3 12) marks_13
    -- plate 11 is locked, and so sure: at 4 quarters with plate 12, for 9, at 5 quarters by itself, for 7
    ∷ case (tree_a 0 3 lock 5) (tree_a 0 4 lock 5) 5 0 nines (gives 9 5 2 0 12) marks_11_12
    ∷ case (tree_a 0 3 lock 5) (tree_a 0 5 lock 5) 5 0 nines (gives 7 5 1 0 12) marks_11
    -- at count 4 by itself at 4 quarters, and with plate 12 at 3; unrooted one plate shows nothing
    ∷ case (tree_a 0 3 lock 5) (tree_a 0 4 lock 5) 4 0 nines (gives 7 4 1 0 9) marks_11
    ∷ case (tree_a 0 3 lock 5) (tree_a 0 4 lock 5) 4 1 nines (gives 0 4 1 0 6) marks_11
    -- refusals: the way before the checks, the check of low prices before that of high ones, whatever the numbers, and both before 17
    ∷ case (tree_a 0 65536 0 5) (tree_a 0 3 0 1000001) 5 2 nines (refuses 1 0) nines
    ∷ case (tree_a 0 65536 0 5) (tree_a 65536 3 0 1000001) 5 0 nines (refuses 5 3) nines
    ∷ case (tree_a 0 3 1 5) (tree_a 0 3 0 1000001) 5 0 nines (refuses 8 4) nines
    ∷ case (tree_a 0 3 0 5) (tree_a 0 2 0 1000001) 5 0 nines (refuses 5 5) nines
    ∷ case [] (tree_a 0 3 0 5) 5 0 nines (refuses 2 0) nines
    ∷ case (tree_a 0 3 0 5) (9 ∷ []) 5 0 nines (refuses 2 0) nines
    -- 17: one outline has more records; the lowest record; a low price above its high, at a taxon and at a heading
    ∷ case (tree_a 0 3 0 5) (alone 5) 5 0 nines (refuses 17 0) nines
    ∷ case (alone 5) (tree_a 0 3 0 5) 5 0 nines (refuses 17 0) nines
    ∷ case (tree_a 0 3 0 5) (tree_a 0 2 0 6) 5 0 nines (refuses 17 3) nines
    ∷ case (tree_a 1 3 0 5) (tree_a 0 2 0 6) 5 0 nines (refuses 17 2) nines
    -- another length, another lock, another plate, another link, and the first record
    ∷ case (tree_a 0 3 0 5) (tree_a 0 3 0 6) 5 0 nines (refuses 17 5) nines
    ∷ case (tree_a 0 3 0 5) (tree_a 0 3 lock 5) 5 0 nines (refuses 17 3) nines
    ∷ case (tree_a 0 3 0 5) (tree_a 0 3 3 5) 5 0 nines (refuses 17 3) nines
    ∷ case (tree_a 0 3 0 5) moved 5 0 nines (refuses 17 2) nines
    ∷ case (alone 5) (alone 6) 5 0 nines (refuses 17 1) nines
    -- a low price of 256 is above a high one of 255
    ∷ case (tree_a 0 255 0 5) (tree_a 0 256 0 5) 0 0 nines (gives 0 0 0 0 0) marks_none
    ∷ case (tree_a 0 256 0 5) (tree_a 0 255 0 5) 0 0 nines (refuses 17 3) nines
    -- 17 before 4, 4 before 9, 9 before 12, and 12 at high prices
    ∷ case (tree_a 0 3 0 5) (tree_a 0 3 0 6) 4097 0 few (refuses 17 5) few
    ∷ case (tree_a 0 3 lock 5) (tree_a 0 6 lock 5) 4097 0 few (refuses 4 0) few
    ∷ case (tree_a 0 3 lock 5) (tree_a 0 6 lock 5) 5 0 few (refuses 9 0) few
    ∷ case (tree_a 0 3 lock 5) (tree_a 0 6 lock 5) 5 0 nines (refuses 12 0) nines
    ∷ []

-- prices between: row 17 from low to them and from them to high, the floor, the best there, and the roof
pub record CaseBetween : Type 0 where
  pub given : Call
  pub mid : List ℕ
  pub from_low : Ruling
  pub to_high : Ruling
  pub floor_is : ℕ
  pub best : ℕ
  pub roof_is : ℕ

abbrev between : List ℕ → List ℕ → List ℕ → ℕ → ℕ → ℕ → ℕ → ℕ → CaseBetween
between low mid high count way floor best roof = record {
  given = call low high count way nines (replicate 12 9) (replicate 168 9);
  mid = mid;
  from_low = passed;
  to_high = passed;
  floor_is = floor;
  best = best;
  roof_is = roof;
}

abbrev pub computed_between : CaseBetween → CaseBetween
computed_between x =
    let c = x.given in
    record {
      given = c;
      mid = x.mid;
      from_low = price_rows c.low x.mid;
      to_high = price_rows x.mid c.high;
      floor_is = floor (reply c);
      best = best_diversity x.mid c.way c.count;
      roof_is = roof (reply c);
    }

pub cases_between : List CaseBetween
cases_between =
    -- a heading of 0 to 3 quarters: at 1 quarter plates 12 and 13 go together, for 10
    between (tree_a 0 3 0 5) (tree_a 1 3 0 5) (tree_a 3 3 0 5) 5 0 5 10 12
    -- at 2 quarters too, and at 3 the best is the floor, at 0 the roof
    ∷ between (tree_a 0 3 0 5) (tree_a 2 3 0 5) (tree_a 3 3 0 5) 5 0 5 10 12
    ∷ between (tree_a 0 3 0 5) (tree_a 3 3 0 5) (tree_a 3 3 0 5) 5 0 5 5 12
    ∷ between (tree_a 0 3 0 5) (tree_a 0 3 0 5) (tree_a 3 3 0 5) 5 0 5 12 12
    -- the heading high and plate 11 low
    ∷ between (tree_a 0 2 0 5) (tree_a 1 2 0 5) (tree_a 1 4 0 5) 5 0 10 12 14
    ∷ between (tree_a 0 2 0 5) (tree_a 1 2 0 5) (tree_a 1 4 0 5) 5 1 10 12 14
    ∷ []

-- each case of the lists is what the definitions give for it
pub cases_hold : (map computed cases ≡ cases) × (map computed_between cases_between ≡ cases_between)
unfolding
    from anywhere total lowest short long records locked bad_field naming named bad_link taxa_in taxa has_plate is_duplicate size_rows record_rows
    checked chain clade chosen within elsewhere rooted unrooted diversity cost holds_locked chosen_taxa subsets leads better fits turn
    exhaustive_search is_holding set_of optimum none_fits best_diversity columns_alike spare too_short figures_chosen bad_range price_rows judged
    figures reply marks_after over bytes record_bytes tree_a moved alone cases cases_between
cases_hold = (refl, refl)
