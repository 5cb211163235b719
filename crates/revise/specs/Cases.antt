-- Worked calls of revising a length: tree A at page count 5, where plates 11 and 13 are best, rooted and unrooted; and refusals. Then calls after one
-- of `choose`, for branches that its set spans and that it does not.
use Rattle.std.specs.Prelude.{ℕ, ◌+◌, ℤ, pos, negsuc, ◌≡◌, refl, Bool, true, false, replicate}
use mathlib.Core.List.{List, [], ◌∷◌, ◌++◌, map}
use Rattle.lists.specs.Lists.{from, anywhere, total, lowest, over}
use Rattle.refusals.specs.Refusals.{ruling}
use Rattle.refusals.specs.Reply.{Reply, granted, refused}
use Rattle.outline.specs.Outline.{short, long, records, bytes, record_bytes, locked}
use Rattle.outline.specs.Answer.{size_rows, record_rows}
use Rattle.outline.specs.Rules.{bad_field, naming, named, bad_link, taxa_in, taxa, has_plate, is_duplicate}
use Rattle.diversity.specs.Diversity.{chain, clade, chosen, within, elsewhere, rooted, unrooted, diversity, cost, holds_locked, chosen_taxa}
use Rattle.diversity.specs.Search.{subsets, leads, better, fits, turn, exhaustive_search, is_holding, set_of, optimum, none_fits, best_diversity, columns_alike, spare}
use Rattle.choice.specs.Answer as choose
use Rattle.choice.specs.Answer.{too_short, figures as figures_chosen}
use Rattle.revise.specs.Revised.{revised}
use Rattle.revise.specs.Spans.{spans}
use Rattle.revise.specs.Answer.{Call, call, Figures, Moved, old_choice, movements, remade, no_figures, bad_revision, judged, figures, reply, marks_after}
use Rattle.revise.specs.Demands.{old_spans}

-- tree A, with the price of its second group and what is added to the plate field of record 3
tree_a : ℕ → ℕ → List ℕ
tree_a group lock =
    record_bytes 0 2 0 0 0
    ++ record_bytes 5 3 3 group 0
    ++ record_bytes 4 0 4 3 (lock + 11)
    ++ record_bytes 0 0 2 1 12
    ++ record_bytes 0 0 5 2 13

-- what a call is told, and the marks after it
pub record Case : Type 0 where
  pub given : Call
  pub told : Reply Figures
  pub leaves : List ℕ

-- an outline, a record and its new length, a page count and a way, marks
abbrev case : List ℕ → ℕ → ℕ → ℕ → ℕ → List ℕ → Reply Figures → List ℕ → Case
case outline changed to count way marks reply leaves =
    record { given = call outline changed to count way marks (replicate 12 9) (replicate 168 9); told = reply; leaves = leaves }

abbrev pub computed : Case → Case
computed x = record { given = x.given; told = reply x.given; leaves = marks_after x.given }

-- diversity, cost, taxa and spare, and the two movements
abbrev gives : ℕ → ℕ → ℕ → ℕ → ℤ → ℤ → Reply Figures
gives diversity cost taxa spare best length =
    granted (remade (record { diversity = diversity; cost = cost; taxa = taxa; spare = spare }) (movements best length))

-- six marks as they came in, and four, too few
abbrev nines : List ℕ
nines = 9 ∷ 9 ∷ 9 ∷ 9 ∷ 9 ∷ 9 ∷ []

abbrev few : List ℕ
few = 9 ∷ 9 ∷ 9 ∷ 9 ∷ []

-- the marks of plates 11 and 13, and those of 12 and 13
abbrev eleven : List ℕ
eleven = 0 ∷ 0 ∷ 1 ∷ 0 ∷ 1 ∷ 9 ∷ []

abbrev twelve : List ℕ
twelve = 0 ∷ 0 ∷ 0 ∷ 1 ∷ 1 ∷ 9 ∷ []

pub cases : List Case
cases =
    -- plate 11 from 4 to 9: it was in the book, and the best rises by as much
    case (tree_a 0 0) 3 9 5 0 nines (gives 17 5 2 0 (pos 5) (pos 5)) eleven
    -- and to 0: plate 12 takes its place, and the best falls by 2, not by 4
    ∷ case (tree_a 0 0) 3 0 5 0 nines (gives 10 3 2 2 (negsuc 1) (negsuc 3)) twelve
    -- plate 12 from 2 to 0: it was not in the book, and nothing moves
    ∷ case (tree_a 0 0) 4 0 5 0 nines (gives 12 5 2 0 (pos 0) (negsuc 1)) eleven
    -- the same length again
    ∷ case (tree_a 0 0) 5 5 5 0 nines (gives 12 5 2 0 (pos 0) (pos 0)) eleven
    -- the root's own length counts rooted, and not unrooted
    ∷ case (tree_a 0 0) 1 7 5 0 nines (gives 19 5 2 0 (pos 7) (pos 7)) eleven
    ∷ case (tree_a 0 0) 1 7 5 1 nines (gives 12 5 2 0 (pos 0) (pos 7)) eleven
    -- refusals: a field before the revision, this before short marks and locked taxa
    ∷ case (tree_a 65536 0) 0 1000001 5 0 few (refused no_figures (ruling 5 2)) few
    ∷ case (tree_a 4 2147483648) 0 0 5 0 few (refused no_figures (ruling 16 0)) few
    ∷ case (tree_a 4 2147483648) 6 0 5 0 few (refused no_figures (ruling 16 0)) few
    ∷ case (tree_a 4 2147483648) 5 1000001 5 0 few (refused no_figures (ruling 16 0)) few
    ∷ case (tree_a 4 2147483648) 5 1000000 5 0 few (refused no_figures (ruling 9 0)) few
    ∷ case (tree_a 4 2147483648) 5 1000000 5 0 nines (refused no_figures (ruling 12 0)) nines
    ∷ []

-- a choice, and then a revision in the marks as it left them: whether it spans the branch, how far the best diversity and the length move, and
-- the marks that each leaves
pub record ChosenFirst : Type 0 where
  pub given : Call
  pub spanned : Bool
  pub moved : Moved
  pub before : List ℕ
  pub leaves : List ℕ

-- the revision of a record of tree A to a length, by a way; the choice marks plates 11 and 13
abbrev chosen_first : ℕ → ℕ → ℕ → Bool → ℤ → ℤ → List ℕ → ChosenFirst
chosen_first changed to way spanned best length leaves = record {
  given = call (tree_a 0 0) changed to 5 way nines (replicate 12 9) (replicate 168 9);
  spanned = spanned;
  moved = movements best length;
  before = eleven;
  leaves = leaves;
}

-- the call with these marks
abbrev lent : Call → List ℕ → Call
lent c marks = call c.outline c.changed c.to c.count c.way marks c.curve c.work

abbrev pub computed_first : ChosenFirst → ChosenFirst
computed_first x =
    let before = choose.marks_after (old_choice x.given) in
    let c = lent x.given before in
    record { given = x.given; spanned = old_spans c before; moved = (reply c).figures.moved; before = before; leaves = marks_after c }

pub first_cases : List ChosenFirst
first_cases =
    -- plate 11 is in the book, and its length rises from 4 to 9: the best rises by exactly as much, and the set stays
    chosen_first 3 9 0 true (pos 5) (pos 5) eleven
    -- plate 12 is not, and its length falls from 2 to 0: the best stays, and so does the set
    ∷ chosen_first 4 0 0 false (pos 0) (negsuc 1) eleven
    -- not promised: plate 11 is in the book, and its length falls to 0; plate 12 takes its place
    ∷ chosen_first 3 0 0 true (negsuc 1) (negsuc 3) twelve
    -- not promised: plate 12 is not in the book, and its length rises to 9; it takes the place of plate 11
    ∷ chosen_first 4 9 0 false (pos 5) (pos 7) twelve
    -- a length that stays as it is, spanned and not
    ∷ chosen_first 3 4 0 true (pos 0) (pos 0) eleven
    ∷ chosen_first 4 2 0 false (pos 0) (pos 0) eleven
    -- unrooted alike
    ∷ chosen_first 3 9 1 true (pos 5) (pos 5) eleven
    ∷ chosen_first 4 0 1 false (pos 0) (negsuc 1) eleven
    ∷ chosen_first 3 0 1 true (negsuc 1) (negsuc 3) twelve
    ∷ chosen_first 4 9 1 false (pos 5) (pos 7) twelve
    -- the root's own length counts rooted, and not unrooted, where nothing is elsewhere
    ∷ chosen_first 1 7 0 true (pos 7) (pos 7) eleven
    ∷ chosen_first 1 7 1 false (pos 0) (pos 7) eleven
    ∷ []

-- each case of the lists is what the definitions give for it
pub cases_hold : (map computed cases ≡ cases) × (map computed_first first_cases ≡ first_cases)
unfolding
    from anywhere total lowest short long records locked bad_field naming named bad_link taxa_in taxa has_plate is_duplicate size_rows record_rows
    chain clade chosen within elsewhere rooted unrooted diversity cost holds_locked chosen_taxa subsets leads better fits turn exhaustive_search
    is_holding set_of optimum none_fits best_diversity columns_alike spare too_short figures_chosen revised bad_revision judged figures reply marks_after
    choose.judged choose.marks_after spans over bytes record_bytes tree_a cases first_cases
cases_hold = (refl, refl)
