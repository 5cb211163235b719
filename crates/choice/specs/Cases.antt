-- Worked calls: the starred cases of document 01 as calls; and tree A of document 01 with plate 11 locked (document 02, §4), a call that is
-- refused, and the curve of one that is not.
use Rattle.std.specs.Prelude.{ℕ, ◌≡◌, refl, List, [], ◌∷◌, ◌++◌, map, replicate}
use Rattle.lists.specs.Lists.{from, anywhere, total, lowest, over}
use Rattle.refusals.specs.Refusals.{ruling}
use Rattle.refusals.specs.Reply.{Reply, granted, refused}
use Rattle.outline.specs.Outline.{short, long, records, locked, bytes, record_bytes}
use Rattle.outline.specs.Answer.{size_rows, record_rows}
use Rattle.diversity.specs.Diversity.{chain, clade, chosen, within, elsewhere, rooted, unrooted, diversity, cost, holds_locked, chosen_taxa}
use Rattle.diversity.specs.Search.{subsets, leads, better, fits, turn, exhaustive_search, is_holding, set_of, optimum, none_fits, blank_cost}
use Rattle.diversity.specs.Search.{best_diversity, least_cost, columns_alike, spare}
use Rattle.diversity.specs.Cases.{Case}
use Rattle.diversity.specs.Starred.{starred}
use Rattle.choice.specs.Answer.{Call, call, marks_taken, curve_taken, work_taken, Figures, no_figures, too_short, judged, figures, reply}
use Rattle.choice.specs.Answer.{columns, curve_of, marks_after, curve_after}
use Rattle.outline.specs.Rules.{bad_field, naming, named, bad_link, taxa_in, taxa, has_plate, is_duplicate}

-- ---- the starred cases
-- a case as a call, with buffers of 9s that just suffice
abbrev pub call_of : Case → Call
call_of x =
    call x.outline x.count x.way (replicate (marks_taken x.outline) 9) (replicate (curve_taken x.count) 9) (replicate (work_taken x.outline x.count) 9)

-- what a call is told, and the marks and the curve as it leaves them
pub record Told : Type 0 where
  pub reply : Reply Figures
  pub marks : List ℕ
  pub curve : List ℕ

abbrev pub told_of : Case → Told
told_of x = let c = call_of x in record { reply = reply c; marks = marks_after c; curve = curve_after c }

-- and what the case says of it, with the curve worked by hand, each column's diversity and cost
abbrev pub said_of : Case → List ℕ → Told
said_of x curve =
    let g = x.gives in
    record {
      reply = granted (record { diversity = g.diversity; cost = g.cost; taxa = g.taxa; spare = g.spare });
      marks = g.marks;
      curve = curve;
    }

abbrev pub said_of_each : List Case → List (List ℕ) → List Told
said_of_each (x ∷ xs) (curve ∷ curves) = said_of x curve ∷ said_of_each xs curves
said_of_each (x ∷ xs) [] = []
said_of_each [] curves = []

abbrev pub curves : List (List ℕ)
curves =
    -- A1, A2, A3
    (0 ∷ 0 ∷ 5 ∷ 1 ∷ 5 ∷ 1 ∷ [])
    ∷ (0 ∷ 0 ∷ 0 ∷ 0 ∷ 0 ∷ 0 ∷ [])
    ∷ (0 ∷ 0 ∷ 0 ∷ 0 ∷ 0 ∷ 0 ∷ 10 ∷ 3 ∷ [])
    -- A4, either way
    ∷ (0 ∷ 0 ∷ 5 ∷ 1 ∷ 5 ∷ 1 ∷ 10 ∷ 3 ∷ 10 ∷ 3 ∷ 12 ∷ 5 ∷ 14 ∷ 6 ∷ [])
    ∷ (0 ∷ 0 ∷ 0 ∷ 0 ∷ 0 ∷ 0 ∷ 10 ∷ 3 ∷ 10 ∷ 3 ∷ 12 ∷ 5 ∷ 14 ∷ 6 ∷ [])
    -- B1, B2
    ∷ (0 ∷ 0 ∷ 0 ∷ 0 ∷ 7 ∷ 2 ∷ [])
    ∷ (0 ∷ 0 ∷ 0 ∷ 0 ∷ [])
    -- C1, C2
    ∷ (0 ∷ 0 ∷ 4 ∷ 1 ∷ [])
    ∷ (0 ∷ 0 ∷ [])
    -- D
    ∷ (0 ∷ 0 ∷ 0 ∷ 0 ∷ 5 ∷ 2 ∷ 6 ∷ 3 ∷ 10 ∷ 4 ∷ [])
    -- E, either way
    ∷ (0 ∷ 0 ∷ 5 ∷ 1 ∷ [])
    ∷ (0 ∷ 0 ∷ 0 ∷ 0 ∷ [])
    ∷ []

-- each case of the list is what a call gives for it
pub starred_told : map told_of starred ≡ said_of_each starred curves
unfolding
    from anywhere total lowest over short long records bad_field naming named bad_link taxa_in taxa has_plate is_duplicate size_rows record_rows
    chain clade chosen within elsewhere rooted unrooted diversity cost locked holds_locked chosen_taxa subsets leads better fits turn
    exhaustive_search is_holding set_of optimum none_fits best_diversity least_cost columns_alike spare bytes record_bytes too_short judged figures
    reply columns curve_of marks_after curve_after
starred_told = refl

-- ---- tree A with a lock
-- 2,147,483,659 is the lock and plate 11
abbrev tree_a : List ℕ
tree_a =
    record_bytes 0 2 0 0 0
    ++ record_bytes 5 3 3 0 0
    ++ record_bytes 4 0 4 3 2147483659
    ++ record_bytes 0 0 2 1 12
    ++ record_bytes 0 0 5 2 13

-- rooted, with buffers that suffice for count 4 at most
abbrev rooted_call : ℕ → Call
rooted_call count = call tree_a count 0 (replicate 5 9) (replicate 10 9) (replicate 140 9)

-- count 2: plate 11 costs 3, so that no set fits
pub dear_lock_refused : reply (rooted_call 2) ≡ refused no_figures (ruling 12 0)
unfolding
    from anywhere total lowest short long records bad_field naming named bad_link taxa_in taxa has_plate is_duplicate size_rows record_rows
    chain clade chosen within elsewhere rooted unrooted diversity cost locked holds_locked subsets leads better fits turn
    exhaustive_search is_holding none_fits bytes record_bytes too_short judged reply
dear_lock_refused = refl

-- count 4: no set fits columns 0 to 2; plate 11 alone fits column 3, and 11 with 12 column 4
pub lock_curve : curve_of (rooted_call 4) ≡ 0 ∷ blank_cost ∷ 0 ∷ blank_cost ∷ 0 ∷ blank_cost ∷ 7 ∷ 3 ∷ 9 ∷ 4 ∷ []
unfolding
    from anywhere total lowest short long records chain clade chosen within elsewhere rooted unrooted diversity cost locked holds_locked
    subsets leads better fits turn exhaustive_search is_holding set_of optimum best_diversity least_cost bytes record_bytes columns curve_of
lock_curve = refl
