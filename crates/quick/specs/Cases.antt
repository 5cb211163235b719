-- Worked calls of the quick choice: document 02's tree A with no, one, two and 64 picks, one with a heading and a lock, ties, and refusals.
use Rattle.std.specs.Prelude.{ℕ, ◌≡◌, refl}
use mathlib.Core.List.{List, [], ◌∷◌, ◌++◌, map}
use Rattle.lists.specs.Lists.{from, anywhere, total, lowest, over}
use Rattle.refusals.specs.Refusals.{ruling}
use Rattle.refusals.specs.Reply.{Reply, granted, refused}
use Rattle.outline.specs.Outline.{short, long, records, bytes, record_bytes, locked}
use Rattle.outline.specs.Answer.{size_rows, record_rows}
use Rattle.outline.specs.Rules.{bad_field, naming, named, bad_link, taxa_in, taxa, has_plate, is_duplicate}
use Rattle.diversity.specs.Diversity.{chain, clade, chosen, within, rooted, diversity, cost, holds_locked, chosen_taxa}
use Rattle.diversity.specs.Search.{subsets, leads, better, fits, turn, exhaustive_search, is_holding, none_fits}
use Rattle.laws.specs.Locks.{locked_set}
use Rattle.quick.specs.Quick.{with_taxon, added, added_cost, can_pick, rather, in_hand, picked, after_picks, quick, ceiling}
use Rattle.quick.specs.Answer.{Call, call, Figures, reported, no_figures, judged, figures_of, reply, marks_after}

-- tree A, with the price of its second group, the length of that group's branch, and the plate field of record 4
tree_a : ℕ → ℕ → ℕ → List ℕ
tree_a group length plate =
    record_bytes 0 2 0 0 0
    ++ record_bytes 5 3 length group 0
    ++ record_bytes 4 0 4 3 11
    ++ record_bytes 0 0 2 1 plate
    ++ record_bytes 0 0 5 2 13

-- what a call is told, and the marks after it
pub record Case : Type 0 where
  pub given : Call
  pub told : Reply Figures
  pub leaves : List ℕ

abbrev case : List ℕ → ℕ → ℕ → List ℕ → Reply Figures → List ℕ → Case
case outline count picks marks reply leaves = record { given = call outline count picks marks; told = reply; leaves = leaves }

abbrev pub computed : Case → Case
computed x = record { given = x.given; told = reply x.given; leaves = marks_after x.given }

-- six marks as they came in
abbrev nines : List ℕ
nines = 9 ∷ 9 ∷ 9 ∷ 9 ∷ 9 ∷ 9 ∷ []

pub cases : List Case
cases =
    -- nothing picked: the ceiling is what each taxon would add, 7 + 5 + 5; a sixth mark is unchanged
    case (tree_a 0 3 12) 5 0 nines (granted (reported 0 0 0 17)) (0 ∷ 0 ∷ 0 ∷ 0 ∷ 0 ∷ 9 ∷ [])
    -- plate 11 adds most; then plate 13; then nothing more fits, and plate 12 would add 2
    ∷ case (tree_a 0 3 12) 5 1 nines (granted (reported 7 3 1 14)) (0 ∷ 0 ∷ 1 ∷ 0 ∷ 0 ∷ 9 ∷ [])
    ∷ case (tree_a 0 3 12) 5 2 nines (granted (reported 12 5 2 14)) (0 ∷ 0 ∷ 1 ∷ 0 ∷ 1 ∷ 9 ∷ [])
    ∷ case (tree_a 0 3 12) 5 64 nines (granted (reported 12 5 2 14)) (0 ∷ 0 ∷ 1 ∷ 0 ∷ 1 ∷ 9 ∷ [])
    -- plates 12 and 13 add 5 each, and 12 costs less
    ∷ case (tree_a 0 3 12) 2 1 nines (granted (reported 5 1 1 10)) (0 ∷ 0 ∷ 0 ∷ 1 ∷ 0 ∷ 9 ∷ [])
    -- plate 12 is locked, its heading is 4; plate 13 then adds 5 for 2 quarters, and plate 11 no longer fits
    ∷ case (tree_a 4 3 2147483660) 7 64 nines (granted (reported 10 7 2 14)) (0 ∷ 0 ∷ 0 ∷ 1 ∷ 1 ∷ 9 ∷ [])
    -- refusals: the page count before the picks, these before a field; then the marks, then the locked taxa
    ∷ case (tree_a 0 1000001 12) 4097 65 nines (refused no_figures (ruling 4 0)) nines
    ∷ case (tree_a 0 1000001 12) 4096 65 nines (refused no_figures (ruling 15 0)) nines
    ∷ case (tree_a 0 1000001 12) 4096 64 nines (refused no_figures (ruling 5 2)) nines
    ∷ case (tree_a 4 3 2147483660) 4 64 (9 ∷ 9 ∷ 9 ∷ 9 ∷ []) (refused no_figures (ruling 9 0)) (9 ∷ 9 ∷ 9 ∷ 9 ∷ [])
    ∷ case (tree_a 4 3 2147483660) 4 64 nines (refused no_figures (ruling 12 0)) nines
    ∷ []

-- each case of the list is what the definitions give for it
pub cases_hold : map computed cases ≡ cases
unfolding
    from anywhere total lowest short long records locked bad_field naming named bad_link taxa_in taxa has_plate is_duplicate size_rows record_rows
    chain clade chosen within rooted diversity cost holds_locked chosen_taxa subsets leads better fits turn exhaustive_search is_holding none_fits
    locked_set with_taxon added added_cost can_pick rather in_hand picked after_picks quick ceiling judged figures_of reply marks_after over bytes
    record_bytes tree_a cases
cases_hold = refl
