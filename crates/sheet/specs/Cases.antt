-- Worked cases of the sheet: document 02's, the same unrooted, one with headings and a lock, an empty set, and refusals.
use Rattle.std.specs.Prelude.{ℕ, ◌≡◌, refl, List, [], ◌∷◌, ◌++◌, map}
use Rattle.lists.specs.Lists.{from, anywhere, total, lowest, over}
use Rattle.refusals.specs.Refusals.{ruling}
use Rattle.refusals.specs.Reply.{Reply, granted, refused}
use Rattle.outline.specs.Outline.{short, long, records, bytes, record_bytes}
use Rattle.outline.specs.Answer.{size_rows, record_rows, checked}
use Rattle.diversity.specs.Diversity.{chain, clade, chosen, within, elsewhere, rooted, unrooted, diversity, cost, chosen_taxa}
use Rattle.text.specs.Text.{texts}
use Rattle.sheet.specs.Answer.{Call, call, Figures, sums, no_figures, bad_mark, judged, figures, reply, sheet_after}
use Rattle.sheet.specs.Sheet.{row_of, rows_of, sum_of}
use Rattle.outline.specs.Rules.{bad_field, naming, named, bad_link, taxa_in, taxa, has_plate, is_duplicate}

-- tree A, with the prices of its two groups and the plate field of record 3
tree_a : ℕ → ℕ → ℕ → List ℕ
tree_a root group plate =
    record_bytes 0 2 0 root 0
    ++ record_bytes 5 3 3 group 0
    ++ record_bytes 4 0 4 3 plate
    ++ record_bytes 0 0 2 1 12
    ++ record_bytes 0 0 5 2 13

-- what a call is told, and the sheet after it
pub record Case : Type 0 where
  pub given : Call
  pub told : Reply Figures
  pub leaves : List ℕ

abbrev case : List ℕ → ℕ → List ℕ → List ℕ → Reply Figures → List ℕ → Case
case outline way marks sheet reply leaves = record { given = call outline way marks sheet; told = reply; leaves = leaves }

abbrev pub computed : Case → Case
computed x = record { given = x.given; told = reply x.given; leaves = sheet_after x.given }

pub cases : List Case
cases =
    -- plates 11 and 13: `11 3 7`, `13 2 5`, `total 5 12`; a seventh number is unchanged
    case (tree_a 0 0 11) 0 (0 ∷ 0 ∷ 1 ∷ 0 ∷ 1 ∷ []) (9 ∷ 9 ∷ 9 ∷ 9 ∷ 9 ∷ 9 ∷ 9 ∷ []) (granted (sums 2 5 12)) (11 ∷ 3 ∷ 7 ∷ 13 ∷ 2 ∷ 5 ∷ 9 ∷ [])
    -- unrooted, the first taxon alone has no diversity; a sixth mark is not looked at
    ∷ case (tree_a 0 0 11) 1 (0 ∷ 0 ∷ 1 ∷ 0 ∷ 1 ∷ 7 ∷ []) (9 ∷ 9 ∷ 9 ∷ 9 ∷ 9 ∷ 9 ∷ []) (granted (sums 2 5 12)) (11 ∷ 3 ∷ 0 ∷ 13 ∷ 2 ∷ 12 ∷ [])
    -- the headings of the root, 1, and of the group, 4, are opened by the first taxon; its lock is no part of its plate
    ∷ case (tree_a 1 4 2147483659) 0 (0 ∷ 0 ∷ 1 ∷ 1 ∷ 1 ∷ []) (9 ∷ 9 ∷ 9 ∷ 9 ∷ 9 ∷ 9 ∷ 9 ∷ 9 ∷ 9 ∷ []) (granted (sums 3 11 14))
    (11 ∷ 8 ∷ 7 ∷ 12 ∷ 1 ∷ 2 ∷ 13 ∷ 2 ∷ 5 ∷ [])
    -- nothing is marked
    ∷ case (tree_a 0 0 11) 0 (0 ∷ 0 ∷ 0 ∷ 0 ∷ 0 ∷ []) [] (granted (sums 0 0 0)) []
    -- refusals: the way, a mark at a group before one of 2, too few marks, a sheet that is too short
    ∷ case (tree_a 0 0 11) 2 (0 ∷ 1 ∷ []) [] (refused no_figures (ruling 1 0)) []
    ∷ case (tree_a 0 0 11) 0 (0 ∷ 1 ∷ 2 ∷ 0 ∷ 0 ∷ []) (9 ∷ []) (refused no_figures (ruling 14 2)) (9 ∷ [])
    ∷ case (tree_a 0 0 11) 0 (0 ∷ 0 ∷ 2 ∷ 0 ∷ []) (9 ∷ []) (refused no_figures (ruling 14 0)) (9 ∷ [])
    ∷ case (tree_a 0 0 11) 0 (0 ∷ 0 ∷ 0 ∷ 0 ∷ 1 ∷ []) (9 ∷ 9 ∷ []) (refused no_figures (ruling 9 0)) (9 ∷ 9 ∷ [])
    ∷ []

-- each case of the list is what the definitions give for it
pub cases_hold : map computed cases ≡ cases
unfolding
    from anywhere total lowest short long records bad_field naming named bad_link taxa_in taxa has_plate is_duplicate size_rows record_rows
    checked chain clade chosen within elsewhere rooted unrooted diversity cost chosen_taxa texts row_of rows_of sum_of bad_mark judged figures
    reply sheet_after over bytes record_bytes tree_a cases
cases_hold = refl
