-- What the definitions give for tree A of document 01, count 5, way 0, which prints in whole what documents 01 and 02 say; for the
-- same tree with a link that leads out of it, and with plate 11 locked; and for an input that is too short.
use Rattle.std.specs.Prelude.{ℕ, ◌≡◌, refl, List, [], ◌∷◌, ◌++◌}
use Rattle.lists.specs.Lists.{from, anywhere, total, lowest}
use Rattle.outline.specs.Outline.{short, long, records, locked}
use Rattle.outline.specs.Answer.{size_rows, record_rows}
use Rattle.diversity.specs.Diversity.{chain, clade, chosen, within, elsewhere, rooted, unrooted, diversity, cost, holds_locked, chosen_taxa}
use Rattle.diversity.specs.Search.{subsets, leads, better, fits, turn, exhaustive_search, is_holding, set_of, optimum, none_fits}
use Rattle.diversity.specs.Search.{best_diversity, least_cost}
use Rattle.choice.specs.Answer.{too_short, judged, figures}
use Rattle.text.specs.Text.{digits_in, decimal, others, line, labelled, texts}
use Rattle.sheet.specs.Sheet.{row_of, sum_of}
use Rattle.listing.specs.Printed.{call_with, call_of, refusal_text, first_line, column_line, taxon_line, total_line, sheet_text}
use Rattle.listing.specs.Printed.{selection_text, answer_text, printed}
use Rattle.outline.specs.Rules.{bad_field, naming, named, bad_link, taxa_in, taxa, has_plate, is_duplicate}

-- page count, way, and the records: next, first, length, price, plate. In tree A the last byte of record 3's plate field is 0, and 128
-- where plate 11 is locked; the next of record 5 is 0
pub tree_a : ℕ → ℕ → ℕ → List ℕ
tree_a count lock3 next5 =
    (count ∷ 0 ∷ 0 ∷ 0 ∷ [])
    ++ (0 ∷ 0 ∷ 2 ∷ 0 ∷ 0 ∷ 0 ∷ 0 ∷ 0 ∷ 0 ∷ 0 ∷ 0 ∷ 0 ∷ 0 ∷ 0 ∷ 0 ∷ 0 ∷ [])
    ++ (5 ∷ 0 ∷ 3 ∷ 0 ∷ 3 ∷ 0 ∷ 0 ∷ 0 ∷ 0 ∷ 0 ∷ 0 ∷ 0 ∷ 0 ∷ 0 ∷ 0 ∷ 0 ∷ [])
    ++ (4 ∷ 0 ∷ 0 ∷ 0 ∷ 4 ∷ 0 ∷ 0 ∷ 0 ∷ 3 ∷ 0 ∷ 0 ∷ 0 ∷ 11 ∷ 0 ∷ 0 ∷ lock3 ∷ [])
    ++ (0 ∷ 0 ∷ 0 ∷ 0 ∷ 2 ∷ 0 ∷ 0 ∷ 0 ∷ 1 ∷ 0 ∷ 0 ∷ 0 ∷ 12 ∷ 0 ∷ 0 ∷ 0 ∷ [])
    ++ (next5 ∷ 0 ∷ 0 ∷ 0 ∷ 5 ∷ 0 ∷ 0 ∷ 0 ∷ 2 ∷ 0 ∷ 0 ∷ 0 ∷ 13 ∷ 0 ∷ 0 ∷ 0 ∷ [])

pub tree_atext : List ℕ
tree_atext =
    (53 ∷ 32 ∷ 48 ∷ 32 ∷ 49 ∷ 50 ∷ 32 ∷ 53 ∷ 32 ∷ 50 ∷ 10 ∷ [])  -- 5 0 12 5 2
    ++ (48 ∷ 32 ∷ 48 ∷ 32 ∷ 48 ∷ 10 ∷ [])  -- 0 0 0
    ++ (49 ∷ 32 ∷ 53 ∷ 32 ∷ 49 ∷ 10 ∷ [])  -- 1 5 1
    ++ (50 ∷ 32 ∷ 53 ∷ 32 ∷ 49 ∷ 10 ∷ [])  -- 2 5 1
    ++ (51 ∷ 32 ∷ 49 ∷ 48 ∷ 32 ∷ 51 ∷ 10 ∷ [])  -- 3 10 3
    ++ (52 ∷ 32 ∷ 49 ∷ 48 ∷ 32 ∷ 51 ∷ 10 ∷ [])  -- 4 10 3
    ++ (53 ∷ 32 ∷ 49 ∷ 50 ∷ 32 ∷ 53 ∷ 10 ∷ [])  -- 5 12 5
    ++ (49 ∷ 49 ∷ 32 ∷ 51 ∷ 32 ∷ 55 ∷ 10 ∷ [])  -- 11 3 7
    ++ (49 ∷ 51 ∷ 32 ∷ 50 ∷ 32 ∷ 53 ∷ 10 ∷ [])  -- 13 2 5
    ++ (116 ∷ 111 ∷ 116 ∷ 97 ∷ 108 ∷ 32 ∷ 53 ∷ 32 ∷ 49 ∷ 50 ∷ 10 ∷ [])  -- total 5 12

pub tree_a_printed : printed (tree_a 5 0 0) ≡ tree_atext
unfolding
    from anywhere total lowest short long records bad_field naming named bad_link taxa_in taxa has_plate is_duplicate size_rows
    record_rows chain clade chosen within elsewhere rooted unrooted diversity cost locked holds_locked chosen_taxa subsets leads
    better fits turn exhaustive_search is_holding set_of optimum none_fits best_diversity least_cost too_short judged figures digits_in
    decimal others line labelled texts row_of sum_of call_with call_of refusal_text first_line column_line taxon_line total_line sheet_text
    selection_text answer_text printed tree_a tree_atext
tree_a_printed = refl

-- plate 11 is locked, and its price of 3 doesn't fit count 2: refused 12 0
pub dear_lock_printed : printed (tree_a 2 128 0) ≡ 114 ∷ 101 ∷ 102 ∷ 117 ∷ 115 ∷ 101 ∷ 100 ∷ 32 ∷ 49 ∷ 50 ∷ 32 ∷ 48 ∷ 10 ∷ []
unfolding
    from anywhere total lowest short long records bad_field naming named bad_link taxa_in taxa has_plate is_duplicate size_rows
    record_rows chain clade chosen within elsewhere rooted unrooted diversity cost locked holds_locked subsets leads better fits
    turn exhaustive_search is_holding none_fits too_short judged digits_in decimal others labelled call_with call_of refusal_text answer_text
    printed tree_a
dear_lock_printed = refl

-- record 5 of 5 names record 6: refused 6 5
pub stray_link_printed : printed (tree_a 5 0 6) ≡ 114 ∷ 101 ∷ 102 ∷ 117 ∷ 115 ∷ 101 ∷ 100 ∷ 32 ∷ 54 ∷ 32 ∷ 53 ∷ 10 ∷ []
unfolding
    from anywhere total lowest short long records bad_field naming named bad_link taxa_in taxa has_plate is_duplicate size_rows
    record_rows too_short judged digits_in decimal others labelled call_with call_of refusal_text answer_text printed tree_a
stray_link_printed = refl

-- three bytes: refused 2 0
pub three_bytes_printed : printed (5 ∷ 0 ∷ 0 ∷ []) ≡ 114 ∷ 101 ∷ 102 ∷ 117 ∷ 115 ∷ 101 ∷ 100 ∷ 32 ∷ 50 ∷ 32 ∷ 48 ∷ 10 ∷ []
unfolding digits_in decimal others labelled refusal_text printed
three_bytes_printed = refl
