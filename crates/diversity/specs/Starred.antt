-- The starred cases of document 01, A1 to E, in one list, and that the definitions give what each case says.
use Rattle.std.specs.Prelude.{ℕ, ◌≡◌, refl, List, [], ◌∷◌, ◌++◌, map}
use Rattle.lists.specs.Lists.{from, anywhere, total, lowest}
use Rattle.outline.specs.Outline.{short, long, records, locked, bytes, record_bytes}
use Rattle.outline.specs.Answer.{size_rows, record_rows, checked}
use Rattle.diversity.specs.Diversity.{chain, clade, chosen, within, elsewhere, rooted, unrooted, diversity, cost, holds_locked, chosen_taxa}
use Rattle.diversity.specs.Search.{subsets, leads, better, fits, turn, exhaustive_search, is_holding, set_of, optimum, best_diversity, least_cost}
use Rattle.diversity.specs.Search.{columns_alike, spare}
use Rattle.diversity.specs.Cases.{Case, computed, selects, rival, given}
use Rattle.outline.specs.Rules.{bad_field, naming, named, bad_link, taxa_in, taxa, has_plate, is_duplicate}

abbrev tree_a : List ℕ
tree_a = record_bytes 0 2 0 0 0 ++ record_bytes 5 3 3 0 0 ++ record_bytes 4 0 4 3 11 ++ record_bytes 0 0 2 1 12 ++ record_bytes 0 0 5 2 13

-- B: root (length 0), group of length 7, one taxon of length 0 and price 2
abbrev tree_b : List ℕ
tree_b = record_bytes 0 2 0 0 0 ++ record_bytes 0 3 7 0 0 ++ record_bytes 0 0 0 2 1

-- C: two taxa under a root of length 0, of one length and one price
abbrev tree_c : ℕ → ℕ → List ℕ
tree_c length price = record_bytes 0 2 0 0 0 ++ record_bytes 3 0 length price 1 ++ record_bytes 0 0 length price 2

-- D: three taxa under a root of length 0, lengths 6, 5, 5, prices 3, 2, 2
abbrev tree_d : List ℕ
tree_d = record_bytes 0 2 0 0 0 ++ record_bytes 3 0 6 3 1 ++ record_bytes 4 0 5 2 2 ++ record_bytes 0 0 5 2 3

-- E: one taxon, length 5, price 1
abbrev tree_e : List ℕ
tree_e = record_bytes 0 0 5 1 1

abbrev pub starred : List Case
starred =
    -- A1: plate 12 alone, not 13 at equal diversity; spare 1
    given tree_a 0 2 (selects (0 ∷ 0 ∷ 0 ∷ 1 ∷ 0 ∷ []) 5 1 1 1) (rival (0 ∷ 0 ∷ 0 ∷ 0 ∷ 1 ∷ []) 5 2 ∷ [])
    -- A2: the empty set, diversity 0, cost 0
    ∷ given tree_a 1 2 (selects (0 ∷ 0 ∷ 0 ∷ 0 ∷ 0 ∷ []) 0 0 0 2) []
    -- A3: plates 12 and 13, diversity 10
    ∷ given tree_a 1 3 (selects (0 ∷ 0 ∷ 0 ∷ 1 ∷ 1 ∷ []) 10 3 2 0) []
    -- A4, either way: all three, diversity 14
    ∷ given tree_a 0 6 (selects (0 ∷ 0 ∷ 1 ∷ 1 ∷ 1 ∷ []) 14 6 3 0) []
    ∷ given tree_a 1 6 (selects (0 ∷ 0 ∷ 1 ∷ 1 ∷ 1 ∷ []) 14 6 3 0) []
    -- B1: 7; B2: the empty set
    ∷ given tree_b 0 2 (selects (0 ∷ 0 ∷ 1 ∷ []) 7 2 1 0) []
    ∷ given tree_b 0 1 (selects (0 ∷ 0 ∷ 0 ∷ []) 0 0 0 1) []
    -- C1: the lower record, at equal diversity and cost
    ∷ given (tree_c 4 1) 0 1 (selects (0 ∷ 1 ∷ 0 ∷ []) 4 1 1 0) (rival (0 ∷ 0 ∷ 1 ∷ []) 4 1 ∷ [])
    -- C2: both, diversity 0
    ∷ given (tree_c 0 0) 0 0 (selects (0 ∷ 1 ∷ 1 ∷ []) 0 0 2 0) []
    -- D: the second and third, diversity 10; longest first stops at 6, since the first taxon with another costs 5
    ∷ given tree_d 0 4 (selects (0 ∷ 0 ∷ 1 ∷ 1 ∷ []) 10 4 2 0)
    (rival (0 ∷ 1 ∷ 0 ∷ 0 ∷ []) 6 3 ∷ rival (0 ∷ 1 ∷ 1 ∷ 0 ∷ []) 11 5 ∷ rival (0 ∷ 1 ∷ 0 ∷ 1 ∷ []) 11 5 ∷ [])
    -- E: way 0 gives 5 and marks it; way 1 gives 0 and marks none
    ∷ given tree_e 0 1 (selects (1 ∷ []) 5 1 1 0) []
    ∷ given tree_e 1 1 (selects (0 ∷ []) 0 0 0 1) []
    ∷ []

-- each case of the list is what the definitions give for it
pub starred_hold : map computed starred ≡ starred
unfolding
    from anywhere total lowest short long records bad_field naming named bad_link taxa_in taxa has_plate
    is_duplicate size_rows record_rows checked chain clade chosen within elsewhere rooted unrooted diversity cost
    locked holds_locked chosen_taxa subsets leads better fits turn exhaustive_search is_holding set_of optimum best_diversity least_cost
    columns_alike spare bytes record_bytes
starred_hold = refl
