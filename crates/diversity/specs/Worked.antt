-- Our cases, beside the starred ones of document 01: headings that take space (document 02, §2) and locked taxa (§4), worked by hand.
use Rattle.std.specs.Prelude.{ℕ, ◌+◌, ◌≡◌, refl, List, [], ◌∷◌, ◌++◌, map}
use Rattle.lists.specs.Lists.{from, anywhere, total, lowest}
use Rattle.outline.specs.Outline.{short, long, records, locked, bytes, record_bytes}
use Rattle.outline.specs.Answer.{size_rows, record_rows, checked}
use Rattle.diversity.specs.Diversity.{chain, clade, chosen, within, elsewhere, rooted, unrooted, diversity, cost, holds_locked, chosen_taxa}
use Rattle.diversity.specs.Search.{subsets, leads, better, fits, turn, exhaustive_search, is_holding, set_of, optimum, best_diversity, least_cost}
use Rattle.diversity.specs.Search.{columns_alike, spare}
use Rattle.diversity.specs.Cases.{Case, computed, selects, rival, given}
use Rattle.outline.specs.Rules.{bad_field, naming, named, bad_link, taxa_in, taxa, has_plate, is_duplicate}

-- tree A with prices of the root's heading and of its group's, and what is added to the plate fields of 11 and of 13
abbrev tree_a : ℕ → ℕ → ℕ → ℕ → List ℕ
tree_a root group on11 on13 =
    record_bytes 0 2 0 root 0
    ++ record_bytes 5 3 3 group 0
    ++ record_bytes 4 0 4 3 (on11 + 11)
    ++ record_bytes 0 0 2 1 12
    ++ record_bytes 0 0 5 2 (on13 + 13)

-- a lock
abbrev lock : ℕ
lock = 2147483648

-- one taxon, of a price and with a plate field, under a heading; no lengths
below : ℕ → ℕ → ℕ → List ℕ
below heading price field = record_bytes 0 2 0 heading 0 ++ record_bytes 0 0 0 price field

pub worked : List Case
worked =
    -- a heading of 2 above 11 and 12: at count 2 plate 13 alone, and at 8 all three, which pay for it once
    given (tree_a 0 2 0 0) 0 2 (selects (0 ∷ 0 ∷ 0 ∷ 0 ∷ 1 ∷ []) 5 2 1 0) (rival (0 ∷ 0 ∷ 0 ∷ 1 ∷ 0 ∷ []) 5 3 ∷ [])
    ∷ given (tree_a 0 2 0 0) 0 8 (selects (0 ∷ 0 ∷ 1 ∷ 1 ∷ 1 ∷ []) 14 8 3 0) (rival (0 ∷ 0 ∷ 1 ∷ 1 ∷ 0 ∷ []) 9 6 ∷ [])
    -- unrooted the headings above the parting count too: 12 and 13 below a root's heading of 1
    ∷ given (tree_a 1 2 0 0) 1 6 (selects (0 ∷ 0 ∷ 0 ∷ 1 ∷ 1 ∷ []) 10 6 2 0) []
    ∷ given (tree_a 1 2 0 0) 1 5 (selects (0 ∷ 0 ∷ 0 ∷ 0 ∷ 0 ∷ []) 0 0 0 5) []
    -- a free taxon is chosen below a free heading, and not below one that costs
    ∷ given (below 0 0 1) 0 1 (selects (0 ∷ 1 ∷ []) 0 0 1 1) []
    ∷ given (below 1 0 1) 0 1 (selects (0 ∷ 0 ∷ []) 0 0 0 1) []
    -- 11 is locked: 12 and 13 don't fit without it, though they have more and cost less
    ∷ given (tree_a 0 0 lock 0) 0 4 (selects (0 ∷ 0 ∷ 1 ∷ 1 ∷ 0 ∷ []) 9 4 2 0) (rival (0 ∷ 0 ∷ 0 ∷ 1 ∷ 1 ∷ []) 10 3 ∷ [])
    -- unrooted, a locked taxon is chosen alone: diversity 0
    ∷ given (tree_a 0 0 0 lock) 1 2 (selects (0 ∷ 0 ∷ 0 ∷ 0 ∷ 1 ∷ []) 0 2 1 0) []
    -- a locked taxon without a length: the spare ends before column 0, where the diversity is 0 too and no set fits
    ∷ given (below 0 1 (lock + 1)) 0 3 (selects (0 ∷ 1 ∷ []) 0 1 1 2) []
    -- and below a heading: it is chosen, whatever the heading costs
    ∷ given (below 2 0 (lock + 1)) 0 3 (selects (0 ∷ 1 ∷ []) 0 2 1 1) []
    ∷ []

-- each case of the list is what the definitions give for it
pub worked_hold : map computed worked ≡ worked
unfolding
    from anywhere total lowest short long records bad_field naming named bad_link taxa_in taxa has_plate
    is_duplicate size_rows record_rows checked chain clade chosen within elsewhere rooted unrooted diversity cost
    locked holds_locked chosen_taxa subsets leads better fits turn exhaustive_search is_holding set_of optimum best_diversity least_cost
    columns_alike spare bytes record_bytes below worked
worked_hold = refl

-- with 11 locked no set fits count 2: the column shows 0 and 4,294,967,295
pub blank_hold : ◌≡◌ {A = List ℕ} (best_diversity (tree_a 0 0 lock 0) 0 2 ∷ least_cost (tree_a 0 0 lock 0) 0 2 ∷ []) (0 ∷ 4294967295 ∷ [])
unfolding
    from anywhere total short long records chain clade chosen within elsewhere rooted unrooted diversity cost locked holds_locked subsets
    leads better fits turn exhaustive_search is_holding set_of optimum best_diversity least_cost bytes record_bytes
blank_hold = refl
