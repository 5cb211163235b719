-- The exhaustive search, document 01's patient editor: it goes through every subset of the taxa and keeps the best that
-- fits a page count.
use Rattle.std.specs.Prelude.{if◌then◌else◌, ℕ, zero, suc, Bool, true, false, ◌||◌, ◌&&◌, not, eqb, ltb, leb}
use mathlib.Core.List.{List, [], ◌∷◌, ◌++◌, map, foldl}
use Rattle.outline.specs.Outline.{records, is_taxon}
use Rattle.diversity.specs.Diversity.{diversity, cost, holds_locked}

-- every set of taxa among the given records: 0 at a group, 0 or 1 at a taxon
unfoldable pub subsets : List ℕ → List ℕ → List (List ℕ)
subsets o [] = [] ∷ []
subsets o (r ∷ rs) =
    let rest = subsets o rs in
    let marked = map (λ (s : List ℕ). 1 ∷ s) rest in
    map (λ (s : List ℕ). 0 ∷ s) rest ++ (if is_taxon o r then marked else [])

-- at the lowest-numbered record on which they differ, the first set has the mark
unfoldable pub leads : List ℕ → List ℕ → Bool
leads [] t = false
leads (a ∷ s) [] = false
leads (a ∷ s) (b ∷ t) = if eqb a b then leads s t else ltb b a

-- s is better than t: more diversity first, then fewer quarters, then the lowest-numbered taxon on which they differ
unfoldable pub better : List ℕ → ℕ → List ℕ → List ℕ → Bool
better o way s t =
    let ds = diversity o way s in
    let dt = diversity o way t in
    let cs = cost o s in
    let ct = cost o t in
    ltb dt ds || (eqb ds dt && (ltb cs ct || (eqb cs ct && leads s t)))

-- the best set met so far, document 01's hand
pub data Incumbent : Type 0 where
  nothing : Incumbent
  holding : List ℕ → Incumbent

-- a set fits page count b if its cost is at most b and it holds every locked taxon
unfoldable pub fits : List ℕ → ℕ → List ℕ → Bool
fits o b s = leb (cost o s) b && holds_locked o s

-- a set that doesn't fit is passed over; one that fits is taken in hand if nothing is there, or if it is better
-- than the one there
unfoldable pub turn : List ℕ → ℕ → ℕ → Incumbent → List ℕ → Incumbent
turn o way b nothing s = if fits o b s then holding s else nothing
turn o way b (holding t) s = if fits o b s && better o way s t then holding s else holding t

-- the search starts with nothing in hand and goes through every subset of the taxa
unfoldable pub exhaustive_search : List ℕ → ℕ → ℕ → Incumbent
exhaustive_search o way b = foldl (turn o way b) nothing (subsets o (records o))

-- a set is in hand
unfoldable pub is_holding : Incumbent → Bool
is_holding nothing = false
is_holding (holding s) = true

-- the set in hand; with nothing there, no marks
unfoldable pub set_of : Incumbent → List ℕ
set_of nothing = []
set_of (holding s) = s

-- the set in hand after the last subset
unfoldable pub optimum : List ℕ → ℕ → ℕ → List ℕ
optimum o way b = set_of (exhaustive_search o way b)

-- no set fits: the search ends with nothing in hand
unfoldable pub none_fits : List ℕ → ℕ → ℕ → Bool
none_fits o way b = not (is_holding (exhaustive_search o way b))

-- the cost that a column shows where no set fits
abbrev pub blank_cost : ℕ
blank_cost = 4294967295

-- column b of the curve: the diversity of the set in hand, then its cost; with nothing in hand 0 and 4,294,967,295
unfoldable pub best_diversity : List ℕ → ℕ → ℕ → ℕ
best_diversity o way b = if is_holding (exhaustive_search o way b) then diversity o way (optimum o way b) else 0

unfoldable pub least_cost : List ℕ → ℕ → ℕ → ℕ
least_cost o way b = if is_holding (exhaustive_search o way b) then cost o (optimum o way b) else blank_cost

-- how many columns next to column b on its left a test passes, read leftwards until it fails, and at most to column 0
unfoldable pub columns_alike : (ℕ → Bool) → ℕ → ℕ
columns_alike alike zero = 0
columns_alike alike (suc b) = if alike b then suc (columns_alike alike b) else 0

-- the quarters that can go with the diversity unchanged; reading ends before a column with nothing in hand
unfoldable pub spare : List ℕ → ℕ → ℕ → ℕ
spare o way b = columns_alike (λ c. is_holding (exhaustive_search o way c) && eqb (best_diversity o way c) (best_diversity o way b)) b
