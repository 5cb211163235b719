-- Prices beside a text: pairs of numbers, plate then price.
use Rattle.std.specs.Prelude.{if◌then◌else◌, ℕ, ◌+◌, ◌%◌, Bool, ◌||◌, not, List, [], ◌∷◌, length, eqb}
use Rattle.lists.specs.Lists.{one, anywhere}

-- the price of the first pair of a plate, 0 if there is none
unfoldable pub price_in : List ℕ → ℕ → ℕ
price_in [] p = 0
price_in (q ∷ []) p = 0
price_in (q ∷ (c ∷ rest)) p = if eqb q p then c else price_in rest p

-- how many pairs a plate has
unfoldable pub pairs_of : List ℕ → ℕ → ℕ
pairs_of [] p = 0
pairs_of (q ∷ []) p = 0
pairs_of (q ∷ (c ∷ rest)) p = one (eqb q p) + pairs_of rest p

-- the plates of the pairs
unfoldable pub paired : List ℕ → List ℕ
paired [] = []
paired (q ∷ []) = []
paired (q ∷ (c ∷ rest)) = q ∷ paired rest

-- refusal 11, for a tree's plates: a taxon without exactly one pair, a pair without a taxon, or an odd count of pair numbers
unfoldable pub bad_pairs : List ℕ → List ℕ → Bool
bad_pairs plates pairs =
    not (eqb (length pairs % 2) 0)
    || (anywhere (λ p. not (eqb (pairs_of pairs p) 1)) plates
    || anywhere (λ q. not (anywhere (eqb q) plates)) (paired pairs))
