-- Rooted and unrooted diversity of a set of taxa, its cost and its number of taxa. A set is its list of marks, one for
-- each record: 1 at a chosen taxon, else 0.
use Rattle.std.specs.Prelude.{if◌then◌else◌, ℕ, zero, suc, ◌-◌, Bool, ◌&&◌, not, List, [], ◌∷◌, ◌++◌, get_or, eqb}
use Rattle.lists.specs.Lists.{one, anywhere, total}
use Rattle.outline.specs.Outline.{size, records, next, first, branch, price, locked}

-- the records of the chain that begins at r, and all below them; depth bounds how far to look
unfoldable pub chain : ℕ → List ℕ → ℕ → List ℕ
chain zero o r = []
chain (suc depth) o zero = []
chain (suc depth) o (suc r) = suc r ∷ (chain depth o (first o (suc r)) ++ chain depth o (next o (suc r)))

-- record r and all below it
unfoldable pub clade : List ℕ → ℕ → List ℕ
clade o r = r ∷ chain (size o) o (first o r)

-- record r is marked
unfoldable pub chosen : List ℕ → ℕ → Bool
chosen s r = eqb (get_or s (r - 1) 0) 1

-- record r is, or has below it, a chosen taxon
unfoldable pub within : List ℕ → List ℕ → ℕ → Bool
within o s r = anywhere (chosen s) (clade o r)

-- a chosen taxon is elsewhere: not record r, and not below it
unfoldable pub elsewhere : List ℕ → List ℕ → ℕ → Bool
elsewhere o s r = anywhere (λ t. chosen s t && not (anywhere (eqb t) (clade o r))) (records o)

-- rooted (way 0), rPD: the sum of lengths of records that are, or have below them, a chosen taxon; the root's own counts
unfoldable pub rooted : List ℕ → List ℕ → ℕ
rooted o s = total (λ r. if within o s r then branch o r else 0) (records o)

-- unrooted (way 1), uPD: the sum of lengths of records with a chosen taxon at or below them and a chosen taxon elsewhere
unfoldable pub unrooted : List ℕ → List ℕ → ℕ
unrooted o s = total (λ r. if within o s r && elsewhere o s r then branch o r else 0) (records o)

-- by the way of counting
unfoldable pub diversity : List ℕ → ℕ → List ℕ → ℕ
diversity o way s = if eqb way 0 then rooted o s else unrooted o s

-- the cost of a set: the sum of prices of records that are, or have below them, a chosen taxon
unfoldable pub cost : List ℕ → List ℕ → ℕ
cost o s = total (λ r. if within o s r then price o r else 0) (records o)

-- every locked taxon is chosen
unfoldable pub holds_locked : List ℕ → List ℕ → Bool
holds_locked o s = not (anywhere (λ r. locked o r && not (chosen s r)) (records o))

-- the number of taxa is the number marked
unfoldable pub chosen_taxa : List ℕ → List ℕ → ℕ
chosen_taxa o s = total (λ r. one (chosen s r)) (records o)
