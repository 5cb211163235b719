-- The sheet of a set of taxa: what each adds to those before it. Document 02, §6.
use Rattle.std.specs.Prelude.{if◌then◌else◌, ℕ, ◌-◌, List, [], ◌∷◌, take}
use Rattle.lists.specs.Lists.{total}
use Rattle.outline.specs.Outline.{records, plate}
use Rattle.diversity.specs.Diversity.{chosen, diversity, cost}
use Rattle.text.specs.Text.{texts}

-- the set's taxa up to record r
abbrev pub up_to : List ℕ → ℕ → List ℕ
up_to s r = take r s

-- what record r adds to a measure of those before it
abbrev pub added : (List ℕ → ℕ) → List ℕ → ℕ → ℕ
added measure s r = measure (up_to s r) - measure (up_to s (r - 1))

-- the row of a chosen taxon: its plate, the quarters it adds, headings it opens included, and the diversity it adds
unfoldable pub row_of : List ℕ → ℕ → List ℕ → ℕ → List ℕ
row_of o way s r = plate o r ∷ added (cost o) s r ∷ added (diversity o way) s r ∷ []

-- the rows as numbers, row after row: each chosen taxon in record order
unfoldable pub rows_of : List ℕ → ℕ → List ℕ → List ℕ
rows_of o way s = texts (λ r. if chosen s r then row_of o way s r else []) (records o)

-- the sum over the rows of what is added to a measure
unfoldable pub sum_of : (List ℕ → ℕ) → List ℕ → List ℕ → ℕ
sum_of measure o s = total (λ r. if chosen s r then added measure s r else 0) (records o)
