-- The words of document 02, §2: what a set pays for the headings of its groups, and which headings are free.
use Rattle.std.specs.Prelude.{if◌then◌else◌, ℕ, ◌≡◌, Bool, true, false, ◌&&◌, not, List, eqb}
use Rattle.lists.specs.Lists.{anywhere, total}
use Rattle.outline.specs.Outline.{size, records, first, price, is_taxon, IsRecord}
use Rattle.diversity.specs.Diversity.{chain, clade, chosen}

-- document 01's cost of a set: the sum of its prices
unfoldable pub prices_chosen : List ℕ → List ℕ → ℕ
prices_chosen o s = total (λ r. if chosen s r then price o r else 0) (records o)

-- record r is a group that has a chosen taxon below it
unfoldable pub opens : List ℕ → List ℕ → ℕ → Bool
opens o s r = not (is_taxon o r) && anywhere (chosen s) (chain (size o) o (first o r))

-- what a set's cost gains: the price of every such group, once
unfoldable pub headings_opened : List ℕ → List ℕ → ℕ
headings_opened o s = total (λ r. if opens o s r then price o r else 0) (records o)

-- every group's price is 0
abbrev pub FreeHeadings : List ℕ → Type 0
FreeHeadings o = (r : ℕ) → IsRecord o r → is_taxon o r ≡ false → price o r ≡ 0

-- taxon t is free, and so are the headings above it
abbrev pub Free : List ℕ → ℕ → Type 0
Free o t = (r : ℕ) → IsRecord o r → anywhere (eqb t) (clade o r) ≡ true → price o r ≡ 0
