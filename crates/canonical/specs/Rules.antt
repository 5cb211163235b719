-- The house form by its two rules, `Ascending` and `InTextOrder`: it keeps both, and no other outline of its tree does (`house_rules`,
-- `house_only`), so that a reader need believe neither the sorting nor the writing. And the smallest plate by what it is.
use Rattle.std.specs.Prelude.{ℕ, ◌≤◌, ◌<◌, ◌≡◌, true, List}
use Rattle.outline.specs.Outline.{next, plate, is_taxon, IsRecord}
use Rattle.diversity.specs.Paths.{OnWay}
use Rattle.canonical.specs.House.{smallest}

-- each chain is ordered by the smallest plate at or below its members
pub record Ascending (o : List ℕ) : Type 0 where
  pub ascends : (r : ℕ) → IsRecord o r → 0 < next o r → smallest o r < smallest o (next o r)

-- t is a taxon at or below r
pub record TaxonBelow (o : List ℕ) (r t : ℕ) : Type 0 where
  pub record_here : IsRecord o t
  pub taxon_here : is_taxon o t ≡ true
  pub on_way : OnWay o t r

-- p is the smallest plate at or below r: no taxon there has a smaller one, and one has it
pub record SmallestPlate (o : List ℕ) (r p : ℕ) : Type 0 where
  pub least : (t : ℕ) → TaxonBelow o r t → p ≤ plate o t
  pub taken : (t : ℕ) × TaxonBelow o r t × (plate o t ≡ p)
