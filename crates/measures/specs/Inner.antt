-- What the functions behind `measure` speak of: sums over the forest of a record.
use Rattle.std.specs.Prelude.{ℕ, ◌+◌, ◌≤◌, ◌<◌, ◌^◌, ◌≡◌, List, replicate}
use Rattle.outline.specs.Outline.{size, first, IsRecord}
use Rattle.diversity.specs.Diversity.{chosen, chosen_taxa}
use Rattle.laws.specs.Forest.{Forest, empty, node, sum_in, tree}
use Rattle.measures.specs.Measures.{Measurable}
use Rattle.measures.specs.declared.figures.Measure.{Measure}
use Rattle.outline.specs.Rules.{most_records}
use Rattle.laws.specs.Measures.{chosen_in, cost_in, crossing}

-- two measures whose sums keep to 32 bits
pub record Addable (v w : Measure) : Type 0 where
  pub taxa_fit : v.taxa + w.taxa < 2 ^ 32
  pub cost_fits : v.cost + w.cost < 2 ^ 32
  pub diversity_fits : v.diversity + w.diversity < 2 ^ 32

-- m is their sum
pub record Added (v w m : Measure) : Type 0 where
  pub taxa_is : m.taxa ≡ v.taxa + w.taxa
  pub cost_is : m.cost ≡ v.cost + w.cost
  pub diversity_is : m.diversity ≡ v.diversity + w.diversity

-- a mark for each record that an outline may have, all 0
unfoldable pub blank : List ℕ
blank = replicate most_records 0

-- v records are marked, few enough
pub record Marked (o s : List ℕ) (v : ℕ) : Type 0 where
  pub taxa_is : v ≡ chosen_taxa o s
  pub few : v ≤ most_records

-- m has the measures of the chosen records of a forest, of `all` that are chosen
pub record InForest (o s : List ℕ) (all : ℕ) (F : Forest) (m : Measure) : Type 0 where
  pub taxa_is : m.taxa ≡ chosen_in (chosen s) F
  pub cost_is : m.cost ≡ cost_in o (chosen s) F
  pub diversity_is : m.diversity ≡ sum_in (crossing o (chosen s) all) F

-- record r alone, with all below it
abbrev pub clade_of : List ℕ → ℕ → Forest
clade_of o r = node r (tree o (first o r)) empty

-- record r of a measurable set, and what its members come to
pub record InClade (o : List ℕ) (r : ℕ) (s : List ℕ) (all : ℕ) (members : Measure) : Type 0 where
  pub base : Measurable o s
  pub is_record : IsRecord o r
  pub below : InForest o s all (tree o (first o r)) members

-- m has the measures of what is chosen at or below record r
abbrev pub CladeMeasured : List ℕ → ℕ → List ℕ → ℕ → Measure → Type 0
CladeMeasured o r s all m = InForest o s all (clade_of o r) m

-- record r of a measurable set, or 0
pub record InChain (o : List ℕ) (r : ℕ) (s : List ℕ) : Type 0 where
  pub base : Measurable o s
  pub most : r ≤ size o

-- m has the measures of what is chosen in the chain that begins at record r
abbrev pub ChainMeasured : List ℕ → ℕ → List ℕ → ℕ → Measure → Type 0
ChainMeasured o r s all m = InForest o s all (tree o r) m
