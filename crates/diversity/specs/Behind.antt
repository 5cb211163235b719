-- The words of demand 3's last sentence: every other set that fits shows less diversity, or as much for more quarters, or equals
-- the best set in both and lacks the first taxon, by record number, on which the two differ.
use Rattle.std.specs.Prelude.{ℕ, ◌-◌, ◌≤◌, ◌<◌, ◌≡◌, ◌⊎◌, true, false, List, length, get_or}
use Rattle.outline.specs.Outline.{size, is_taxon}
use Rattle.diversity.specs.Diversity.{chosen, diversity, cost, holds_locked}

-- mark a may stand at record r: 0, or 1 at a taxon
abbrev pub MarkAt : List ℕ → ℕ → ℕ → Type 0
MarkAt o r a = (a ≡ 0) ⊎ ((a ≡ 1) × (is_taxon o r ≡ true))

-- s is a set of taxa
pub record IsSet (o s : List ℕ) : Type 0 where
  pub whole : length s ≡ size o
  pub marks : (r : ℕ) → 1 ≤ r → r ≤ size o → MarkAt o r (get_or s (r - 1) 0)

-- a set fits page count b if its cost is at most b and it holds every locked taxon
pub record Fits (o : List ℕ) (b : ℕ) (s : List ℕ) : Type 0 where
  pub cost_most : cost o s ≤ b
  pub locked_held : holds_locked o s ≡ true

-- no set of taxa fits page count b
abbrev pub NoneFits : List ℕ → ℕ → Type 0
NoneFits o b = (t : List ℕ) → IsSet o t → Fits o b t → ⊥

-- record at is the first on which s and t differ, and t lacks it
pub record Lacks (s t : List ℕ) : Type 0 where
  pub at : ℕ
  pub low : 1 ≤ at
  pub before : (r : ℕ) → 1 ≤ r → r < at → chosen s r ≡ chosen t r
  pub has : chosen s at ≡ true
  pub lacks : chosen t at ≡ false

-- t is behind s
pub data Behind (o : List ℕ) (way : ℕ) (s t : List ℕ) : Type 0 where
  less_diversity : diversity o way t < diversity o way s → Behind o way s t
  more_cost : diversity o way t ≡ diversity o way s → cost o s < cost o t → Behind o way s t
  lacks_first : diversity o way t ≡ diversity o way s → cost o t ≡ cost o s → Lacks s t → Behind o way s t
