-- Locked taxa: how many there are, how many of them a set holds, and the set that holds them and no other.
use Rattle.std.specs.Prelude.{if◌then◌else◌, ℕ, List, map}
use Rattle.lists.specs.Lists.{one, total}
use Rattle.outline.specs.Outline.{records, locked}
use Rattle.diversity.specs.Diversity.{chosen}

-- how many taxa are locked
unfoldable pub locks : List ℕ → ℕ
locks o = total (λ r. one (locked o r)) (records o)

-- how many of them are in the set s
unfoldable pub locks_held : List ℕ → List ℕ → ℕ
locks_held o s = total (λ r. if chosen s r then one (locked o r) else 0) (records o)

-- the marks of the locked taxa
unfoldable pub locked_set : List ℕ → List ℕ
locked_set o = map (λ r. one (locked o r)) (records o)
