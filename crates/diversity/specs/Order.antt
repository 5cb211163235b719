-- Records in text order.
use Rattle.std.specs.Prelude.{ℕ, ◌≡◌, List}
use Rattle.outline.specs.Outline.{records}
use Rattle.diversity.specs.Diversity.{clade}

-- the records stand in text order: record 1 and all below it, each before its members and these in chain order, are numbered as
-- they come
abbrev pub InTextOrder : List ℕ → Type 0
InTextOrder o = clade o 1 ≡ records o
