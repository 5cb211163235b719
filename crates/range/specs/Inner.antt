-- What the functions behind `range` speak of.
use Rattle.std.specs.Prelude.{ℕ, ◌≡◌, List}
use Rattle.diversity.specs.Search.{best_diversity}
use Rattle.choice.specs.Inner.{Solvable, Solved}
use Rattle.range.specs.Prices.{NoDearer}
use Rattle.range.specs.Answer.{Call, Figures, high_choice}

-- what finding a range asks: outlines that differ in prices only, none of them lower at high prices, and a choice there that can be solved
pub record Rangeable (c : Call) : Type 0 where
  pub no_dearer : NoDearer c.low c.high
  pub solvable : Solvable (high_choice c)

-- what it ensures: that choice, solved, and the best diversity at low prices
pub record RangeFound (c : Call) (told : Figures) (marks curve work : List ℕ) : Type 0 where
  pub solved : Solved (high_choice c) told.choice marks curve work
  pub roof_is : told.roof ≡ best_diversity c.low c.way c.count
