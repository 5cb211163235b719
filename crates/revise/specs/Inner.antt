-- What the functions behind `revise` speak of.
use Rattle.std.specs.Prelude.{ℕ, ◌≤◌, ◌≡◌, List}
use Rattle.outline.specs.Outline.{branch, IsRecord}
use Rattle.outline.specs.Rules.{most_length}
use Rattle.choice.specs.Inner.{Solvable, Solved}
use Rattle.revise.specs.Moved.{moved, MovesWith}
use Rattle.revise.specs.Answer.{Call, Figures, old_choice, new_choice, old_best, new_best, movements}

-- what remaking the choice of a call asks: a choice on the given outline that can be solved, a record of it, and a length in its range
pub record Revisable (c : Call) : Type 0 where
  pub solvable : Solvable (old_choice c)
  pub is_record : IsRecord c.outline c.changed
  pub length_most : c.to ≤ most_length

-- what it ensures: the choice on the revised outline, solved, and both movements, of which the best diversity moves with the length
pub record Remade (c : Call) (told : Figures) (marks curve work : List ℕ) : Type 0 where
  pub solved : Solved (new_choice c) told.choice marks curve work
  pub moved_is : told.moved ≡ movements (moved (old_best c) (new_best c)) (moved (branch c.outline c.changed) c.to)
  pub moves_with : MovesWith told.moved.best told.moved.length
