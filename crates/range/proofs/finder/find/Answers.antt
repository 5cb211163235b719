-- `range::finder::find` meets its contract: the best diversity at low prices, then the choice at high prices in the same work.
use Rattle.std.proofs.Common.{refl}
use Rattle.choice.proofs.Answers.{solvable_again, solved_again}
use Rattle.range.proofs.Answers.{low_searchable}
use Rattle.range.proofs.finder.find.Goals as goal

pub best_of-roof-requires : goal.best_of-roof-requires
best_of-roof-requires c = low_searchable _ c.requires

pub solve-choice-requires : goal.solve-choice-requires
solve-choice-requires c = solvable_again _ refl c.best_of-roof.auto.work c.requires.solvable

pub returns : goal.returns
returns c = record { solved = solved_again _ refl c.best_of-roof.auto.work c.solve-choice.ensures; roof_is = c.best_of-roof.ensures }
