-- `measures::locks::locked_cost` meets its contract.
use Rattle.std.proofs.Common.{sym, ap, ◌∙◌}
use Rattle.diversity.specs.Diversity.{cost}
use Rattle.laws.proofs.Locks.{unlocked_cost}
use Rattle.measures.proofs.Locking.{locked_cost}
use Rattle.measures.proofs.locks.locked_cost.Goals as goal

pub returns-then-locks_of-eq0 : goal.returns-then-locks_of-eq0
returns-then-locks_of-eq0 c = sym (unlocked_cost _ (sym c.locks_of.ensures ∙ c.if-locks_of-eq0.true))

pub returns : goal.returns
returns c =
    let o = c.args.o.now in
    c.measure.ensures.cost_is ∙ ap (cost o) c.lock_marks-marks.ensures ∙ locked_cost o
