-- `choice::curve::column_of` meets its contract: by whether the candidate holds all the locked taxa.
use Rattle.std.proofs.Common.{arith, sym, ◌∙◌}
use Rattle.choice.proofs.Shown.{parts_low, shown_own, shown_blank}
use Rattle.choice.proofs.curve.column_of.Goals as goal

pub returns-then-locked-locks : goal.returns-then-locked-locks
returns-then-locked-locks c =
    let blank = shown_blank _ (λ e. c.if-locked-locks.true (c.locked.ensures ∙ e)) in
    rw (← blank.0, ← blank.1)

pub overflow_cast-result : goal.overflow_cast-result
overflow_cast-result c = record { fits = omega (arith, parts_low c.args.best) }

pub overflow_cast-result-2 : goal.overflow_cast-result-2
overflow_cast-result-2 c = record { fits = omega (arith, parts_low c.args.best) }

pub returns : goal.returns
returns c =
    let own = shown_own _ (sym c.locked.ensures ∙ c.if-locked-locks.false) in
    rw (c.diversity.ensures, c.cost.ensures, own.0, own.1)
