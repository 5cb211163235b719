-- `cells::memory::better_by` meets its contract: each column is made of the one that stands there.
use Rattle.std.proofs.Common.{◌≡◌, ◌+◌, arith, ap, ◌∙◌, rules}
use Rattle.laws.specs.Candidate.{better_of}
use Rattle.cells.specs.Cells.{view, cell}
use Rattle.cells.proofs.RowWritten.{made_row}
use Rattle.cells.proofs.memory.better_by.Goals as goal

pub returns : goal.returns
returns c =
    let a = c.args in
    made_row _ c.each_column.ensures
    (λ m b d least most same given.
    let made : view d ≡ better_of (cell m.now (a.to + b)) (view a.c) = search rules in
    made ∙ ap (λ e. better_of e (view a.c)) (same.same (a.to + b) (λ q. omega arith)))
