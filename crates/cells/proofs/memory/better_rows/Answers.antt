-- `cells::memory::better_rows` meets its contract: each column is made of two that stand as at entry.
use Rattle.std.proofs.Common.{◌≡◌, ◌+◌, ap₂, ◌∙◌, rules}
use Rattle.laws.specs.Candidate.{better_of}
use Rattle.cells.specs.Cells.{view, cell}
use Rattle.cells.proofs.RowWritten.{made_row, aside_same}
use Rattle.cells.proofs.memory.better_rows.Goals as goal

pub returns : goal.returns
returns c =
    let a = c.args in
    made_row _ c.each_column.ensures
    (λ m b d least most same given.
    let made : view d ≡ better_of (cell m.now (a.x + b)) (cell m.now (a.y + b)) = search rules in
    made ∙ ap₂ better_of (aside_same same most c.requires.first.aside) (aside_same same most c.requires.second.aside))
