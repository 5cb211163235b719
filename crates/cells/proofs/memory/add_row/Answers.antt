-- `cells::memory::add_row` meets its contract: each column is what the other row has, which stands as at entry.
use Rattle.std.proofs.Common.{◌≡◌, ◌+◌, ◌∙◌, rules}
use Rattle.cells.specs.Cells.{view, cell}
use Rattle.cells.proofs.RowWritten.{made_row, aside_same}
use Rattle.cells.proofs.memory.add_row.Goals as goal

pub returns : goal.returns
returns c =
    made_row _ c.each_column.ensures
    (λ m b d least most same given.
    let made : view d ≡ cell m.now (c.args.y + b) = search rules in
    made ∙ aside_same same most c.requires.other.aside)
