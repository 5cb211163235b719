-- `cells::memory::join_row` meets its contract: each column is made of four that stand as at entry.
use Rattle.std.proofs.Common.{◌≡◌, ◌+◌, ◌-◌, arith, ap, ap₂, ◌∙◌, rules}
use Rattle.laws.specs.Candidate.{better_of, join_of, charge_of}
use Rattle.rows.specs.Rows.{better_row}
use Rattle.cells.specs.Memory.{row_at}
use Rattle.cells.specs.Cells.{view, cell}
use Rattle.cells.proofs.RowWritten.{made_row, aside_same, apart_same, join_from_lem}
use Rattle.cells.proofs.memory.join_row.Goals as goal

pub returns : goal.returns
returns c =
    let a = c.args.join in
    let before = c.args.work.now in
    let beside = c.requires.beside in
    made_row _ c.each_column.ensures
    (λ m b d least most same given.
    let follows = better_of (cell m.now (a.x + (b - a.cost))) (cell m.now (a.y + (b - a.cost))) in
    let made : view d ≡ better_of (join_of (charge_of (cell m.now (a.own + b)) 0 a.above) follows) (cell m.now (a.z + b)) = search rules in
    let own = ap (λ e. charge_of e 0 a.above) (aside_same same most c.requires.taken.aside) in
    let first = apart_same same most beside.first_apart (omega arith) in
    let next = ap₂ better_of first (apart_same same most beside.second_apart (omega arith)) in
    let joined = ap₂ join_of own next ∙ join_from_lem _ _ (better_row (row_at before a.x) (row_at before a.y)) b least in
    made ∙ ap₂ better_of joined (aside_same same most c.requires.over.aside))
