use Rattle.std.proofs.Common.{◌-◌, ap, ap₂, ◌∙◌, arith}
use Rattle.laws.specs.Candidate.{better_of, charge_of}
use Rattle.cells.specs.Memory.{row_at}
use Rattle.cells.proofs.RowWritten.{filling_goes, back_same, join_from_lem}
use Rattle.cells.proofs.memory.charge_from.Goals as goal

pub loop-b-preserved : goal.loop-b-preserved
loop-b-preserved c =
    let a = c.args in
    let b = c.loop-b.b - 1 in
    let first = c.read-moved.ensures ∙ back_same c.loop-b.invariant c.requires.moved.aside (b - a.price) (omega arith) in
    let charged = c.charged-charged.ensures ∙ ap (λ d. charge_of d a.branch a.price) first ∙ join_from_lem _ _ (row_at a.work.now a.x) b (omega arith) in
    let second = c.column-other.ensures ∙ back_same c.loop-b.invariant c.requires.over.aside b (omega arith) in
    filling_goes c.loop-b.invariant c.loop-b-test.true c.put.ensures c.put.auto.work (c.better.ensures ∙ ap₂ better_of charged second)
