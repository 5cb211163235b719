use Rattle.std.proofs.Common.{ap, ◌∙◌, arith, refl, rules, length}
use Rattle.lists.specs.Lists.{from}
use Rattle.text.proofs.Walks.{walking_starts, walking_fits, walking_goes, walking_ends}
use Rattle.text.proofs.Writing.{put_over}
use Rattle.choice.specs.Inner.{top_diversity, top_cost, column_shown}
use Rattle.choice.proofs.Columns.{column, columns_texts, columns_long}
use Rattle.choice.proofs.curve.write_curve.Goals as goal

pub loop-b-init : goal.loop-b-init
loop-b-init c =
    let d = top_diversity c.args.work.now c.args.width c.args.locks in
    let k = top_cost c.args.work.now c.args.width c.args.locks in
    let long = ap length (columns_texts d k (from 0 c.args.width)) ∙ columns_long d k 0 c.args.width in
    walking_starts (column d k) 0 c.args.width _ (omega (arith, long, c.requires.curve_long))

pub put-requires : goal.put-requires
put-requires c = omega (arith, walking_fits c.loop-b.invariant (omega arith))

pub loop-b-preserved : goal.loop-b-preserved
loop-b-preserved c =
    let shown = c.column_of.ensures ∙ ap (column_shown c.args.locks) c.best_at.ensures in
    walking_goes c.loop-b.invariant (omega arith) (rw shown at c.put.ensures)

pub returns : goal.returns
returns c =
    let written = rw columns_texts at (walking_ends c.loop-b.invariant (omega arith)) in
    put_over written refl (search rules)
