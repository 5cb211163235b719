use Rattle.std.proofs.Common.{◌-◌, ap, ◌∙◌}
use Rattle.choice.proofs.Columns.{level_goes, level_drops, level_ends, level_not}
use Rattle.choice.proofs.curve.spare_of.Goals as goal
use Rattle.choice.proofs.curve.spare_of.Goals.{then-b-eq0, else-b-eq0+then-curve-left}

pub loop-b-preserved : goal.loop-b-preserved
loop-b-preserved c = level_goes c.loop-b.invariant c.if-b-eq0.false (level_not _ _ _ c.if-curve-left.false)

pub returns : goal.returns
returns c =
    elim c.if-b-eq0.branch [
      | then-b-eq0 w ↦ ap (λ k. c.args.count - k) w.lowest-is ∙ level_ends c.loop-b.invariant w.if-b-eq0.true
      | else-b-eq0+then-curve-left w ↦
          ap (λ k. c.args.count - k) w.lowest-is ∙ level_drops c.loop-b.invariant w.if-b-eq0.false (level_not _ _ _ w.if-curve-left.true)
    ]
