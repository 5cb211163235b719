-- `quick::chooser::fill` meets its contract.
use Rattle.std.proofs.Common.{◌∙◌}
use Rattle.quick.proofs.Answers.{locked_marks, locked_markable, locked_ready, picks_quick, measured_filled}
use Rattle.quick.proofs.chooser.fill.Goals as goal

pub of-ways-requires : goal.of-ways-requires
of-ways-requires c = rw (c.mark_locked.ensures ∙ locked_marks c.requires) (locked_markable c.requires)

pub make_picks-requires : goal.make_picks-requires
make_picks-requires c =
    let marked = c.mark_locked.ensures ∙ locked_marks c.requires in
    rw marked (locked_ready c.requires (rw marked at c.of-ways.ensures))

pub returns : goal.returns
returns c =
    let chosen = picks_quick (c.mark_locked.ensures ∙ locked_marks c.requires) c.make_picks.ensures in
    measured_filled chosen c.measure-set.ensures c.ceiling_of.ensures
