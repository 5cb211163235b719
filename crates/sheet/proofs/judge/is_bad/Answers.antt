-- `sheet::judge::is_bad` meets its contract.
use Rattle.std.proofs.Common.{◌-◌, ◌<◌, arith, get_or, lt-ltb}
use Rattle.sheet.specs.Answer.{bad_mark}
use Rattle.sheet.proofs.judge.is_bad.Goals as goal

pub returns-in-0 : goal.returns-in-0
unfolding bad_mark
returns-in-0 c = rw c.in-0.is

pub returns-in-1 : goal.returns-in-1
unfolding bad_mark
returns-in-1 c = rw (c.in-1.is, c.is_taxon.ensures)

pub returns-in_default : goal.returns-in_default
unfolding bad_mark
returns-in_default c =
    let high : 1 < get_or c.args.marks.now (c.args.r - 1) 0 = omega arith in
    rw (lt-ltb 1 _ high)
