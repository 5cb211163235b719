-- `outline::checker::check_size` meets its contract: the tests on the way to a `return` say which row holds.
use Rattle.std.proofs.Common.{arith, lt-ltb, le-ltb}
use Rattle.outline.specs.Outline.{size}
use Rattle.outline.specs.Answer.{size_rows}
use Rattle.outline.specs.Rules.{most_records}
use Rattle.outline.proofs.checker.check_size.Goals as goal

pub returns-then-len : goal.returns-then-len
unfolding size_rows
returns-then-len c = simp c.if-len.true

pub returns-then-len-gt-MOST_RECORDS : goal.returns-then-len-gt-MOST_RECORDS
unfolding size_rows
returns-then-len-gt-MOST_RECORDS c =
    simp (c.if-len.false, lt-ltb most_records (size c.args.outline.now) (omega (arith, c.if-len-gt-MOST_RECORDS.true)))

pub returns : goal.returns
unfolding size_rows
returns c = simp (c.if-len.false, le-ltb most_records (size c.args.outline.now) (omega (arith, c.if-len-gt-MOST_RECORDS.false)))
