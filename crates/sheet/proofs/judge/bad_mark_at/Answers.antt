-- `sheet::judge::bad_mark_at` meets its contract.
use Rattle.std.proofs.Common.{rules}
use Rattle.outline.specs.Outline.{records}
use Rattle.sheet.specs.Answer.{bad_mark}
use Rattle.sheet.proofs.judge.bad_mark_at.Goals as goal

pub returns : goal.returns
unfolding records
returns c = c.lowest.ensures (bad_mark c.args.o.now c.args.marks.now) (λ r l u b p. search rules)
