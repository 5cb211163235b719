-- `house::plates::smaller` meets its contract.
use Rattle.std.proofs.Common.{arith, rules}
use Rattle.canonical.proofs.Smallest.{smaller_min, none_first, none_second}
use Rattle.house.proofs.plates.smaller.Goals as goal

pub returns-then-p-eq0 : goal.returns-then-p-eq0
returns-then-p-eq0 c = none_first c.if-p-eq0.true

pub returns-then-q-eq0 : goal.returns-then-q-eq0
returns-then-q-eq0 c = none_second c.if-q-eq0.true

pub returns-else-q-eq0 : goal.returns-else-q-eq0
returns-else-q-eq0 c = rw (smaller_min c.args.p c.args.q (omega arith) (omega arith)) (search rules)
