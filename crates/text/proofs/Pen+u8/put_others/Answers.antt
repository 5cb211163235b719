-- `text::Pen::put_others`: each turn goes on with what is left, and a line end ends it.
use Rattle.text.proofs.Lines.{blank_fits, number_fits, others_goes, end_fits, others_ends}
use Rattle.text.proofs.Pen+u8.put_others.Goals as goal

pub put-requires : goal.put-requires
put-requires c = blank_fits _ _ c.loop-n.invariant c.loop-n-test.true

pub put_number-requires : goal.put_number-requires
put_number-requires c = number_fits _ _ c.loop-n.invariant c.loop-n-test.true c.put.ensures

pub loop-n-preserved : goal.loop-n-preserved
loop-n-preserved c = others_goes _ _ c.loop-n.invariant c.loop-n-test.true c.put.ensures c.put_number.ensures

pub put-requires-2 : goal.put-requires-2
put-requires-2 c = end_fits _ _ c.loop-n.invariant c.loop-n-test.false

pub returns : goal.returns
returns c = others_ends _ _ c.loop-n.invariant c.loop-n-test.false c.put-2.ensures
