use Rattle.std.proofs.Common.{arith, length-take, subst, sym}
use Rattle.text.specs.Written.{LongEnough}
use Rattle.text.proofs.Walks.{walking_starts, walking_fits, walking_goes, walking_ends}
use Rattle.listing.specs.FromBuffers.{columns_text}
use Rattle.listing.proofs.Rows.{column_read}
use Rattle.listing.proofs.columns.put_columns.Goals as goal

pub loop-b-init : goal.loop-b-init
unfolding columns_text
loop-b-init c = walking_starts _ _ _ _ c.requires.1

pub put_line-requires : goal.put_line-requires
put_line-requires c =
    let within = rw length-take at c.loop-b-test.true in
    let read = column_read _ _ _ c.as_chunks.ensures.front c.as_chunks.ensures.front_len c.loop-b-test.true in
    (omega arith, subst (λ line. LongEnough line c.loop-b.pen) (sym read) (walking_fits c.loop-b.invariant (omega (arith, within))))

pub loop-b-preserved : goal.loop-b-preserved
loop-b-preserved c =
    let within = rw length-take at c.loop-b-test.true in
    let read = column_read _ _ _ c.as_chunks.ensures.front c.as_chunks.ensures.front_len c.loop-b-test.true in
    walking_goes c.loop-b.invariant (omega (arith, within)) (rw read at c.put_line.ensures)

pub returns : goal.returns
unfolding columns_text
returns c =
    let past = rw length-take at c.loop-b-test.false in
    walking_ends c.loop-b.invariant (omega (arith, past, c.as_chunks.ensures.front_len))
