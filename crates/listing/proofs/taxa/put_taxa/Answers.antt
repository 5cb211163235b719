use Rattle.std.proofs.Common.{arith, length-take, subst, sym}
use Rattle.text.specs.Written.{LongEnough}
use Rattle.text.proofs.Walks.{walking_starts, walking_fits, walking_goes, walking_ends}
use Rattle.listing.specs.FromBuffers.{taxa_text}
use Rattle.listing.proofs.Rows.{row_read}
use Rattle.listing.proofs.taxa.put_taxa.Goals as goal

pub loop-plate-init : goal.loop-plate-init
unfolding taxa_text
loop-plate-init c = walking_starts _ _ _ _ c.requires.1

pub put_line-requires : goal.put_line-requires
put_line-requires c =
    let within = rw length-take at c.loop-plate-test.true in
    let read = row_read _ _ _ c.as_chunks.ensures.front c.as_chunks.ensures.front_len c.loop-plate-test.true in
    (omega arith, subst (λ line. LongEnough line c.loop-plate.pen) (sym read) (walking_fits c.loop-plate.invariant (omega (arith, within))))

pub loop-plate-preserved : goal.loop-plate-preserved
loop-plate-preserved c =
    let within = rw length-take at c.loop-plate-test.true in
    let read = row_read _ _ _ c.as_chunks.ensures.front c.as_chunks.ensures.front_len c.loop-plate-test.true in
    walking_goes c.loop-plate.invariant (omega (arith, within)) (rw read at c.put_line.ensures)

pub returns : goal.returns
unfolding taxa_text
returns c =
    let past = rw length-take at c.loop-plate-test.false in
    walking_ends c.loop-plate.invariant (omega (arith, past, c.as_chunks.ensures.front_len))
