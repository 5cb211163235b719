use Rattle.std.proofs.Common.{arith}
use Rattle.lists.proofs.Walk.{summing_starts, summing_goes, summing_ends}
use Rattle.outline.specs.Outline.{records}
use Rattle.quick.proofs.Adding.{no_sums, sums_start}
use Rattle.quick.proofs.Bounds.{part_most}
use Rattle.quick.proofs.ceiling.parts_of.Goals as goal

pub loop-r-init : goal.loop-r-init
loop-r-init c = (summing_starts _ _, sums_start (no_sums c.default-sums.result c.default-sums.ensures))

pub loop-r-preserved : goal.loop-r-preserved
loop-r-preserved c =
    let part = c.part_at.ensures in (
      summing_goes _ _ c.loop-r.invariant.0 c.loop-r-test.true part.part_is
          (rw part.part_is (part_most _ c.requires.base.formed _ _ _)),
      part.sums_are,
    )

-- after the last record
pub returns-2 : goal.returns-2
unfolding records
returns-2 c =
    let part = c.part_at.ensures in
    let most = part_most _ c.requires.base.formed _ _ _ in
    summing_ends _ _ (summing_goes _ _ c.loop-r.invariant.0 c.loop-r-test.true part.part_is (rw part.part_is most)) (omega arith)
