-- `lists::walks::count`: a number adds one where the call answers true.
use Rattle.std.proofs.Common.{ap, ◌∙◌, arith}
use Rattle.lists.specs.Lists.{one}
use Rattle.lists.proofs.Bools.{byte_one, one_le}
use Rattle.lists.proofs.Walk.{summing_goes, summing_ends}
use Rattle.lists.proofs.walks.count.Goals as goal
use Rattle.lists.proofs.walks.count.Goals.{else-loop-r-test, then-loop-r-test+else-r-n}

pub loop-r-preserved : goal.loop-r-preserved
loop-r-preserved g c =
    let t = c.test.result in
    record {
      few = omega (arith, c.loop-r.invariant.few, byte_one t, one_le t);
      counted = λ holds d.
          summing_goes _ _ (c.loop-r.invariant.counted holds d) c.loop-r-test.true
          (byte_one t ∙ ap one (d _ c.loop-r.auto.r c.loop-r-test.true _ c.test.ensures)) (omega (arith, byte_one t, one_le t));
    }

pub returns : goal.returns
returns g c = λ holds d.
    let s = c.loop-r.invariant.counted holds d in
    elim c.loop-r-test.branch [
      | else-loop-r-test w ↦ w.sum-is ∙ summing_ends _ _ s (omega (arith, w.loop-r-test.false))
      | then-loop-r-test+else-r-n w ↦
          let t = w.test.result in
          let adds = byte_one t ∙ ap one (d _ c.loop-r.auto.r w.loop-r-test.true _ w.test.ensures) in
          let last = summing_goes _ _ s w.loop-r-test.true adds (omega (arith, byte_one t, one_le t)) in
          w.sum-is ∙ summing_ends _ _ last (omega arith)
    ]
