-- `lists::walks::lowest`: the first number at which the call answers true is the lowest.
use Rattle.std.proofs.Common.{sym, ◌∙◌, arith}
use Rattle.lists.proofs.Walk.{seeking_goes, seeking_some, seeking_nothing}
use Rattle.lists.proofs.walks.lowest.Goals as goal
use Rattle.lists.proofs.walks.lowest.Goals.{else-loop-r-test, then-loop-r-test+else-test+else-r-n}

pub returns-then-test : goal.returns-then-test
returns-then-test g c = λ holds d.
    let s = c.loop-r.invariant holds d in
    seeking_some _ _ s c.loop-r-test.true (sym (d _ c.loop-r.auto.r c.loop-r-test.true _ c.test.ensures) ∙ c.if-test.true)

pub loop-r-preserved : goal.loop-r-preserved
loop-r-preserved g c = λ holds d.
    let s = c.loop-r.invariant holds d in
    seeking_goes _ _ s c.loop-r-test.true (sym (d _ c.loop-r.auto.r c.loop-r-test.true _ c.test.ensures) ∙ c.if-test.false)

pub returns : goal.returns
returns g c = λ holds d.
    let s = c.loop-r.invariant holds d in
    elim c.loop-r-test.branch [
      | else-loop-r-test w ↦ seeking_nothing _ _ s (omega (arith, w.loop-r-test.false))
      | then-loop-r-test+else-test+else-r-n w ↦
          let last = seeking_goes _ _ s w.loop-r-test.true
          (sym (d _ c.loop-r.auto.r w.loop-r-test.true _ w.test.ensures) ∙ w.if-test.false) in
          seeking_nothing _ _ last (omega arith)
    ]
