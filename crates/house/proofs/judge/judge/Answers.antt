-- `house::judge::judge` meets its contract: the rows of the first check, those of the second, then the forms' lengths.
use Rattle.refusals.proofs.Refusals.{refusal_not_zero, handed_on}
use Rattle.house.specs.Compared.{judged, too_short}
use Rattle.house.proofs.judge.judge.Goals as goal

pub returns-in_err-check : goal.returns-in_err-check
unfolding judged
returns-in_err-check c = rw (handed_on _ c.from_residual.ensures.1) (simp (← c.in_err-check.ensures, refusal_not_zero))

pub returns-in_err-check-2 : goal.returns-in_err-check-2
unfolding judged
returns-in_err-check-2 c =
    rw (handed_on _ c.from_residual-in_err-check-2.ensures.1) (simp (← c.in_ok-check.ensures, ← c.in_err-check-2.ensures, refusal_not_zero))

pub returns-then-form_a-a : goal.returns-then-form_a-a
unfolding judged too_short
returns-then-form_a-a c = let t = c.if-form_a-a.true in simp (← c.in_ok-check.ensures, ← c.in_ok-check-2.ensures, t)

pub returns : goal.returns
unfolding judged too_short
returns c = let t = c.if-form_a-a.false in simp (← c.in_ok-check.ensures, ← c.in_ok-check-2.ensures, t)
