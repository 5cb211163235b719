-- `range::prices::judge_prices` meets its contract: whether there are as many records, then the lowest that is bad.
use Rattle.std.proofs.Common.{rules, eq-eqb, ne_eqb}
use Rattle.refusals.proofs.Refusals.{row_at_found, row_at_passed}
use Rattle.range.specs.Answer.{bad_range, price_rows}
use Rattle.range.proofs.prices.judge_prices.Goals as goal

pub returns-then-high-n : goal.returns-then-high-n
unfolding price_rows
returns-then-high-n c = simp (ne_eqb _ _ c.if-high-n.true)

pub returns-in-Some : goal.returns-in-Some
unfolding price_rows
returns-in-Some c =
    simp (
      eq-eqb _ _ c.if-high-n.false,
      row_at_found 17 _ _ c.in-Some.is (c.lowest.ensures (bad_range c.args.low.now c.args.high.now) (λ r l u b p. search rules)),
    )

pub returns : goal.returns
unfolding price_rows
returns c =
    simp (
      eq-eqb _ _ c.if-high-n.false,
      row_at_passed 17 _ _ c.in_default.is (c.lowest.ensures (bad_range c.args.low.now c.args.high.now) (λ r l u b p. search rules)),
    )
