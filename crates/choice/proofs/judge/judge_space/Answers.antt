-- `choice::judge::judge_space` meets its contract: the buffers' lengths, then what the locked taxa cost.
use Rattle.std.proofs.Common.{lt-ltb, le-ltb}
use Rattle.choice.specs.Inner.{last_rows}
use Rattle.choice.proofs.judge.judge_space.Goals as goal

pub is_short-requires : goal.is_short-requires
is_short-requires c = record { records = c.requires.0.size_most; columns = c.requires.1 }

pub returns-then-is_short : goal.returns-then-is_short
unfolding last_rows
returns-then-is_short c = simp (← c.is_short.ensures, c.if-is_short.true)

pub locked_cost-requires : goal.locked_cost-requires
locked_cost-requires c = c.requires.0

pub returns-then-count-locked_cost : goal.returns-then-count-locked_cost
unfolding last_rows
returns-then-count-locked_cost c =
    simp (
      ← c.is_short.ensures,
      c.if-is_short.false,
      ← c.locked_cost.ensures,
      lt-ltb c.args.count c.locked_cost.result c.if-count-locked_cost.true,
    )

pub returns : goal.returns
unfolding last_rows
returns c =
    simp (
      ← c.is_short.ensures,
      c.if-is_short.false,
      ← c.locked_cost.ensures,
      le-ltb c.args.count c.locked_cost.result c.if-count-locked_cost.false,
    )
