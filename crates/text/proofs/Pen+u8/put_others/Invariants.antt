-- `text::Pen::put_others` meets its contract: each turn puts a blank and a number.
use Rattle.std.proofs.Common.{drop}
use Rattle.text.specs.Text.{others}
use Rattle.text.proofs.Writing.{Left}
use Rattle.text.proofs.Pen+u8.put_others.Given as goal

abbrev pub invariant-loop-n : goal.invariant-loop-n
invariant-loop-n l = Left (others l.numbers) l.initial.self (others (drop l.n-index l.numbers)) l.self
