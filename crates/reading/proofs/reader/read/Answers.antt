-- `reading::reader::read` meets its contract: a text that is too long spells no tree.
use Rattle.std.proofs.Common.{arith}
use Rattle.reading.proofs.Answers.{long_answered}
use Rattle.reading.proofs.reader.read.Goals as goal

pub returns-then-text-gt-MOST_BYTES-clause-answered : goal.returns-then-text-gt-MOST_BYTES-clause-answered
returns-then-text-gt-MOST_BYTES-clause-answered c = long_answered _ _ _ (omega arith)
