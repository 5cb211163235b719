-- `reading::pairs::by_two` meets its contract: chunks of two numbers are the pairs.
use Rattle.std.proofs.Common.{refl, ◌∙◌}
use Rattle.reading.proofs.Pairing.{chunks_by_two}
use Rattle.reading.proofs.pairs.by_two.Goals as goal

pub returns : goal.returns
returns c = c.as_chunks.ensures.front ∙ chunks_by_two c.args.pairs.now _ refl
