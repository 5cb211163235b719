-- `text::Pen::put_labelled` meets its contract: the word, then the others.
use Rattle.std.proofs.Common.{arith}
use Rattle.std.proofs.lemmas.Grind.{common_steps}
use Rattle.text.specs.Text.{labelled}
use Rattle.text.proofs.Writing.{put_both}
use Rattle.text.proofs.Pen+u8.put_labelled.Goals as goal

pub put-requires : goal.put-requires
unfolding labelled
put-requires c = grind (arith, common_steps)

pub put_others-requires : goal.put_others-requires
unfolding labelled
put_others-requires c = grind (arith, common_steps)

pub returns : goal.returns
unfolding labelled
returns c = put_both (grind (arith, common_steps)) c.put.ensures c.put_others.ensures
