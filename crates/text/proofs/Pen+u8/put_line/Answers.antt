-- `text::Pen::put_line` meets its contract: the first number, then the others.
use Rattle.std.proofs.Common.{arith}
use Rattle.std.proofs.lemmas.Grind.{common_steps}
use Rattle.text.proofs.Lines.{line_begins}
use Rattle.text.proofs.Writing.{put_both}
use Rattle.text.proofs.Pen+u8.put_line.Goals as goal

pub put_number-requires : goal.put_number-requires
put_number-requires c = grind (arith, common_steps, line_begins)

pub put_others-requires : goal.put_others-requires
put_others-requires c = grind (arith, common_steps, line_begins)

pub returns : goal.returns
returns c =
    rw (line_begins _ c.requires.0) (put_both (grind (arith, common_steps, line_begins)) c.put_number.ensures c.put_others.ensures)
