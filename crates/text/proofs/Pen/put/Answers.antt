-- `text::Pen::put` meets its contract: the part of the buffer after the pen is the text.
use Rattle.std.proofs.Common.{refl}
use Rattle.text.proofs.Writing.{copied, written_length}
use Rattle.text.proofs.Pen.put.Goals as goal

pub returns : goal.returns
returns g c =
    let text = copied c.args.self.now.at c.args.text.now c.args.self.now.buffer.now in
    rw c.copy_from_slice.ensures.after (record { written = text; same_buffer = refl; same_length = written_length c.requires text })
