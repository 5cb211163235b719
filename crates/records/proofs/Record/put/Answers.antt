-- `records::Record::put` meets its contract: the five fields are put one after the other.
use Rattle.std.proofs.Common.{◌∙◌}
use Rattle.outline.specs.Outline.{record_bytes}
use Rattle.text.proofs.Writing.{left_starts, left_goes}
use Rattle.records.proofs.Records.{two_bytes, four_bytes}
use Rattle.records.proofs.Record.put.Goals as goal

pub returns : goal.returns
unfolding record_bytes
returns c =
    let next = rw (c.to_le_bytes.ensures ∙ two_bytes c.args.self.next) at c.put.ensures in
    let first = rw (c.to_le_bytes-2.ensures ∙ two_bytes c.args.self.first) at c.put-2.ensures in
    let branch = rw (c.to_le_bytes-3.ensures ∙ four_bytes c.args.self.branch) at c.put-3.ensures in
    let price = rw (c.to_le_bytes-4.ensures ∙ four_bytes c.args.self.price) at c.put-4.ensures in
    let plate = rw (c.to_le_bytes-5.ensures ∙ four_bytes c.args.self.plate) at c.put-5.ensures in
    (left_goes _ _ (left_goes _ _ (left_goes _ _ (left_goes _ _ (left_starts c.requires) next) first) branch) price).completes plate
