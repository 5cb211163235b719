-- `reading::draft::Draft::draft_record` meets its contract: the record is written at its place, with its price.
use Rattle.std.proofs.Common.{arith}
use Rattle.records.proofs.Records.{record_length}
use Rattle.reading.proofs.draft.Draft.draft_record.Goals as goal

pub put-requires : goal.put-requires
put-requires c =
    omega (arith, record_length c.args.next c.args.part.first c.args.part.length c.price_of-price.result c.args.part.plate)
