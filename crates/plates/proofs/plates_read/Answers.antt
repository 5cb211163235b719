-- `plates::plates_read` meets its contract.
use Rattle.std.proofs.Common.{◌≤◌, ap, arith}
use Rattle.refusals.specs.Reply.{Reply}
use Rattle.refusals.proofs.Replies.{placed_by}
use Rattle.outline.specs.Rules.{most_records}
use Rattle.reading.specs.declared.answer.Figures.{Figures}
use Rattle.reading.proofs.Bounds.{reply_place_most, reply_records_most}
use Rattle.plates.proofs.plates_read.Goals as goal

-- N fits 32 bits
pub overflow_cast-answer : goal.overflow_cast-answer
overflow_cast-answer c =
    let e = ap (λ (r : Reply Figures). r.figures.records) c.in-Ok.ensures.answered.told_reply in
    let most : c.in-Ok.f.records ≤ most_records = rw e (reply_records_most _) in
    record { fits = omega arith }

-- a place fits 32 bits
pub refuse-requires-clause-placed : goal.refuse-requires-clause-placed
refuse-requires-clause-placed c = placed_by c.in-Err.ensures.answered.told_reply (reply_place_most _)
