-- `plates::plates_write` meets its contract.
use Rattle.std.proofs.Common.{◌≤◌, ap, arith}
use Rattle.refusals.specs.Reply.{Reply}
use Rattle.refusals.proofs.Replies.{placed_by}
use Rattle.outline.specs.Rules.{most_taxa}
use Rattle.writing.specs.declared.answer.Figures.{Figures}
use Rattle.writing.proofs.OwnBytes.{most_written}
use Rattle.writing.proofs.Bounds.{reply_few}
use Rattle.plates.proofs.plates_write.Goals as goal

-- both counts fit 32 bits
pub overflow_cast-answer : goal.overflow_cast-answer
overflow_cast-answer c =
    let e = ap (λ (r : Reply Figures). r.figures.bytes) c.in-Ok.ensures.told_reply in
    let most : c.in-Ok.f.bytes ≤ most_written = rw e (reply_few _).1 in
    record { fits = omega arith }

pub overflow_cast-answer-in-Ok : goal.overflow_cast-answer-in-Ok
overflow_cast-answer-in-Ok c =
    let e = ap (λ (r : Reply Figures). r.figures.pairs) c.in-Ok.ensures.told_reply in
    let most : c.in-Ok.f.pairs ≤ most_taxa = rw e (reply_few _).2 in
    record { fits = omega arith }

-- a place fits 32 bits
pub refuse-requires-clause-placed : goal.refuse-requires-clause-placed
refuse-requires-clause-placed c = placed_by c.in-Err.ensures.told_reply ((reply_few _).0)
