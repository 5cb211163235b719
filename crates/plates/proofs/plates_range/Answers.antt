-- `plates::plates_range` meets its contract.
use Rattle.refusals.proofs.Replies.{placed_by}
use Rattle.range.proofs.Bounds.{reply_place_most}
use Rattle.plates.proofs.plates_range.Goals as goal

-- a place fits 32 bits
pub refuse-requires-clause-placed : goal.refuse-requires-clause-placed
refuse-requires-clause-placed c = placed_by c.in-Err.ensures.told_reply (reply_place_most _)
