-- `quick::picker::in_hand` meets its contract.
use Rattle.quick.proofs.Hand.{hand_taken, hand_kept}
use Rattle.quick.proofs.picker.in_hand.Goals as goal

pub returns-then-can_pick-hand : goal.returns-then-can_pick-hand
returns-then-can_pick-hand c = hand_taken c.requires _ c.can_pick.ensures c.rather.ensures c.if-can_pick-hand.true

pub returns-else-can_pick-hand : goal.returns-else-can_pick-hand
returns-else-can_pick-hand c = hand_kept c.requires _ c.can_pick.ensures c.rather.ensures c.if-can_pick-hand.false
