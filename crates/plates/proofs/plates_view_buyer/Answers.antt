-- `plates::plates_view_buyer` meets its contract.
use Rattle.view.proofs.Bounds.{place_most}
use Rattle.plates.proofs.plates_view_buyer.Goals as goal

-- a place fits 32 bits
pub tell-requires : goal.tell-requires
tell-requires c = place_most _ _ c.view_buyer.ensures
