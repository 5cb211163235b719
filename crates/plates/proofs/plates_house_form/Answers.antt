-- `plates::plates_house_form` meets its contract.
use Rattle.house.proofs.Bounds.{place_most}
use Rattle.plates.proofs.plates_house_form.Goals as goal

-- a place fits 32 bits
pub tell-requires : goal.tell-requires
tell-requires c = place_most _ c.house_form.ensures
