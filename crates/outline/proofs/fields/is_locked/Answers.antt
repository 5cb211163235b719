-- `outline::fields::is_locked` meets its contract.
use Rattle.outline.specs.Outline.{locked}
use Rattle.outline.proofs.fields.is_locked.Goals as goal

pub returns : goal.returns
unfolding locked
returns c = rw (c.is_taxon.ensures, c.plate_field_of.ensures)
