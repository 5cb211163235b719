-- `outline::rules::bad_field` meets its contract.
use Rattle.outline.specs.Rules.{bad_field}
use Rattle.outline.proofs.rules.bad_field.Goals as goal

pub returns-then-is_taxon : goal.returns-then-is_taxon
unfolding bad_field
returns-then-is_taxon c =
    rw (c.branch_of-long.ensures, c.price_of-dear.ensures, c.plate_of.ensures) (simp (← c.is_taxon.ensures, c.if-is_taxon.true))

pub returns-else-is_taxon : goal.returns-else-is_taxon
unfolding bad_field
returns-else-is_taxon c =
    rw (c.branch_of-long.ensures, c.price_of-dear.ensures, c.plate_field_of.ensures)
    (simp (← c.is_taxon.ensures, c.if-is_taxon.false))
