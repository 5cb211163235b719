-- `outline::rules::has_plate` meets its contract.
use Rattle.std.proofs.Math.Bool.{and-false, and-true}
use Rattle.std.proofs.Common.{eq-eqb, ne_eqb}
use Rattle.outline.specs.Rules.{has_plate}
use Rattle.outline.proofs.rules.has_plate.Goals as goal

pub returns-then-plate_of-plate : goal.returns-then-plate_of-plate
unfolding has_plate
returns-then-plate_of-plate c = simp (← c.plate_of.ensures, eq-eqb _ _ c.if-plate_of-plate.true, ← c.is_taxon.ensures, and-true)

pub returns-else-plate_of-plate : goal.returns-else-plate_of-plate
unfolding has_plate
returns-else-plate_of-plate c = simp (← c.plate_of.ensures, ne_eqb _ _ c.if-plate_of-plate.false, and-false)
