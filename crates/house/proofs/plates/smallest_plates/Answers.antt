-- `house::plates::smallest_plates` meets its contract: all records are at or below record 1.
use Rattle.std.proofs.Common.{ℕ}
use Rattle.std.proofs.lemmas.List.{length-replicate}
use Rattle.outline.specs.Inner.{numbers}
use Rattle.house.proofs.Entering.{root_entered}
use Rattle.house.proofs.plates.smallest_plates.Goals as goal

pub returns : goal.returns
returns c = root_entered c.requires (length-replicate {A = ℕ} numbers 0) c.enter_smallest.ensures
