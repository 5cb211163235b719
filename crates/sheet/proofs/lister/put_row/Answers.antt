-- `sheet::lister::put_row` meets its contract.
use Rattle.text.proofs.Writing.{put_nothing}
use Rattle.sheet.proofs.lister.put_row.Goals as goal

pub returns-else-is_chosen : goal.returns-else-is_chosen
returns-else-is_chosen c = rw (← c.is_chosen.ensures, c.if-is_chosen.false) (put_nothing _)
