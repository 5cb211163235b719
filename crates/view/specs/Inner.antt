-- What the functions behind the two readers speak of.
use Rattle.std.specs.Prelude.{ℕ, List}
use Rattle.text.specs.Written.{LongEnough}
use Rattle.text.specs.declared.Pen.{Pen}
use Rattle.view.specs.View.{buyer_record}
use Rattle.outline.specs.Outline.{IsRecord}

-- r is a record, and a pen has room for it
pub record RecordFits (o : List ℕ) (r : ℕ) (pen : Pen ℕ) : Type 0 where
  pub is_record : IsRecord o r
  pub room : LongEnough (buyer_record o r) pen
