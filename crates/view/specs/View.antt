-- What a house reader and a buyer's reader get of an outline.
use Rattle.std.specs.Prelude.{ℕ, List}
use Rattle.outline.specs.Outline.{records, next, first, branch, plate, record_bytes}
use Rattle.text.specs.Text.{texts}

-- a house reader gets the records as they are
abbrev pub house_view : List ℕ → List ℕ
house_view o = o

-- a buyer's reader gets them with price 0 and bit 31 of the plate field cleared: what is left of the field is the plate
unfoldable pub buyer_record : List ℕ → ℕ → List ℕ
buyer_record o r = record_bytes (next o r) (first o r) (branch o r) 0 (plate o r)

-- every record so, one after the other
unfoldable pub buyer_view : List ℕ → List ℕ
buyer_view o = texts (buyer_record o) (records o)
