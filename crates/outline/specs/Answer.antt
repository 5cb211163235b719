-- What the check answers, its rows in their order, and what the finder gives. Neither is lent a buffer: a call is the outline, and the
-- plate to find.
use Rattle.std.specs.Prelude.{if◌then◌else◌, ℕ, ◌-◌, ◌*◌, ◌%◌, Bool, ◌||◌, not, List, [], length, take, drop, eqb, ltb}
use Rattle.lists.specs.Lists.{lowest}
use Rattle.refusals.specs.Refusals.{Ruling, ◌▸◌, row, row_at}
use Rattle.outline.specs.Outline.{size, records}
use Rattle.outline.specs.Rules.{most_records, most_taxa, bad_field, bad_link, taxa, has_plate, is_duplicate}

-- rows 2 and 3
unfoldable pub size_rows : List ℕ → Ruling
size_rows o =
    row 2 (eqb (length o) 0 || not (eqb (length o % 16) 0))
    ▸ row 3 (ltb most_records (size o))

-- rows 5 to 8
unfoldable pub record_rows : List ℕ → Ruling
record_rows o =
    row_at 5 (bad_field o) (size o)
    ▸ row_at 6 (bad_link o) (size o)
    ▸ row 7 (ltb most_taxa (taxa o))
    ▸ row_at 8 (is_duplicate o) (size o)

-- what the check alone gives
unfoldable pub checked : List ℕ → Ruling
checked o = size_rows o ▸ record_rows o

-- no row holds
abbrev pub is_accepted : List ℕ → Bool
is_accepted o = eqb (checked o).number 0

-- the record of the taxon of plate p; 0 if the outline is refused or no taxon has the plate
unfoldable pub found_at : List ℕ → ℕ → ℕ
found_at o p = if is_accepted o then lowest (has_plate o p) (records o) else 0

-- its 16 bytes; none if there is no such record
unfoldable pub found : List ℕ → ℕ → List ℕ
found o p = if eqb (found_at o p) 0 then [] else take 16 (drop (16 * (found_at o p - 1)) o)
