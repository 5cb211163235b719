-- An outline: N records of 16 bytes, numbered from 1. Record 1 is the root.
use Rattle.std.specs.Prelude.{ℕ, zero, suc, ◌+◌, ◌*◌, ◌-◌, ◌/◌, ◌%◌, ◌≤◌, Bool, ◌&&◌, List, [], ◌∷◌, ◌++◌, length, get_or, eqb}
use Rattle.lists.specs.Lists.{from}

-- the number of two bytes at a place, least significant byte first
unfoldable pub short : List ℕ → ℕ → ℕ
short o at = get_or o at 0 + 256 * get_or o (at + 1) 0

-- the number of four bytes at a place
unfoldable pub long : List ℕ → ℕ → ℕ
long o at = short o at + 65536 * short o (at + 2)

-- N, the number of records
abbrev pub size : List ℕ → ℕ
size o = length o / 16

-- the records' numbers
unfoldable pub records : List ℕ → List ℕ
records o = from 1 (size o)

-- r is a record's number
pub record IsRecord (o : List ℕ) (r : ℕ) : Type 0 where
  pub low : 1 ≤ r
  pub high : r ≤ size o

-- bytes 0 to 1: the record of the next member under the same heading; 0 ends the chain
abbrev pub next : List ℕ → ℕ → ℕ
next o r = short o (16 * (r - 1))

-- bytes 2 to 3: the record of the first member
abbrev pub first : List ℕ → ℕ → ℕ
first o r = short o (16 * (r - 1) + 2)

-- bytes 4 to 7: the length of the branch above the record
abbrev pub branch : List ℕ → ℕ → ℕ
branch o r = long o (16 * (r - 1) + 4)

-- bytes 8 to 11: the price of a taxon's plate or of a group's heading, in quarters
abbrev pub price : List ℕ → ℕ → ℕ
price o r = long o (16 * (r - 1) + 8)

-- bytes 12 to 15: the plate field
abbrev pub plate_field : List ℕ → ℕ → ℕ
plate_field o r = long o (16 * (r - 1) + 12)

-- bit 31, which locks a taxon
abbrev pub lock_bit : ℕ
lock_bit = 2147483648

-- its lower 31 bits: the plate's number
abbrev pub plate : List ℕ → ℕ → ℕ
plate o r = plate_field o r % lock_bit

-- a first of 0 makes the record a taxon, otherwise it is a group
abbrev pub is_taxon : List ℕ → ℕ → Bool
is_taxon o r = eqb (first o r) 0

-- bit 31 of a taxon's plate field locks it
unfoldable pub locked : List ℕ → ℕ → Bool
locked o r = is_taxon o r && eqb (plate_field o r / lock_bit % 2) 1

-- the k bytes of a number, least significant byte first
unfoldable pub bytes : ℕ → ℕ → List ℕ
bytes zero n = []
bytes (suc k) n = n % 256 ∷ bytes k (n / 256)

-- the 16 bytes of a record with these fields
unfoldable pub record_bytes : ℕ → ℕ → ℕ → ℕ → ℕ → List ℕ
record_bytes next first branch price plate =
    bytes 2 next ++ (bytes 2 first ++ (bytes 4 branch ++ (bytes 4 price ++ bytes 4 plate)))
