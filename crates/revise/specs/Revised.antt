-- An outline with another length of one record.
use Rattle.std.specs.Prelude.{ℕ, ◌+◌, ◌*◌, ◌-◌, List, ◌++◌, take, drop}
use Rattle.outline.specs.Outline.{bytes}

-- where the length of record r stands, four bytes
abbrev pub length_place : ℕ → ℕ
length_place r = 16 * (r - 1) + 4

-- the outline with these four bytes of record r replaced by those of the length n
unfoldable pub revised : List ℕ → ℕ → ℕ → List ℕ
revised o r n = take (length_place r) o ++ (bytes 4 n ++ drop (length_place r + 4) o)
