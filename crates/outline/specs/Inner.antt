-- What the functions behind `check` and `find` speak of: record numbers and counted links.
use Rattle.std.specs.Prelude.{if◌then◌else◌, ℕ, ◌+◌, ◌≤◌, ◌<◌, ◌≡◌, List, ltb, get_or, set}
use Rattle.outline.specs.Outline.{size}
use Rattle.outline.specs.Rules.{named, most_records}

-- record numbers are below this, with 0 for no record
abbrev pub numbers : ℕ
numbers = most_records + 1

-- a table of counts with one more for a link, if the table has a place for it
unfoldable pub counted : ℕ → List ℕ → List ℕ
counted link counts = if ltb link numbers then set counts link (get_or counts link 0 + 1) else counts

-- a table has for each record number how many link fields hold it
pub record Tally (o : List ℕ) (counts : List ℕ) : Type 0 where
  pub few : size o ≤ most_records
  pub each : (q : ℕ) → q < numbers → get_or counts q 0 ≡ named o q
