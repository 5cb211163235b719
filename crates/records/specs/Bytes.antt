-- The bytes of a record that is held as its numbers.
use Rattle.std.specs.Prelude.{ℕ, List}
use Rattle.outline.specs.Outline.{record_bytes}
use Rattle.records.specs.declared.Record.{Record}

-- the sixteen bytes of a record with these fields
abbrev pub bytes_of : Record → List ℕ
bytes_of r = record_bytes r.next r.first r.branch r.price r.plate
