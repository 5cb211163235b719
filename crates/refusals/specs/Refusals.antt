-- What a call is told: a refusal's number and place, or no refusal. Tables of refusals as they are judged, row by row.
use Rattle.std.specs.Prelude.{if◌then◌else◌, ℕ, Bool, List, Result, Ok, Err, eqb}
use Rattle.lists.specs.Lists.{from, lowest, over}
use Rattle.refusals.specs.declared.refusal.Refusal.{Refusal}

-- a refusal's number in the table and its place, or 0 and 0
pub record Ruling : Type 0 where
  pub number : ℕ
  pub place : ℕ

abbrev pub ruling : ℕ → ℕ → Ruling
ruling number place = record { number = number; place = place }

-- no refusal
abbrev pub passed : Ruling
passed = ruling 0 0

-- the number and the place of each refusal; beside it the table's word for it
abbrev pub refusal : Refusal → Ruling
refusal Refusal.UnknownWay = ruling 1 0  -- way
refusal Refusal.PartialRecord = ruling 2 0  -- ragged
refusal Refusal.TooManyRecords = ruling 3 0  -- thick
refusal Refusal.CountTooLarge = ruling 4 0  -- count
refusal (Refusal.FieldOutOfRange r) = ruling 5 r  -- field
refusal (Refusal.BadLink r) = ruling 6 r  -- link
refusal Refusal.TooManyTaxa = ruling 7 0  -- crowd
refusal (Refusal.DuplicatePlate r) = ruling 8 r  -- twin
refusal Refusal.BufferTooShort = ruling 9 0  -- space
refusal Refusal.BadText = ruling 10 0
refusal Refusal.BadPairs = ruling 11 0
refusal Refusal.LockedTooDear = ruling 12 0
refusal (Refusal.Unwritable r) = ruling 13 r
refusal (Refusal.BadMarks r) = ruling 14 r
refusal Refusal.TooManyPicks = ruling 15 0
refusal Refusal.BadRevision = ruling 16 0
refusal (Refusal.BadRange r) = ruling 17 r

-- and of what a judge answers
abbrev pub told : Result Unit Refusal → Ruling
told (Ok _) = passed
told (Err e) = refusal e

-- rows in their order: the first that holds is given
infixr 20 ◌▸◌
abbrev pub ◌▸◌ : Ruling → Ruling → Ruling
a ▸ b = if eqb a.number 0 then b else a

-- a row whose place is 0, by its condition
abbrev pub row : ℕ → Bool → Ruling
row n holds = if holds then ruling n 0 else passed

-- a row whose place is the lowest of so many records at which its condition holds
abbrev pub row_at : ℕ → (ℕ → Bool) → ℕ → Ruling
row_at n holds size =
    let place = lowest holds (from 1 size) in
    if eqb place 0 then passed else ruling n place

-- a lent buffer after a call that is told t: written over from its beginning, and on a refusal unchanged
abbrev pub after : Ruling → List ℕ → List ℕ → List ℕ
after t text buffer = if eqb t.number 0 then over text buffer else buffer
