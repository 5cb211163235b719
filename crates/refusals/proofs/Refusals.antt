-- The numbers of refusals, and rows of a table of which none is given.
use Rattle.std.specs.Prelude.{if◌then◌else◌, Option, Some, None, Result, Ok, Err, is_ok, IsErrAnd}
use Rattle.std.proofs.lemmas.Result.{err_from_is_err_and}
use Prim.Native.Nat.{ℕ, suc, ◌≤◌}
use mathlib.Core.Path.{◌≡◌, refl, sym, ap, ◌∙◌}
use mathlib.Core.Bool.{Bool, true, false}
use native.Mathlib.Omega.{arith}
use lib.Dec.{eqb}
use borrow.Author.Tests.{eq-eqb, ne_eqb, eqb-true, eqb-false}
use Rattle.lists.specs.Lists.{from, lowest, nonzero}
use Rattle.lists.proofs.Walk.{none_lowest}
use Rattle.refusals.specs.Refusals.{Ruling, ruling, passed, refusal, told, ◌▸◌, row, row_at}
use Rattle.refusals.specs.declared.refusal.Refusal.{Refusal}

-- every refusal has a number of the table
pub refusal_numbered : (e : Refusal) → 1 ≤ (refusal e).number
refusal_numbered Refusal.UnknownWay = omega arith
refusal_numbered Refusal.PartialRecord = omega arith
refusal_numbered Refusal.TooManyRecords = omega arith
refusal_numbered Refusal.CountTooLarge = omega arith
refusal_numbered (Refusal.FieldOutOfRange r) = omega arith
refusal_numbered (Refusal.BadLink r) = omega arith
refusal_numbered Refusal.TooManyTaxa = omega arith
refusal_numbered (Refusal.DuplicatePlate r) = omega arith
refusal_numbered Refusal.BufferTooShort = omega arith
refusal_numbered Refusal.BadText = omega arith
refusal_numbered Refusal.BadPairs = omega arith
refusal_numbered Refusal.LockedTooDear = omega arith
refusal_numbered (Refusal.Unwritable r) = omega arith
refusal_numbered (Refusal.BadMarks r) = omega arith
refusal_numbered Refusal.TooManyPicks = omega arith
refusal_numbered Refusal.BadRevision = omega arith
refusal_numbered (Refusal.BadRange r) = omega arith

pub refusal_not_zero : (e : Refusal) → eqb (refusal e).number 0 ≡ false
refusal_not_zero e = ne_eqb (refusal e).number 0 (λ z. omega (arith, refusal_numbered e))

-- rows that pass have the number 0, and a refusal has not
pub passed_zero : {t : Ruling} → passed ≡ t → t.number ≡ 0
passed_zero e = ap (λ (t : Ruling). t.number) (sym e)

pub refused_not_zero : (e : Refusal) {t : Ruling} → refusal e ≡ t → eqb t.number 0 ≡ false
refused_not_zero e h = ap (λ (t : Ruling). eqb t.number 0) (sym h) ∙ refusal_not_zero e

-- what a judge tells has the number 0 exactly if it answers no refusal
pub zero_if_ok : (r : Result Unit Refusal) → eqb (told r).number 0 ≡ is_ok r
zero_if_ok (Ok _) = refl
zero_if_ok (Err e) = refusal_not_zero e

-- the refusal that has a number and a place
refusal_at : Ruling → Refusal
refusal_at t =
    if eqb t.number 1 then Refusal.UnknownWay
    else (if eqb t.number 2 then Refusal.PartialRecord
    else (if eqb t.number 3 then Refusal.TooManyRecords
    else (if eqb t.number 4 then Refusal.CountTooLarge
    else (if eqb t.number 5 then Refusal.FieldOutOfRange t.place
    else (if eqb t.number 6 then Refusal.BadLink t.place
    else (if eqb t.number 7 then Refusal.TooManyTaxa
    else (if eqb t.number 8 then Refusal.DuplicatePlate t.place
    else (if eqb t.number 9 then Refusal.BufferTooShort
    else (if eqb t.number 10 then Refusal.BadText
    else (if eqb t.number 11 then Refusal.BadPairs
    else (if eqb t.number 12 then Refusal.LockedTooDear
    else (if eqb t.number 13 then Refusal.Unwritable t.place
    else (if eqb t.number 14 then Refusal.BadMarks t.place
    else (if eqb t.number 15 then Refusal.TooManyPicks
    else (if eqb t.number 16 then Refusal.BadRevision else Refusal.BadRange t.place)))))))))))))))

refusal_at_lem : (e : Refusal) → refusal_at (refusal e) ≡ e
unfolding refusal_at
refusal_at_lem Refusal.UnknownWay = refl
refusal_at_lem Refusal.PartialRecord = refl
refusal_at_lem Refusal.TooManyRecords = refl
refusal_at_lem Refusal.CountTooLarge = refl
refusal_at_lem (Refusal.FieldOutOfRange r) = refl
refusal_at_lem (Refusal.BadLink r) = refl
refusal_at_lem Refusal.TooManyTaxa = refl
refusal_at_lem (Refusal.DuplicatePlate r) = refl
refusal_at_lem Refusal.BufferTooShort = refl
refusal_at_lem Refusal.BadText = refl
refusal_at_lem Refusal.BadPairs = refl
refusal_at_lem Refusal.LockedTooDear = refl
refusal_at_lem (Refusal.Unwritable r) = refl
refusal_at_lem (Refusal.BadMarks r) = refl
refusal_at_lem Refusal.TooManyPicks = refl
refusal_at_lem Refusal.BadRevision = refl
refusal_at_lem (Refusal.BadRange r) = refl

-- the number and the place determine the refusal
pub refusal_determined : (d e : Refusal) → refusal d ≡ refusal e → d ≡ e
refusal_determined d e h = sym (refusal_at_lem d) ∙ ap refusal_at h ∙ refusal_at_lem e

-- and what a judge answers
pub told_determined : (u v : Result Unit Refusal) → told u ≡ told v → u ≡ v
told_determined (Ok _) (Ok _) h = refl
told_determined (Ok _) (Err e) h =
    let z : 0 ≡ (refusal e).number = ap (λ (t : Ruling). t.number) h in
    absurd (omega (arith, refusal_numbered e))
told_determined (Err d) (Ok _) h =
    let z : (refusal d).number ≡ 0 = ap (λ (t : Ruling). t.number) h in
    absurd (omega (arith, refusal_numbered d))
told_determined (Err d) (Err e) h = ap Err (refusal_determined d e h)

-- what a `?` hands on is the error that it met
pub handed_on : {T E : Type 0} {e : E} (r : Result T E) → IsErrAnd r (λ d. d ≡ e) → r ≡ Err e
handed_on r h = let p = err_from_is_err_and r h in rw p.2 at p.1

-- rows one after the other, in whatever parts
pub then_assoc : (a b c : Ruling) → ((a ▸ b) ▸ c) ≡ (a ▸ (b ▸ c))
then_assoc a b c = go (eqb a.number 0) refl
  where
    go : (t : Bool) → eqb a.number 0 ≡ t → (if eqb (if t then b else a).number 0 then c else (if t then b else a)) ≡ (if t then (b ▸ c) else a)
    go true e = refl
    go false e = rw e

-- where rows pass, each of them passes
pub both_pass : (a b : Ruling) → (a ▸ b).number ≡ 0 → (a.number ≡ 0) × (b.number ≡ 0)
both_pass a b h = go (eqb a.number 0) refl h
  where
    go : (t : Bool) → eqb a.number 0 ≡ t → (if t then b else a).number ≡ 0 → (a.number ≡ 0) × (b.number ≡ 0)
    go true e z = (eqb-true _ _ e, z)
    go false e z = absurd (eqb-false _ _ e z)

-- a row that passes has a condition that fails
pub row_fails : (n : ℕ) (holds : Bool) → (row (suc n) holds).number ≡ 0 → holds ≡ false
row_fails n true z = absurd (omega arith)
row_fails n false z = refl

pub row_at_fails : (n : ℕ) (holds : ℕ → Bool) (size : ℕ) → (row_at (suc n) holds size).number ≡ 0 → lowest holds (from 1 size) ≡ 0
row_at_fails n holds size z = go (eqb (lowest holds (from 1 size)) 0) refl z
  where
    go : (t : Bool) → eqb (lowest holds (from 1 size)) 0 ≡ t
        → (if t then passed else ruling (suc n) (lowest holds (from 1 size))).number ≡ 0 → lowest holds (from 1 size) ≡ 0
    go true e z = eqb-true _ _ e
    go false e z = absurd (omega arith)

-- a row by what the search for its place finds
module _ (n : ℕ) (holds : ℕ → Bool) (size : ℕ) {v : Option ℕ} where
  pub row_at_found : {r : ℕ} → v ≡ Some r → v ≡ nonzero (lowest holds (from 1 size)) → row_at n holds size ≡ ruling n r
  row_at_found {r} is e = go (eqb (lowest holds (from 1 size)) 0) (sym is ∙ e)
    where
      go : (t : Bool) → Some r ≡ (if t then None else Some (lowest holds (from 1 size)))
          → (if t then passed else ruling n (lowest holds (from 1 size))) ≡ ruling n r
      go true h = absurd cc
      go false h = let p : r ≡ lowest holds (from 1 size) = cc in rw p

  pub row_at_passed : v ≡ None → v ≡ nonzero (lowest holds (from 1 size)) → row_at n holds size ≡ passed
  row_at_passed is e = go (eqb (lowest holds (from 1 size)) 0) (sym is ∙ e)
    where
      go : (t : Bool) → None ≡ (if t then None else Some (lowest holds (from 1 size)))
          → (if t then passed else ruling n (lowest holds (from 1 size))) ≡ passed
      go true h = refl
      go false h = absurd cc

-- the converse: rows that pass, and a row whose condition fails
pub both_passes : (a b : Ruling) → a.number ≡ 0 → b.number ≡ 0 → (a ▸ b).number ≡ 0
both_passes a b e d = ap (λ t. (if t then b else a).number) (eq-eqb a.number 0 e) ∙ d

pub row_passes : (n : ℕ) (holds : Bool) → holds ≡ false → (row n holds).number ≡ 0
row_passes n holds e = ap (λ b. (row n b).number) e

pub row_at_passes : (n : ℕ) (holds : ℕ → Bool) (size : ℕ) → ((r : ℕ) → 1 ≤ r → r ≤ size → holds r ≡ false) → (row_at n holds size).number ≡ 0
row_at_passes n holds size f = ap (λ p. (if eqb p 0 then passed else ruling n p).number) (none_lowest holds size f)
