-- What a table of refusals gives, for any list of rows: the first row that holds, under its condition only, and no other.
use Rattle.std.specs.Prelude.{if◌then◌else◌}
use Prim.Native.Nat.{ℕ, suc}
use mathlib.Core.Path.{◌≡◌, refl, sym, ap, ◌∙◌}
use mathlib.Core.Logic.{◌≢◌, ◌⊎◌, inl, inr}
use mathlib.Core.Bool.{Bool, true, false, ◌&&◌, not, false≢true}
use mathlib.Core.List.{List, [], ◌∷◌, ◌++◌}
use native.Mathlib.Omega.{arith}
use lib.Dec.{eqb, ltb}
use borrow.Author.Tests.{ne_eqb, eqb-true, ltb-true, ltb-false}
use Rattle.lists.proofs.Walk.{Lowest, none, here as lowest_here, lowest_from}
use Rattle.refusals.specs.Refusals.{Ruling, ruling, passed, row, row_at, ◌▸◌}
use Rattle.refusals.specs.Table.{LowestAt, Row, whole, lowest_at, NoRow, end, fails, FirstRow, here, later, Gives, gives_none, gives_first}
use Rattle.refusals.proofs.Tests.{Decides, decides_equal, decides_not, decides_both}

-- ---- one table after another
none_then : {xs ys : List Row} → NoRow xs → NoRow ys → NoRow (xs ++ ys)
none_then end h = h
none_then (fails f g) h = fails f (none_then g h)

none_first : {xs ys : List Row} {n p : ℕ} → NoRow xs → FirstRow ys n p → FirstRow (xs ++ ys) n p
none_first end h = h
none_first (fails f g) h = later f (none_first g h)

first_then : {xs : List Row} (ys : List Row) {n p : ℕ} → FirstRow xs n p → FirstRow (xs ++ ys) n p
first_then ys (here h) = here h
first_then ys (later f h) = later f (first_then ys h)

-- the first of two tables is in the first, or the first holds nowhere
skip_none : {xs ys : List Row} {n p : ℕ} → NoRow xs → FirstRow (xs ++ ys) n p → FirstRow ys n p
skip_none end h = h
skip_none (fails f g) (here h) = absurd (f _ h)
skip_none (fails f g) (later k h) = skip_none g h

in_first : {xs : List Row} (ys : List Row) {n p m q : ℕ} → FirstRow xs n p → FirstRow (xs ++ ys) m q → FirstRow xs m q
in_first ys (here h) (here k) = here k
in_first ys (here h) (later f k) = absurd (f _ h)
in_first ys (later f h) (here k) = absurd (f _ k)
in_first ys (later f h) (later g k) = later f (in_first ys h k)

pub gives_then : {xs ys : List Row} {t u : Ruling} → Gives xs t → Gives ys u → Gives (xs ++ ys) (t ▸ u)
gives_then (gives_none f) (gives_none g) = gives_none (none_then f g)
gives_then (gives_none f) (gives_first l g only) = gives_first l (none_first f g) (λ m q h. only m q (skip_none f h))
gives_then {ys = ys} (gives_first {n} {p} l f only) g =
    rw (ne_eqb n 0 (λ z. omega arith)) (gives_first l (first_then ys f) (λ m q h. only m q (in_first ys f h)))

-- number 0 is no refusal
pub gives_passed : {rows : List Row} {t : Ruling} → Gives rows t → t.number ≡ 0 → t ≡ passed
gives_passed (gives_none f) z = refl
gives_passed (gives_first l f only) z = absurd (omega arith)

-- ---- one row
no_more : {r : Row} {n p : ℕ} → FirstRow (r ∷ []) n p → (n ≡ r.number) × r.holds p
no_more (here h) = (refl, h)
no_more (later _ h) = elim h [ ]

pub gives_whole : (n : ℕ) {C : Type 0} {b : Bool} → Decides C b → Gives (whole (suc n) C ∷ []) (row (suc n) b)
gives_whole n {C} {b = true} d =
    gives_first {n = suc n} (omega arith) (here {r = whole (suc n) C} (refl, d.0 refl)) (λ m q h. let k = no_more h in (k.0, k.1.0))
gives_whole n {C} {b = false} d = gives_none (fails {r = whole (suc n) C} (λ p (e, h). false≢true (d.1 h)) end)

-- there is one lowest record
lowest_one : {size : ℕ} {holds : ℕ → Bool} {p q : ℕ} → LowestAt size holds p → LowestAt size holds q → q ≡ p
lowest_one {p = p} {q} a b = go (ltb p q) (ltb q p) refl refl
  where
    go : (c d : Bool) → ltb p q ≡ c → ltb q p ≡ d → q ≡ p
    go true d e f = absurd (false≢true (sym (b.before p a.low (ltb-true p q e)) ∙ a.here))
    go false true e f = absurd (false≢true (sym (a.before q b.low (ltb-true q p f)) ∙ b.here))
    go false false e f = omega (arith, ltb-false p q e, ltb-false q p f)

pub gives_lowest : (n size : ℕ) (holds : ℕ → Bool) → Gives (lowest_at (suc n) size holds ∷ []) (row_at (suc n) holds size)
gives_lowest n size holds = go (lowest_from holds 1 size)
  where
    go : {v : ℕ} → Lowest holds 1 size v → Gives (lowest_at (suc n) size holds ∷ []) (if eqb v 0 then passed else ruling (suc n) v)
    go (none f) =
        gives_none (fails {r = lowest_at (suc n) size holds} (λ p h. false≢true (sym (f p h.low (omega (arith, h.high))) ∙ h.here)) end)
    go (lowest_here {r} l u t f) =
        let at : LowestAt size holds r = record { low = l; high = omega arith; here = t; before = f } in
        rw (ne_eqb r 0 (λ z. omega arith))
        (gives_first {n = suc n} (omega arith) (here {r = lowest_at (suc n) size holds} at) (λ m q h. let k = no_more h in (k.0, lowest_one at k.1)))

-- the row of every entry point that takes a way of counting
pub gives_way : (way : ℕ) → Gives (whole 1 ((way ≢ 0) × (way ≢ 1)) ∷ []) (row 1 (not (eqb way 0) && not (eqb way 1)))
gives_way way = gives_whole 0 (decides_both (decides_not (decides_equal way 0)) (decides_not (decides_equal way 1)))

-- and where that row does not hold, the way is one of the two
pub two_ways : (way : ℕ) → (not (eqb way 0) && not (eqb way 1)) ≡ false → (way ≡ 0) ⊎ (way ≡ 1)
two_ways way = go (eqb way 0) refl (eqb way 1) refl
  where
    go : (a : Bool) → eqb way 0 ≡ a → (b : Bool) → eqb way 1 ≡ b → (not a && not b) ≡ false → (way ≡ 0) ⊎ (way ≡ 1)
    go true p b q h = inl (eqb-true _ _ p)
    go false p true q h = inr (eqb-true _ _ q)
    go false p false q h = absurd (false≢true (sym h))

-- and the converse
pub known_way : {way : ℕ} → (way ≡ 0) ⊎ (way ≡ 1) → (not (eqb way 0) && not (eqb way 1)) ≡ false
known_way (inl e) = ap (λ way. not (eqb way 0) && not (eqb way 1)) e
known_way (inr e) = ap (λ way. not (eqb way 0) && not (eqb way 1)) e
