-- Where the records of a forest stand when it is written in text order.
use Rattle.std.specs.Prelude.{if◌then◌else◌}
use Prim.Native.Nat.{ℕ, ◌+◌, ◌≤◌, ◌<◌}
use mathlib.Core.Path.{◌≡◌, refl, ap, ap₂, ◌∙◌}
use mathlib.Core.Bool.{Bool, true, false}
use native.Mathlib.Omega.{arith}
use lib.Dec.{eqb, ltb}
use borrow.Author.Tests.{eqb-true, eqb-false, eq-eqb, ne_eqb, ltb-true, ltb-false, lt-ltb}
use Rattle.lists.specs.Lists.{one}
use Rattle.laws.specs.Forest.{Forest, empty, node, records_in, count_in}
use Rattle.laws.proofs.Members.{Root}
use Rattle.canonical.proofs.Sorting.{Ranked, ranked_none, ranked_more, All, all_none, all_more}

-- record r, with its members and the rest of its chain, gets number j where a forest is written from number k on
pub data At : Forest → ℕ → ℕ → ℕ → Forest → Forest → Type 0 where
  at_here : {k r : ℕ} {f n : Forest} → At (node r f n) k k r f n
  at_below : {k j r q : ℕ} {f n g m : Forest} → At f (k + 1) j r g m → At (node q f n) k j r g m
  at_rest : {k j r q : ℕ} {f n g m : Forest} → At n (k + 1 + records_in f) j r g m → At (node q f n) k j r g m

-- it and what follows it are within the forest's numbers
pub record Within (k : ℕ) (F : Forest) (j : ℕ) (g m : Forest) : Type 0 where
  pub low : k ≤ j
  pub high : j + 1 + records_in g + records_in m ≤ k + records_in F

pub at_range : {F g m : Forest} {k j r : ℕ} → At F k j r g m → Within k F j g m
at_range at_here = record { low = omega arith; high = omega arith }
at_range (at_below a) = let w = at_range a in record { low = omega (arith, w.low); high = omega (arith, w.high) }
at_range (at_rest a) = let w = at_range a in record { low = omega (arith, w.low); high = omega (arith, w.high) }

-- the first of its members comes next, and the next of its chain after all below it
pub at_member : {F g m n : Forest} {k j r q : ℕ} → At F k j r (node q g m) n → At F k (j + 1) q g m
at_member at_here = at_below at_here
at_member (at_below a) = at_below (at_member a)
at_member (at_rest a) = at_rest (at_member a)

pub at_next : {F f g m : Forest} {k j r q : ℕ} → At F k j r f (node q g m) → At F k (j + 1 + records_in f) q g m
at_next at_here = at_rest at_here
at_next (at_below a) = at_below (at_next a)
at_next (at_rest a) = at_rest (at_next a)

-- what each record with its members has
pub at_all : {P : ℕ → Forest → Type 0} {F g m : Forest} {k j r : ℕ} → All P F → At F k j r g m → P r g
at_all all_none a = elim a [ ]
at_all (all_more x b c) at_here = x
at_all (all_more x b c) (at_below a) = at_all b a
at_all (all_more x b c) (at_rest a) = at_all c a

-- those that follow it in its chain have more
pub at_ranked : {key : ℕ → ℕ} {F g m : Forest} {k j r : ℕ} → Ranked key F → At F k j r g m → (q : ℕ) → Root q m → key r < key q
at_ranked ranked_none a = elim a [ ]
at_ranked (ranked_more x y z) at_here = z
at_ranked (ranked_more x y z) (at_below a) = at_ranked x a
at_ranked (ranked_more x y z) (at_rest a) = at_ranked y a

at_count : {F g m : Forest} {k j r : ℕ} → At F k j r g m → 1 ≤ count_in r F
at_count (at_here {r = r}) = omega (arith, ap one (eq-eqb r r refl))
at_count (at_below a) = omega (arith, at_count a)
at_count (at_rest a) = omega (arith, at_count a)

-- ---- the record that gets number j, and the number that record r gets; 0 if there is none
pub record_at : Forest → ℕ → ℕ → ℕ
record_at empty k j = 0
record_at (node r f n) k j =
    if eqb j k then r
    else (if ltb j (k + 1 + records_in f) then record_at f (k + 1) j else record_at n (k + 1 + records_in f) j)

pub place_of : Forest → ℕ → ℕ → ℕ
place_of empty k r = 0
place_of (node q f n) k r =
    if eqb r q then k
    else (if ltb 0 (count_in r f) then place_of f (k + 1) r else place_of n (k + 1 + records_in f) r)

-- a record stands at a number
abbrev pub Stands : Forest → ℕ → ℕ → ℕ → Type 0
Stands F k j r = (g m : Forest) × At F k j r g m

stands_below : {f n : Forest} {k j r q : ℕ} → Stands f (k + 1) j r → Stands (node q f n) k j r
stands_below (g, m, a) = (g, m, at_below a)

stands_rest : {f n : Forest} {k j r q : ℕ} → Stands n (k + 1 + records_in f) j r → Stands (node q f n) k j r
stands_rest (g, m, a) = (g, m, at_rest a)

pub record_stands : (F : Forest) (k j : ℕ) → k ≤ j → j < k + records_in F → Stands F k j (record_at F k j)
unfolding record_at
record_stands empty k j l u = absurd (omega arith)
record_stands (node r f n) k j l u =
    go (eqb j k) refl (ltb j (k + 1 + records_in f)) refl (record_stands f (k + 1) j) (record_stands n (k + 1 + records_in f) j)
  where
    end : ℕ
    end = k + 1 + records_in f

    go : (a : Bool) → eqb j k ≡ a → (b : Bool) → ltb j end ≡ b → (k + 1 ≤ j → j < end → Stands f (k + 1) j (record_at f (k + 1) j))
        → (end ≤ j → j < end + records_in n → Stands n end j (record_at n end j))
        → Stands (node r f n) k j (if a then r else (if b then record_at f (k + 1) j else record_at n end j))
    go true e b d below rest = rw (eqb-true j k e) (f, n, at_here)
    go false e true d below rest = let x = eqb-false j k e in stands_below (below (omega arith) (ltb-true j end d))
    go false e false d below rest = stands_rest (rest (ltb-false j end d) (omega arith))

pub place_stands : (F : Forest) (k r : ℕ) → 1 ≤ count_in r F → Stands F k (place_of F k r) r
unfolding place_of
place_stands empty k r h = absurd (omega arith)
place_stands (node q f n) k r h = go (eqb r q) refl (ltb 0 (count_in r f)) refl (place_stands f (k + 1) r) (place_stands n (k + 1 + records_in f) r)
  where
    end : ℕ
    end = k + 1 + records_in f

    go : (a : Bool) → eqb r q ≡ a → (b : Bool) → ltb 0 (count_in r f) ≡ b → (1 ≤ count_in r f → Stands f (k + 1) (place_of f (k + 1) r) r)
        → (1 ≤ count_in r n → Stands n end (place_of n end r) r)
        → Stands (node q f n) k (if a then k else (if b then place_of f (k + 1) r else place_of n end r)) r
    go true e b d below rest = rw (eqb-true r q e) (f, n, at_here)
    go false e true d below rest = stands_below (below (ltb-true 0 (count_in r f) d))
    go false e false d below rest = stands_rest (rest (omega (arith, h, ap one e, ltb-false 0 (count_in r f) d)))

-- no record gets a number before the first
pub none_before : (F : Forest) (k j : ℕ) → j < k → record_at F k j ≡ 0
unfolding record_at
none_before empty k j h = refl
none_before (node r f n) k j h =
    ap₂ (λ a b. if a then r else (if b then record_at f (k + 1) j else record_at n (k + 1 + records_in f) j))
    (ne_eqb j k (λ e. omega arith))
    (lt-ltb j (k + 1 + records_in f) (omega arith))
    ∙ none_before f (k + 1) j (omega arith)

-- ---- one record at each number, and one number for each record that the forest has once
pub one_record : {F g m a b : Forest} {k i j r q : ℕ} → At F k i r g m → At F k j q a b → i ≡ j → r ≡ q
one_record at_here at_here e = refl
one_record at_here (at_below y) e = absurd (omega (arith, (at_range y).low))
one_record at_here (at_rest y) e = absurd (omega (arith, (at_range y).low))
one_record (at_below x) at_here e = absurd (omega (arith, (at_range x).low))
one_record (at_below x) (at_below y) e = one_record x y e
one_record (at_below x) (at_rest y) e = absurd (omega (arith, (at_range x).high, (at_range y).low))
one_record (at_rest x) at_here e = absurd (omega (arith, (at_range x).low))
one_record (at_rest x) (at_below y) e = absurd (omega (arith, (at_range x).low, (at_range y).high))
one_record (at_rest x) (at_rest y) e = one_record x y e

pub one_place : {F g m a b : Forest} {k i j r q : ℕ} → At F k i r g m → At F k j q a b → r ≡ q → count_in r F ≤ 1 → i ≡ j
one_place at_here at_here e h = refl
one_place (at_here {r = r} {f = f}) (at_below y) e h = absurd (omega (arith, h, at_count y, ap (λ t. count_in t f) e, ap one (eq-eqb r r refl)))
one_place (at_here {r = r} {n = n}) (at_rest y) e h = absurd (omega (arith, h, at_count y, ap (λ t. count_in t n) e, ap one (eq-eqb r r refl)))
one_place (at_below {r = r} {q = q} x) at_here e h = absurd (omega (arith, h, at_count x, ap one (eq-eqb r q e)))
one_place (at_below x) (at_below y) e h = one_place x y e (omega arith)
one_place (at_below x) (at_rest {n = n} y) e h = absurd (omega (arith, h, at_count x, at_count y, ap (λ t. count_in t n) e))
one_place (at_rest {r = r} {q = q} x) at_here e h = absurd (omega (arith, h, at_count x, ap one (eq-eqb r q e)))
one_place (at_rest x) (at_below {f = f} y) e h = absurd (omega (arith, h, at_count x, at_count y, ap (λ t. count_in t f) e))
one_place (at_rest x) (at_rest y) e h = one_place x y e (omega arith)
