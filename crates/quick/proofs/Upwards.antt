-- The table of parents: how it is filled, and that the way it leads is the way up.
use Prim.Native.Nat.{ℕ, ◌+◌, ◌≤◌, ◌<◌}
use mathlib.Core.Path.{◌≡◌, refl}
use mathlib.Core.Logic.{◌⊎◌, inl, inr}
use mathlib.Core.List.{List}
use native.Mathlib.Omega.{arith}
use lib.ListN.{get_or, set}
use Rattle.outline.specs.Outline.{size, next, first, IsRecord}
use Rattle.outline.specs.WellFormed.{Linked, WellFormed}
use Rattle.diversity.specs.Paths.{Parent, of_first, of_next, OnWay, itself as on_itself, parent}
use Rattle.laws.proofs.Handing.{Handing, handing_at, handing_goes, handing_ends}
use Rattle.laws.proofs.Paths.{parent_later, way_earlier}
use Rattle.laws.proofs.Subtrees.{parent_one}
use Rattle.quick.specs.Inner.{Parents, Earlier, Up, itself, onward}

-- ---- filling
-- a loop's invariant: the parents are known of the records that are reached
abbrev pub Climbing : List ℕ → ℕ → List ℕ → Type 0
Climbing o r parents = Handing o (λ q p. Parent o p q) r parents

-- record r is the parent of its first member, and its own parent that of the next
pub climbing_goes : {o : List ℕ} {r : ℕ} {parents : List ℕ} → WellFormed o → Climbing o r parents → r ≤ size o
    → {f n : ℕ} → f ≡ first o r → n ≡ next o r → Climbing o (r + 1) (set (set parents f r) n (get_or parents r 0))
climbing_goes {o} {r} {parents} formed h u {f} {n} ef en =
    let i : IsRecord o r = record { low = h.low; high = u } in
    let up = handing_at h formed.linked u in
    handing_goes h formed u ef en (λ l. rw ef (of_first i (rw ef at l))) (λ l. rw en (of_next up (rw en at l)))

pub climbing_ends : {o : List ℕ} {r : ℕ} {parents : List ℕ} → WellFormed o → Climbing o r parents → size o < r → Parents o parents
climbing_ends formed h past = record { long = h.long; at_record = handing_ends h formed.linked past }

-- ---- the way that a table leads
-- no way goes up from 0
pub none_up : {parents : List ℕ} {r : ℕ} → Up parents 0 r → r ≡ 0
none_up itself = refl
none_up (onward u l) = absurd (omega (arith, none_up u))

-- the way up from a record is the record, and the way up from its parent
pub up_step : {parents : List ℕ} {q r : ℕ} → Up parents q r → (r ≡ q) ⊎ Up parents (get_or parents q 0) r
up_step itself = inl refl
up_step {parents} {q} (onward {q = p} u l) = go (up_step u)
  where
    go : (p ≡ q) ⊎ Up parents (get_or parents q 0) p → (get_or parents p 0 ≡ q) ⊎ Up parents (get_or parents q 0) (get_or parents p 0)
    go (inl e) = inr (rw e itself)
    go (inr v) = inr (onward v l)

-- it leads to no later record
pub up_most : {parents : List ℕ} {n q r : ℕ} → Earlier n parents → q ≤ n → Up parents q r → r ≤ q
up_most e h itself = omega arith
up_most e h (onward {q = p} u l) = let m = up_most e h u in omega (arith, e p l (omega arith))

module _ {o : List ℕ} (linked : Linked o) {parents : List ℕ} (ps : Parents o parents) where
  pub parents_earlier : Earlier (size o) parents
  parents_earlier r l u = (parent_later o linked (ps.at_record r (record { low = l; high = u }))).0

  module _ {t : ℕ} (i : IsRecord o t) where
    pub up_way : {r : ℕ} → Up parents t r → 1 ≤ r → OnWay o t r
    up_way itself l = on_itself
    up_way (onward {q = q} u m) l =
        let w = up_way u m in
        parent w (ps.at_record q (record { low = m; high = omega (arith, way_earlier o linked w, i.high) }))

    pub way_up : {r : ℕ} → OnWay o t r → Up parents t r
    way_up on_itself = itself
    way_up (parent {p = p} {q = q} w y) =
        let q_is : IsRecord o q = record { low = omega (arith, (parent_later o linked y).0); high = omega (arith, way_earlier o linked w, i.high) } in
        rw (parent_one o linked y (ps.at_record q q_is)) (onward (way_up w) q_is.low)
