-- Tables that are filled in one pass from the root on: each record hands on what is to be known at its two links.
use Prim.Native.Nat.{ℕ, ◌+◌, ◌≤◌, ◌<◌}
use mathlib.Core.Path.{◌≡◌, refl, sym, ap, ◌∙◌}
use mathlib.Core.Logic.{◌⊎◌, inl, inr}
use mathlib.Core.Bool.{Bool, true, false}
use mathlib.Core.List.{List}
use native.Mathlib.Omega.{arith}
use lib.Dec.{eqb}
use lib.ListN.{length, get_or, set, replicate, length-set, length-replicate, get_or-replicate}
use lib.Seq.{get_or-set_same, get_or-set_other}
use borrow.Author.Tests.{eqb-true, eqb-false}
use Rattle.outline.specs.Inner.{numbers}
use Rattle.outline.specs.Outline.{size, next, first, IsRecord}
use Rattle.outline.specs.WellFormed.{Linked, WellFormed}
use Rattle.laws.proofs.Links.{Namer, by_next, by_first, namer}

-- a number is stored: what is known of it is known at its place, and elsewhere what was known before
pub stored : (P : ℕ → ℕ → Type 0) (l : List ℕ) (i v q : ℕ) → i < length l → P i v → ((q ≡ i → ⊥) → P q (get_or l q 0)) → P q (get_or (set l i v) q 0)
stored P l i v q h p old = go (eqb q i) refl
  where
    go : (b : Bool) → eqb q i ≡ b → P q (get_or (set l i v) q 0)
    go true e = rw (eqb-true q i e, get_or-set_same l i v 0 h) p
    go false e = let d = eqb-false q i e in rw (get_or-set_other l i q v 0 d) (old d)

-- such a table has a number for each link
module _ {o : List ℕ} {r : ℕ} (formed : WellFormed o) (i : IsRecord o r) where
  pub first_inside : first o r < numbers
  first_inside = omega (arith, (formed.linked.first_later r i.low i.high).most, formed.size_most)

  pub next_inside : next o r < numbers
  next_inside = omega (arith, (formed.linked.next_later r i.low i.high).most, formed.size_most)

-- q is record 1, or a link of a record before r names it
pub data Reached (o : List ℕ) (r q : ℕ) : Type 0 where
  root : q ≡ 1 → Reached o r q
  by_link : (p : ℕ) → 1 ≤ p → p < r → (q ≡ first o p) ⊎ (q ≡ next o p) → Reached o r q

-- the records up to r are reached
reached : (o : List ℕ) → Linked o → (r q : ℕ) → q ≤ r → 1 ≤ q → q ≤ size o → Reached o r q
reached o linked r q h l u = go (eqb q 1) refl
  where
    named : Namer o q → Reached o r q
    named (by_next p a b e) = by_link p a (omega arith) (inr (sym e))
    named (by_first p a b e) = by_link p a (omega arith) (inl (sym e))

    go : (b : Bool) → eqb q 1 ≡ b → Reached o r q
    go true e = root (eqb-true q 1 e)
    go false e = let d = eqb-false q 1 e in named (namer o linked q (omega arith) u)

-- what no link of record r names was reached before
reached_before : (o : List ℕ) (r q : ℕ) → (q ≡ first o r → ⊥) → (q ≡ next o r → ⊥) → Reached o (r + 1) q → Reached o r q
reached_before o r q f n (root e) = root e
reached_before o r q f n (by_link p a h e) = go (eqb p r) refl e
  where
    go : (b : Bool) → eqb p r ≡ b → (q ≡ first o p) ⊎ (q ≡ next o p) → Reached o r q
    go true d (inl e) = absurd (f (e ∙ ap (first o) (eqb-true p r d)))
    go true d (inr e) = absurd (n (e ∙ ap (next o) (eqb-true p r d)))
    go false d e = let k = eqb-false p r d in by_link p a (omega arith) e

-- a loop's invariant: the table has P of each record that is reached
pub record Handing (o : List ℕ) (P : ℕ → ℕ → Type 0) (r : ℕ) (table : List ℕ) : Type 0 where
  pub low : 1 ≤ r
  pub long : length table ≡ numbers
  pub known : (q : ℕ) → 1 ≤ q → Reached o r q → P q (get_or table q 0)

module _ {o : List ℕ} {P : ℕ → ℕ → Type 0} where
  -- at first it has P of record 1
  pub handing_starts : {v : ℕ} → P 1 v → Handing o P 1 (replicate numbers v)
  handing_starts {v} p = record {
    low = omega arith;
    long = length-replicate {A = ℕ} numbers v;
    known = λ q l h. only q l h;
  }
    where
      only : (q : ℕ) → 1 ≤ q → Reached o 1 q → P q (get_or (replicate numbers v) q 0)
      only q l (root e) = rw (e, get_or-replicate {A = ℕ} numbers 1 v 0 (omega arith)) p
      only q l (by_link p a b e) = absurd (omega arith)

  module _ {r : ℕ} {table : List ℕ} (h : Handing o P r table) where
    -- record r is reached
    pub handing_at : Linked o → r ≤ size o → P r (get_or table r 0)
    handing_at linked u = h.known r h.low (reached o linked r r (omega arith) h.low u)

    -- it hands on P of its links
    pub handing_goes : WellFormed o → r ≤ size o → {f n x y : ℕ} → f ≡ first o r → n ≡ next o r → (1 ≤ f → P f x) → (1 ≤ n → P n y)
        → Handing o P (r + 1) (set (set table f x) n y)
    handing_goes formed u {f} {n} {x} {y} ef en pf pn =
        let i : IsRecord o r = record { low = h.low; high = u } in
        let fits : f < length table = omega (arith, first_inside formed i, h.long) in
        let long = length-set table f x in
        record {
          low = omega (arith, h.low);
          long = length-set (set table f x) n y ∙ long ∙ h.long;
          known = λ q l t.
              stored (λ q v. 1 ≤ q → P q v) (set table f x) n y q (omega (arith, next_inside formed i, long, h.long)) pn
              (λ dn. stored (λ q v. 1 ≤ q → P q v) table f x q fits pf
              (λ df l. h.known q l (reached_before o r q (λ e. df (e ∙ sym ef)) (λ e. dn (e ∙ sym en)) t)))
              l;
        }

    -- in the end of every record
    pub handing_ends : Linked o → size o < r → (q : ℕ) → IsRecord o q → P q (get_or table q 0)
    handing_ends linked past q i = h.known q i.low (reached o linked r q (omega (arith, i.high)) i.low i.high)
