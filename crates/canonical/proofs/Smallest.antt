-- The smallest plate at or below a record is at most each taxon's there and some taxon's; and those of a record and of its members.
use Prim.Native.Nat.{ℕ, zero, suc, ◌+◌, ◌%◌, ◌≤◌, min}
use mathlib.Core.Path.{◌≡◌, refl, sym, ap, subst, ◌∙◌}
use mathlib.Core.Logic.{◌⊎◌, inl, inr}
use mathlib.Core.Bool.{Bool, true, false, ◌||◌, false≢true}
use mathlib.Core.List.{List, [], ◌∷◌, ◌++◌}
use native.Mathlib.Omega.{arith}
use lib.Dec.{eqb, ltb}
use borrow.Author.Tests.{eqb-true, eqb-false, eq-eqb, ltb-true, ltb-false}
use Rattle.lists.specs.Lists.{anywhere}
use Rattle.outline.specs.Outline.{size, next, first, lock_bit, plate, is_taxon, IsRecord}
use Rattle.outline.specs.WellFormed.{Linked, WellFormed}
use Rattle.diversity.specs.Diversity.{chain, clade}
use Rattle.diversity.specs.Paths.{Parent, of_first, OnWay, itself, parent}
use Rattle.laws.proofs.Chains.{chain_step}
use Rattle.laws.proofs.Paths.{in_clade, parent_later, way_earlier, way_most}
use Rattle.laws.proofs.Members.{grow, one_on_way}
use Rattle.canonical.specs.House.{smaller, smallest_of, smallest}
use Rattle.canonical.specs.Rules.{TaxonBelow, SmallestPlate}

-- ---- the smaller of two plates
pub smaller_none : (p : ℕ) → smaller p 0 ≡ p
unfolding smaller
smaller_none zero = refl
smaller_none (suc p) = refl

pub smaller_min : (p q : ℕ) → 1 ≤ p → 1 ≤ q → smaller p q ≡ min p q
unfolding smaller
smaller_min zero q h k = absurd (omega arith)
smaller_min (suc p) zero h k = absurd (omega arith)
smaller_min (suc p) (suc q) h k = refl

pub none_first : {p q : ℕ} → p ≡ 0 → q ≡ smaller p q
unfolding smaller
none_first z = rw z

pub none_second : {p q : ℕ} → q ≡ 0 → p ≡ smaller p q
none_second {p} z = rw z (sym (smaller_none p))

smaller_each : (p q r : ℕ) → smaller (smaller p q) r ≡ smaller p (smaller q r)
unfolding smaller
smaller_each zero q r = refl
smaller_each (suc p) zero r = refl
smaller_each (suc p) (suc q) zero = smaller_none (min (suc p) (suc q))
smaller_each (suc p) (suc q) (suc r) =
    let left = smaller_min (min (suc p) (suc q)) (suc r) (omega arith) (omega arith) in
    let right = smaller_min (suc p) (min (suc q) (suc r)) (omega arith) (omega arith) in
    left ∙ omega arith ∙ sym right

-- where the first is a plate, or the second, so is the smaller
pub smaller_some : (p q : ℕ) → 1 ≤ p + q → 1 ≤ smaller p q
unfolding smaller
smaller_some zero q h = omega arith
smaller_some (suc p) zero h = omega arith
smaller_some (suc p) (suc q) h = omega arith

pub smaller_first : (p q : ℕ) → 1 ≤ p → smaller p q ≤ p
unfolding smaller
smaller_first zero q h = absurd (omega arith)
smaller_first (suc p) zero h = omega arith
smaller_first (suc p) (suc q) h = omega arith

pub smaller_second : (p q : ℕ) → 1 ≤ q → smaller p q ≤ q
unfolding smaller
smaller_second zero q h = omega arith
smaller_second (suc p) zero h = absurd (omega arith)
smaller_second (suc p) (suc q) h = omega arith

pub smaller_is : (p q : ℕ) → (smaller p q ≡ p) ⊎ (smaller p q ≡ q)
unfolding smaller
smaller_is zero q = inr refl
smaller_is (suc p) zero = inl refl
smaller_is (suc p) (suc q) = go (ltb p q) refl
  where
    go : (b : Bool) → ltb p q ≡ b → (min (suc p) (suc q) ≡ suc p) ⊎ (min (suc p) (suc q) ≡ suc q)
    go true e = inl (omega (arith, ltb-true p q e))
    go false e = inr (omega (arith, ltb-false p q e))

-- ---- the smallest of a list
module _ (o : List ℕ) where
  smallest_least : (rs : List ℕ) (t : ℕ) → anywhere (eqb t) rs ≡ true → 1 ≤ plate o t → (1 ≤ smallest_of o rs) × (smallest_of o rs ≤ plate o t)
  unfolding anywhere smallest_of
  smallest_least [] t e h = absurd (false≢true e)
  smallest_least (r ∷ rs) t e h = go (eqb t r) refl e (smallest_least rs t)
    where
      all : ℕ
      all = smallest_of o rs

      go : (b : Bool) → eqb t r ≡ b → b || anywhere (eqb t) rs ≡ true → (anywhere (eqb t) rs ≡ true → 1 ≤ plate o t → (1 ≤ all) × (all ≤ plate o t))
          → (1 ≤ smaller (plate o r) all) × (smaller (plate o r) all ≤ plate o t)
      go true d e ih =
          let same = ap (plate o) (eqb-true t r d) in
          (smaller_some (plate o r) all (omega arith), omega (arith, smaller_first (plate o r) all (omega arith)))
      go false d e ih =
          let k = ih e h in
          (smaller_some (plate o r) all (omega (arith, k.0)), omega (arith, k.1, smaller_second (plate o r) all k.0))

  or_true : {b : Bool} (a : Bool) → b ≡ true → (a || b) ≡ true
  or_true true e = refl
  or_true false e = e

  smallest_taken : (rs : List ℕ) → 1 ≤ smallest_of o rs → (t : ℕ) × (anywhere (eqb t) rs ≡ true) × (plate o t ≡ smallest_of o rs)
  unfolding anywhere smallest_of
  smallest_taken [] h = absurd (omega arith)
  smallest_taken (r ∷ rs) h = go (smaller_is (plate o r) (smallest_of o rs)) (smallest_taken rs)
    where
      go : (smaller (plate o r) (smallest_of o rs) ≡ plate o r) ⊎ (smaller (plate o r) (smallest_of o rs) ≡ smallest_of o rs)
          → (1 ≤ smallest_of o rs → (t : ℕ) × (anywhere (eqb t) rs ≡ true) × (plate o t ≡ smallest_of o rs))
          → (t : ℕ) × ((eqb t r || anywhere (eqb t) rs) ≡ true) × (plate o t ≡ smaller (plate o r) (smallest_of o rs))
      go (inl e) ih = (r, rw (eq-eqb r r refl) refl, sym e)
      go (inr e) ih = let (t, a, k) = ih (omega (arith, e)) in (t, or_true (eqb t r) a, k ∙ sym e)

-- of two lists, one after the other
smallest_append : (o xs ys : List ℕ) → smallest_of o (xs ++ ys) ≡ smaller (smallest_of o xs) (smallest_of o ys)
unfolding smallest_of smaller
smallest_append o [] ys = refl
smallest_append o (x ∷ xs) ys =
    ap (smaller (plate o x)) (smallest_append o xs ys) ∙ sym (smaller_each (plate o x) (smallest_of o xs) (smallest_of o ys))

-- a record, all below it, and the rest of its chain
pub chain_smallest : (o : List ℕ) → Linked o → (r : ℕ) → 1 ≤ r → r ≤ size o
    → smallest_of o (chain (size o) o r) ≡ smaller (smallest o r) (smallest_of o (chain (size o) o (next o r)))
unfolding smallest clade
chain_smallest o linked r l u =
    ap (smallest_of o) (chain_step o linked r l u) ∙ smallest_append o (r ∷ chain (size o) o (first o r)) (chain (size o) o (next o r))

-- a member is a record
pub member_record : (o : List ℕ) → Linked o → {g m : ℕ} → Parent o g m → IsRecord o m
member_record o linked x = let l = parent_later o linked x in record { low = omega (arith, l.0); high = l.1 }

-- ---- of an accepted outline
module _ (o : List ℕ) (formed : WellFormed o) where
  -- a record with a plate is a taxon
  pub plate_taxon : (r : ℕ) → IsRecord o r → 1 ≤ plate o r → is_taxon o r ≡ true
  plate_taxon r i h = go (is_taxon o r) refl
    where
      go : (b : Bool) → is_taxon o r ≡ b → b ≡ true
      go true e = refl
      go false e = let none = (formed.ranged r i.low i.high).group_plate e in absurd (omega (arith, ap (λ n. n % lock_bit) none))

  pub taxon_plate : (r : ℕ) → IsRecord o r → is_taxon o r ≡ true → 1 ≤ plate o r
  taxon_plate r i = (formed.ranged r i.low i.high).taxon_plate

  -- there is a taxon at or below each record
  some_taxon : (r : ℕ) → r ≤ size o → 1 ≤ r → (t : ℕ) × TaxonBelow o r t
  some_taxon = grow o formed.linked (λ r. 1 ≤ r → (t : ℕ) × TaxonBelow o r t) (λ h. absurd (omega arith)) step
    where
      step : (r : ℕ) → IsRecord o r → (1 ≤ first o r → (t : ℕ) × TaxonBelow o (first o r) t) → (1 ≤ next o r → (t : ℕ) × TaxonBelow o (next o r) t)
          → 1 ≤ r → (t : ℕ) × TaxonBelow o r t
      step r i below later h = go (is_taxon o r) refl
        where
          go : (b : Bool) → is_taxon o r ≡ b → (t : ℕ) × TaxonBelow o r t
          go true e = (r, record { record_here = i; taxon_here = e; on_way = itself })
          go false e =
              let some : 1 ≤ first o r = let d = eqb-false (first o r) 0 e in omega arith in
              let (t, b) = below some in
              (t, record { record_here = b.record_here; taxon_here = b.taxon_here; on_way = parent b.on_way (of_first i some) })

  below_in : {r t : ℕ} → IsRecord o r → TaxonBelow o r t → anywhere (eqb t) (clade o r) ≡ true
  below_in {r} {t} i b = (in_clade o formed.linked [] r i t).1 b.on_way

  pub smallest_plate : (r : ℕ) → IsRecord o r → SmallestPlate o r (smallest o r)
  unfolding smallest
  smallest_plate r i = record {
    least = λ t b. (smallest_least o (clade o r) t (below_in i b) (taxon_plate t b.record_here b.taxon_here)).1;
    taken =
        let (s, b) = some_taxon r i.high i.low in
        let some = (smallest_least o (clade o r) s (below_in i b) (taxon_plate s b.record_here b.taxon_here)).0 in
        let (t, a, e) = smallest_taken o (clade o r) some in
        let way = (in_clade o formed.linked [] r i t).0 a in
        let j : IsRecord o t = record { low = omega (arith, way_earlier o formed.linked way, i.low); high = way_most o formed.linked way i.high } in
        (t, record { record_here = j; taxon_here = plate_taxon t j (rw e some); on_way = way }, e);
  }

  -- there is one
  pub smallest_one : {r p q : ℕ} → SmallestPlate o r p → SmallestPlate o r q → p ≡ q
  smallest_one s u =
      let (t, b, e) = s.taken in
      let (v, c, f) = u.taken in
      omega (arith, e, f, s.least v c, u.least t b)

  -- two members of one record differ in it
  pub members_differ : {g q r : ℕ} → Parent o g q → Parent o g r → smallest o q ≡ smallest o r → q ≡ r
  members_differ {g} {q} {r} x y h =
      let (t, b, e) = (smallest_plate q (member_record o formed.linked x)).taken in
      let (u, c, k) = (smallest_plate r (member_record o formed.linked y)).taken in
      let i = b.record_here in
      let j = c.record_here in
      let same : u ≡ t = formed.plates_differ u t j.low j.high i.low i.high c.taxon_here b.taxon_here (omega (arith, e, k, h)) in
      one_on_way o formed.linked x y b.on_way (subst (λ v. OnWay o v r) same c.on_way)
