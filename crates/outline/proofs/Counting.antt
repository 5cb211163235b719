-- Counting the links: one pass over the records, with a place for each record number.
use Rattle.std.specs.Prelude.{if◌then◌else◌}
use Prim.Native.Nat.{ℕ, ◌+◌, ◌*◌, ◌≤◌, ◌<◌}
use mathlib.Core.Path.{◌≡◌, refl, sym, ◌∙◌}
use mathlib.Core.Bool.{Bool, true, false}
use mathlib.Core.List.{List}
use native.Mathlib.Omega.{arith}
use lib.Dec.{eqb, ltb}
use lib.ListN.{length, get_or, set, replicate, length-set, length-replicate, get_or-replicate, get_or-eq_default}
use lib.Seq.{get_or-set_same, get_or-set_other}
use borrow.Author.Tests.{eqb-true, eqb-false, ltb-true, ltb-false}
use Rattle.lists.specs.Lists.{one}
use Rattle.lists.proofs.Bools.{one_le}
use Rattle.lists.proofs.Walk.{Summing, summing_starts, summing_goes, summing_ends}
use Rattle.outline.specs.Outline.{size, records, next, first}
use Rattle.outline.specs.Inner.{numbers, counted, Tally}
use Rattle.outline.specs.Rules.{naming, named, most_records}

module _ (l : List ℕ) (link : ℕ) where
  pub counted_length : length (counted link l) ≡ length l
  unfolding counted
  counted_length = go (ltb link numbers)
    where
      go : (b : Bool) → length (if b then set l link (get_or l link 0 + 1) else l) ≡ length l
      go true = length-set l link (get_or l link 0 + 1)
      go false = refl

  -- a link adds one to its own count, and nothing to another
  counted_at : length l ≡ numbers → (q : ℕ) → q < numbers → get_or (counted link l) q 0 ≡ get_or l q 0 + one (eqb link q)
  unfolding counted
  counted_at long q h = go (ltb link numbers) refl (eqb link q) refl
    where
      go : (b : Bool) → ltb link numbers ≡ b → (t : Bool) → eqb link q ≡ t
          → get_or (if b then set l link (get_or l link 0 + 1) else l) q 0 ≡ get_or l q 0 + one t
      go true e true s = rw (← eqb-true link q s) (get_or-set_same l link (get_or l link 0 + 1) 0 (omega (arith, ltb-true link numbers e)))
      go true e false s =
          get_or-set_other l link q (get_or l link 0 + 1) 0 (λ z. eqb-false link q s (sym z)) ∙ omega arith
      go false e true s = let z = eqb-true link q s in absurd (omega (arith, ltb-false link numbers e))
      go false e false s = omega arith

-- the records before r are counted
pub record Tallying (o : List ℕ) (n r : ℕ) (counts : List ℕ) : Type 0 where
  pub low : 1 ≤ r
  pub long : length counts ≡ numbers
  pub each : (q : ℕ) → q < numbers → Summing 2 (naming o q) n (get_or counts q 0) r

module _ (o : List ℕ) where
  pub tallying_starts : (n : ℕ) → Tallying o n 1 (replicate numbers 0)
  tallying_starts n = record {
    low = omega arith;
    long = length-replicate {A = ℕ} numbers 0;
    each = λ q h. rw (get_or-replicate {A = ℕ} numbers q 0 0 h) (summing_starts (naming o q) n);
  }

  module _ {n r : ℕ} {l : List ℕ} (t : Tallying o n r l) (h : r ≤ n) where
    pub tallying_goes : Tallying o n (r + 1) (counted (first o r) (counted (next o r) l))
    unfolding naming
    tallying_goes = record {
      low = omega (arith, t.low);
      long = counted_length _ _ ∙ counted_length _ _ ∙ t.long;
      each = λ q u.
          let l' = counted (next o r) l in
          let by_next = counted_at l (next o r) t.long q u in
          let by_first = counted_at l' (first o r) (counted_length l (next o r) ∙ t.long) q u in
          let v = one (eqb (next o r) q) + one (eqb (first o r) q) in
          let both : get_or (counted (first o r) l') q 0 ≡ get_or l q 0 + v = omega (arith, by_next, by_first) in
          rw both (summing_goes (naming o q) n (t.each q u) h refl (omega (arith, one_le (eqb (next o r) q), one_le (eqb (first o r) q))));
    }

    -- no count overflows, before and after the first of the record's two links
    pub tallied_small : n ≤ most_records → (q : ℕ) → get_or l q 0 < 2 * most_records
    tallied_small few q = go (ltb q numbers) refl
      where
        go : (b : Bool) → ltb q numbers ≡ b → get_or l q 0 < 2 * most_records
        go true e = omega (arith, (t.each q (ltb-true q numbers e)).small)
        go false e = rw (get_or-eq_default l 0 {n = q} (omega (arith, t.long, ltb-false q numbers e))) (omega arith)

    pub counted_small : n ≤ most_records → (link q : ℕ) → get_or (counted link l) q 0 ≤ 2 * most_records
    counted_small few link q = go (ltb q numbers) refl
      where
        go : (b : Bool) → ltb q numbers ≡ b → get_or (counted link l) q 0 ≤ 2 * most_records
        go true e =
            omega (arith, counted_at l link t.long q (ltb-true q numbers e), tallied_small few q, one_le (eqb link q))
        go false e =
            rw (get_or-eq_default (counted link l) 0 {n = q} (omega (arith, counted_length l link, t.long, ltb-false q numbers e))) (omega arith)

  pub tallying_ends : {r : ℕ} {l : List ℕ} → size o ≤ most_records → Tallying o (size o) r l → size o < r → Tally o l
  unfolding named records
  tallying_ends few t h = record { few = few; each = λ q u. summing_ends (naming o q) (size o) (t.each q u) h }
