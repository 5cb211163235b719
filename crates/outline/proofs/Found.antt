-- What the finder gives: the record of the one taxon that has the plate, where the outline is accepted and there is one.
use Rattle.std.proofs.lemmas.Bool.{and_parts}
use Rattle.std.specs.Prelude.{if◌then◌else◌}
use Prim.Native.Nat.{ℕ, ◌+◌, ◌*◌, ◌-◌, ◌%◌, ◌≤◌, ◌<◌}
use mathlib.Core.Path.{◌≡◌, refl, sym, ap, ◌∙◌}
use mathlib.Core.Bool.{Bool, true, false, false≢true}
use mathlib.Core.List.{List, []}
use mathlib.Core.Logic.{◌↔◌}
use native.Mathlib.Omega.{arith}
use lib.ListN.{length, get_or, take, drop, length-drop}
use lib.Seq.{length-take-le, get_or-take, get_or-drop}
use lib.Dec.{eqb}
use borrow.Author.Tests.{eqb-true, eqb-false, eq-eqb, ne_eqb}
use Rattle.lists.specs.Lists.{lowest}
use Rattle.lists.proofs.Walk.{lowest_none, lowest_holds, lowest_le}
use Rattle.outline.specs.Outline.{short, long, size, records, lock_bit, plate, is_taxon}
use Rattle.outline.specs.Answer.{is_accepted, found_at, found}
use Rattle.outline.specs.WellFormed.{WellFormed}
use Rattle.outline.proofs.WellFormed.{accepted_formed}
use Rattle.outline.specs.Rules.{has_plate, most_records}
use Rattle.outline.specs.Demands.{Holder, Carries}

-- ---- a record's bytes
module _ (o : List ℕ) (formed : WellFormed o) (r : ℕ) (l : 1 ≤ r) (u : r ≤ size o) where
  part : List ℕ
  part = take 16 (drop (16 * (r - 1)) o)

  part_length : length part ≡ 16
  unfolding part
  part_length = length-take-le 16 (drop (16 * (r - 1)) o) (simp length-drop (omega (arith, formed.whole)))

  -- a field of the part is that field of the record
  part_byte : (at : ℕ) → at < 16 → get_or part at 0 ≡ get_or o (16 * (r - 1) + at) 0
  unfolding part
  part_byte at h = get_or-take 16 (drop (16 * (r - 1)) o) at 0 h ∙ get_or-drop (16 * (r - 1)) o at 0

  part_short : (at : ℕ) → at + 1 < 16 → short part at ≡ short o (16 * (r - 1) + at)
  unfolding short
  part_short at h =
      let later : 16 * (r - 1) + (at + 1) ≡ 16 * (r - 1) + at + 1 = omega arith in
      rw (part_byte at (omega arith), part_byte (at + 1) h, later)

  part_long : (at : ℕ) → at + 3 < 16 → long part at ≡ long o (16 * (r - 1) + at)
  unfolding long
  part_long at h =
      let later : 16 * (r - 1) + (at + 2) ≡ 16 * (r - 1) + at + 2 = omega arith in
      rw (part_short at (omega arith), part_short (at + 2) (omega arith), later)

  part_carries : (p : ℕ) → is_taxon o r ≡ true → plate o r ≡ p → Carries p part
  part_carries p t e = record {
    whole = part_length;
    taxon = rw (part_short 2 (omega arith)) t;
    plated = ap (λ k. k % lock_bit) (part_long 12 (omega arith)) ∙ e;
  }

-- ---- the finder
module _ (o : List ℕ) (p : ℕ) where
  -- the lowest record with the plate, 0 if there is none
  at : ℕ
  at = lowest (has_plate o p) (records o)

  at_holds : (at ≡ 0 → ⊥) → (1 ≤ at) × (at ≤ size o) × (is_taxon o at ≡ true) × (plate o at ≡ p)
  unfolding at records has_plate
  at_holds d =
      let (low, high, e) = lowest_holds (has_plate o p) (size o) d in
      let both = and_parts _ _ e in
      (low, high, both.0, eqb-true _ _ both.1)

  -- where a taxon has the plate, the lowest is that one
  at_holder : WellFormed o → (h : Holder o p) → at ≡ h.at
  unfolding at records has_plate
  at_holder formed h = go (eqb at 0) refl
    where
      here : has_plate o p h.at ≡ true
      here = rw h.taxon (eq-eqb _ _ h.plated)

      go : (b : Bool) → eqb at 0 ≡ b → at ≡ h.at
      go true z = absurd (false≢true (sym (lowest_none (has_plate o p) (size o) (eqb-true _ _ z) h.at h.low h.high) ∙ here))
      go false z =
          let (low, high, taxon, plated) = at_holds (eqb-false at 0 z) in
          formed.plates_differ at h.at low high h.low h.high taxon h.taxon (plated ∙ sym h.plated)

  -- the record found is one of the outline's
  pub found_at_le : found_at o p ≤ size o
  unfolding found_at records
  found_at_le = go (is_accepted o)
    where
      go : (a : Bool) → (if a then lowest (has_plate o p) (records o) else 0) ≤ size o
      go true = lowest_le (has_plate o p) (size o)
      go false = omega arith

  pub found_at_most : found_at o p ≤ most_records
  unfolding found_at at
  found_at_most = go (is_accepted o) refl
    where
      go : (a : Bool) → is_accepted o ≡ a → (if a then at else 0) ≤ most_records
      go true e = unfold records in omega (arith, lowest_le (has_plate o p) (size o), (accepted_formed o e).size_most)
      go false e = omega arith

  -- it is the taxon that has the plate, and the part found is its record
  pub found_at_lem : is_accepted o ≡ true → (h : Holder o p) → found_at o p ≡ h.at
  unfolding found_at at
  found_at_lem a h = rw a (at_holder (accepted_formed o a) h)

  pub found_record : is_accepted o ≡ true → (h : Holder o p) → found o p ≡ take 16 (drop (16 * (h.at - 1)) o)
  unfolding found
  found_record a h = rw (found_at_lem a h, ne_eqb h.at 0 (λ z. omega (arith, h.low)))

  pub found_carries : is_accepted o ≡ true → Holder o p → Carries p (found o p)
  unfolding part
  found_carries a h = rw (found_record a h) (part_carries o (accepted_formed o a) h.at h.low h.high p h.taxon h.plated)

  -- it is not empty exactly where the outline is accepted and a taxon has the plate
  pub found_exactly : (0 < length (found o p)) ↔ ((is_accepted o ≡ true) × Holder o p)
  unfolding found found_at at
  found_exactly = (λ h. go (is_accepted o) refl (eqb at 0) refl h, λ (a, h). omega (arith, (found_carries a h).whole))
    where
      go : (a : Bool) → is_accepted o ≡ a → (z : Bool) → eqb at 0 ≡ z
          → 0 < length (if eqb (if a then at else 0) 0 then [] else take 16 (drop (16 * ((if a then at else 0) - 1)) o)) → (is_accepted o ≡ true) × Holder o p
      go true a true z h = absurd (let short = rw z at h in omega arith)
      go true a false z h =
          let (low, high, taxon, plated) = at_holds (eqb-false at 0 z) in
          (a, record { at = at; low = low; high = high; taxon = taxon; plated = plated })
      go false a z e h = absurd (omega arith)

  -- a plate's number has 31 bits: for a greater one there is no record, and the part is empty
  pub found_at_none : lock_bit ≤ p → found_at o p ≡ 0
  unfolding found_at at
  found_at_none h = go (is_accepted o) (eqb at 0) refl
    where
      go : (a z : Bool) → eqb at 0 ≡ z → (if a then at else 0) ≡ 0
      go true true e = eqb-true _ _ e
      go true false e = let (low, high, taxon, plated) = at_holds (eqb-false at 0 e) in absurd (omega (arith, plated))
      go false z e = refl

  pub found_none : lock_bit ≤ p → found o p ≡ []
  unfolding found
  found_none h = rw (found_at_none h)
