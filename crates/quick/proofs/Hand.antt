-- One pick: the tests by what the sums say, and the record in hand, record after record.
use Rattle.std.specs.Prelude.{if◌then◌else◌, None, Some}
use Prim.Native.Nat.{ℕ, zero, suc, ◌+◌, ◌≤◌, ◌<◌}
use mathlib.Core.Path.{◌≡◌, refl, sym, ap, ap₂, ◌∙◌}
use mathlib.Core.Bool.{Bool, true, false, ◌||◌, ◌&&◌, not}
use mathlib.Core.List.{List}
use native.Mathlib.Omega.{arith}
use lib.Dec.{eqb, ltb, leb}
use lib.ListN.{get_or}
use borrow.Author.Tests.{eqb-true, eqb-false, ne_eqb, le-leb, lt-leb, leb-true, leb-false}
use Rattle.lists.proofs.Walk.{Folding, folding_starts, folding_goes, folding_ends}
use Rattle.outline.specs.Outline.{size, records, is_taxon}
use Rattle.diversity.specs.Diversity.{chosen, cost}
use Rattle.quick.specs.Quick.{added_cost, can_pick, rather, in_hand, picked}
use Rattle.quick.specs.Inner.{rather_by, pick_of, SumsUpTo, NoSums, Known, KnownAt, HandAt, LookedAt, InHand}
use Rattle.quick.specs.declared.picker.Pick.{Pick}
use Rattle.quick.specs.declared.sums.Sums.{Sums}
use Rattle.quick.proofs.Adding.{sums_start, known_before}
use Rattle.quick.proofs.Taxon.{cost_with}

-- what is at most the room left is, with what is spent, at most both
leb_shift : (c a b : ℕ) → leb a b ≡ leb (c + a) (c + b)
leb_shift c a b = go (leb a b) refl
  where
    go : (t : Bool) → leb a b ≡ t → leb a b ≡ leb (c + a) (c + b)
    go true e = e ∙ sym (le-leb (c + a) (c + b) (omega (arith, leb-true a b e)))
    go false e = e ∙ sym (lt-leb (c + a) (c + b) (omega (arith, leb-false a b e)))

pub can_pick_is : {o s : List ℕ} {sums : Sums} {t : ℕ} → KnownAt o s sums t → (room : ℕ) {a b : Bool} → a ≡ is_taxon o t → b ≡ chosen s t
    → (a && (not b && (leb (get_or sums.costs t 0) room && ltb 0 (get_or sums.added t 0)))) ≡ can_pick o (cost o s + room) s t
unfolding can_pick
can_pick_is {o} {s} {sums} {t} k room e d =
    let cheap = leb_shift (cost o s) (added_cost o s t) room in
    rw (e, d, cost_with o s t, ← cheap, k.known.0, k.known.1) refl

rather_is : (o s : List ℕ) (sums : Sums) (t u : ℕ) → Known o s sums t → Known o s sums u
    → rather_by (get_or sums.added t 0) (get_or sums.added u 0) (get_or sums.costs t 0) (get_or sums.costs u 0) t u ≡ rather o s t u
unfolding rather
rather_is o s sums t u k m = rw (k.0, k.1, m.0, m.1) refl

-- a pick is that of its taxon, which is not 0
pub pick_some : (o s : List ℕ) (t : ℕ) {p : Pick} → Some p ≡ pick_of o s t → (p.taxon ≡ t) × (1 ≤ t) × (p.quarters ≡ added_cost o s t)
pick_some o s t {p} e = go (eqb t 0) refl e
  where
    go : (b : Bool) → eqb t 0 ≡ b → Some p ≡ (if b then None else Some (record { taxon = t; quarters = added_cost o s t }))
        → (p.taxon ≡ t) × (1 ≤ t) × (p.quarters ≡ added_cost o s t)
    go true z h = absurd cc
    go false z h =
        let q : p ≡ record { taxon = t; quarters = added_cost o s t } = cc in
        let d = eqb-false t 0 z in
        (ap (λ (p : Pick). p.taxon) q, omega arith, ap (λ (p : Pick). p.quarters) q)

-- no pick is that of 0
pub pick_none : (o s : List ℕ) (t : ℕ) → None ≡ pick_of o s t → t ≡ 0
pick_none o s t e = go (eqb t 0) _ refl e
  where
    go : (b : Bool) (p : Pick) → eqb t 0 ≡ b → None ≡ (if b then None else Some p) → t ≡ 0
    go true p z h = eqb-true t 0 z
    go false p z h = absurd cc

module _ {o s : List ℕ} {sums : Sums} {hand t : ℕ} (h : HandAt o s sums hand t) where
  -- the test by which a record is taken in hand
  test_is : (b : ℕ) {p r : Bool} → p ≡ can_pick o b s t
      → r ≡ rather_by (get_or sums.added t 0) (get_or sums.added hand 0) (get_or sums.costs t 0) (get_or sums.costs hand 0) t hand
      → (p && (eqb hand 0 || r)) ≡ (can_pick o b s t && (eqb hand 0 || rather o s t hand))
  test_is b {p} {r} e d = by hand refl d
    where
      by : (n : ℕ) → n ≡ hand
          → r ≡ rather_by (get_or sums.added t 0) (get_or sums.added n 0) (get_or sums.costs t 0) (get_or sums.costs n 0) t n
          → (p && (eqb n 0 || r)) ≡ (can_pick o b s t && (eqb n 0 || rather o s t n))
      by zero i d = ap (λ p. p && true) e
      by (suc n) i d =
          ap₂ (λ p r. p && (eqb (suc n) 0 || r)) e (d ∙ rather_is o s sums t (suc n) h.at.known (rw i (h.hand_known (omega arith))))

  module _ (b : ℕ) {p r : Bool} (e : p ≡ can_pick o b s t)
      (d : r ≡ rather_by (get_or sums.added t 0) (get_or sums.added hand 0) (get_or sums.costs t 0) (get_or sums.costs hand 0) t hand) where
    pub hand_taken : (p && (eqb hand 0 || r)) ≡ true → t ≡ in_hand o b s hand t
    unfolding in_hand
    hand_taken z = rw (sym (test_is b e d) ∙ z) refl

    pub hand_kept : (p && (eqb hand 0 || r)) ≡ false → hand ≡ in_hand o b s hand t
    unfolding in_hand
    hand_kept z = rw (sym (test_is b e d) ∙ z) refl

-- a loop's invariant: what is left to look at decides from the record in hand
pub record Choosing (o : List ℕ) (b : ℕ) (s : List ℕ) (sums : Sums) (hand r : ℕ) : Type 0 where
  pub folded : Folding (in_hand o b s) 0 (size o) hand r
  pub hand_before : hand < r
  pub sums_are : SumsUpTo o s r sums

module _ {o : List ℕ} {b : ℕ} {s : List ℕ} where
  pub choosing_starts : {sums : Sums} → NoSums sums → Choosing o b s sums 0 1
  choosing_starts n = record { folded = folding_starts _ _ _; hand_before = omega arith; sums_are = sums_start n }

  pub choosing_goes : {sums new : Sums} {hand r v : ℕ} → Choosing o b s sums hand r → r ≤ size o → LookedAt o s b new hand r v
      → Choosing o b s new v (r + 1)
  choosing_goes {hand = hand} {r = r} h u x = record {
    folded = folding_goes _ _ _ h.folded u x.hand_is;
    hand_before = rw x.hand_is early;
    sums_are = x.sums_are;
  }
    where
      either : (c : Bool) → (if c then r else hand) < r + 1
      either true = omega arith
      either false = omega (arith, h.hand_before)

      early : in_hand o b s hand r < r + 1
      early = unfold in_hand in either (can_pick o b s r && (eqb hand 0 || rather o s r hand))

  pub choosing_ends : {sums : Sums} {hand r : ℕ} → Choosing o b s sums hand r → r ≡ size o + 1 → InHand o b s sums hand
  unfolding picked records
  choosing_ends {sums} {hand} h e = record {
    hand_is = folding_ends _ _ _ h.folded (omega (arith, e));
    hand_most = omega (arith, h.hand_before, e);
    quarters_are = λ l. (known_before h.sums_are hand l h.hand_before).1;
  }

  -- what is in hand is the pick
  module _ {sums : Sums} {hand : ℕ} (h : InHand o b s sums hand) where
    pub hand_none : hand ≡ 0 → None ≡ pick_of o s (picked o b s)
    hand_none z = rw (← h.hand_is, z)

    pub hand_some : (hand ≡ 0 → ⊥) → Some (record { taxon = hand; quarters = get_or sums.costs hand 0 }) ≡ pick_of o s (picked o b s)
    hand_some d = rw (← h.hand_is, ne_eqb hand 0 d, h.quarters_are (omega (arith, d)))
