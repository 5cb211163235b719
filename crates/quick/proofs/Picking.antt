-- The picks: each is the one that the rule names, the set fits, more picks never lower its diversity, and how many there are.
use Rattle.std.proofs.lemmas.Bool.{and_parts}
use Rattle.std.specs.Prelude.{if◌then◌else◌}
use Prim.Native.Nat.{ℕ, zero, suc, ◌+◌, ◌-◌, ◌≤◌, ◌<◌}
use mathlib.Core.Path.{◌≡◌, refl, sym, ap, subst, ◌∙◌}
use mathlib.Core.Logic.{◌⊎◌, inl, inr}
use mathlib.Core.Bool.{Bool, true, false, ◌||◌, ◌&&◌, not, false≢true}
use mathlib.Core.List.{List, foldl}
use native.Mathlib.Omega.{arith}
use lib.Dec.{eqb, ltb, leb}
use borrow.Author.Tests.{eqb-true, eqb-false, ne_eqb, eq-eqb, ltb-true, ltb-false, leb-true, not-true}
use Rattle.lists.specs.Lists.{from}
use Rattle.outline.specs.Outline.{size, records, is_taxon, IsRecord}
use Rattle.diversity.specs.Diversity.{chosen, diversity, cost, chosen_taxa}
use Rattle.diversity.specs.Behind.{IsSet, Fits}
use Rattle.laws.specs.Locks.{locked_set}
use Rattle.laws.proofs.Locks.{held_each, locked_is_set, locked_set_holds}
use Rattle.laws.proofs.More.{Implies, diversity_more}
use Rattle.quick.specs.Quick.{with_taxon, added, added_cost, can_pick, rather, in_hand, picked, after_picks, quick}
use Rattle.quick.specs.Demands.{Rather, more_added, fewer_quarters, lower_record, IsPick, no_pick, a_pick}
use Rattle.quick.proofs.Taxon.{taxon_more, with_set, taxa_with}

-- ---- the order of picks
-- what its test says of t and u
abbrev Says : List ℕ → List ℕ → ℕ → ℕ → Bool → Type 0
Says o s t u true = Rather o s t u
Says o s t u false = (u ≡ t) ⊎ Rather o s u t

module _ (o s : List ℕ) where
  rather_trans : {t u v : ℕ} → Rather o s t u → Rather o s u v → Rather o s t v
  rather_trans (more_added p) (more_added q) = more_added (omega arith)
  rather_trans (more_added p) (fewer_quarters d q) = more_added (omega arith)
  rather_trans (more_added p) (lower_record d c q) = more_added (omega arith)
  rather_trans (fewer_quarters e p) (more_added q) = more_added (omega arith)
  rather_trans (fewer_quarters e p) (fewer_quarters d q) = fewer_quarters (omega arith) (omega arith)
  rather_trans (fewer_quarters e p) (lower_record d c q) = fewer_quarters (omega arith) (omega arith)
  rather_trans (lower_record e f p) (more_added q) = more_added (omega arith)
  rather_trans (lower_record e f p) (fewer_quarters d q) = fewer_quarters (omega arith) (omega arith)
  rather_trans (lower_record e f p) (lower_record d c q) = lower_record (omega arith) (omega arith) (omega arith)

  rather_says : (t u : ℕ) → Says o s t u (rather o s t u)
  unfolding rather
  rather_says t u = go _ _ _ _ _ refl refl refl refl refl
    where
      last : added o s t ≡ added o s u → added_cost o s t ≡ added_cost o s u → u ≤ t → (b : Bool) → eqb u t ≡ b → (u ≡ t) ⊎ Rather o s u t
      last d c l true e = inl (eqb-true u t e)
      last d c l false e = let ne = eqb-false u t e in inr (lower_record (sym d) (sym c) (omega arith))

      go : (a b c d e : Bool) → ltb (added o s u) (added o s t) ≡ a → eqb (added o s t) (added o s u) ≡ b
          → ltb (added_cost o s t) (added_cost o s u) ≡ c → eqb (added_cost o s t) (added_cost o s u) ≡ d → ltb t u ≡ e
          → Says o s t u (a || (b && (c || (d && e))))
      go true b c d e p q r x y = more_added (ltb-true _ _ p)
      go false true true d e p q r x y = fewer_quarters (eqb-true _ _ q) (ltb-true _ _ r)
      go false true false true true p q r x y = lower_record (eqb-true _ _ q) (eqb-true _ _ x) (ltb-true _ _ y)
      go false true false true false p q r x y = last (eqb-true _ _ q) (eqb-true _ _ x) (ltb-false _ _ y) (eqb u t) refl
      go false true false false e p q r x y =
          let ne = eqb-false (added_cost o s t) (added_cost o s u) x in
          inr (fewer_quarters (sym (eqb-true _ _ q)) (omega (arith, ltb-false (added_cost o s t) (added_cost o s u) r)))
      go false false c d e p q r x y =
          let ne = eqb-false (added o s t) (added o s u) q in
          inr (more_added (omega (arith, ltb-false (added o s u) (added o s t) p)))

-- ---- one pick
module _ (o : List ℕ) (b : ℕ) (s : List ℕ) where
  -- a record up to n + 1 is up to n, or is n + 1
  up_to_cases : {A : Type 0} (n u : ℕ) → u ≤ suc n → (u ≤ n → A) → (u ≡ suc n → A) → A
  up_to_cases {A} n u h f g = by (eqb u (suc n)) refl
    where
      by : (c : Bool) → eqb u (suc n) ≡ c → A
      by true e = g (eqb-true u (suc n) e)
      by false e = let ne = eqb-false u (suc n) e in f (omega arith)

  hand_step : (n hand : ℕ) → IsPick o b s n hand → IsPick o b s (suc n) (in_hand o b s hand (suc n))
  unfolding in_hand
  hand_step n hand i = go (can_pick o b s (suc n)) refl i
    where
      at_last : {u : ℕ} {c : Bool} → can_pick o b s (suc n) ≡ c → u ≡ suc n → can_pick o b s u ≡ c
      at_last e d = ap (can_pick o b s) d ∙ e

      go : (c : Bool) → can_pick o b s (suc n) ≡ c → IsPick o b s n hand
          → IsPick o b s (suc n) (if c && (eqb hand 0 || rather o s (suc n) hand) then suc n else hand)
      go false e (no_pick z f) = no_pick z (λ u l h. up_to_cases n u h (f u l) (at_last e))
      go false e (a_pick l h c best) =
          a_pick l (omega arith) c (λ u m k d ne. up_to_cases n u k (λ k. best u m k d ne) (λ x. absurd (false≢true (sym (at_last e x) ∙ d))))
      go true e (no_pick z f) =
          rw (eq-eqb hand 0 z)
          (a_pick (omega arith) (omega arith) e (λ u m k d ne. up_to_cases n u k (λ k. absurd (false≢true (sym (f u m k) ∙ d))) (λ x. absurd (ne x))))
      go true e (a_pick l h c best) = rw (ne_eqb hand 0 (λ z. omega arith)) (by (rather o s (suc n) hand) (rather_says o s (suc n) hand))
        where
          by : (d : Bool) → Says o s (suc n) hand d → IsPick o b s (suc n) (if d then suc n else hand)
          by true r =
              a_pick (omega arith) (omega arith) e
              (λ u m k d ne. up_to_cases n u k (λ k. after u m k d (eqb u hand) refl) (λ x. absurd (ne x)))
            where
              after : (u : ℕ) → 1 ≤ u → u ≤ n → can_pick o b s u ≡ true → (c : Bool) → eqb u hand ≡ c → Rather o s (suc n) u
              after u m k d true x = subst (Rather o s (suc n)) (sym (eqb-true u hand x)) r
              after u m k d false x = rather_trans o s r (best u m k d (eqb-false u hand x))
          by false r = a_pick l (omega arith) c (λ u m k d ne. up_to_cases n u k (λ k. best u m k d ne) (λ x. turned x ne r))
            where
              turned : {u : ℕ} → u ≡ suc n → (u ≡ hand → ⊥) → (hand ≡ suc n) ⊎ Rather o s hand (suc n) → Rather o s hand u
              turned x ne (inl y) = absurd (ne (x ∙ sym y))
              turned x ne (inr y) = subst (Rather o s hand) (sym x) y

  hand_fold : (n k hand : ℕ) → IsPick o b s n hand → IsPick o b s (n + k) (foldl (in_hand o b s) hand (from (suc n) k))
  unfolding from
  hand_fold n zero hand i = subst (λ m. IsPick o b s m hand) (omega arith) i
  hand_fold n (suc k) hand i =
      let next : suc n + 1 ≡ suc (suc n) = omega arith in
      rw next
      (subst (λ m. IsPick o b s m (foldl (in_hand o b s) (in_hand o b s hand (suc n)) (from (suc (suc n)) k))) (omega arith)
      (hand_fold (suc n) k (in_hand o b s hand (suc n)) (hand_step n hand i)))

  -- the pick is the one that the rule names, and 0 where none can be picked
  pub picked_rightly : IsPick o b s (size o) (picked o b s)
  unfolding picked records
  picked_rightly =
      subst (λ n. IsPick o b s n (foldl (in_hand o b s) 0 (from 1 (size o)))) (omega arith)
      (hand_fold 0 (size o) 0 (no_pick refl (λ u l h. absurd (omega arith))))

  -- it is no later record
  pub picked_most : picked o b s ≤ size o
  picked_most = go picked_rightly
    where
      go : {t : ℕ} → IsPick o b s (size o) t → t ≤ size o
      go (no_pick z f) = omega arith
      go (a_pick l h c best) = h

-- ---- the set
-- a set of taxa that fits
abbrev pub Good : List ℕ → ℕ → List ℕ → Type 0
Good o b s = IsSet o s × Fits o b s

module _ (o : List ℕ) (b : ℕ) where
  -- what can be picked is a taxon that is not there, and keeps a set that fits one
  pub pick_good : (s : List ℕ) (t : ℕ) → IsRecord o t → can_pick o b s t ≡ true → Good o b s → Good o b (with_taxon s t) × (chosen s t ≡ false)
  unfolding can_pick
  pick_good s t i e (x, f) =
      let (taxon, others) = and_parts (is_taxon o t) _ e in
      let (lacks, last) = and_parts (not (chosen s t)) _ others in
      let (cheap, more) = and_parts (leb (cost o (with_taxon s t)) b) _ last in (
        (
          with_set o s x i taxon,
          record {
            cost_most = leb-true _ _ cheap;
            locked_held = (held_each o (with_taxon s t)).1 (λ q m v h. taxon_more s t q ((held_each o s).0 f.locked_held q m v h));
          },
        ),
        not-true _ lacks,
      )

  -- how a set is after at most k picks: one that fits, of at most so many taxa more; of fewer only where none can be picked
  pub record Picking (k : ℕ) (s after : List ℕ) : Type 0 where
    pub good : Good o b after
    pub most : chosen_taxa o after ≤ chosen_taxa o s + k
    pub ended : chosen_taxa o after < chosen_taxa o s + k → (t : ℕ) → IsRecord o t → can_pick o b after t ≡ false

  pub picking : (k : ℕ) (s : List ℕ) → Good o b s → Picking k s (after_picks o b k s)
  unfolding after_picks
  picking zero s g = record { good = g; most = omega arith; ended = λ h. absurd (omega arith) }
  picking (suc k) s g = go (picked o b s) (picked_rightly o b s) (picking k (with_taxon s (picked o b s)))
    where
      go : (t : ℕ) → IsPick o b s (size o) t → (Good o b (with_taxon s t) → Picking k (with_taxon s t) (after_picks o b k (with_taxon s t)))
          → Picking (suc k) s (if eqb t 0 then s else after_picks o b k (with_taxon s t))
      go t (no_pick z f) ih =
          rw (eq-eqb t 0 z) (record { good = g; most = omega arith; ended = λ h u i. f u i.low i.high })
      go t (a_pick l h c best) ih =
          let i : IsRecord o t = record { low = l; high = h } in
          let (fine, lacks) = pick_good s t i c g in
          let later = ih fine in
          let one_more = taxa_with o s g.0 i lacks in
          rw (ne_eqb t 0 (λ z. omega arith))
          (record { good = later.good; most = omega (arith, later.most); ended = λ h u j. later.ended (omega arith) u j })

  -- picks take nothing away
  picks_keep : (k : ℕ) (s : List ℕ) (q : ℕ) → Implies (chosen s q) (chosen (after_picks o b k s) q)
  unfolding after_picks
  picks_keep zero s q h = h
  picks_keep (suc k) s q h = go (eqb (picked o b s) 0) (picks_keep k (with_taxon s (picked o b s)) q (taxon_more s (picked o b s) q h))
    where
      go : (c : Bool) → chosen (after_picks o b k (with_taxon s (picked o b s))) q ≡ true
          → chosen (if c then s else after_picks o b k (with_taxon s (picked o b s))) q ≡ true
      go true e = h
      go false e = e

  -- more picks never lower the diversity
  picks_rise : (k j : ℕ) (s : List ℕ) → diversity o 0 (after_picks o b k s) ≤ diversity o 0 (after_picks o b (k + j) s)
  unfolding after_picks
  picks_rise zero j s = diversity_more o s (after_picks o b (0 + j) s) (picks_keep (0 + j) s) 0
  picks_rise (suc k) j s =
      let sum : suc k + j ≡ suc (k + j) = omega arith in
      let t = with_taxon s (picked o b s) in
      rw sum (go (eqb (picked o b s) 0) (after_picks o b k t) (after_picks o b (k + j) t) (picks_rise k j t))
    where
      go : (c : Bool) (t u : List ℕ) → diversity o 0 t ≤ diversity o 0 u → diversity o 0 (if c then s else t) ≤ diversity o 0 (if c then s else u)
      go true t u h = omega arith
      go false t u h = h

  pub quick_rises : (k m : ℕ) → k ≤ m → diversity o 0 (quick o b k) ≤ diversity o 0 (quick o b m)
  unfolding quick
  quick_rises k m h = let sum : k + (m - k) ≡ m = omega arith in rw sum at (picks_rise k (m - k) (locked_set o))

  module _ (fit : cost o (locked_set o) ≤ b) where
    -- the locked taxa by themselves fit
    pub locked_good : Good o b (locked_set o)
    locked_good = (locked_is_set o, record { cost_most = fit; locked_held = locked_set_holds o })

    -- how the quick choice is
    pub quick_picking : (k : ℕ) → Picking k (locked_set o) (quick o b k)
    unfolding quick
    quick_picking k = picking k (locked_set o) locked_good
