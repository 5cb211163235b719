-- Locked taxa: holding them all is a matter of counting, and no set that does costs less than the locked taxa by themselves.
use Rattle.std.proofs.lemmas.Bool.{and_parts}
use Rattle.std.specs.Prelude.{if◌then◌else◌}
use Prim.Native.Nat.{ℕ, zero, suc, ◌+◌, ◌-◌, ◌≤◌, ◌<◌}
use mathlib.Core.Path.{◌≡◌, refl, sym, ap, fun_ext, ◌∙◌}
use mathlib.Core.Logic.{◌↔◌}
use mathlib.Core.Bool.{Bool, true, false, ◌&&◌, not, and-true, false≢true, true≢false}
use mathlib.Core.List.{List, []}
use native.Mathlib.Omega.{arith}
use lib.Dec.{eqb, ltb, leb}
use lib.ListN.{length, get_or, get_or-eq_default}
use borrow.Author.Tests.{leb-true, le-leb, ltb-true, ltb-false}
use Rattle.lists.specs.Lists.{one, total, positive}
use Rattle.outline.specs.Outline.{size, records, is_taxon, locked}
use Rattle.lists.proofs.Bools.{one_le}
use Rattle.diversity.specs.Diversity.{chosen, cost, holds_locked, chosen_taxa}
use Rattle.diversity.specs.Behind.{IsSet, Fits, NoneFits}
use Rattle.diversity.specs.Search.{fits}
use Rattle.laws.specs.Locks.{locks, locks_held, locked_set}
use Rattle.laws.proofs.Sums.{anywhere_count, total_add, total_below, total_term, total_ext, total_zero}
use Rattle.laws.proofs.FewTaxa.{cost_empty}
use Rattle.laws.proofs.Marks.{marks_set, marks_chosen}
use Rattle.laws.proofs.More.{Implies, cost_more}
use Rattle.outline.specs.Rules.{taxa, taxa_in}

-- only a taxon is locked
locked_taxon : (o : List ℕ) (r : ℕ) → is_taxon o r ≡ false → locked o r ≡ false
unfolding locked
locked_taxon o r e = rw e

pub locks_most : (o : List ℕ) → locks o ≤ taxa o
unfolding locks taxa taxa_in
locks_most o = total_below _ _ (records o) (λ r. go r (is_taxon o r) refl)
  where
    go : (r : ℕ) (b : Bool) → is_taxon o r ≡ b → one (locked o r) ≤ one b
    go r true e = one_le (locked o r)
    go r false e = omega (arith, ap one (locked_taxon o r e))

-- ---- the locked taxa that a set holds, and those that it lacks
module _ (o s : List ℕ) where
  lacked : ℕ
  lacked = total (λ r. one (locked o r && not (chosen s r))) (records o)

  held_or_lacked : locks_held o s + lacked ≡ locks o
  unfolding locks_held locks lacked
  held_or_lacked =
      sym (total_add (λ r. if chosen s r then one (locked o r) else 0) (λ r. one (locked o r && not (chosen s r))) (records o))
      ∙ ap (λ g. total g (records o)) (fun_ext (λ r. go (locked o r) (chosen s r)))
    where
      go : (a b : Bool) → (if b then one a else 0) + one (a && not b) ≡ one a
      go true true = refl
      go true false = refl
      go false true = refl
      go false false = refl

  pub held_most : locks_held o s ≤ locks o
  held_most = omega (arith, held_or_lacked)

  none_lacked : holds_locked o s ≡ not (positive lacked)
  unfolding holds_locked lacked
  none_lacked = ap not (anywhere_count (λ r. locked o r && not (chosen s r)) (records o))

  by_count : (k : ℕ) → lacked ≡ k → (holds_locked o s ≡ true) ↔ (k ≡ 0)
  by_count zero e = (λ h. refl, λ z. none_lacked ∙ rw e)
  by_count (suc k) e = (λ h. absurd (true≢false (sym h ∙ none_lacked ∙ rw e)), λ z. absurd (omega arith))

  -- a set holds every locked taxon exactly if it holds as many as there are
  pub held_all : (holds_locked o s ≡ true) ↔ (locks_held o s ≡ locks o)
  held_all =
      (λ h. omega (arith, held_or_lacked, (by_count lacked refl).0 h), λ e. (by_count lacked refl).1 (omega (arith, held_or_lacked)))

  -- and exactly if each is chosen
  pub held_each : (holds_locked o s ≡ true) ↔ ((r : ℕ) → 1 ≤ r → r ≤ size o → locked o r ≡ true → chosen s r ≡ true)
  unfolding lacked records
  held_each = (
    λ h r l u t. chosen_by _ _ t (omega (arith, (by_count lacked refl).0 h, total_term (λ r. one (locked o r && not (chosen s r))) r 1 (size o) l (omega arith))),
    λ each. (by_count lacked refl).1 (total_ext _ (λ r. 0) 1 (size o) (λ r l u. none_by _ _ (each r l (omega arith))) ∙ total_zero (records o)),
  )
    where
      chosen_by : (a b : Bool) → a ≡ true → one (a && not b) ≡ 0 → b ≡ true
      chosen_by true true t e = refl
      chosen_by true false t e = absurd (omega arith)
      chosen_by false b t e = absurd (false≢true t)

      none_by : (a b : Bool) → Implies a b → one (a && not b) ≡ 0
      none_by true true h = refl
      none_by true false h = absurd (false≢true (h refl))
      none_by false b h = refl

-- ---- the locked taxa by themselves
-- a record that is chosen has a mark, and record 0 reads as record 1
pub chosen_inside : (s : List ℕ) (r : ℕ) → chosen s r ≡ true → r - 1 < length s
unfolding chosen
chosen_inside s r e = go (ltb (r - 1) (length s)) refl
  where
    go : (b : Bool) → ltb (r - 1) (length s) ≡ b → r - 1 < length s
    go true h = ltb-true _ _ h
    go false h = absurd (false≢true (sym (ap (λ k. eqb k 1) (get_or-eq_default s 0 (ltb-false _ _ h))) ∙ e))

chosen_at : (s : List ℕ) (r : ℕ) → chosen s r ≡ chosen s (suc (r - 1))
unfolding chosen
chosen_at s r = ap (λ i. eqb (get_or s i 0) 1) (omega arith)

module _ (o : List ℕ) where
  pub locked_is_set : IsSet o (locked_set o)
  unfolding locked_set records
  locked_is_set = marks_set o (locked o) (λ r l u. locked_taxon o r)

  pub locked_chosen : (r : ℕ) → 1 ≤ r → r ≤ size o → chosen (locked_set o) r ≡ locked o r
  unfolding locked_set records
  locked_chosen = marks_chosen (locked o) (size o)

  pub locked_taxa : chosen_taxa o (locked_set o) ≡ locks o
  unfolding chosen_taxa locks records
  locked_taxa = total_ext _ _ 1 (size o) (λ r l u. ap one (locked_chosen r l (omega arith)))

  pub locked_set_holds : holds_locked o (locked_set o) ≡ true
  locked_set_holds = (held_each o (locked_set o)).1 (λ r l u t. locked_chosen r l u ∙ t)

  -- a set that holds every locked taxon costs no less
  pub locked_least : (t : List ℕ) → holds_locked o t ≡ true → cost o (locked_set o) ≤ cost o t
  locked_least t h = cost_more o (locked_set o) t more
    where
      more : (r : ℕ) → Implies (chosen (locked_set o) r) (chosen t r)
      more r e =
          let inside = chosen_inside (locked_set o) r e in
          let here : locked o (suc (r - 1)) ≡ true = sym (locked_chosen (suc (r - 1)) (omega arith) (omega (arith, locked_is_set.whole))) ∙ sym (chosen_at (locked_set o) r) ∙ e in
          chosen_at t r ∙ (held_each o t).0 h (suc (r - 1)) (omega arith) (omega (arith, locked_is_set.whole)) here

-- ---- sets that fit
pub fits_exactly : (o : List ℕ) (b : ℕ) (s : List ℕ) → (fits o b s ≡ true) ↔ Fits o b s
unfolding fits
fits_exactly o b s = (
  λ e. let both = and_parts _ _ e in record { cost_most = leb-true _ _ both.0; locked_held = both.1 },
  λ f. rw (le-leb (cost o s) b f.cost_most) f.locked_held,
)

-- some set fits exactly if the locked taxa by themselves do
pub some_fits : (o : List ℕ) (b : ℕ) → ((t : List ℕ) × IsSet o t × Fits o b t) ↔ (cost o (locked_set o) ≤ b)
some_fits o b = (
  λ (t, x, f). omega (arith, locked_least o t f.locked_held, f.cost_most),
  λ h. (locked_set o, locked_is_set o, record { cost_most = h; locked_held = locked_set_holds o }),
)

-- and none does exactly if they cost more: refusal 12
pub none_fits_lem : (o : List ℕ) (b : ℕ) → (b < cost o (locked_set o)) ↔ NoneFits o b
none_fits_lem o b = (λ h t x f. omega (arith, (some_fits o b).0 (t, x, f)), λ none. go none (ltb b (cost o (locked_set o))) refl)
  where
    go : NoneFits o b → (c : Bool) → ltb b (cost o (locked_set o)) ≡ c → b < cost o (locked_set o)
    go none true e = ltb-true _ _ e
    go none false e = let (t, x, f) = (some_fits o b).1 (ltb-false _ _ e) in absurd (none t x f)

-- ---- where no taxon is locked, all is as document 01 has it
module _ (o : List ℕ) (none : locks o ≡ 0) where
  unlocked_held : (s : List ℕ) → holds_locked o s ≡ true
  unlocked_held s = (held_all o s).1 (omega (arith, held_most o s))

  pub unlocked_fits : (b : ℕ) (s : List ℕ) → fits o b s ≡ leb (cost o s) b
  unfolding fits
  unlocked_fits b s = rw (unlocked_held s) (and-true (leb (cost o s) b))

  -- and every page count has a set that fits
  pub unlocked_cost : cost o (locked_set o) ≡ 0
  unlocked_cost = omega (arith, locked_least o [] (unlocked_held []), cost_empty o [] nothing_chosen)
    where
      nothing_chosen : (r : ℕ) → chosen [] r ≡ false
      nothing_chosen r = unfold chosen in refl
