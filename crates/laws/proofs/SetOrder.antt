-- The order of sets is a strict total order, and is the order of what the sets are worth but for their locked taxa.
use Prim.Native.Nat.{ℕ}
use mathlib.Core.Path.{◌≡◌, refl, sym, ap, ◌∙◌}
use mathlib.Core.Logic.{◌⊎◌, inl, inr}
use mathlib.Core.Bool.{Bool, true, false}
use mathlib.Core.List.{List}
use native.Mathlib.Omega.{arith}
use borrow.Author.Tests.{eq-eqb, le-ltb}
use Rattle.diversity.specs.Search.{better}
use Rattle.diversity.specs.Behind.{IsSet}
use Rattle.laws.specs.Candidate.{Value, beats}
use Rattle.laws.specs.Locks.{locks_held}
use Rattle.laws.specs.Numbers.{worth}
use Rattle.laws.proofs.Order.{Decided, beats_decides, beats_is, beats_true, beats_trans, beats_not_self, atleast_antisym}
use Rattle.laws.proofs.Numbers.{code_leads, code_inj}

-- a worth but for the locked taxa
abbrev unlocked : Value → Value
unlocked v = record { locked = 0; diversity = v.diversity; cost = v.cost; code = v.code }

beats_unlocked : (v w : Value) → v.locked ≡ w.locked → beats v w ≡ beats (unlocked v) (unlocked w)
unfolding beats
beats_unlocked v w e = rw (le-ltb w.locked v.locked (omega arith), eq-eqb v.locked w.locked e)

module _ (o : List ℕ) (way : ℕ) where
  better_unlocked : {s t : List ℕ} → IsSet o s → IsSet o t → better o way s t ≡ beats (unlocked (worth o way s)) (unlocked (worth o way t))
  unfolding better beats worth
  better_unlocked x y = rw (code_leads x y)

  -- among sets with as many locked taxa, it is the order of worths
  pub better_beats : {s t : List ℕ} → IsSet o s → IsSet o t → locks_held o s ≡ locks_held o t → better o way s t ≡ beats (worth o way s) (worth o way t)
  unfolding worth
  better_beats {s} {t} x y e = better_unlocked x y ∙ sym (beats_unlocked (worth o way s) (worth o way t) e)

  -- no set is better than itself
  pub better_not_self : {s : List ℕ} → IsSet o s → better o way s s ≡ true → ⊥
  better_not_self x e = beats_not_self (beats_is (sym (better_unlocked x x) ∙ e))

  pub better_trans : {s t u : List ℕ} → IsSet o s → IsSet o t → IsSet o u → better o way s t ≡ true → better o way t u ≡ true
      → better o way s u ≡ true
  better_trans x y z e f =
      better_unlocked x z ∙ beats_true (beats_trans (beats_is (sym (better_unlocked x y) ∙ e)) (beats_is (sym (better_unlocked y z) ∙ f)))

  -- of two different sets one is the better
  pub one_better : {s t : List ℕ} → IsSet o s → IsSet o t → (s ≡ t → ⊥) → (better o way s t ≡ true) ⊎ (better o way t s ≡ true)
  unfolding worth
  one_better {s} {t} x y differ =
      rw (better_unlocked x y, better_unlocked y x) (go _ (beats_decides (unlocked (worth o way s)) (unlocked (worth o way t))) _
      (beats_decides (unlocked (worth o way t)) (unlocked (worth o way s))))
    where
      go : (a : Bool) → Decided (unlocked (worth o way s)) (unlocked (worth o way t)) a → (b : Bool) → Decided (unlocked (worth o way t)) (unlocked (worth o way s)) b
          → (a ≡ true) ⊎ (b ≡ true)
      go true p b q = inl refl
      go false p true q = inr refl
      go false p false q = absurd (differ (code_inj x y (ap (λ (v : Value). v.code) (atleast_antisym q p))))
