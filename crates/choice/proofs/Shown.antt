-- What a candidate shows as a column: by whether it holds all the locked taxa, and by what the search ends with.
use Rattle.std.specs.Prelude.{if◌then◌else◌}
use Prim.Native.Nat.{ℕ, ◌-◌, ◌/◌, ◌%◌, ◌^◌, ◌<◌}
use mathlib.Core.Path.{◌≡◌, ap}
use mathlib.Core.Bool.{Bool, true, false}
use mathlib.Core.List.{List}
use native.Mathlib.Omega.{arith}
use lib.Dec.{eqb}
use borrow.Author.Tests.{eq-eqb, ne_eqb}
use Rattle.diversity.specs.Diversity.{diversity, cost}
use Rattle.diversity.specs.Search.{Incumbent, holding, is_holding, set_of, blank_cost}
use Rattle.laws.specs.Candidate.{Cand, none, some}
use Rattle.laws.specs.Locks.{locks}
use Rattle.laws.specs.Numbers.{worth}
use Rattle.rows.proofs.TopRow.{Tells, complete, lacking}
use Rattle.cells.specs.Cells.{unit, lift, seen, view, locked_of, diversity_of, cost_of}
use Rattle.cells.specs.declared.candidate.Candidate.{Candidate}
use Rattle.choice.specs.Inner.{diversity_shown, cost_shown}

-- a word's diversity and cost keep to 32 bits, whatever it is
pub parts_low : (c : Candidate) → (diversity_of (view c) < 2 ^ 32) × (cost_of (view c) < 2 ^ 32)
unfolding view seen diversity_of cost_of
parts_low c = go c.score c.set (eqb c.score 0)
  where
    seen_by : ℕ → ℕ → Bool → Cand
    seen_by s m b = if b then none else some (record { locked = (s - 1) / unit / lift; diversity = (s - 1) / unit % lift; cost = unit - 1 - (s - 1) % unit; code = m })

    go : (s m : ℕ) (b : Bool) → (diversity_of (seen_by s m b) < 2 ^ 32) × (cost_of (seen_by s m b) < 2 ^ 32)
    go s m true = (omega arith, omega arith)
    go s m false = (omega arith, omega arith)

module _ {locks : ℕ} (c : Cand) where
  pub shown_own : locked_of c ≡ locks → (diversity_of c ≡ diversity_shown locks c) × (cost_of c ≡ cost_shown locks c)
  unfolding diversity_shown cost_shown
  shown_own e = let all = eq-eqb (locked_of c) locks e in (rw all, rw all)

  pub shown_blank : (locked_of c ≡ locks → ⊥) → (0 ≡ diversity_shown locks c) × (blank_cost ≡ cost_shown locks c)
  unfolding diversity_shown cost_shown
  shown_blank n = let less = ne_eqb (locked_of c) locks n in (rw less, rw less)

module _ (o : List ℕ) (way : ℕ) where
  -- with a set in hand, the candidate is that set's worth
  pub complete_is : {h : Incumbent} {k : Cand} {t : List ℕ} → Tells o way h k → h ≡ holding t → k ≡ some (worth o way t)
  unfolding set_of
  complete_is (complete {s} e) same = ap (λ x. some (worth o way (set_of x))) same
  complete_is (lacking l) same = let z : ◌≡◌ {A = ℕ} 0 1 = cc in absurd (omega arith)

  -- either way, it shows the search's column
  pub shown_by : {h : Incumbent} {k : Cand} → Tells o way h k
      → (diversity_shown (locks o) k ≡ (if is_holding h then diversity o way (set_of h) else 0))
      × (cost_shown (locks o) k ≡ (if is_holding h then cost o (set_of h) else blank_cost))
  unfolding diversity_shown cost_shown locked_of diversity_of cost_of worth is_holding set_of
  shown_by (complete {s} e) = let same = eq-eqb _ _ e in (rw same, rw same)
  shown_by (lacking {v} l) = let less = ne_eqb v.locked (locks o) (λ z. omega arith) in (rw less, rw less)
