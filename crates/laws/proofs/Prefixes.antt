-- The taxa of a set up to a record: which they are, and what the next record adds to their number, their cost and their diversity.
use Rattle.std.proofs.Math.Bool.{and-false, and-true}
use Rattle.std.specs.Prelude.{if◌then◌else◌}
use Prim.Native.Nat.{ℕ, suc, ◌+◌, ◌*◌, ◌-◌, ◌≤◌, ◌<◌}
use mathlib.Core.Path.{◌≡◌, refl, sym, ap, ◌∙◌}
use mathlib.Core.Bool.{Bool, true, false, ◌&&◌, false≢true}
use mathlib.Core.List.{List, []}
use native.Mathlib.Omega.{arith}
use lib.Dec.{eqb, ltb}
use lib.ListN.{get_or, take, length-take, get_or-eq_default}
use lib.Seq.{get_or-take}
use borrow.Author.Tests.{eqb-true, eqb-false, ltb-true, ltb-false}
use Rattle.lists.specs.Lists.{one, total}
use Rattle.outline.specs.Outline.{size, records}
use Rattle.diversity.specs.Diversity.{chosen, diversity, cost, chosen_taxa}
use Rattle.laws.proofs.FewTaxa.{diversity_empty, cost_empty}
use Rattle.laws.proofs.More.{Implies, diversity_more, cost_more, diversity_alike, cost_alike}
use Rattle.laws.proofs.Sums.{total_add, total_ext, total_single, total_zero}

module _ (s : List ℕ) where
  chosen_inside : (i r : ℕ) → r - 1 < i → chosen (take i s) r ≡ chosen s r
  unfolding chosen
  chosen_inside i r h = ap (λ k. eqb k 1) (get_or-take i s (r - 1) 0 h)

  chosen_past : (i r : ℕ) → i ≤ r - 1 → chosen (take i s) r ≡ false
  unfolding chosen
  chosen_past i r h = ap (λ k. eqb k 1) (get_or-eq_default (take i s) 0 (omega (arith, length-take i s)))

  same_place : (r q : ℕ) → r - 1 ≡ q - 1 → chosen s r ≡ chosen s q
  unfolding chosen
  same_place r q e = ap (λ i. eqb (get_or s i 0) 1) e

  -- the first i marks choose what s chooses up to record i
  pub chosen_up_to : (i r : ℕ) → chosen (take i s) r ≡ (chosen s r && ltb (r - 1) i)
  chosen_up_to i r = go (ltb (r - 1) i) refl
    where
      go : (b : Bool) → ltb (r - 1) i ≡ b → chosen (take i s) r ≡ (chosen s r && b)
      go true e = chosen_inside i r (ltb-true _ _ e) ∙ sym (and-true (chosen s r))
      go false e = chosen_past i r (ltb-false _ _ e) ∙ sym (and-false (chosen s r))

  -- ---- one record more
  module _ (i : ℕ) where
    pub step_more : (r : ℕ) → Implies (chosen (take i s) r) (chosen (take (suc i) s) r)
    step_more r h = go (ltb (r - 1) i) refl
      where
        go : (b : Bool) → ltb (r - 1) i ≡ b → chosen (take (suc i) s) r ≡ true
        go true e = let l = ltb-true (r - 1) i e in chosen_inside (suc i) r (omega arith) ∙ sym (chosen_inside i r l) ∙ h
        go false e = absurd (false≢true (sym (chosen_past i r (ltb-false _ _ e)) ∙ h))

    -- what counts for a chosen record counts at record i + 1, or did before
    counted_more : (w : ℕ → ℕ) (r : ℕ) → 1 ≤ r
        → (if chosen (take (suc i) s) r then w r else 0) ≡ (if chosen (take i s) r then w r else 0) + (if chosen s r then w r else 0) * one (eqb (suc i) r)
    counted_more w r l = go (ltb (r - 1) i) refl (eqb (suc i) r) refl
      where
        counted : Bool → ℕ
        counted b = if b then w r else 0

        go : (b : Bool) → ltb (r - 1) i ≡ b → (d : Bool) → eqb (suc i) r ≡ d
            → counted (chosen (take (suc i) s) r) ≡ counted (chosen (take i s) r) + counted (chosen s r) * one d
        go true e true d = let h = ltb-true (r - 1) i e in let q = eqb-true (suc i) r d in absurd (omega arith)
        go true e false d =
            let h = ltb-true (r - 1) i e in
            omega (arith, ap counted (chosen_inside (suc i) r (omega arith)), ap counted (chosen_inside i r h))
        go false e true d =
            let h = ltb-false (r - 1) i e in
            let q = eqb-true (suc i) r d in
            omega (arith, ap counted (chosen_inside (suc i) r (omega arith)), ap counted (chosen_past i r h))
        go false e false d =
            let h = ltb-false (r - 1) i e in
            let q = eqb-false (suc i) r d in
            omega (arith, ap counted (chosen_past (suc i) r (omega arith)), ap counted (chosen_past i r h))

    -- a sum over the chosen records
    pub sum_step : (w : ℕ → ℕ) (o : List ℕ) → i < size o
        → total (λ r. if chosen (take (suc i) s) r then w r else 0) (records o)
        ≡ total (λ r. if chosen (take i s) r then w r else 0) (records o) + (if chosen s (suc i) then w (suc i) else 0)
    unfolding records
    sum_step w o h =
        total_ext _ (λ r. (if chosen (take i s) r then w r else 0) + (if chosen s r then w r else 0) * one (eqb (suc i) r)) 1 (size o) (λ r l u. counted_more w r l)
        ∙ total_add (λ r. if chosen (take i s) r then w r else 0) (λ r. (if chosen s r then w r else 0) * one (eqb (suc i) r)) (records o)
        ∙ ap (λ k. total (λ r. if chosen (take i s) r then w r else 0) (records o) + k)
        (total_single (λ r. if chosen s r then w r else 0) (suc i) 1 (size o) (omega arith) (λ k. absurd (omega arith)))

    pub taxa_step : (o : List ℕ) → i < size o → chosen_taxa o (take (suc i) s) ≡ chosen_taxa o (take i s) + one (chosen s (suc i))
    unfolding chosen_taxa
    taxa_step o h = sum_step (λ _. 1) o h

    pub cost_step : (o : List ℕ) → cost o (take i s) ≤ cost o (take (suc i) s)
    cost_step o = cost_more o (take i s) (take (suc i) s) step_more

    pub diversity_step : (o : List ℕ) (way : ℕ) → diversity o way (take i s) ≤ diversity o way (take (suc i) s)
    diversity_step o way = diversity_more o (take i s) (take (suc i) s) step_more way

    -- record i + 1 is not chosen
    module _ (none : chosen s (suc i) ≡ false) where
      pub step_alike : (r : ℕ) → chosen (take (suc i) s) r ≡ chosen (take i s) r
      step_alike r = go (ltb (r - 1) i) refl (eqb (r - 1) i) refl
        where
          go : (b : Bool) → ltb (r - 1) i ≡ b → (c : Bool) → eqb (r - 1) i ≡ c → chosen (take (suc i) s) r ≡ chosen (take i s) r
          go true e c d = let l = ltb-true (r - 1) i e in chosen_inside (suc i) r (omega arith) ∙ sym (chosen_inside i r l)
          go false e true d =
              let q = eqb-true (r - 1) i d in
              chosen_inside (suc i) r (omega arith) ∙ same_place r (suc i) (omega arith) ∙ none ∙ sym (chosen_past i r (omega arith))
          go false e false d =
              let l = ltb-false (r - 1) i e in
              let n = eqb-false (r - 1) i d in
              chosen_past (suc i) r (omega arith) ∙ sym (chosen_past i r (omega arith))

      pub cost_stays : (o : List ℕ) → cost o (take (suc i) s) ≡ cost o (take i s)
      cost_stays o = cost_alike o (take (suc i) s) (take i s) step_alike

      pub diversity_stays : (o : List ℕ) (way : ℕ) → diversity o way (take (suc i) s) ≡ diversity o way (take i s)
      diversity_stays o way = diversity_alike o (take (suc i) s) (take i s) step_alike way

  -- the marks of all records are all that counts
  pub taxa_whole : (o : List ℕ) → chosen_taxa o (take (size o) s) ≡ chosen_taxa o s
  unfolding chosen_taxa records
  taxa_whole o = total_ext _ _ 1 (size o) (λ r l u. ap one (chosen_inside (size o) r (omega arith)))

-- ---- no records
nothing_chosen : (r : ℕ) → chosen [] r ≡ false
unfolding chosen
nothing_chosen r = refl

pub cost_nothing : (o : List ℕ) → cost o [] ≡ 0
cost_nothing o = cost_empty o [] nothing_chosen

pub diversity_nothing : (o : List ℕ) (way : ℕ) → diversity o way [] ≡ 0
diversity_nothing o way = diversity_empty o [] nothing_chosen way

pub taxa_nothing : (o : List ℕ) → chosen_taxa o [] ≡ 0
unfolding chosen_taxa chosen
taxa_nothing o = total_zero (records o)
