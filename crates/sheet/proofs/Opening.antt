-- The quarters of a row: a taxon's own price, and the headings that it opens.
use Rattle.std.specs.Prelude.{if◌then◌else◌}
use Prim.Native.Nat.{ℕ, suc, ◌+◌, ◌-◌, ◌≤◌, ◌<◌}
use mathlib.Core.Path.{◌≡◌, refl, ap, fun_ext, subst, ◌∙◌}
use mathlib.Core.Bool.{Bool, true, false, ◌&&◌, not, false≢true}
use mathlib.Core.List.{List}
use native.Mathlib.Omega.{arith}
use lib.ListN.{take}
use Rattle.lists.specs.Lists.{total}
use Rattle.outline.specs.Outline.{size, records, first, price, is_taxon}
use Rattle.diversity.specs.Diversity.{chain, chosen, cost}
use Rattle.diversity.specs.Behind.{IsSet}
use Rattle.diversity.specs.Headings.{prices_chosen, opens, headings_opened}
use Rattle.laws.proofs.Headings.{cost_parts}
use Rattle.laws.proofs.Marks.{group_unchosen}
use Rattle.laws.proofs.More.{Implies, implies_and, implies_anywhere}
use Rattle.laws.proofs.Prefixes.{chosen_up_to, step_more, sum_step}
use Rattle.laws.proofs.Sums.{total_add}
use Rattle.sheet.specs.Demands.{opens_first}
use Rattle.sheet.specs.Sheet.{added}

module _ (o s : List ℕ) (x : IsSet o s) where
  -- the taxa up to a record are taxa
  prefix_unchosen : (i r : ℕ) → 1 ≤ r → r ≤ size o → is_taxon o r ≡ false → chosen (take i s) r ≡ false
  prefix_unchosen i r l u t = chosen_up_to s i r ∙ rw (group_unchosen o s x r l u t)

  module _ (i : ℕ) (h : i < size o) (e : chosen s (suc i) ≡ true) where
    prices_step : prices_chosen o (take (suc i) s) ≡ prices_chosen o (take i s) + price o (suc i)
    unfolding prices_chosen
    prices_step = sum_step s i (price o) o h ∙ ap (λ b. prices_chosen o (take i s) + (if b then price o (suc i) else 0)) e

    opens_more : (q : ℕ) → Implies (opens o (take i s) q) (opens o (take (suc i) s) q)
    unfolding opens
    opens_more q =
        implies_and (not (is_taxon o q)) _ (not (is_taxon o q)) _ (λ t. t)
        (implies_anywhere (chosen (take i s)) (chosen (take (suc i) s)) (step_more s i) (chain (size o) o (first o q)))

    headings_step : headings_opened o (take (suc i) s)
        ≡ headings_opened o (take i s) + total (λ q. if opens o (take (suc i) s) q && not (opens o (take i s) q) then price o q else 0) (records o)
    unfolding headings_opened
    headings_step =
        ap (λ (f : ℕ → ℕ). total f (records o)) (fun_ext (λ q. newly (opens o (take i s) q) (opens o (take (suc i) s) q) (price o q) (opens_more q)))
        ∙ total_add _ _ (records o)
      where
        newly : (a b : Bool) (p : ℕ) → Implies a b → (if b then p else 0) ≡ (if a then p else 0) + (if b && not a then p else 0)
        newly true true p m = omega arith
        newly true false p m = absurd (false≢true (m refl))
        newly false true p m = omega arith
        newly false false p m = omega arith

    -- what is opened up to this record, and was not up to record k
    opened : ℕ → ℕ
    opened k = total (λ q. if opens o (take (suc i) s) q && not (opens o (take k s) q) then price o q else 0) (records o)

    quarters_step : cost o (take (suc i) s) - cost o (take i s) ≡ price o (suc i) + opened i
    unfolding opened
    quarters_step =
        omega (
          arith,
          cost_parts o (take (suc i) s) (prefix_unchosen (suc i)),
          cost_parts o (take i s) (prefix_unchosen i),
          prices_step,
          headings_step,
        )

    pub quarters_opened : added (cost o) s (suc i) ≡ price o (suc i) + total (λ q. if opens_first o s (suc i) q then price o q else 0) (records o)
    unfolding opened
    quarters_opened =
        let before : i ≡ suc i - 1 = omega arith in
        subst (λ k. cost o (take (suc i) s) - cost o (take k s) ≡ price o (suc i) + opened k) before quarters_step
