-- From the search on one outline to the search on another: how far apart their best diversities can be, and when the same set stays chosen.
use Prim.Native.Nat.{ℕ, ◌+◌, ◌≤◌}
use mathlib.Core.Path.{◌≡◌, refl, sym, ap, ◌∙◌}
use mathlib.Core.Logic.{◌⊎◌, inl, inr}
use mathlib.Core.Bool.{Bool, true, false, false≢true}
use mathlib.Core.List.{List}
use native.Mathlib.Omega.{arith}
use lib.Dec.{ltb}
use borrow.Author.Tests.{ltb-true, ltb-false}
use Rattle.diversity.specs.Diversity.{chosen, diversity, cost}
use Rattle.diversity.specs.Behind.{IsSet, Fits, Lacks, Behind, less_diversity, more_cost, lacks_first}
use Rattle.diversity.specs.Search.{optimum, best_diversity}
use Rattle.laws.specs.Locks.{locked_set}
use Rattle.laws.proofs.Locks.{some_fits}
use Rattle.laws.proofs.Optimum.{optimum_set, optimum_fits, shown_diversity, same_or_behind, greatest_diversity}

-- a set of taxa of o that fits b is one of p
abbrev pub Passes : List ℕ → List ℕ → ℕ → Type 0
Passes o p b = (s : List ℕ) → IsSet o s → Fits o b s → IsSet p s × Fits p b s

module _ (o p : List ℕ) (b : ℕ) (passes : Passes o p b) (fit : cost o (locked_set o) ≤ b) where
  -- where the locked taxa fit o, they fit p
  pub passed_fit : cost p (locked_set p) ≤ b
  passed_fit =
      let (s, x, f) = (some_fits o b).1 fit in
      let (y, g) = passes s x f in
      (some_fits p b).0 (s, y, g)

  -- if no set loses more than k, the best doesn't
  pub best_most : (way k : ℕ) → ((s : List ℕ) → IsSet o s → diversity o way s ≤ diversity p way s + k)
      → best_diversity o way b ≤ best_diversity p way b + k
  best_most way k most =
      let s = optimum o way b in
      let (x, f) = passes s (optimum_set o way b fit) (optimum_fits o way b fit) in
      omega (arith, shown_diversity o way b fit, most s (optimum_set o way b fit), greatest_diversity p way b s x f)

-- two sets can't each lack the first taxon on which they differ
not_both_lack : {s t : List ℕ} → Lacks s t → Lacks t s → ⊥
not_both_lack {s} {t} x y = go (ltb x.at y.at) refl (ltb y.at x.at) refl
  where
    go : (a : Bool) → ltb x.at y.at ≡ a → (c : Bool) → ltb y.at x.at ≡ c → ⊥
    go true e c f = false≢true (sym x.lacks ∙ y.before x.at x.low (ltb-true _ _ e) ∙ x.has)
    go false e true f = false≢true (sym y.lacks ∙ x.before y.at y.low (ltb-true _ _ f) ∙ y.has)
    go false e false f =
        let same : x.at ≡ y.at = omega (arith, ltb-false x.at y.at e, ltb-false y.at x.at f) in
        false≢true (sym y.lacks ∙ ap (chosen s) (sym same) ∙ x.has)

-- where the same sets fit both at the same costs, and no set that fits gains more than the best set of o, that stays the best set
module _ (o p : List ℕ) (b : ℕ) (there : Passes o p b) (here : Passes p o b) (fit : cost o (locked_set o) ≤ b)
    (costs : (s : List ℕ) → cost p s ≡ cost o s) (way : ℕ) where
  abbrev old : List ℕ
  old = optimum o way b

  abbrev new : List ℕ
  new = optimum p way b

  -- from o to p the diversity of t gains no more than that of o's best set
  abbrev GainsNoMore : List ℕ → Type 0
  GainsNoMore t = diversity p way t + diversity o way old ≤ diversity p way old + diversity o way t

  -- then it can't be that the new best set is behind the old one on o, and the old one behind the new one on p
  never : GainsNoMore new → Behind o way old new → Behind p way new old → ⊥
  never l (less_diversity d) (less_diversity e) = omega arith
  never l (less_diversity d) (more_cost e k) = omega arith
  never l (less_diversity d) (lacks_first e k y) = omega arith
  never l (more_cost d k) (less_diversity e) = omega arith
  never l (more_cost d k) (more_cost e m) = omega (arith, costs old, costs new)
  never l (more_cost d k) (lacks_first e m y) = omega (arith, costs old, costs new)
  never l (lacks_first d k x) (less_diversity e) = omega arith
  never l (lacks_first d k x) (more_cost e m) = omega (arith, costs old, costs new)
  never l (lacks_first d k x) (lacks_first e m y) = not_both_lack x y

  pub set_stays : ((t : List ℕ) → IsSet o t → Fits o b t → GainsNoMore t) → new ≡ old
  set_stays most =
      let fits_new = passed_fit o p b there fit in
      let (x, f) = here new (optimum_set p way b fits_new) (optimum_fits p way b fits_new) in
      let (y, g) = there old (optimum_set o way b fit) (optimum_fits o way b fit) in
      go (most new x f) (same_or_behind o way b new x f) (same_or_behind p way b old y g)
    where
      go : GainsNoMore new → (new ≡ old) ⊎ Behind o way old new → (old ≡ new) ⊎ Behind p way new old → new ≡ old
      go l (inl e) y = e
      go l (inr x) (inl e) = sym e
      go l (inr x) (inr y) = absurd (never l x y)
