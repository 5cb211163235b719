-- More taxa, no less diversity and no less cost: what counts for a set counts for every set that holds it.
use Rattle.std.specs.Prelude.{if◌then◌else◌}
use Prim.Native.Nat.{ℕ, ◌≤◌}
use mathlib.Core.Path.{◌≡◌, refl, sym, ◌∙◌}
use mathlib.Core.Bool.{Bool, true, false, ◌||◌, ◌&&◌, false≢true}
use mathlib.Core.List.{List, [], ◌∷◌}
use native.Mathlib.Omega.{arith}
use lib.Dec.{eqb}
use Rattle.lists.specs.Lists.{anywhere}
use Rattle.outline.specs.Outline.{records, branch, price}
use Rattle.diversity.specs.Diversity.{clade, chosen, within, elsewhere, rooted, unrooted, diversity, cost}
use Rattle.laws.proofs.Sums.{total_below}

-- a test that holds wherever another does
abbrev pub Implies : Bool → Bool → Type 0
Implies a b = a ≡ true → b ≡ true

implies_or : (a b c d : Bool) → Implies a c → Implies b d → Implies (a || b) (c || d)
implies_or true b c d p q e = rw (p refl)
implies_or false b true d p q e = refl
implies_or false b false d p q e = q e

pub implies_and : (a b c d : Bool) → Implies a c → Implies b d → Implies (a && b) (c && d)
implies_and true b c d p q e = rw (p refl) (q e)
implies_and false b c d p q e = absurd (false≢true e)

pub implies_anywhere : (p q : ℕ → Bool) → ((x : ℕ) → Implies (p x) (q x)) → (xs : List ℕ) → Implies (anywhere p xs) (anywhere q xs)
unfolding anywhere
implies_anywhere p q h [] e = e
implies_anywhere p q h (x ∷ xs) e = implies_or (p x) (anywhere p xs) (q x) (anywhere q xs) (h x) (implies_anywhere p q h xs) e

implies_if : (a b : Bool) (n : ℕ) → Implies a b → (if a then n else 0) ≤ (if b then n else 0)
implies_if true b n h = rw (h refl) (omega arith)
implies_if false b n h = omega arith

module _ (o s t : List ℕ) (more : (r : ℕ) → Implies (chosen s r) (chosen t r)) where
  pub within_more : (r : ℕ) → Implies (within o s r) (within o t r)
  unfolding within
  within_more r = implies_anywhere (chosen s) (chosen t) more (clade o r)

  elsewhere_more : (r : ℕ) → Implies (elsewhere o s r) (elsewhere o t r)
  unfolding elsewhere
  elsewhere_more r = implies_anywhere _ _ (λ x. implies_and (chosen s x) _ (chosen t x) _ (more x) (λ e. e)) (records o)

  pub diversity_more : (way : ℕ) → diversity o way s ≤ diversity o way t
  unfolding diversity rooted unrooted
  diversity_more way = go (eqb way 0)
    where
      go : (b : Bool) → (if b then rooted o s else unrooted o s) ≤ (if b then rooted o t else unrooted o t)
      go true = total_below _ _ (records o) (λ r. implies_if (within o s r) (within o t r) (branch o r) (within_more r))
      go false =
          total_below _ _ (records o)
          (λ r. implies_if (within o s r && elsewhere o s r) (within o t r && elsewhere o t r) (branch o r)
          (implies_and (within o s r) (elsewhere o s r) (within o t r) (elsewhere o t r) (within_more r) (elsewhere_more r)))

  pub cost_more : cost o s ≤ cost o t
  unfolding cost
  cost_more = total_below _ _ (records o) (λ r. implies_if (within o s r) (within o t r) (price o r) (within_more r))

-- two lists of marks that choose alike cost the same, and have the same diversity
module _ (o s t : List ℕ) (alike : (r : ℕ) → chosen s r ≡ chosen t r) where
  pub cost_alike : cost o s ≡ cost o t
  cost_alike = omega (arith, cost_more o s t (λ r e. sym (alike r) ∙ e), cost_more o t s (λ r e. alike r ∙ e))

  pub diversity_alike : (way : ℕ) → diversity o way s ≡ diversity o way t
  diversity_alike way =
      omega (arith, diversity_more o s t (λ r e. sym (alike r) ∙ e) way, diversity_more o t s (λ r e. alike r ∙ e) way)
