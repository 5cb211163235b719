-- Few taxa: the empty set costs nothing and both ways give 0 for it, and the unrooted way gives 0 for one taxon.
use Rattle.std.specs.Prelude.{if◌then◌else◌}
use Prim.Native.Nat.{ℕ, zero, suc, ◌-◌}
use mathlib.Core.Path.{◌≡◌, refl, ap, ap₂, ◌∙◌}
use mathlib.Core.Bool.{Bool, true, false, ◌&&◌}
use mathlib.Core.List.{List, [], ◌∷◌}
use native.Mathlib.Omega.{arith}
use lib.Dec.{eqb}
use Rattle.lists.specs.Lists.{one, anywhere, positive}
use Rattle.outline.specs.Outline.{size, records, branch, price}
use Rattle.outline.specs.WellFormed.{Linked}
use Rattle.diversity.specs.Diversity.{clade, chosen, within, elsewhere, rooted, unrooted, diversity, cost, chosen_taxa}
use Rattle.laws.specs.Forest.{tree}
use Rattle.laws.proofs.Sums.{total_zero, total_ext, total_uncounted}
use Rattle.laws.proofs.Forest.{sum_all}
use Rattle.laws.proofs.ByTree.{chosen_below, within_count, elsewhere_count}
use Rattle.laws.specs.Measures.{chosen_in}

nowhere : (p : ℕ → Bool) → ((x : ℕ) → p x ≡ false) → (xs : List ℕ) → anywhere p xs ≡ false
unfolding anywhere
nowhere p h [] = refl
nowhere p h (x ∷ xs) = rw (h x, nowhere p h xs)

-- no taxon chosen
module _ (o s : List ℕ) (none : (r : ℕ) → chosen s r ≡ false) where
  nothing_within : (r : ℕ) → within o s r ≡ false
  unfolding within
  nothing_within r = nowhere (chosen s) none (clade o r)

  pub diversity_empty : (way : ℕ) → diversity o way s ≡ 0
  unfolding diversity rooted unrooted
  diversity_empty way = go (eqb way 0)
    where
      go : (b : Bool) → (if b then rooted o s else unrooted o s) ≡ 0
      go true = total_uncounted (within o s) (branch o) (records o) nothing_within
      go false = total_uncounted (λ r. within o s r && elsewhere o s r) (branch o) (records o) (λ r. ap (λ b. b && elsewhere o s r) (nothing_within r))

  pub cost_empty : cost o s ≡ 0
  unfolding cost
  cost_empty = total_uncounted (within o s) (price o) (records o) nothing_within

-- one taxon chosen: no record has it below and another one elsewhere
pub unrooted_one : (o : List ℕ) → Linked o → (s : List ℕ) → chosen_taxa o s ≡ 1 → unrooted o s ≡ 0
unfolding unrooted records chosen_taxa
unrooted_one o linked s e =
    total_ext _ (λ r. 0) 1 (size o)
    (λ r l u. ap₂ (λ b c. if b && c then branch o r else 0) (within_count o s r) (elsewhere_count o linked s r l (omega arith))
    ∙ never (chosen_in (chosen s) (tree o 1)) (chosen_below o s r) (branch o r) (omega (arith, sum_all o linked (λ q f. one (chosen s q)))))
    ∙ total_zero (records o)
  where
    never : (c k n : ℕ) → c ≡ 1 → (if positive k && positive (c - k) then n else 0) ≡ 0
    never c zero n h = refl
    never c (suc k) n h = let z : c - suc k ≡ 0 = omega arith in rw z
