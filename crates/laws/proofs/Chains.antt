-- The records of a chain in text order: by its links, and that record 1 with all below it is every record, once.
use Prim.Native.Nat.{ℕ, zero, suc, ◌≤◌}
use mathlib.Core.Path.{◌≡◌, refl, sym, ap, ap₂, ◌∙◌}
use mathlib.Core.List.{List, [], ◌∷◌, ◌++◌, append-nil}
use native.Mathlib.Omega.{arith}
use lib.ListN.{length}
use Rattle.lists.specs.Lists.{from, total}
use Rattle.outline.specs.Outline.{size, records, next, first}
use Rattle.outline.specs.WellFormed.{Linked}
use Rattle.diversity.specs.Diversity.{chain, clade}
use Rattle.laws.specs.Forest.{tree}
use Rattle.laws.proofs.Forest.{listed, total_listed, chain_listed, tree_step, sum_all}
use Rattle.laws.proofs.Marks.{from_length}

-- no link begins no chain
pub chain_none : (k : ℕ) (o : List ℕ) → chain k o 0 ≡ []
unfolding chain
chain_none zero o = refl
chain_none (suc k) o = refl

pub length_total : (xs : List ℕ) → length xs ≡ total (λ x. 1) xs
unfolding total
length_total [] = refl
length_total (x ∷ xs) = omega (arith, length_total xs)

module _ (o : List ℕ) (linked : Linked o) where
  -- a record, all below it, and the rest of its chain
  pub chain_step : (r : ℕ) → 1 ≤ r → r ≤ size o → chain (size o) o r ≡ r ∷ (chain (size o) o (first o r) ++ chain (size o) o (next o r))
  unfolding tree
  chain_step r l u =
      chain_listed (size o) o r ∙ ap listed (tree_step o linked r l u)
      ∙ sym (ap₂ (λ (xs : List ℕ) (ys : List ℕ). r ∷ (xs ++ ys)) (chain_listed (size o) o (first o r)) (chain_listed (size o) o (next o r)))

  -- record 1 has no next
  pub clade_root : clade o 1 ≡ chain (size o) o 1
  unfolding clade
  clade_root =
      sym (chain_step 1 (omega arith) linked.filled ∙ rw (linked.root_alone, chain_none) (ap (λ xs. 1 ∷ xs) (append-nil (chain (size o) o (first o 1)))))

  -- a sum over its clade is one over all records
  pub total_root : (w : ℕ → ℕ) → total w (clade o 1) ≡ total w (records o)
  unfolding tree
  total_root w = ap (total w) (clade_root ∙ chain_listed (size o) o 1) ∙ total_listed w (tree o 1) ∙ sym (sum_all o linked (λ r f. w r))

  -- so it has as many
  pub clade_size : length (clade o 1) ≡ size o
  unfolding records
  clade_size = length_total (clade o 1) ∙ total_root (λ r. 1) ∙ sym (length_total (from 1 (size o))) ∙ from_length 1 (size o)
