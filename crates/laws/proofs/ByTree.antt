-- Diversity and cost, summed over all records by their definitions, are the recursions over the forest of record 1.
use Rattle.std.specs.Prelude.{if◌then◌else◌}
use Prim.Native.Nat.{ℕ, zero, suc, ◌+◌, ◌*◌, ◌-◌, ◌≤◌}
use mathlib.Core.Path.{◌≡◌, refl, sym, ap, ap₂, fun_ext, ◌∙◌}
use mathlib.Core.Bool.{Bool, true, false, ◌&&◌, not, and-false}
use mathlib.Core.List.{List}
use native.Mathlib.Omega.{arith}
use native.Mathlib.Nat.{mul-add, mul-zero}
use lib.Dec.{eqb}
use borrow.Author.Tests.{eq-eqb}
use Rattle.lists.specs.Lists.{one, anywhere, total, positive}
use Rattle.lists.proofs.Bools.{eqb_comm}
use Rattle.outline.specs.Outline.{size, first, branch, price, records, is_taxon}
use Rattle.outline.specs.WellFormed.{Linked}
use Rattle.diversity.specs.Diversity.{clade, chosen, within, elsewhere, rooted, unrooted, cost, chosen_taxa}
use Rattle.diversity.specs.Behind.{IsSet}
use Rattle.laws.specs.Forest.{Forest, empty, node, sum_in, count_in, tree, is_group}
use Rattle.laws.proofs.Sums.{anywhere_count, occurs, occurs_most, total_add, total_zero, total_ext, total_at}
use Rattle.laws.proofs.Forest.{total_listed, chain_listed, tree_step, members_cases, sum_all, inside, distinct}
use Rattle.laws.proofs.Marks.{group_unchosen}
use Rattle.laws.proofs.Measures.{crossing_rooted, crossing_unrooted}
use Rattle.laws.specs.Measures.{chosen_in, groups_in, within_in, cost_in, rooted_in, unrooted_in, crossing}

total_clade : (w : ℕ → ℕ) (o : List ℕ) (r : ℕ) → total w (clade o r) ≡ w r + sum_in (λ q f. w q) (tree o (first o r))
unfolding clade total tree
total_clade w o r = ap (λ n. w r + n) (ap (total w) (chain_listed (size o) o (first o r)) ∙ total_listed w (tree o (first o r)))

-- the records that are chosen at r or below it
abbrev pub chosen_below : List ℕ → List ℕ → ℕ → ℕ
chosen_below o s r = one (chosen s r) + chosen_in (chosen s) (tree o (first o r))

-- the test holds at r or below it
pub anywhere_clade : (p : ℕ → Bool) (o : List ℕ) (r : ℕ) → anywhere p (clade o r) ≡ positive (one (p r) + chosen_in p (tree o (first o r)))
anywhere_clade p o r = anywhere_count p (clade o r) ∙ ap positive (total_clade (λ q. one (p q)) o r)

pub within_count : (o s : List ℕ) (r : ℕ) → within o s r ≡ positive (chosen_below o s r)
unfolding within
within_count o s r = anywhere_clade (chosen s) o r

-- a sum over a forest whose records are the outline's, each once, as a sum over all records
weighed : (o : List ℕ) (w : ℕ → ℕ) (F : Forest) → ((t : ℕ) → count_in t F ≤ occurs t (records o))
    → total (λ t. w t * count_in t F) (records o) ≡ sum_in (λ r f. w r) F
unfolding records
weighed o w empty h = simp mul-zero (total_zero (records o))
weighed o w (node r f n) h =
    simp mul-add
    (omega (
      arith,
      total_add (λ t. w t * one (eqb t r)) (λ t. w t * count_in t f + w t * count_in t n) (records o),
      total_add (λ t. w t * count_in t f) (λ t. w t * count_in t n) (records o),
      here,
      ap (λ k. w r * k) once,
      weighed o w n (λ t. omega (arith, h t)),
      weighed o w f (λ t. omega (arith, h t)),
    ))
  where
    here : total (λ t. w t * one (eqb t r)) (records o) ≡ w r * occurs r (records o)
    here = ap (λ g. total g (records o)) (fun_ext (λ t. ap (λ b. w t * one b) (eqb_comm t r))) ∙ total_at w r (records o)

    once : occurs r (records o) ≡ 1
    once = omega (arith, h r, ap one (eq-eqb r r refl), occurs_most r 1 (size o))

-- of a chosen record and a list that has it k times, once at most: it is outside the list or in it
apart : (b : Bool) (k : ℕ) → k ≤ 1 → one (b && not (positive k)) + one b * k ≡ one b
apart true zero h = refl
apart true (suc zero) h = refl
apart true (suc (suc k)) h = absurd (omega arith)
apart false k h = omega arith

module _ (o : List ℕ) (linked : Linked o) (s : List ℕ) where
  within_tree : (w : ℕ → ℕ) → total (λ r. if within o s r then w r else 0) (records o) ≡ within_in w (chosen s) (tree o 1)
  within_tree w = simp within_count (sum_all o linked (λ r f. if positive (one (chosen s r) + chosen_in (chosen s) f) then w r else 0))

  pub rooted_tree : rooted o s ≡ rooted_in o (chosen s) (tree o 1)
  unfolding rooted
  rooted_tree = within_tree (branch o)

  pub cost_tree : cost o s ≡ cost_in o (chosen s) (tree o 1)
  unfolding cost
  cost_tree = within_tree (price o)

  pub elsewhere_count : (r : ℕ) → 1 ≤ r → r ≤ size o → elsewhere o s r ≡ positive (chosen_in (chosen s) (tree o 1) - chosen_below o s r)
  unfolding elsewhere
  elsewhere_count r l u = anywhere_count out (records o) ∙ ap positive left
    where
      below : Forest
      below = node r (tree o (first o r)) empty

      out : ℕ → Bool
      out t = chosen s t && not (anywhere (eqb t) (clade o r))

      stepped : (t : ℕ) → count_in t below ≤ count_in t (tree o r)
      stepped t = omega (arith, ap (count_in t) (tree_step o linked r l u))

      each : (t : ℕ) → one (out t) + one (chosen s t) * count_in t below ≡ one (chosen s t)
      each t =
          rw (anywhere_count (eqb t) (clade o r) ∙ ap positive listed)
          (apart (chosen s t) (count_in t below) (omega (arith, stepped t, distinct o linked r u t)))
        where
          listed : total (λ q. one (eqb t q)) (clade o r) ≡ count_in t below
          listed = omega (arith, total_clade (λ q. one (eqb t q)) o r)

      chosen_apart : total (λ t. one (out t)) (records o) + total (λ t. one (chosen s t) * count_in t below) (records o) ≡ total (λ t. one (chosen s t)) (records o)
      chosen_apart =
          sym (total_add (λ t. one (out t)) (λ t. one (chosen s t) * count_in t below) (records o)) ∙ ap (λ g. total g (records o)) (fun_ext each)

      left : total (λ t. one (out t)) (records o) ≡ chosen_in (chosen s) (tree o 1) - chosen_below o s r
      left =
          omega (
            arith,
            chosen_apart,
            sum_all o linked (λ q f. one (chosen s q)),
            weighed o (λ t. one (chosen s t)) below (λ t. omega (arith, stepped t, inside o linked r u t)),
          )

  -- no group is chosen
  pub groups_none : IsSet o s → groups_in (chosen s) (tree o 1) ≡ 0
  unfolding records
  groups_none x =
      sym (sum_all o linked (λ r f. one (chosen s r && is_group f))) ∙ total_ext _ (λ r. 0) 1 (size o) (λ r l u. each r l (omega arith) (is_taxon o r) refl)
      ∙ total_zero (records o)
    where
      each : (r : ℕ) → 1 ≤ r → r ≤ size o → (b : Bool) → is_taxon o r ≡ b → one (chosen s r && is_group (tree o (first o r))) ≡ 0
      each r l u true e = rw (members_cases o linked r l u is_group false true refl (λ q g m. refl), e, and-false)
      each r l u false e = rw (group_unchosen o s x r l u e)

  -- unrooted, a branch counts where some of all chosen records are at or below it and some are not
  pub unrooted_crossing : unrooted o s ≡ sum_in (crossing o (chosen s) (chosen_in (chosen s) (tree o 1))) (tree o 1)
  unfolding unrooted records
  unrooted_crossing =
      total_ext _ (λ r. crossing o (chosen s) all r (tree o (first o r))) 1 (size o)
      (λ r l u. ap₂ (λ b c. if b && c then branch o r else 0) (within_count o s r) (elsewhere_count r l (omega arith)))
      ∙ sum_all o linked (crossing o (chosen s) all)
    where
      all : ℕ
      all = chosen_in (chosen s) (tree o 1)

  pub unrooted_tree : IsSet o s → unrooted o s ≡ unrooted_in o (chosen s) (tree o 1)
  unrooted_tree x = unrooted_crossing ∙ crossing_unrooted o (chosen s) (chosen_in (chosen s) (tree o 1)) (tree o 1) (groups_none x) refl

  -- rooted, as if one more taxon were chosen outside the outline
  pub rooted_crossing : rooted o s ≡ sum_in (crossing o (chosen s) (1 + chosen_in (chosen s) (tree o 1))) (tree o 1)
  rooted_crossing = rooted_tree ∙ sym (crossing_rooted o (chosen s) _ 1 (tree o 1) (omega arith) refl)

  pub taxa_tree : chosen_taxa o s ≡ chosen_in (chosen s) (tree o 1)
  unfolding chosen_taxa
  taxa_tree = sum_all o linked (λ r f. one (chosen s r))
