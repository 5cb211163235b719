-- A set pays its own prices and the headings that it opens; where every heading is free, that is document 01's cost.
use Rattle.std.specs.Prelude.{if◌then◌else◌}
use Prim.Native.Nat.{ℕ, ◌+◌, ◌≤◌}
use mathlib.Core.Path.{◌≡◌, refl, sym, ◌∙◌}
use mathlib.Core.Bool.{Bool, true, false, or-false}
use mathlib.Core.List.{List}
use native.Mathlib.Omega.{arith}
use borrow.Author.Tests.{eqb-true}
use Rattle.lists.specs.Lists.{anywhere}
use Rattle.outline.specs.Outline.{size, records, first, price, is_taxon}
use Rattle.diversity.specs.Diversity.{clade, chosen, within, cost}
use Rattle.diversity.specs.Behind.{IsSet}
use Rattle.diversity.specs.Headings.{prices_chosen, opens, headings_opened, FreeHeadings}
use Rattle.laws.proofs.Sums.{if_zero, total_add, total_ext}
use Rattle.laws.proofs.Chains.{chain_none}
use Rattle.laws.proofs.Marks.{group_unchosen}

-- at a taxon, what counts is whether it is chosen
within_taxon : (o s : List ℕ) (r : ℕ) → is_taxon o r ≡ true → within o s r ≡ chosen s r
unfolding within clade anywhere
within_taxon o s r t = rw (eqb-true (first o r) 0 t, chain_none (size o) o) (or-false (chosen s r))

-- what costs where no group is chosen: the prices chosen, and the prices of the groups that have one of them below
pub cost_parts : (o s : List ℕ) → ((r : ℕ) → 1 ≤ r → r ≤ size o → is_taxon o r ≡ false → chosen s r ≡ false)
    → cost o s ≡ prices_chosen o s + headings_opened o s
unfolding cost prices_chosen headings_opened records within clade anywhere opens
cost_parts o s unchosen = total_ext _ _ 1 (size o) (λ r l u. go r l (omega arith) (is_taxon o r) refl) ∙ total_add _ _ (records o)
  where
    go : (r : ℕ) → 1 ≤ r → r ≤ size o → (t : Bool) → is_taxon o r ≡ t
        → (if within o s r then price o r else 0) ≡ (if chosen s r then price o r else 0) + (if opens o s r then price o r else 0)
    go r l u true t = rw (within_taxon o s r t, t) (omega arith)
    go r l u false t = rw (t, unchosen r l u t) (omega arith)

-- the cost of a set of taxa
pub cost_opened : (o s : List ℕ) → IsSet o s → cost o s ≡ prices_chosen o s + headings_opened o s
cost_opened o s x = cost_parts o s (group_unchosen o s x)

-- where every heading is free, any marks cost their prices
pub free_headings : (o s : List ℕ) → FreeHeadings o → cost o s ≡ prices_chosen o s
unfolding cost prices_chosen records
free_headings o s free = total_ext _ _ 1 (size o) (λ r l u. go r l (omega arith) (is_taxon o r) refl)
  where
    go : (r : ℕ) → 1 ≤ r → r ≤ size o → (t : Bool) → is_taxon o r ≡ t → (if within o s r then price o r else 0) ≡ (if chosen s r then price o r else 0)
    go r l u true t = rw (within_taxon o s r t)
    go r l u false t =
        let zero_price = free r (record { low = l; high = u }) t in
        rw zero_price (if_zero (within o s r) ∙ sym (if_zero (chosen s r)))
