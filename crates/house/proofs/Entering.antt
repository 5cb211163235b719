-- The smallest plates of a chain, from those of its links.
use Prim.Native.Nat.{ℕ, ◌+◌, ◌≤◌, ◌<◌}
use mathlib.Core.Path.{◌≡◌, refl, sym, ap, ap₂, ◌∙◌}
use mathlib.Core.Logic.{◌≢◌}
use mathlib.Core.Bool.{Bool, true, false}
use mathlib.Core.List.{List}
use native.Mathlib.Omega.{arith}
use lib.Dec.{eqb}
use lib.ListN.{length, get_or, set, length-set}
use borrow.Author.Tests.{eqb-true, eqb-false, ne_eqb}
use Rattle.lists.specs.Lists.{one}
use Rattle.outline.specs.Inner.{numbers}
use Rattle.outline.specs.Outline.{size, records, next, first, plate}
use Rattle.outline.specs.WellFormed.{WellFormed}
use Rattle.diversity.specs.Diversity.{chain, clade}
use Rattle.laws.specs.Forest.{count_in, tree}
use Rattle.laws.proofs.Chains.{chain_none}
use Rattle.laws.proofs.Forest.{tree_zero, tree_step, sum_all}
use Rattle.laws.proofs.Handing.{stored}
use Rattle.laws.proofs.Sums.{occurs_once}
use Rattle.canonical.specs.House.{smaller, smallest_of, smallest}
use Rattle.canonical.proofs.Smallest.{chain_smallest}
use Rattle.house.specs.Inner.{Smallest, Enterable, Entered}

-- ---- entering
-- no chain
pub none_entered : {o : List ℕ} {r : ℕ} {plates : List ℕ} → r ≡ 0 → Entered o r plates plates 0
unfolding smallest_of
none_entered {o} {r} {plates} z = rw z (record {
  smallest_is = sym (ap (smallest_of o) (chain_none (size o) o));
  long = refl;
  filled = λ q h. absurd (omega (arith, ap (count_in q) (tree_zero o)));
  stays = λ q e. e;
})

-- the smallest plate of record r, from that of its members
pub own_smallest : (o : List ℕ) (r : ℕ) {p below here : ℕ} → p ≡ plate o r → below ≡ smallest_of o (chain (size o) o (first o r))
    → here ≡ smaller p below → here ≡ smallest o r
unfolding smallest clade smallest_of
own_smallest o r ep eb eh = rw (eh, ep, eb)

module _ {o : List ℕ} {r : ℕ} {plates : List ℕ} (h : Enterable o r plates) (low : 1 ≤ r) where
  -- the chain from the record itself, from its members and from the rest
  pub chain_entered : {f n : ℕ} {mid new : List ℕ} {below here rest least : ℕ} → f ≡ first o r → n ≡ next o r
      → Entered o f plates mid below → here ≡ smallest o r → Entered o n (set mid r here) new rest
      → least ≡ smaller here rest → Entered o r plates new least
  chain_entered {f} {n} {mid = mid} {new} {here = own} ef en below is rest e =
      let whole = tree_step o h.formed.linked r low h.most in
      record {
        smallest_is =
            e ∙ ap₂ smaller is (rest.smallest_is ∙ ap (λ x. smallest_of o (chain (size o) o x)) en)
            ∙ sym (chain_smallest o h.formed.linked r low h.most);
        long = rest.long ∙ length-set mid r own ∙ below.long;
        filled = λ q p. known q (rw whole at p) (eqb (count_in q (tree o n)) 0) refl;
        stays = λ q p. rest.stays q (set_right q (λ d. below.stays q p));
      }
    where
      set_right : (q : ℕ) → (q ≢ r → get_or mid q 0 ≡ smallest o q) → get_or (set mid r own) q 0 ≡ smallest o q
      set_right q was = stored (λ q v. v ≡ smallest o q) mid r own q (omega (arith, below.long, h.long, h.most, h.formed.size_most)) is was

      known : (q : ℕ) → 0 < one (eqb q r) + (count_in q (tree o (first o r)) + count_in q (tree o (next o r)))
          → (b : Bool) → eqb (count_in q (tree o n)) 0 ≡ b → get_or new q 0 ≡ smallest o q
      known q p false z = let some = eqb-false (count_in q (tree o n)) 0 z in rest.filled q (omega arith)
      known q p true z =
          rest.stays q (set_right q (λ d. below.filled q (omega (
            arith,
            ap one (ne_eqb q r d),
            eqb-true (count_in q (tree o n)) 0 z,
            ap (λ x. count_in q (tree o x)) ef,
            ap (λ x. count_in q (tree o x)) en,
          ))))

-- all chains are below record 1
pub root_entered : {o plates new : List ℕ} {least : ℕ} → WellFormed o → length plates ≡ numbers → Entered o 1 plates new least
    → Smallest o new
unfolding records
root_entered {o} formed long e = record {
  long = e.long ∙ long;
  at_record = λ r i.
      let once = occurs_once r 1 (size o) i.low (omega (arith, i.high)) in
      e.filled r (omega (arith, sum_all o formed.linked (λ q f. one (eqb r q)), once));
}
