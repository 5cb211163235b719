-- A set with one taxon more: what it has, and what the taxon adds, as sums over the records that then count and did not before.
use Rattle.std.specs.Prelude.{if◌then◌else◌}
use Prim.Native.Nat.{ℕ, ◌+◌, ◌*◌, ◌-◌, ◌≤◌}
use mathlib.Core.Path.{◌≡◌, refl, sym, ap, fun_ext, ◌∙◌}
use mathlib.Core.Logic.{inr}
use mathlib.Core.Bool.{Bool, true, false, ◌||◌, ◌&&◌, not, false≢true, or-true, or-false}
use mathlib.Core.List.{List}
use native.Mathlib.Omega.{arith}
use lib.Dec.{eqb}
use lib.ListN.{get_or, set, length-set}
use lib.Seq.{get_or-set_same, get_or-set_other}
use borrow.Author.Tests.{eqb-true, eqb-false}
use Rattle.lists.specs.Lists.{one, total}
use Rattle.lists.proofs.Bools.{eqb_comm}
use Rattle.outline.specs.Outline.{size, records, branch, price, is_taxon, IsRecord}
use Rattle.diversity.specs.Diversity.{chosen, within, rooted, diversity, cost, chosen_taxa}
use Rattle.diversity.specs.Behind.{MarkAt, IsSet}
use Rattle.laws.proofs.Locks.{chosen_inside}
use Rattle.laws.proofs.More.{Implies, within_more}
use Rattle.laws.proofs.Sums.{total_add, total_ext, total_single}
use Rattle.quick.specs.Quick.{with_taxon, added, added_cost}

-- ---- the set
-- what it had it has still
pub taxon_more : (s : List ℕ) (t q : ℕ) → Implies (chosen s q) (chosen (with_taxon s t) q)
unfolding with_taxon chosen
taxon_more s t q h = go (eqb (q - 1) (t - 1)) refl
  where
    go : (b : Bool) → eqb (q - 1) (t - 1) ≡ b → eqb (get_or (set s (t - 1) 1) (q - 1) 0) 1 ≡ true
    go true e = let i = eqb-true (q - 1) (t - 1) e in rw i (rw (get_or-set_same s (t - 1) 1 0 (omega (arith, chosen_inside s q h))))
    go false e = rw (get_or-set_other s (t - 1) (q - 1) 1 0 (eqb-false (q - 1) (t - 1) e)) h

-- a record is chosen that was, or that is the taxon
pub with_chosen : (o s : List ℕ) → IsSet o s → {t : ℕ} → IsRecord o t → (q : ℕ) → IsRecord o q → chosen (with_taxon s t) q ≡ (chosen s q || eqb q t)
unfolding with_taxon chosen
with_chosen o s x {t} i q j = go (eqb q t) refl
  where
    go : (b : Bool) → eqb q t ≡ b → eqb (get_or (set s (t - 1) 1) (q - 1) 0) 1 ≡ (eqb (get_or s (q - 1) 0) 1 || b)
    go true e =
        let same : q ≡ t = eqb-true q t e in
        rw same (rw (get_or-set_same s (t - 1) 1 0 (omega (arith, x.whole, i.low, i.high))) (sym (or-true _)))
    go false e =
        let other = eqb-false q t e in
        rw (get_or-set_other s (t - 1) (q - 1) 1 0 (λ z. other (omega (arith, i.low, j.low)))) (sym (or-false _))

-- it is a set of taxa
pub with_set : (o s : List ℕ) → IsSet o s → {t : ℕ} → IsRecord o t → is_taxon o t ≡ true → IsSet o (with_taxon s t)
unfolding with_taxon
with_set o s x {t} i e = record { whole = length-set s (t - 1) 1 ∙ x.whole; marks = λ r l u. go r l u (eqb r t) refl }
  where
    go : (r : ℕ) → 1 ≤ r → r ≤ size o → (b : Bool) → eqb r t ≡ b → MarkAt o r (get_or (set s (t - 1) 1) (r - 1) 0)
    go r l u true d =
        let same = eqb-true r t d in
        inr (ap (λ q. get_or (set s (t - 1) 1) (q - 1) 0) same ∙ get_or-set_same s (t - 1) 1 0 (omega (arith, x.whole)), ap (is_taxon o) same ∙ e)
    go r l u false d =
        let other = eqb-false r t d in
        rw (get_or-set_other s (t - 1) (r - 1) 1 0 (λ z. other (omega (arith, i.low)))) (x.marks r l u)

-- the taxon is one more
pub taxa_with : (o s : List ℕ) → IsSet o s → {t : ℕ} → IsRecord o t → chosen s t ≡ false → chosen_taxa o (with_taxon s t) ≡ chosen_taxa o s + 1
unfolding chosen_taxa records
taxa_with o s x {t} i lacks =
    total_ext _ (λ r. one (chosen s r) + 1 * one (eqb t r)) 1 (size o) (λ r l u. each r (record { low = l; high = omega arith }))
    ∙ total_add (λ r. one (chosen s r)) (λ r. 1 * one (eqb t r)) (records o)
    ∙ ap (λ n. total (λ r. one (chosen s r)) (records o) + n) (total_single (λ r. 1) t 1 (size o) (omega (arith, i.high)) (λ h. absurd (omega (arith, i.low))))
  where
    each : (r : ℕ) → IsRecord o r → one (chosen (with_taxon s t) r) ≡ one (chosen s r) + 1 * one (eqb t r)
    each r j = rw (with_chosen o s x i r j, eqb_comm t r) (go (eqb r t) refl)
      where
        go : (b : Bool) → eqb r t ≡ b → one (chosen s r || b) ≡ one (chosen s r) + 1 * one b
        go true e = rw (ap (chosen s) (eqb-true r t e) ∙ lacks) refl
        go false e = rw (or-false (chosen s r)) (omega arith)

-- ---- what it adds
module _ (o s : List ℕ) (t : ℕ) where
  -- record r counts with the taxon, and not without it
  abbrev pub newly : ℕ → Bool
  newly r = within o (with_taxon s t) r && not (within o s r)

  -- what these records make of w
  abbrev pub new_sum : (ℕ → ℕ) → ℕ
  new_sum w = total (λ r. if newly r then w r else 0) (records o)

  counted_sum : (w : ℕ → ℕ) → total (λ r. if within o (with_taxon s t) r then w r else 0) (records o)
      ≡ total (λ r. if within o s r then w r else 0) (records o) + new_sum w
  counted_sum w =
      sym (ap (λ f. total f (records o)) (fun_ext (λ r. go (within o s r) _ (w r) (within_more o s (with_taxon s t) (taxon_more s t) r))))
      ∙ total_add (λ r. if within o s r then w r else 0) (λ r. if newly r then w r else 0) (records o)
    where
      go : (a b : Bool) (n : ℕ) → Implies a b → (if a then n else 0) + (if b && not a then n else 0) ≡ (if b then n else 0)
      go true true n h = omega arith
      go true false n h = absurd (false≢true (h refl))
      go false true n h = omega arith
      go false false n h = omega arith

  pub added_sum : added o s t ≡ new_sum (branch o)
  unfolding added diversity rooted
  added_sum = omega (arith, counted_sum (branch o))

  pub added_cost_sum : added_cost o s t ≡ new_sum (price o)
  unfolding added_cost cost
  added_cost_sum = omega (arith, counted_sum (price o))

  -- the set with the taxon has what the set has, and what the taxon adds
  pub diversity_with : diversity o 0 (with_taxon s t) ≡ diversity o 0 s + added o s t
  unfolding added diversity rooted
  diversity_with = omega (arith, counted_sum (branch o))

  pub cost_with : cost o (with_taxon s t) ≡ cost o s + added_cost o s t
  unfolding added_cost cost
  cost_with = omega (arith, counted_sum (price o))
