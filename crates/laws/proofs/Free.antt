-- A taxon that is free, with every group above it, is always chosen: a set that lacks it is behind the same set with it.
use Rattle.std.proofs.lemmas.Bool.{or_parts}
use Rattle.std.specs.Prelude.{if◌then◌else◌}
use Prim.Native.Nat.{ℕ, zero, suc, ◌+◌, ◌-◌, ◌≤◌}
use mathlib.Core.Path.{◌≡◌, refl, sym, ap, ap₂, ◌∙◌}
use mathlib.Core.Logic.{inr}
use mathlib.Core.Bool.{Bool, true, false, ◌||◌, false≢true}
use mathlib.Core.List.{List, [], ◌∷◌}
use native.Mathlib.Omega.{arith}
use lib.Dec.{eqb}
use lib.ListN.{get_or, set, length-set}
use lib.Seq.{get_or-set_same, get_or-set_other}
use borrow.Author.Tests.{eqb-true, eqb-false, eq-eqb, ne_eqb}
use Rattle.lists.specs.Lists.{one, anywhere, total}
use Rattle.outline.specs.Outline.{size, records, next, first, price, is_taxon}
use Rattle.diversity.specs.Diversity.{chain, clade, chosen, within, cost}
use Rattle.diversity.specs.Behind.{MarkAt, IsSet, Fits, Behind, less_diversity, more_cost, lacks_first}
use Rattle.diversity.specs.Headings.{Free}
use Rattle.diversity.specs.Search.{optimum}
use Rattle.laws.specs.Locks.{locked_set}
use Rattle.laws.proofs.Sums.{if_zero, occurs, total_append, total_ext}
use Rattle.laws.proofs.Locks.{held_each}
use Rattle.laws.proofs.More.{Implies, diversity_more}
use Rattle.laws.proofs.Optimum.{optimum_set, optimum_fits, others_behind}

-- 0 is no record's number
no_zero : (k : ℕ) (o : List ℕ) (r : ℕ) → occurs 0 (chain k o r) ≡ 0
unfolding chain total
no_zero zero o r = refl
no_zero (suc k) o zero = refl
no_zero (suc k) o (suc r) =
    let f = chain k o (first o (suc r)) in
    let n = chain k o (next o (suc r)) in
    omega (
      arith,
      ap one (ne_eqb 0 (suc r) (λ e. omega arith)),
      total_append (λ q. one (eqb 0 q)) f n,
      no_zero k o (first o (suc r)),
      no_zero k o (next o (suc r)),
    )

-- ---- a set with one taxon more
module _ (o s : List ℕ) (x : IsSet o s) (r : ℕ) (l : 1 ≤ r) (u : r ≤ size o) where
  joined : List ℕ
  joined = set s (r - 1) 1

  joined_here : (q : ℕ) → eqb (q - 1) (r - 1) ≡ true → get_or joined (q - 1) 0 ≡ 1
  unfolding joined
  joined_here q e = rw (eqb-true (q - 1) (r - 1) e) (get_or-set_same s (r - 1) 1 0 (omega (arith, x.whole)))

  joined_else : (q : ℕ) → eqb (q - 1) (r - 1) ≡ false → get_or joined (q - 1) 0 ≡ get_or s (q - 1) 0
  unfolding joined
  joined_else q e = get_or-set_other s (r - 1) (q - 1) 1 0 (eqb-false _ _ e)

  joined_more : (q : ℕ) → Implies (chosen s q) (chosen joined q)
  unfolding chosen
  joined_more q = go (eqb (q - 1) (r - 1)) refl
    where
      go : (b : Bool) → eqb (q - 1) (r - 1) ≡ b → Implies (eqb (get_or s (q - 1) 0) 1) (eqb (get_or joined (q - 1) 0) 1)
      go true e h = rw (joined_here q e)
      go false e h = rw (joined_else q e) h

  joined_has : chosen joined r ≡ true
  unfolding chosen
  joined_has = ap (λ (k : ℕ). eqb k 1) (joined_here r (eq-eqb (r - 1) (r - 1) refl))

  joined_set : is_taxon o r ≡ true → IsSet o joined
  unfolding joined
  joined_set taxon = record { whole = length-set s (r - 1) 1 ∙ x.whole; marks = λ q m v. go q m v (eqb (q - 1) (r - 1)) refl }
    where
      go : (q : ℕ) → 1 ≤ q → q ≤ size o → (b : Bool) → eqb (q - 1) (r - 1) ≡ b → MarkAt o q (get_or joined (q - 1) 0)
      go q m v true e =
          let same : q ≡ r = omega (arith, eqb-true (q - 1) (r - 1) e) in
          inr (joined_here q e, ap (is_taxon o) same ∙ taxon)
      go q m v false e = rw (joined_else q e) (x.marks q m v)

  -- among records without r, the same are chosen
  joined_apart : (xs : List ℕ) → anywhere (eqb r) xs ≡ false → occurs 0 xs ≡ 0 → anywhere (chosen joined) xs ≡ anywhere (chosen s) xs
  unfolding anywhere total chosen
  joined_apart [] e z = refl
  joined_apart (q ∷ qs) e z =
      let (here, later) = or_parts (eqb r q) (anywhere (eqb r) qs) e in
      let apart = eqb-false r q here in
      ap₂ ◌||◌ (ap (λ k. eqb k 1) (joined_else q (ne_eqb (q - 1) (r - 1) (λ d. apart (omega (arith, positive q z)))))) (joined_apart qs later (omega arith))
    where
      positive : (q : ℕ) → one (eqb 0 q) + occurs 0 qs ≡ 0 → 1 ≤ q
      positive zero z = absurd (omega arith)
      positive (suc q) z = omega arith

  -- a free one costs nothing
  joined_cost : Free o r → cost o joined ≡ cost o s
  unfolding cost within records clade total
  joined_cost free = total_ext _ _ 1 (size o) (λ q m v. go q m (omega arith) (anywhere (eqb r) (clade o q)) refl)
    where
      go : (q : ℕ) → 1 ≤ q → q ≤ size o → (b : Bool) → anywhere (eqb r) (clade o q) ≡ b
          → (if anywhere (chosen joined) (clade o q) then price o q else 0) ≡ (if anywhere (chosen s) (clade o q) then price o q else 0)
      go q m v true e =
          rw (free q (record { low = m; high = v }) e)
          (if_zero (anywhere (chosen joined) (clade o q)) ∙ sym (if_zero (anywhere (chosen s) (clade o q))))
      go q m v false e =
          ap (λ b. if b then price o q else 0)
          (joined_apart (clade o q) e (omega (arith, ap one (ne_eqb 0 q (λ z. omega arith)), no_zero (size o) o (first o q))))

-- a free taxon is always chosen where the groups above it are free too
pub free_chosen : (o : List ℕ) (way b : ℕ) → cost o (locked_set o) ≤ b → (r : ℕ) → 1 ≤ r → r ≤ size o → is_taxon o r ≡ true → Free o r
    → chosen (optimum o way b) r ≡ true
free_chosen o way b fit r l u taxon free = go (chosen s r) refl
  where
    s : List ℕ
    s = optimum o way b

    x : IsSet o s
    x = optimum_set o way b fit

    t : List ℕ
    t = joined o s x r l u

    more : (q : ℕ) → Implies (chosen s q) (chosen t q)
    more = joined_more o s x r l u

    same_cost : cost o t ≡ cost o s
    same_cost = joined_cost o s x r l u free

    fits : Fits o b t
    fits =
        let f = optimum_fits o way b fit in
        record {
          cost_most = omega (arith, same_cost);
          locked_held = (held_each o t).1 (λ q m v h. more q ((held_each o s).0 f.locked_held q m v h));
        }

    not_behind : Behind o way s t → ⊥
    not_behind (less_diversity h) = omega (arith, diversity_more o s t more way)
    not_behind (more_cost d h) = omega (arith, same_cost)
    not_behind (lacks_first d c h) = false≢true (sym h.lacks ∙ more h.at h.has)

    go : (c : Bool) → chosen s r ≡ c → chosen s r ≡ true
    go true e = e
    go false e =
        absurd (not_behind (others_behind o way b t (joined_set o s x r l u taxon) fits
        (λ same. false≢true (sym e ∙ ap (λ (z : List ℕ). chosen z r) (sym same) ∙ joined_has o s x r l u))))
