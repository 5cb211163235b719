-- The links of an accepted outline name each record but the first, once: a sum over all records is a recursion along them.
use Prim.Native.Nat.{ℕ, zero, suc, ◌+◌, ◌*◌, ◌≤◌, ◌<◌}
use mathlib.Core.Path.{◌≡◌, refl, sym, ap, ◌∙◌}
use mathlib.Core.Bool.{Bool, true, false}
use mathlib.Core.List.{List}
use native.Mathlib.Omega.{arith}
use native.Mathlib.Nat.{mul-one}
use lib.Dec.{eqb}
use borrow.Author.Tests.{eqb-true}
use Rattle.lists.specs.Lists.{one, from, total}
use Rattle.outline.specs.Outline.{size, next, first, records}
use Rattle.outline.specs.WellFormed.{Later, Linked}
use Rattle.laws.proofs.Sums.{Term, total_some, total_add, total_scale, total_swap, total_ext, total_two}
use Rattle.outline.specs.Rules.{naming, named}

-- the record whose link names q
pub data Namer (o : List ℕ) (q : ℕ) : Type 0 where
  by_next : (r : ℕ) → 1 ≤ r → r < q → next o r ≡ q → Namer o q
  by_first : (r : ℕ) → 1 ≤ r → r < q → first o r ≡ q → Namer o q

pub namer : (o : List ℕ) → Linked o → (q : ℕ) → 2 ≤ q → q ≤ size o → Namer o q
unfolding named naming records
namer o linked q l u = found (total_some (naming o q) 1 (size o) (omega (arith, linked.named_once q l u)))
  where
    found : Term (naming o q) 1 (size o) → Namer o q
    found (r, lr, ur, h) = go (eqb (next o r) q) (eqb (first o r) q) refl refl
      where
        go : (b c : Bool) → eqb (next o r) q ≡ b → eqb (first o r) q ≡ c → Namer o q
        go true c d e =
            let n = eqb-true (next o r) q d in
            let k = (linked.next_later r lr (omega arith)).later (omega arith) in
            by_next r lr (omega arith) n
        go false true d e =
            let n = eqb-true (first o r) q e in
            let k = (linked.first_later r lr (omega arith)).later (omega arith) in
            by_first r lr (omega arith) n
        go false false d e = absurd (omega (arith, h, ap one d, ap one e))

module _ (o : List ℕ) (linked : Linked o) (G : ℕ → ℕ) (nil : G 0 ≡ 0) where
  -- a link is no record before the second, so there it counts nothing
  link_nil : (r q : ℕ) → 1 ≤ r → Later o r q → q < 2 → G q ≡ 0
  link_nil r zero l k h = nil
  link_nil r (suc q) l k h = let later = k.later (omega arith) in absurd (omega arith)

  -- what the link fields name is each record but the first, once
  links_total : (m : ℕ) → size o ≡ suc m → total (λ r. G (next o r) + G (first o r)) (records o) ≡ total G (from 2 m)
  unfolding records named naming
  links_total m e =
      total_ext _ (λ r. total (λ q. G q * naming o q r) (from 2 m)) 1 (size o) each_record
      ∙ total_swap (λ r q. G q * naming o q r) (records o) (from 2 m)
      ∙ total_ext _ G 2 m each_link
    where
      each_record : (r : ℕ) → 1 ≤ r → r < 1 + size o → G (next o r) + G (first o r) ≡ total (λ q. G q * naming o q r) (from 2 m)
      each_record r l u =
          let n = linked.next_later r l (omega arith) in
          let f = linked.first_later r l (omega arith) in
          sym (total_two G (next o r) (first o r) 2 m (omega arith) (link_nil r _ l n) (omega arith) (link_nil r _ l f))

      each_link : (q : ℕ) → 2 ≤ q → q < 2 + m → total (λ r. G q * naming o q r) (records o) ≡ G q
      each_link q l u = total_scale (G q) (naming o q) (records o) ∙ ap (λ n. G q * n) (linked.named_once q l (omega arith)) ∙ mul-one (G q)

  -- the sum of w over all records, by a recursion along the links
  pub total_by_links : (w : ℕ → ℕ) → ((r : ℕ) → 1 ≤ r → r ≤ size o → G r ≡ w r + (G (first o r) + G (next o r)))
      → total w (records o) ≡ G 1
  unfolding records total from
  total_by_links w step = go (size o) refl
    where
      go : (n : ℕ) → size o ≡ n → total w (records o) ≡ G 1
      go zero e = absurd (omega (arith, linked.filled))
      go (suc m) e =
          let all : total G (records o) ≡ G 1 + total G (from 2 m) = ap (λ n. total G (from 1 n)) e in
          let split = total_add w (λ r. G (next o r) + G (first o r)) (records o) in
          let stepped : total G (records o) ≡ total (λ r. w r + (G (next o r) + G (first o r))) (records o) =
          total_ext G _ 1 (size o) (λ r l u. omega (arith, step r l (omega arith))) in
          omega (arith, links_total m e)
