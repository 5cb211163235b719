-- The links of a tree that is laid out keep the rule of refusal 6: each leads to a later record, record 1 has no next, and each other
-- record is named once.
use Rattle.std.specs.Prelude.{if◌then◌else◌}
use Prim.Native.Nat.{ℕ, ◌+◌, ◌≤◌, ◌<◌}
use mathlib.Core.Path.{◌≡◌, refl, ap, fun_ext, ◌∙◌}
use mathlib.Core.Bool.{Bool, true, false, ◌||◌, not}
use mathlib.Core.List.{List}
use native.Mathlib.Omega.{arith}
use lib.Dec.{eqb}
use borrow.Author.Tests.{eqb-true, eqb-false, eq-eqb, ne_eqb, le-ltb, lt-leb}
use Rattle.lists.proofs.Numbered.{Numbered, numbered_next, numbered_from, numbered_both}
use Rattle.lists.specs.Lists.{one, from, anywhere, total}
use Rattle.lists.proofs.Bools.{eqb_comm}
use Rattle.lists.proofs.Walk.{anywhere_none, nowhere_both}
use Rattle.outline.specs.Outline.{size, records, next, first, IsRecord}
use Rattle.outline.specs.Rules.{stray, naming, named, bad_link, most_records}
use Rattle.laws.proofs.Sums.{total_append, occurs_once}
use Rattle.newick.specs.Grammar.{Kind, part, chain, Tree}
use Rattle.newick.specs.Inner.{InRange}
use Rattle.newick.specs.Layout.{count, layout}
use Rattle.newick.proofs.Layouts.{count_some}
use Rattle.newick.proofs.Regrown.{Regrown, layout_regrown}
use Rattle.newick.proofs.Traced.{Traced, taxon_at, group_at, last_at, more_at, traced_count}
use Rattle.reading.proofs.Answers.{layout_size}

module _ (o : List ℕ) where
  -- a link that is none, and one to a later record
  nowhere : (r link : ℕ) → link ≡ 0 → stray o r link ≡ false
  nowhere r link z = rw (eq-eqb link 0 z)

  onward : (r link : ℕ) → r < link → link ≤ size o → stray o r link ≡ false
  onward r link l u = rw (ne_eqb link 0 (λ z. omega arith), lt-leb link r l, le-ltb (size o) link u)

  abbrev strays : ℕ → Bool
  strays r = stray o r (next o r) || stray o r (first o r)

  -- a part or a chain begins with the first of its records
  begins : {κ : Kind} {t : Tree κ} {r k : ℕ} {rs : List ℕ} → Traced o κ t r rs → Numbered k rs → (r ≡ k) × IsRecord o r
  begins (taxon_at i e) (numbered_next h) = (refl, i)
  begins (group_at i e x) (numbered_next h) = (refl, i)
  begins (last_at e x) h = begins x h
  begins (more_at {rs = rs} {qs = qs} e x y) h = begins x (numbered_both rs qs h).0

  -- what is known of the next of a part, and what a chain's last member has
  abbrev Goes : Kind → ℕ → Type 0
  Goes part r = stray o r (next o r) ≡ false
  Goes chain r = r ≡ r

  -- no link is stray
  straight : {κ : Kind} {t : Tree κ} {r k : ℕ} {rs : List ℕ} → Traced o κ t r rs → Numbered k rs → Goes κ r → anywhere strays rs ≡ false
  unfolding anywhere
  straight {r = r} (taxon_at i e) h g = rw (g, nowhere r (first o r) (eqb-true (first o r) 0 e))
  straight {r = r} (group_at i e x) (numbered_next h) g =
      let (is, at) = begins x h in
      rw (g, onward r (first o r) (omega arith) at.high) (straight x h refl)
  straight {r = r} (last_at e x) h g = straight x h (nowhere r (next o r) e)
  straight {r = r} (more_at {t = t} {rs = rs} {qs = qs} e x y) h g =
      let both = numbered_both rs qs h in
      let (is, at) = begins y both.1 in
      let l : r < next o r = omega (arith, (begins x both.0).0, traced_count x, count_some t) in
      nowhere_both strays rs qs (straight x both.0 (onward r (next o r) l at.high)) (straight y both.1 refl)

  -- the links of a part or a chain name each of its records but the first, and what a part's own next names
  abbrev beyond : Kind → ℕ → ℕ → ℕ
  beyond part r q = one (eqb (next o r) q)
  beyond chain r q = 0

  module _ (q : ℕ) (some : 0 < q) where
    apart : (link : ℕ) → link ≡ 0 → one (eqb link q) ≡ 0
    apart link z = ap one (ne_eqb link q (λ e. omega arith))

    names : {κ : Kind} {t : Tree κ} {r : ℕ} {rs : List ℕ} → Traced o κ t r rs
        → total (naming o q) rs + one (eqb r q) ≡ total (λ s. one (eqb s q)) rs + beyond κ r q
    unfolding total naming
    names {r = r} (taxon_at i e) = omega (arith, apart (first o r) (eqb-true (first o r) 0 e))
    names (group_at i e x) = omega (arith, names x)
    names {r = r} (last_at e x) = omega (arith, names x, apart (next o r) e)
    names (more_at {rs = rs} {qs = qs} e x y) =
        rw (total_append (naming o q) rs qs, total_append (λ s. one (eqb s q)) rs qs) (omega (arith, names x, names y))

pub layout_linked : (cost : ℕ → ℕ) (t : Tree part) → InRange part t → count t ≤ most_records → (r : ℕ) → 1 ≤ r → r ≤ count t
    → bad_link (layout cost t) r ≡ false
unfolding bad_link named records
layout_linked cost t range few r l u =
    let own = straight o grown.traced (numbered_from 1 (count t)) (nowhere o 1 (next o 1) grown.next_is) in
    rw (anywhere_none (strays o) (count t) own r l u) (go (eqb r 1) refl)
  where
    o : List ℕ
    o = layout cost t

    grown : Regrown cost o part t 1 0
    grown = layout_regrown cost t range few

    go : (b : Bool) → eqb r 1 ≡ b → (if b then not (eqb (next o r) 0) else not (eqb (named o r) 1)) ≡ false
    go true e = ap not (eq-eqb (next o r) 0 (ap (next o) (eqb-true r 1 e) ∙ grown.next_is))
    go false e =
        let other = eqb-false r 1 e in
        let once : total (λ s. one (eqb s r)) (from 1 (count t)) ≡ 1 =
        ap (λ f. total f (from 1 (count t))) (fun_ext (λ s. ap one (eqb_comm s r))) ∙ occurs_once r 1 (count t) l (omega arith) in
        let root : one (eqb 1 r) ≡ 0 = ap one (ne_eqb 1 r (λ e. omega arith)) in
        let many : named o r ≡ total (naming o r) (from 1 (count t)) = ap (λ n. total (naming o r) (from 1 n)) (layout_size cost t) in
        ap not (eq-eqb (named o r) 1 (omega (arith, many, once, root, names o r l grown.traced, apart o r l (next o 1) grown.next_is)))
