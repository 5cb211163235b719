-- An outline whose records stand in text order is the layout of its own tree.
use Prim.Native.Nat.{ℕ, ◌+◌, ◌*◌, ◌-◌}
use mathlib.Core.Path.{◌≡◌, refl, sym, ap, ap₂, subst, ◌∙◌}
use mathlib.Core.Bool.{true}
use mathlib.Core.List.{List, [], ◌++◌, append_assoc, append-nil}
use native.Mathlib.Omega.{arith}
use lib.ListN.{drop, drop_of_length-le}
use borrow.Author.Tests.{eqb-true}
use Rattle.lists.proofs.Numbered.{Numbered, numbered_next, numbered_from, numbered_both}
use Rattle.lists.specs.Lists.{Bytes}
use Rattle.outline.specs.Outline.{size, records, next, first, branch, price, plate_field, plate, is_taxon, record_bytes, IsRecord}
use Rattle.diversity.specs.Order.{InTextOrder}
use Rattle.laws.proofs.Chains.{clade_size}
use Rattle.newick.specs.Grammar.{Kind, part, chain, Tree}
use Rattle.newick.specs.Layout.{count, rows, layout}
use Rattle.newick.specs.Trees.{tree_of}
use Rattle.newick.proofs.Plain.{Plain, heading_free, field_plate}
use Rattle.records.proofs.Records.{record_split}
use Rattle.newick.proofs.Traced.{Traced, taxon_at, group_at, last_at, more_at, tree_traced, traced_here, traced_count}

-- what a part's record names next; a chain has nothing after it
abbrev next_of : Kind → List ℕ → ℕ → ℕ
next_of part o r = next o r
next_of chain o r = 0

-- the taxa have these prices
abbrev pub Priced : List ℕ → (ℕ → ℕ) → Type 0
Priced o cost = (r : ℕ) → IsRecord o r → is_taxon o r ≡ true → cost (plate o r) ≡ price o r

module _ {o : List ℕ} (plain : Plain o) (small : Bytes o) (cost : ℕ → ℕ) (priced : Priced o cost) where
  -- the records from r on begin with those of the tree
  rowed : {κ : Kind} {t : Tree κ} {r k : ℕ} {rs : List ℕ} → Traced o κ t r rs → Numbered k rs
      → (k ≡ r) × (drop (16 * (r - 1)) o ≡ rows cost t r (next_of κ o r) ++ drop (16 * (r - 1 + count t)) o)
  unfolding rows
  rowed {r = r} (taxon_at i e) (numbered_next h) =
      let z = eqb-true (first o r) 0 e in
      let l = i.low in
      let after : 16 * r ≡ 16 * (r - 1 + 1) = omega arith in (
        refl,
        record_split o small r i ∙ ap (λ x. record_bytes (next o r) (first o r) (branch o r) (price o r) x ++ drop (16 * r) o) (field_plate plain r i small e)
            ∙ rw (z, priced r i e, after),
      )
  rowed {r = r} (group_at {ms = ms} i e x) (numbered_next h) =
      let (first_is, members) = rowed x h in
      let l = i.low in
      let end = 16 * (r - 1 + (count ms + 1)) in
      let begins : 16 * r ≡ 16 * (first o r - 1) = omega arith in
      let ends : 16 * (first o r - 1 + count ms) ≡ end = omega arith in
      let own : record_bytes (next o r) (first o r) (branch o r) (price o r) (plate_field o r) ≡ record_bytes (next o r) (r + 1) (branch o r) 0 0 =
      rw (heading_free plain r i e, (plain.formed.ranged r i.low i.high).group_plate e, ← first_is) in
      let below : drop (16 * r) o ≡ rows cost ms (r + 1) 0 ++ drop end o =
      ap (λ j. drop j o) begins ∙ members ∙ ap (λ q. rows cost ms q 0 ++ drop (16 * (first o r - 1 + count ms)) o) (sym first_is)
      ∙ ap (λ j. rows cost ms (r + 1) 0 ++ drop j o) ends in (
        refl,
        record_split o small r i ∙ ap₂ (λ (s : List ℕ) (t : List ℕ). s ++ t) own below
            ∙ sym (append_assoc (record_bytes (next o r) (r + 1) (branch o r) 0 0) (rows cost ms (r + 1) 0) (drop end o)),
      )
  rowed (last_at e x) h = let (same, own) = rowed x h in (same, rw e at own)
  rowed {r = r} (more_at {t = t} {ms = ms} {rs = rs} {qs = qs} e x y) h =
      let (this, later) = numbered_both rs qs h in
      let (same, own) = rowed x this in
      let (next_is, others) = rowed y later in
      let low = (traced_here x).low in
      let to : next o r ≡ r + count t = omega (arith, traced_count x) in
      let end = 16 * (r - 1 + (count t + count ms)) in
      let begins : 16 * (r - 1 + count t) ≡ 16 * (next o r - 1) = omega arith in
      let ends : 16 * (next o r - 1 + count ms) ≡ end = omega arith in
      let rest : drop (16 * (r - 1 + count t)) o ≡ rows cost ms (r + count t) 0 ++ drop end o =
      ap (λ j. drop j o) begins ∙ others ∙ ap (λ q. rows cost ms q 0 ++ drop (16 * (next o r - 1 + count ms)) o) to
      ∙ ap (λ j. rows cost ms (r + count t) 0 ++ drop j o) ends in (
        same,
        own ∙ ap₂ (λ (s : List ℕ) (t : List ℕ). s ++ t) (ap (rows cost t r) to) rest
            ∙ sym (append_assoc (rows cost t r (r + count t)) (rows cost ms (r + count t) 0) (drop end o)),
      )

  pub own_layout : InTextOrder o → layout cost (tree_of o) ≡ o
  unfolding layout records
  own_layout order =
      let traced = tree_traced o plain.formed.linked in
      let all = (rowed traced (subst (Numbered 1) (sym order) (numbered_from 1 (size o)))).1 in
      let many = traced_count traced in
      let none : drop (16 * (1 - 1 + count (tree_of o))) o ≡ [] =
      drop_of_length-le o {i = 16 * (1 - 1 + count (tree_of o))} (omega (arith, clade_size o plain.formed.linked, plain.formed.whole)) in
      sym (all ∙ rw (plain.formed.linked.root_alone, none) (append-nil (rows cost (tree_of o) 1 0)))
