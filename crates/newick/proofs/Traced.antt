-- A part or a chain of an outline's tree, with its records in text order: what the links of the records spell.
use Rattle.std.specs.Prelude.{if◌then◌else◌}
use Prim.Native.Nat.{ℕ, zero, suc, ◌+◌, ◌≤◌, ◌<◌}
use mathlib.Core.Path.{◌≡◌, refl, sym, ap, ap₂, subst, ◌∙◌}
use mathlib.Core.Bool.{Bool, true, false, false≢true}
use mathlib.Core.List.{List, [], ◌∷◌, ◌++◌, append-nil}
use native.Mathlib.Omega.{arith}
use lib.Dec.{eqb}
use lib.ListN.{length, length-append}
use borrow.Author.Tests.{eqb-true, eqb-false}
use Rattle.outline.specs.WellFormed.{Linked}
use Rattle.outline.specs.Outline.{size, next, first, branch, plate, is_taxon, IsRecord}
use Rattle.diversity.specs.Diversity.{chain as chain_from, clade}
use Rattle.laws.proofs.Chains.{chain_none}
use Rattle.newick.specs.Grammar.{Kind, part, chain, Tree, taxon, group, last, more, most_number}
use Rattle.newick.specs.Inner.{plates_in, InRange, taxon_in, group_in, last_in, more_in}
use Rattle.newick.specs.Layout.{count, plates}
use Rattle.newick.specs.Trees.{part_by, chain_in, chain_of, part_of, tree_of}

-- a taxon, a group with its members, the last of a chain, a member with the rest of its chain: the tree, its first record, and all
-- its records in text order
pub data Traced (o : List ℕ) : (κ : Kind) → Tree κ → ℕ → List ℕ → Type 0 where
  taxon_at : {r : ℕ} → IsRecord o r → is_taxon o r ≡ true → Traced o part (taxon (plate o r) (branch o r)) r (r ∷ [])
  group_at : {r : ℕ} {ms : Tree chain} {rs : List ℕ} → IsRecord o r → is_taxon o r ≡ false → Traced o chain ms (first o r) rs
      → Traced o part (group ms (branch o r)) r (r ∷ rs)
  last_at : {r : ℕ} {t : Tree part} {rs : List ℕ} → next o r ≡ 0 → Traced o part t r rs → Traced o chain (last t) r rs
  more_at : {r : ℕ} {t : Tree part} {ms : Tree chain} {rs qs : List ℕ} → 0 < next o r → Traced o part t r rs
      → Traced o chain ms (next o r) qs → Traced o chain (more t ms) r (rs ++ qs)

-- the links spell one tree from a record on, with one list of records
pub traced_one : {o : List ℕ} {κ : Kind} {t u : Tree κ} {r : ℕ} {rs qs : List ℕ} → Traced o κ t r rs → Traced o κ u r qs → (t ≡ u) × (rs ≡ qs)
traced_one (taxon_at i e) (taxon_at j f) = (refl, refl)
traced_one (taxon_at i e) (group_at j f y) = absurd (false≢true (sym f ∙ e))
traced_one (group_at i e x) (taxon_at j f) = absurd (false≢true (sym e ∙ f))
traced_one {o} {r = r} (group_at i e x) (group_at j f y) =
    let same = traced_one x y in
    (ap (λ ms. group ms (branch o r)) same.0, ap (λ rs. r ∷ rs) same.1)
traced_one (last_at e x) (last_at f y) = let same = traced_one x y in (ap last same.0, same.1)
traced_one (last_at e x) (more_at f y z) = absurd (omega arith)
traced_one (more_at e x z) (last_at f y) = absurd (omega arith)
traced_one (more_at e x z) (more_at f y w) =
    let here = traced_one x y in
    let later = traced_one z w in
    (ap₂ more here.0 later.0, ap₂ (λ (rs : List ℕ) (qs : List ℕ). rs ++ qs) here.1 later.1)

module _ (o : List ℕ) (linked : Linked o) where
  part_traced : (k r : ℕ) → IsRecord o r → (0 < first o r → Traced o chain (chain_in k o (first o r)) (first o r) (chain_from k o (first o r)))
      → Traced o part (part_by (chain_in k o) o r) r (r ∷ chain_from k o (first o r))
  part_traced k r i ih = go (is_taxon o r) refl
    where
      go : (b : Bool) → is_taxon o r ≡ b
          → Traced o part (if b then taxon (plate o r) (branch o r) else group (chain_in k o (first o r)) (branch o r)) r (r ∷ chain_from k o (first o r))
      go true e =
          let none : chain_from k o (first o r) ≡ [] = ap (chain_from k o) (eqb-true (first o r) 0 e) ∙ chain_none k o in
          subst (λ rs. Traced o part (taxon (plate o r) (branch o r)) r (r ∷ rs)) (sym none) (taxon_at i e)
      go false e = let some = eqb-false (first o r) 0 e in group_at i e (ih (omega arith))

  -- links lead to later records, so that a depth of one for each record left is enough
  chain_traced : (k r : ℕ) → 1 ≤ r → r ≤ size o → size o < k + r → Traced o chain (chain_in k o r) r (chain_from k o r)
  unfolding chain_in chain_from
  chain_traced zero r l u h = absurd (omega arith)
  chain_traced (suc k) zero l u h = absurd (omega arith)
  chain_traced (suc k) (suc r) l u h =
      let f = linked.first_later (suc r) l u in
      let n = linked.next_later (suc r) l u in
      let own =
      part_traced k (suc r) (record { low = l; high = u })
      (λ s. let later = f.later s in chain_traced k (first o (suc r)) (omega arith) f.most (omega arith)) in
      go (eqb (next o (suc r)) 0) refl own
      (λ s. let later = n.later s in chain_traced k (next o (suc r)) (omega arith) n.most (omega arith))
    where
      go : (b : Bool) → eqb (next o (suc r)) 0 ≡ b
          → Traced o part (part_by (chain_in k o) o (suc r)) (suc r) (suc r ∷ chain_from k o (first o (suc r)))
          → (0 < next o (suc r) → Traced o chain (chain_in k o (next o (suc r))) (next o (suc r)) (chain_from k o (next o (suc r))))
          → Traced o chain
          (if b then last (part_by (chain_in k o) o (suc r)) else more (part_by (chain_in k o) o (suc r)) (chain_in k o (next o (suc r)))) (suc r)
          (suc r ∷ (chain_from k o (first o (suc r)) ++ chain_from k o (next o (suc r))))
      go true e own ih =
          let z = eqb-true (next o (suc r)) 0 e in
          let alone : suc r ∷ (chain_from k o (first o (suc r)) ++ chain_from k o (next o (suc r))) ≡ suc r ∷ chain_from k o (first o (suc r)) =
          ap (λ qs. suc r ∷ (chain_from k o (first o (suc r)) ++ qs)) (ap (chain_from k o) z ∙ chain_none k o)
          ∙ ap (λ rs. suc r ∷ rs) (append-nil (chain_from k o (first o (suc r)))) in
          subst (Traced o chain (last (part_by (chain_in k o) o (suc r))) (suc r)) (sym alone) (last_at z own)
      go false e own ih = let some = eqb-false (next o (suc r)) 0 e in more_at {r = suc r} (omega arith) own (ih (omega arith))

  pub links_traced : (r : ℕ) → 1 ≤ r → r ≤ size o → Traced o chain (chain_of o r) r (chain_from (size o) o r)
  unfolding chain_of
  links_traced r l u = chain_traced (size o) r l u (omega arith)

  clade_traced : (r : ℕ) → 1 ≤ r → r ≤ size o → Traced o part (part_of o r) r (clade o r)
  unfolding chain_of clade
  clade_traced r l u =
      let f = linked.first_later r l u in
      part_traced (size o) r (record { low = l; high = u }) (λ s. let later = f.later s in links_traced (first o r) (omega arith) f.most)

  -- the whole tree, with record 1 and all below it
  pub tree_traced : Traced o part (tree_of o) 1 (clade o 1)
  tree_traced = clade_traced 1 (omega arith) linked.filled

  -- a chain is a part and the rest
  pub chain_tree : (r : ℕ) → 1 ≤ r → r ≤ size o
      → chain_of o r ≡ (if eqb (next o r) 0 then last (part_of o r) else more (part_of o r) (chain_of o (next o r)))
  chain_tree r l u = go (eqb (next o r) 0) refl
    where
      go : (b : Bool) → eqb (next o r) 0 ≡ b → chain_of o r ≡ (if b then last (part_of o r) else more (part_of o r) (chain_of o (next o r)))
      go true e = (traced_one (links_traced r l u) (last_at (eqb-true (next o r) 0 e) (clade_traced r l u))).0
      go false e =
          let some = eqb-false (next o r) 0 e in
          let n = linked.next_later r l u in
          (traced_one (links_traced r l u) (more_at {r = r} (omega arith) (clade_traced r l u) (links_traced (next o r) (omega arith) n.most))).0

-- ---- what is said of a tree, by its records
plates_both : (o rs qs : List ℕ) → plates_in o (rs ++ qs) ≡ plates_in o rs ++ plates_in o qs
unfolding plates_in
plates_both o [] qs = refl
plates_both o (r ∷ rs) qs = go (is_taxon o r) (plates_both o rs qs)
  where
    go : (b : Bool) → plates_in o (rs ++ qs) ≡ plates_in o rs ++ plates_in o qs
        → (if b then plate o r ∷ plates_in o (rs ++ qs) else plates_in o (rs ++ qs)) ≡ (if b then plate o r ∷ plates_in o rs else plates_in o rs) ++ plates_in o qs
    go true h = ap (λ ps. plate o r ∷ ps) h
    go false h = h

module _ {o : List ℕ} where
  -- it begins with a record
  pub traced_here : {t : Tree part} {r : ℕ} {rs : List ℕ} → Traced o part t r rs → IsRecord o r
  traced_here (taxon_at i e) = i
  traced_here (group_at i e x) = i

  -- its count is that of the records
  pub traced_count : {κ : Kind} {t : Tree κ} {r : ℕ} {rs : List ℕ} → Traced o κ t r rs → count t ≡ length rs
  traced_count (taxon_at i e) = refl
  traced_count (group_at i e x) = omega (arith, traced_count x)
  traced_count (last_at e x) = traced_count x
  traced_count (more_at {rs = rs} {qs = qs} e x y) = rw (length-append rs qs) (omega (arith, traced_count x, traced_count y))

  -- its plates are those of the taxa among them
  pub traced_plates : {κ : Kind} {t : Tree κ} {r : ℕ} {rs : List ℕ} → Traced o κ t r rs → plates t ≡ plates_in o rs
  unfolding plates plates_in
  traced_plates (taxon_at i e) = rw e
  traced_plates (group_at i e x) = rw e (traced_plates x)
  traced_plates (last_at e x) = traced_plates x
  traced_plates (more_at {rs = rs} {qs = qs} e x y) = rw (plates_both o rs qs, traced_plates x, traced_plates y)

  -- its numbers are in range where the records' are
  pub traced_range : ((r : ℕ) → IsRecord o r → (plate o r ≤ most_number) × (branch o r ≤ most_number))
      → {κ : Kind} {t : Tree κ} {r : ℕ} {rs : List ℕ} → Traced o κ t r rs → InRange κ t
  traced_range small {r = r} (taxon_at i e) = let (plate_is, length_is) = small r i in taxon_in plate_is length_is
  traced_range small {r = r} (group_at i e x) = group_in (traced_range small x) (small r i).1
  traced_range small (last_at e x) = last_in (traced_range small x)
  traced_range small (more_at e x y) = more_in (traced_range small x) (traced_range small y)
