-- The pairs that an outline is written with: one for each taxon, with its price, in the order of the tree's plates.
use Rattle.std.proofs.lemmas.Bool.{and_parts}
use Rattle.std.specs.Prelude.{if◌then◌else◌}
use Prim.Native.Nat.{ℕ, ◌+◌, ◌*◌, ◌<◌}
use mathlib.Core.Path.{◌≡◌, refl, sym, ap, subst, ◌∙◌}
use mathlib.Core.Logic.{◌⊎◌, inl, inr, ⊎_elim}
use mathlib.Core.Bool.{Bool, true, false, ◌&&◌}
use mathlib.Core.List.{List, [], ◌∷◌, ◌++◌}
use native.Mathlib.Omega.{arith}
use lib.Dec.{eqb}
use lib.ListN.{length}
use borrow.Author.Tests.{eqb-true, eqb-false, eq-eqb}
use Rattle.lists.specs.Lists.{one, total}
use Rattle.outline.specs.WellFormed.{WellFormed}
use Rattle.outline.specs.Outline.{size, records, price, plate, is_taxon, IsRecord}
use Rattle.diversity.specs.Diversity.{clade}
use Rattle.laws.proofs.Chains.{total_root}
use Rattle.laws.proofs.Sums.{total_ext, occurs, occurs_once, occurs_range}
use Rattle.text.specs.Text.{texts}
use Rattle.newick.specs.Layout.{plates}
use Rattle.newick.specs.Pairs.{price_in, pairs_of, paired, bad_pairs}
use Rattle.reading.specs.Demands.{In, here, there, BadPairs}
use Rattle.newick.specs.Inner.{plates_in}
use Rattle.writing.specs.Text.{own_pair, outline_pairs}
use Rattle.newick.specs.Trees.{tree_of}
use Rattle.reading.proofs.Pairing.{decides_pairs, in_paired}
use Rattle.newick.proofs.Traced.{tree_traced, traced_plates}
use Rattle.outline.specs.Rules.{has_plate, taxa_in, taxa}

-- a number in a list is its first, or in the rest
in_first : {x y : ℕ} {xs : List ℕ} → In x (y ∷ xs) → (x ≡ y) ⊎ In x xs
in_first here = inl refl
in_first (there i) = inr i

-- ---- the pairs of a list of records
module _ (o : List ℕ) where
  -- two numbers for each taxon
  pairs_length : (rs : List ℕ) → length (texts (own_pair o) rs) ≡ 2 * taxa_in o rs
  unfolding texts own_pair taxa_in total
  pairs_length [] = refl
  pairs_length (r ∷ rs) = go (is_taxon o r) (pairs_length rs)
    where
      go : (b : Bool) → length (texts (own_pair o) rs) ≡ 2 * taxa_in o rs
          → length ((if b then plate o r ∷ price o r ∷ [] else []) ++ texts (own_pair o) rs) ≡ 2 * (one b + total (λ q. one (is_taxon o q)) rs)
      go true h = omega arith
      go false h = omega arith

  -- the first of each is its plate
  pairs_plates : (rs : List ℕ) → paired (texts (own_pair o) rs) ≡ plates_in o rs
  unfolding texts own_pair paired plates_in
  pairs_plates [] = refl
  pairs_plates (r ∷ rs) = go (is_taxon o r) (pairs_plates rs)
    where
      go : (b : Bool) → paired (texts (own_pair o) rs) ≡ plates_in o rs
          → paired ((if b then plate o r ∷ price o r ∷ [] else []) ++ texts (own_pair o) rs) ≡ (if b then plate o r ∷ plates_in o rs else plates_in o rs)
      go true h = ap (λ ps. plate o r ∷ ps) h
      go false h = h

  -- a plate has a pair for each record that has it
  pairs_number : (p : ℕ) (rs : List ℕ) → pairs_of (texts (own_pair o) rs) p ≡ total (λ r. one (has_plate o p r)) rs
  unfolding texts own_pair pairs_of total has_plate
  pairs_number p [] = refl
  pairs_number p (r ∷ rs) = go (is_taxon o r) (pairs_number p rs)
    where
      go : (b : Bool) → pairs_of (texts (own_pair o) rs) p ≡ total (λ q. one (has_plate o p q)) rs
          → pairs_of ((if b then plate o r ∷ price o r ∷ [] else []) ++ texts (own_pair o) rs) p
          ≡ one (b && eqb (plate o r) p) + total (λ q. one (has_plate o p q)) rs
      go true h = ap (λ n. one (eqb (plate o r) p) + n) h
      go false h = omega arith

  -- and the price that all of these have
  price_found : (p c : ℕ) (rs : List ℕ) → ((r : ℕ) → 0 < occurs r rs → has_plate o p r ≡ true → price o r ≡ c)
      → 0 < total (λ r. one (has_plate o p r)) rs → price_in (texts (own_pair o) rs) p ≡ c
  unfolding texts own_pair price_in total has_plate
  price_found p c [] same some = absurd (omega arith)
  price_found p c (r ∷ rs) same some =
      go (is_taxon o r) (eqb (plate o r) p) refl refl
      (λ (z : one (is_taxon o r && eqb (plate o r) p) ≡ 0). price_found p c rs (λ q h. same q (omega arith)) (omega arith))
    where
      go : (b d : Bool) → is_taxon o r ≡ b → eqb (plate o r) p ≡ d
          → (one (is_taxon o r && eqb (plate o r) p) ≡ 0 → price_in (texts (own_pair o) rs) p ≡ c)
          → price_in ((if b then plate o r ∷ price o r ∷ [] else []) ++ texts (own_pair o) rs) p ≡ c
      go true true e f later = rw f (same r (omega (arith, ap one (eq-eqb r r refl))) (rw (e, f)))
      go true false e f later = rw f (later (rw (e, f)))
      go false d e f later = later (rw e)

  -- a plate among those of records is one of a taxon among them
  plate_of_lem : (p : ℕ) (rs : List ℕ) → In p (plates_in o rs) → (r : ℕ) × (0 < occurs r rs) × (is_taxon o r ≡ true) × (plate o r ≡ p)
  unfolding plates_in total
  plate_of_lem p [] i = elim i [ ]
  plate_of_lem p (r ∷ rs) i = go (is_taxon o r) refl (λ j. let (q, h, e, f) = plate_of_lem p rs j in (q, omega arith, e, f)) i
    where
      go : (b : Bool) → is_taxon o r ≡ b
          → (In p (plates_in o rs) → (q : ℕ) × (0 < occurs q (r ∷ rs)) × (is_taxon o q ≡ true) × (plate o q ≡ p))
          → In p (if b then plate o r ∷ plates_in o rs else plates_in o rs)
          → (q : ℕ) × (0 < occurs q (r ∷ rs)) × (is_taxon o q ≡ true) × (plate o q ≡ p)
      go true e later j = ⊎_elim (λ f. (r, omega (arith, ap one (eq-eqb r r refl)), e, sym f)) later (in_first j)
      go false e later j = later j

-- ---- the pairs of an outline
module _ (o : List ℕ) (formed : WellFormed o) where
  -- the clade of record 1 has records only
  inside : (r : ℕ) → 0 < occurs r (clade o 1) → IsRecord o r
  unfolding records
  inside r h =
      let (low, high) = occurs_range r 1 (size o) (omega (arith, total_root o formed.linked (λ q. one (eqb r q)))) in
      record { low = low; high = omega arith }

  -- a taxon alone has its plate
  module _ (r : ℕ) (i : IsRecord o r) (e : is_taxon o r ≡ true) where
    own_plate : (q : ℕ) → IsRecord o q → has_plate o (plate o r) q ≡ eqb r q
    unfolding has_plate
    own_plate q j = go (eqb r q) refl (is_taxon o q && eqb (plate o q) (plate o r)) refl
      where
        go : (b : Bool) → eqb r q ≡ b → (c : Bool) → (is_taxon o q && eqb (plate o q) (plate o r)) ≡ c → c ≡ b
        go true f c g =
            let same = eqb-true r q f in
            sym g ∙ rw (← same, e, eq-eqb (plate o r) (plate o r) refl)
        go false f true g =
            let (a, d) = and_parts (is_taxon o q) (eqb (plate o q) (plate o r)) g in
            let same = formed.plates_differ q r j.low j.high i.low i.high a e (eqb-true (plate o q) (plate o r) d) in
            absurd (eqb-false r q f (sym same))
        go false f false g = refl

    pub held_once : total (λ q. one (has_plate o (plate o r) q)) (clade o 1) ≡ 1
    unfolding records
    held_once =
        total_root o formed.linked (λ q. one (has_plate o (plate o r) q))
        ∙ total_ext _ (λ q. one (eqb r q)) 1 (size o) (λ q l u. ap one (own_plate q (record { low = l; high = omega arith })))
        ∙ occurs_once r 1 (size o) i.low (omega (arith, i.high))

    -- it has one pair, with its price
    pub one_pair : pairs_of (outline_pairs o) (plate o r) ≡ 1
    unfolding outline_pairs
    one_pair = pairs_number o (plate o r) (clade o 1) ∙ held_once

    pub own_price : price_in (outline_pairs o) (plate o r) ≡ price o r
    unfolding outline_pairs
    own_price =
        price_found o (plate o r) (price o r) (clade o 1)
        (λ q h g. ap (price o) (sym (eqb-true r q (sym (own_plate q (inside q h)) ∙ g)))) (omega (arith, held_once))

  -- the plates of the pairs are the tree's, in its order
  pub pairs_tree : paired (outline_pairs o) ≡ plates (tree_of o)
  unfolding outline_pairs
  pairs_tree = pairs_plates o (clade o 1) ∙ sym (traced_plates (tree_traced o formed.linked))

  -- a plate of the tree is that of a taxon
  pub plate_owner : (p : ℕ) → In p (plates (tree_of o)) → (r : ℕ) × IsRecord o r × (is_taxon o r ≡ true) × (plate o r ≡ p)
  plate_owner p i =
      let (r, h, e, f) = plate_of_lem o p (clade o 1) (subst (In p) (traced_plates (tree_traced o formed.linked)) i) in
      (r, inside r h, e, f)

  -- there are twice as many numbers as taxa
  pub pairs_count : length (outline_pairs o) ≡ 2 * taxa o
  unfolding outline_pairs taxa taxa_in
  pairs_count = omega (arith, pairs_length o (clade o 1), total_root o formed.linked (λ r. one (is_taxon o r)))

  -- row 11 never holds of them
  pub pairs_good : bad_pairs (plates (tree_of o)) (outline_pairs o) ≡ false
  pairs_good = go (bad_pairs (plates (tree_of o)) (outline_pairs o)) refl
    where
      fair : BadPairs (plates (tree_of o)) (outline_pairs o) → ⊥
      fair (inl odd) = odd (omega (arith, pairs_count))
      fair (inr (inl (p, i, n))) =
          let (r, h, e, f) = plate_of_lem o p (clade o 1) (subst (In p) (traced_plates (tree_traced o formed.linked)) i) in
          n (subst (λ q. pairs_of (outline_pairs o) q ≡ 1) f (one_pair r (inside r h) e))
      fair (inr (inr (p, c, x, n))) = n (subst (In p) pairs_tree (in_paired x))

      go : (b : Bool) → bad_pairs (plates (tree_of o)) (outline_pairs o) ≡ b → b ≡ false
      go true e = absurd (fair ((decides_pairs (plates (tree_of o)) (outline_pairs o)).0 e))
      go false e = refl
