-- The records of a tree that is laid out spell that tree, stand in text order, have its prices, and can be written.
use Prim.Native.Nat.{ℕ, suc, ◌+◌, ◌*◌, ◌-◌, ◌/◌, ◌%◌, ◌≤◌, ◌<◌}
use mathlib.Core.Path.{◌≡◌, refl, sym, ap₂, subst, ◌∙◌}
use mathlib.Core.Bool.{Bool, true, false, ◌||◌, ◌&&◌, not}
use mathlib.Core.List.{List, [], ◌∷◌, ◌++◌, append_assoc, append-nil}
use native.Mathlib.Omega.{arith}
use lib.Dec.{eqb, ltb, leb}
use lib.ListN.{drop}
use borrow.Author.Tests.{eq-eqb, ne_eqb, le-ltb, lt-leb, eqb-true, eqb-false}
use Rattle.lists.specs.Lists.{from, anywhere}
use Rattle.lists.proofs.Pieces.{after_list}
use Rattle.lists.proofs.Walk.{from_both, nowhere_both}
use Rattle.outline.specs.Rules.{stray, most_records}
use Rattle.outline.specs.Outline.{size, records, next, first, branch, price, plate_field, plate, lock_bit, is_taxon, locked, record_bytes}
use Rattle.newick.specs.Grammar.{Kind, part, chain, Tree, taxon, group, most_number}
use Rattle.newick.specs.Layout.{count, plates, rows, layout}
use Rattle.newick.specs.Inner.{plates_of, InRange, taxon_in, group_in, last_in, more_in}
use Rattle.newick.specs.Trees.{unwritable}
use Rattle.records.proofs.Records.{record_length, fields_back}
use Rattle.newick.proofs.Layouts.{count_some, rows_length}
use Rattle.newick.proofs.Traced.{Traced, taxon_at, group_at, last_at, more_at, traced_plates}

-- ---- no row 13
writable_taxon : (o : List ℕ) (r : ℕ) → is_taxon o r ≡ true → plate_field o r ≤ most_number → unwritable o r ≡ false
unfolding unwritable locked
writable_taxon o r t h =
    rw (t, ne_eqb (plate_field o r / lock_bit % 2) 1 (λ e. omega arith), le-ltb most_number (plate o r) (omega arith))

writable_group : (o : List ℕ) (r : ℕ) → is_taxon o r ≡ false → price o r ≡ 0 → plate_field o r ≡ 0 → unwritable o r ≡ false
unfolding unwritable locked
writable_group o r t c h = rw (t, le-ltb 0 (price o r) (omega arith), le-ltb most_number (plate o r) (omega arith))

-- ---- no taxon with another price than its plate's, which is written in four bytes
unfoldable pub mispriced : (ℕ → ℕ) → List ℕ → ℕ → Bool
mispriced cost o r = is_taxon o r && not (eqb (price o r) (cost (plate o r) % 4294967296))

priced_taxon : (cost : ℕ → ℕ) (o : List ℕ) (r p : ℕ) → is_taxon o r ≡ true → plate o r ≡ p → price o r ≡ cost p % 4294967296
    → mispriced cost o r ≡ false
unfolding mispriced
priced_taxon cost o r p t f c = rw (t, f, eq-eqb (price o r) (cost p % 4294967296) c)

priced_group : (cost : ℕ → ℕ) (o : List ℕ) (r : ℕ) → is_taxon o r ≡ false → mispriced cost o r ≡ false
unfolding mispriced
priced_group cost o r t = rw t

-- ---- no link that leads back or out, and no group with a price or a plate
unfoldable pub amiss : List ℕ → ℕ → Bool
amiss o r =
    stray o r (next o r)
    || (stray o r (first o r) || (not (is_taxon o r) && (not (eqb (price o r) 0) || not (eqb (plate_field o r) 0))))

not_stray : (o : List ℕ) (r q : ℕ) → (0 < q → r < q) → q ≤ size o → stray o r q ≡ false
not_stray o r q later most = go (eqb q 0) refl
  where
    go : (b : Bool) → eqb q 0 ≡ b → (not b && (leb q r || ltb (size o) q)) ≡ false
    go true e = refl
    go false e = let d = eqb-false q 0 e in rw (lt-leb q r (later (omega arith)), le-ltb (size o) q most)

right_taxon : (o : List ℕ) (r : ℕ) → is_taxon o r ≡ true → (0 < next o r → r < next o r) → next o r ≤ size o → amiss o r ≡ false
unfolding amiss
right_taxon o r t later most =
    let z = eqb-true (first o r) 0 t in
    rw (not_stray o r (next o r) later most, not_stray o r (first o r) (λ s. absurd (omega arith)) (omega arith), t)

right_group : (o : List ℕ) (r : ℕ) → is_taxon o r ≡ false → (0 < next o r → r < next o r) → next o r ≤ size o → r < first o r → first o r ≤ size o
    → price o r ≡ 0 → plate_field o r ≡ 0 → amiss o r ≡ false
unfolding amiss
right_group o r t later most low high c f =
    rw (
      not_stray o r (next o r) later most,
      not_stray o r (first o r) (λ s. low) high,
      t,
      eq-eqb (price o r) 0 c,
      eq-eqb (plate_field o r) 0 f,
    )

-- what follows a part is its next; a list's last member has none
abbrev NextIs : (κ : Kind) → List ℕ → ℕ → ℕ → Type 0
NextIs part o k n = next o k ≡ n
NextIs chain o k n = n ≡ 0

-- the last record of a list has no next; that of a part may have one
abbrev Ends : Kind → ℕ → Type 0
Ends part n = n ≡ n
Ends chain n = n ≡ 0

-- a tree whose rows stand from record k on
pub record Regrown (cost : ℕ → ℕ) (o : List ℕ) (κ : Kind) (t : Tree κ) (k n : ℕ) : Type 0 where
  pub traced : Traced o κ t k (from k (count t))
  pub next_is : NextIs κ o k n
  pub writable : anywhere (unwritable o) (from k (count t)) ≡ false
  pub priced : anywhere (mispriced cost o) (from k (count t)) ≡ false
  pub right : anywhere (amiss o) (from k (count t)) ≡ false

module _ (o : List ℕ) (few : size o ≤ most_records) (cost : ℕ → ℕ) where
  regrown : {κ : Kind} {t : Tree κ} → InRange κ t → (k n : ℕ) → 1 ≤ k → k + count t ≤ size o + 1 → n ≤ size o → (0 < n → k + count t ≤ n) → Ends κ n
      → (rest : List ℕ) → drop (16 * (k - 1)) o ≡ rows cost t k n ++ rest → Regrown cost o κ t k n
  unfolding rows from anywhere
  regrown (taxon_in {p} {l} a b) k n low high small far ends rest h =
      let fields = fields_back o k n 0 l (cost p) p rest h in
      let field : plate_field o k ≡ p = omega (arith, fields.field_is) in
      let e : is_taxon o k ≡ true = eq-eqb (first o k) 0 (omega (arith, fields.first_is)) in
      let is : taxon (plate o k) (branch o k) ≡ taxon p l = ap₂ taxon (omega arith) (omega (arith, fields.branch_is)) in
      record {
        traced = subst (λ t. Traced o part t k (k ∷ [])) is (taxon_at (record { low = low; high = omega arith }) e);
        next_is = omega (arith, fields.next_is);
        writable = rw (writable_taxon o k e (omega arith));
        priced = rw (priced_taxon cost o k p e (omega arith) fields.price_is);
        right = rw (right_taxon o k e (λ s. let l = far (omega (arith, fields.next_is)) in omega (arith, fields.next_is)) (omega (arith, fields.next_is)));
      }
  regrown (group_in {ms} {l} q b) k n low high small far ends rest h =
      let own = record_bytes n (k + 1) l 0 0 in
      let g : drop (16 * (k - 1)) o ≡ own ++ (rows cost ms (k + 1) 0 ++ rest) = h ∙ append_assoc own (rows cost ms (k + 1) 0) rest in
      let fields = fields_back o k n (k + 1) l 0 0 (rows cost ms (k + 1) 0 ++ rest) g in
      let after = after_list o (16 * (k - 1)) 16 own (rows cost ms (k + 1) 0 ++ rest) (record_length n (k + 1) l 0 0) g in
      let i : 16 * (k - 1) + 16 ≡ 16 * (k + 1 - 1) = omega arith in
      let below : Regrown cost o chain ms (k + 1) 0 = regrown q (k + 1) 0 (omega arith) (omega arith) (omega arith) (λ s. absurd (omega arith)) refl rest (rw i at after) in
      let first_is : k + 1 ≡ first o k = omega (arith, fields.first_is) in
      let e : is_taxon o k ≡ false = ne_eqb (first o k) 0 (λ z. omega arith) in
      let members : Traced o chain ms (first o k) (from (k + 1) (count ms)) =
      subst (λ q. Traced o chain ms q (from (k + 1) (count ms))) first_is below.traced in
      let length_is : branch o k ≡ l = omega (arith, fields.branch_is) in
      let d : count ms + 1 ≡ suc (count ms) = omega arith in
      record {
        traced =
            rw d
            (subst (λ b. Traced o part (group ms b) k (k ∷ from (k + 1) (count ms))) length_is
            (group_at (record { low = low; high = omega arith }) e members));
        next_is = omega (arith, fields.next_is);
        writable = rw (d, writable_group o k e (omega (arith, fields.price_is)) (omega (arith, fields.field_is))) below.writable;
        priced = rw (d, priced_group cost o k e) below.priced;
        right =
            let filled = count_some ms in
            rw (
              d,
              right_group o k e (λ s. let l = far (omega (arith, fields.next_is)) in omega (arith, fields.next_is))
                  (omega (arith, fields.next_is)) (omega arith) (omega arith) (omega (arith, fields.price_is)) (omega (arith, fields.field_is)),
            )
            below.right;
      }
  regrown (last_in {t} q) k n low high small far ends rest h =
      let own : Regrown cost o part t k n = regrown q k n low high small far refl rest h in
      record { traced = last_at (own.next_is ∙ ends) own.traced; next_is = ends; writable = own.writable; priced = own.priced; right = own.right }
  regrown (more_in {t} {ms} q s) k n low high small far ends rest h =
      let to = k + count t in
      let some = count_some t in
      let later = count_some ms in
      let g : drop (16 * (k - 1)) o ≡ rows cost t k to ++ (rows cost ms to n ++ rest) =
      h ∙ append_assoc (rows cost t k to) (rows cost ms to n) rest in
      let own : Regrown cost o part t k to = regrown q k to low (omega arith) (omega arith) (λ s. omega arith) refl (rows cost ms to n ++ rest) g in
      let after = after_list o (16 * (k - 1)) (16 * count t) (rows cost t k to) (rows cost ms to n ++ rest) (rows_length cost t k to) g in
      let i : 16 * (k - 1) + 16 * count t ≡ 16 * (to - 1) = omega arith in
      let others : Regrown cost o chain ms to n = regrown s to n (omega arith) (omega arith) small (λ p. let l = far p in omega arith) ends rest (rw i at after) in
      let members : Traced o chain ms (next o k) (from to (count ms)) =
      subst (λ q. Traced o chain ms q (from to (count ms))) (sym own.next_is) others.traced in
      record {
        traced =
            rw (from_both k (count t) (count ms)) (more_at {r = k} (omega (arith, own.next_is)) own.traced members);
        next_is = ends;
        writable = rw (from_both k (count t) (count ms)) (nowhere_both (unwritable o) (from k (count t)) (from to (count ms)) own.writable others.writable);
        priced = rw (from_both k (count t) (count ms)) (nowhere_both (mispriced cost o) (from k (count t)) (from to (count ms)) own.priced others.priced);
        right = rw (from_both k (count t) (count ms)) (nowhere_both (amiss o) (from k (count t)) (from to (count ms)) own.right others.right);
      }

-- a tree that is laid out
pub layout_regrown : (cost : ℕ → ℕ) (t : Tree part) → InRange part t → count t ≤ most_records → Regrown cost (layout cost t) part t 1 0
unfolding layout
layout_regrown cost t range few =
    let o = rows cost t 1 0 in
    let long = rows_length cost t 1 0 in
    regrown o (omega arith) cost range 1 0 (omega arith) (omega arith) (omega arith) (λ s. absurd (omega arith)) refl [] (sym (append-nil o))

-- its plates are the tree's
pub layout_plates : (cost : ℕ → ℕ) (t : Tree part) → InRange part t → count t ≤ most_records → plates_of (layout cost t) ≡ plates t
unfolding records layout
layout_plates cost t range few =
    let n : size (rows cost t 1 0) ≡ count t = omega (arith, rows_length cost t 1 0) in
    rw n (sym (traced_plates (layout_regrown cost t range few).traced))
