-- An outline that keeps every rule is accepted; and so is one that has the links and the plates of an accepted outline, where its fields
-- are in their ranges.
use Rattle.std.specs.Prelude.{if◌then◌else◌}
use Prim.Native.Nat.{ℕ, ◌+◌, ◌-◌, ◌%◌, ◌≤◌, ◌<◌}
use mathlib.Core.Path.{◌≡◌, refl, sym, ap, ap₂, ◌∙◌}
use mathlib.Core.Bool.{Bool, true, false, ◌||◌, ◌&&◌, not}
use mathlib.Core.List.{List}
use native.Mathlib.Omega.{arith}
use lib.ListN.{length}
use lib.Dec.{eqb, ltb, leb}
use borrow.Author.Tests.{eqb-true, eqb-false, eq-eqb, ne_eqb, le-ltb, lt-leb}
use Rattle.lists.specs.Lists.{one, from, total}
use Rattle.lists.proofs.Walk.{none_anywhere}
use Rattle.refusals.specs.Refusals.{row, row_at}
use Rattle.refusals.proofs.Refusals.{both_passes, row_passes, row_at_passes}
use Rattle.outline.specs.Outline.{size, records, next, first, branch, price, plate_field, plate, is_taxon, IsRecord}
use Rattle.outline.specs.Answer.{size_rows, record_rows, checked, is_accepted}
use Rattle.outline.specs.WellFormed.{Later, Ranged, WellFormed}
use Rattle.laws.proofs.Sums.{total_ext}
use Rattle.outline.specs.Rules.{bad_field, stray, naming, named, bad_link, taxa_in, taxa, has_plate, is_duplicate, most_records, most_taxa, most_length, most_price}

-- ---- no rule is broken
module _ (o : List ℕ) (formed : WellFormed o) (r : ℕ) (l : 1 ≤ r) (u : r ≤ size o) where
  good_field : bad_field o r ≡ false
  unfolding bad_field
  good_field = go (is_taxon o r) refl (formed.ranged r l u)
    where
      go : (b : Bool) → is_taxon o r ≡ b → Ranged o r
          → (ltb most_length (branch o r) || (ltb most_price (price o r) || (if b then eqb (plate o r) 0 else not (eqb (plate_field o r) 0)))) ≡ false
      go true t g =
          let p = g.taxon_plate t in
          rw (le-ltb most_length (branch o r) g.branch_most, le-ltb most_price (price o r) g.price_most, ne_eqb (plate o r) 0 (λ e. omega arith))
      go false t g =
          rw (le-ltb most_length (branch o r) g.branch_most, le-ltb most_price (price o r) g.price_most, eq-eqb (plate_field o r) 0 (g.group_plate t))

  good_stray : (q : ℕ) → Later o r q → stray o r q ≡ false
  good_stray q later = go (eqb q 0) refl
    where
      go : (b : Bool) → eqb q 0 ≡ b → (not b && (leb q r || ltb (size o) q)) ≡ false
      go true e = refl
      go false e =
          let d = eqb-false q 0 e in
          let k = later.later (omega arith) in
          rw (lt-leb q r k, le-ltb (size o) q later.most)

  good_link : bad_link o r ≡ false
  unfolding bad_link
  good_link =
      rw (good_stray (next o r) (formed.linked.next_later r l u), good_stray (first o r) (formed.linked.first_later r l u)) (go (eqb r 1) refl)
    where
      go : (b : Bool) → eqb r 1 ≡ b → (if b then not (eqb (next o r) 0) else not (eqb (named o r) 1)) ≡ false
      go true e = ap not (eq-eqb (next o r) 0 (ap (next o) (eqb-true r 1 e) ∙ formed.linked.root_alone))
      go false e = let d = eqb-false r 1 e in ap not (eq-eqb (named o r) 1 (formed.linked.named_once r (omega arith) u))

  good_plate : is_duplicate o r ≡ false
  unfolding is_duplicate has_plate
  good_plate = none_anywhere (has_plate o (plate o r)) (r - 1) (λ q lq uq. go q lq (omega arith) (is_taxon o q) refl (eqb (plate o q) (plate o r)) refl)
    where
      twin : (q : ℕ) → 1 ≤ q → q < r → is_taxon o q ≡ true → plate o q ≡ plate o r → (b : Bool) → is_taxon o r ≡ b → ⊥
      twin q lq uq t e true s = let same = formed.plates_differ q r lq (omega arith) l u t s e in omega arith
      twin q lq uq t e false s = omega (arith, e, (formed.ranged q lq (omega arith)).taxon_plate t, (formed.ranged r l u).group_plate s)

      go : (q : ℕ) → 1 ≤ q → q < r → (a : Bool) → is_taxon o q ≡ a → (b : Bool) → eqb (plate o q) (plate o r) ≡ b → (a && b) ≡ false
      go q lq uq true t true e = absurd (twin q lq uq t (eqb-true (plate o q) (plate o r) e) (is_taxon o r) refl)
      go q lq uq true t false e = refl
      go q lq uq false t b e = refl

-- the converse of `accepted_formed`
pub formed_accepted : (o : List ℕ) → WellFormed o → is_accepted o ≡ true
unfolding checked size_rows record_rows
formed_accepted o formed = eq-eqb (checked o).number 0 (both_passes (size_rows o) (record_rows o) sizes rows)
  where
    sizes : (size_rows o).number ≡ 0
    sizes =
        both_passes (row 2 (eqb (length o) 0 || not (eqb (length o % 16) 0))) (row 3 (ltb most_records (size o)))
        (row_passes 2 (eqb (length o) 0 || not (eqb (length o % 16) 0))
        (ap₂ ◌||◌ (ne_eqb (length o) 0 (λ e. omega (arith, formed.linked.filled))) (ap not (eq-eqb (length o % 16) 0 (omega (arith, formed.whole))))))
        (row_passes 3 (ltb most_records (size o)) (le-ltb most_records (size o) formed.size_most))

    rows : (record_rows o).number ≡ 0
    rows =
        both_passes (row_at 5 (bad_field o) (size o)) _ (row_at_passes 5 (bad_field o) (size o) (good_field o formed))
        (both_passes (row_at 6 (bad_link o) (size o)) _ (row_at_passes 6 (bad_link o) (size o) (good_link o formed))
        (both_passes (row 7 (ltb most_taxa (taxa o))) (row_at 8 (is_duplicate o) (size o))
        (row_passes 7 (ltb most_taxa (taxa o)) (le-ltb most_taxa (taxa o) formed.taxa_most))
        (row_at_passes 8 (is_duplicate o) (size o) (good_plate o formed))))

-- ---- outlines with the same links and plates
pub record SameLinksAndPlates (o p : List ℕ) : Type 0 where
  pub as_long : length p ≡ length o
  pub nexts : (r : ℕ) → IsRecord o r → next p r ≡ next o r
  pub firsts : (r : ℕ) → IsRecord o r → first p r ≡ first o r
  pub plates : (r : ℕ) → IsRecord o r → plate p r ≡ plate o r

module _ (o p : List ℕ) (same : SameLinksAndPlates o p) where
  sizes : size p ≡ size o
  sizes = omega (arith, same.as_long)

  also_record : {r : ℕ} → 1 ≤ r → r ≤ size p → IsRecord o r
  also_record l u = record { low = l; high = omega (arith, sizes) }

  taxon_same : (r : ℕ) → IsRecord o r → is_taxon p r ≡ is_taxon o r
  taxon_same r i = ap (λ q. eqb q 0) (same.firsts r i)

  totals_same : (f g : ℕ → ℕ) → ((r : ℕ) → IsRecord o r → f r ≡ g r) → total f (records p) ≡ total g (records o)
  unfolding records
  totals_same f g h = ap (λ n. total f (from 1 n)) sizes ∙ total_ext f g 1 (size o) (λ r l u. h r (record { low = l; high = omega arith }))

  named_same : (q : ℕ) → named p q ≡ named o q
  unfolding named naming
  named_same q = totals_same _ _ (λ r i. ap₂ (λ n f. one (eqb n q) + one (eqb f q)) (same.nexts r i) (same.firsts r i))

  taxa_same : taxa p ≡ taxa o
  unfolding taxa taxa_in
  taxa_same = totals_same _ _ (λ r i. ap one (taxon_same r i))

  later_same : (r q t : ℕ) → q ≡ t → Later o r t → Later p r q
  later_same r q t e k = record { later = λ h. let j = k.later (omega arith) in omega arith; most = omega (arith, sizes, k.most) }

  -- where the one keeps the rules and the other's fields are in their ranges, the other keeps them
  pub same_formed : WellFormed o → ((r : ℕ) → IsRecord o r → Ranged p r) → WellFormed p
  same_formed formed ranged = record {
    whole = omega (arith, same.as_long, formed.whole);
    size_most = rw sizes formed.size_most;
    ranged = λ r l u. ranged r (also_record l u);
    linked = record {
      filled = rw sizes formed.linked.filled;
      next_later = λ r l u. let i = also_record l u in later_same r _ _ (same.nexts r i) (formed.linked.next_later r l i.high);
      first_later = λ r l u. let i = also_record l u in later_same r _ _ (same.firsts r i) (formed.linked.first_later r l i.high);
      root_alone = same.nexts 1 (record { low = omega arith; high = formed.linked.filled }) ∙ formed.linked.root_alone;
      named_once = λ q l u. named_same q ∙ formed.linked.named_once q l (omega (arith, sizes));
    };
    taxa_most = rw taxa_same formed.taxa_most;
    plates_differ = λ q r lq uq lr ur tq tr e.
        let i = also_record lq uq in
        let j = also_record lr ur in
        formed.plates_differ q r lq i.high lr j.high (sym (taxon_same q i) ∙ tq) (sym (taxon_same r j) ∙ tr)
        (sym (same.plates q i) ∙ e ∙ same.plates r j);
  }
