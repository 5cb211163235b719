-- An outline that the check accepts keeps every rule.
use Rattle.std.proofs.lemmas.Bool.{or_parts}
use Prim.Native.Nat.{ℕ, zero, suc, ◌-◌, ◌*◌, ◌%◌, ◌≤◌, ◌<◌}
use mathlib.Core.Path.{◌≡◌, refl, sym, ◌∙◌}
use mathlib.Core.Bool.{Bool, true, false, ◌||◌, not, false≢true}
use mathlib.Core.List.{List}
use native.Mathlib.Omega.{arith}
use lib.ListN.{length}
use lib.Dec.{eqb, ltb}
use borrow.Author.Tests.{eqb-true, eqb-false, ltb-true, ltb-false, leb-false, ne_eqb, not-false}
use Rattle.lists.proofs.Bools.{second_false}
use Rattle.lists.proofs.Walk.{lowest_none, anywhere_none}
use Rattle.refusals.proofs.Refusals.{both_pass, row_fails, row_at_fails}
use Rattle.outline.specs.Outline.{size, next, first, plate, is_taxon}
use Rattle.outline.specs.Answer.{size_rows, record_rows, checked, is_accepted}
use Rattle.outline.specs.WellFormed.{Linked, Later, Ranged, WellFormed}
use Rattle.outline.specs.Rules.{bad_field, stray, named, bad_link, taxa, has_plate, is_duplicate, most_records, most_taxa}

-- ---- each rule, from its test
module _ (o : List ℕ) (r : ℕ) where
  ranged_by : (b : Bool) → is_taxon o r ≡ b → bad_field o r ≡ false → Ranged o r
  unfolding bad_field
  ranged_by true t e =
      let e' = or_parts _ _ (simp t at e) in
      let f = or_parts _ _ e'.1 in
      let p = eqb-false (plate o r) 0 f.1 in
      record {
        branch_most = ltb-false _ _ e'.0;
        price_most = ltb-false _ _ f.0;
        taxon_plate = λ _. omega arith;
        group_plate = λ g. absurd (false≢true (sym g ∙ t));
      }
  ranged_by false t e =
      let e' = or_parts _ _ (simp t at e) in
      let f = or_parts _ _ e'.1 in
      record {
        branch_most = ltb-false _ _ e'.0;
        price_most = ltb-false _ _ f.0;
        taxon_plate = λ g. absurd (false≢true (sym t ∙ g));
        group_plate = λ _. eqb-true _ _ (not-false _ f.1);
      }

  later_by : (link : ℕ) (b : Bool) → eqb link 0 ≡ b → stray o r link ≡ false → Later o r link
  later_by link true t e = let z = eqb-true link 0 t in record { later = λ h. absurd (omega arith); most = omega arith }
  later_by link false t e =
      let f = or_parts _ _ (simp t at e) in
      record { later = λ _. leb-false _ _ f.0; most = ltb-false _ _ f.1 }

  own_links : bad_link o r ≡ false → Later o r (next o r) × Later o r (first o r)
  unfolding bad_link
  own_links e =
      let f = or_parts _ _ (or_parts _ _ e).0 in
      (later_by (next o r) _ refl f.0, later_by (first o r) _ refl f.1)

  named_by : 2 ≤ r → bad_link o r ≡ false → named o r ≡ 1
  unfolding bad_link
  named_by h e =
      let other : eqb r 1 ≡ false = ne_eqb r 1 (omega arith) in
      eqb-true _ _ (not-false _ (simp other at (or_parts (stray o r (next o r) || stray o r (first o r)) _ e).1))

  undoubled : is_duplicate o r ≡ false → (q : ℕ) → 1 ≤ q → q < r → is_taxon o q ≡ true → plate o q ≡ plate o r → ⊥
  unfolding is_duplicate has_plate
  undoubled e q l u t = eqb-false _ _ (second_false _ _ (anywhere_none _ _ e q l (omega arith)) t)

root_by : (o : List ℕ) → bad_link o 1 ≡ false → next o 1 ≡ 0
unfolding bad_link
root_by o e = eqb-true _ _ (not-false _ (or_parts (stray o 1 (next o 1) || stray o 1 (first o 1)) _ e).1)

differ : (o : List ℕ) (q r : ℕ) → 1 ≤ q → 1 ≤ r → is_taxon o q ≡ true → is_taxon o r ≡ true → plate o q ≡ plate o r
    → is_duplicate o q ≡ false → is_duplicate o r ≡ false → (a : Bool) → ltb q r ≡ a → (b : Bool) → ltb r q ≡ b → q ≡ r
differ o q r lq lr tq tr e uq ur true a b bb = absurd (undoubled o r ur q lq (ltb-true q r a) tq e)
differ o q r lq lr tq tr e uq ur false a true b = absurd (undoubled o q uq r lr (ltb-true r q b) tr (sym e))
differ o q r lq lr tq tr e uq ur false a false b = omega (arith, ltb-false q r a, ltb-false r q b)

-- ---- the rows
sized : (o : List ℕ) → (eqb (length o) 0 || not (eqb (length o % 16) 0)) ≡ false → (1 ≤ size o) × (length o ≡ 16 * size o)
sized o e =
    let f = or_parts (eqb (length o) 0) (not (eqb (length o % 16) 0)) e in
    omega (arith, eqb-false (length o) 0 f.0, eqb-true (length o % 16) 0 (not-false _ f.1))

-- rows 2 and 3
pub sizes_formed : (o : List ℕ) → (size_rows o).number ≡ 0 → (1 ≤ size o) × (length o ≡ 16 * size o) × (size o ≤ most_records)
unfolding size_rows
sizes_formed o e =
    let rows = both_pass _ _ e in
    let s = sized o (row_fails _ _ rows.0) in
    (s.0, s.1, ltb-false _ _ (row_fails _ _ rows.1))

-- a condition holds at no record
abbrev Nowhere : List ℕ → (ℕ → Bool) → Type 0
Nowhere o holds = (r : ℕ) → 1 ≤ r → r ≤ size o → holds r ≡ false

formed_by : (o : List ℕ) → (1 ≤ size o) × (length o ≡ 16 * size o) × (size o ≤ most_records)
    → Nowhere o (bad_field o) → Nowhere o (bad_link o) → taxa o ≤ most_taxa → Nowhere o (is_duplicate o) → WellFormed o
formed_by o sizes field link few plates = record {
  whole = sizes.1;
  size_most = sizes.2;
  ranged = λ r l u. ranged_by o r _ refl (field r l u);
  linked = record {
    filled = sizes.0;
    next_later = λ r l u. (own_links o r (link r l u)).0;
    first_later = λ r l u. (own_links o r (link r l u)).1;
    root_alone = root_by o (link 1 (omega arith) sizes.0);
    named_once = λ q l u. named_by o q l (link q (omega arith) u);
  };
  taxa_most = few;
  plates_differ = λ q r lq uq lr ur tq tr same.
      differ o q r lq lr tq tr same (plates q lq uq) (plates r lr ur) (ltb q r) refl (ltb r q) refl;
}

-- with rows 5 to 8
pub rows_kept : (o : List ℕ) → (size_rows o).number ≡ 0 → (record_rows o).number ≡ 0 → WellFormed o
unfolding record_rows
rows_kept o e d =
    let fields = both_pass _ _ d in
    let links = both_pass _ _ fields.1 in
    let few = both_pass _ _ links.1 in
    formed_by o (sizes_formed o e)
    (lowest_none _ _ (row_at_fails _ (bad_field o) (size o) fields.0))
    (lowest_none _ _ (row_at_fails _ (bad_link o) (size o) links.0))
    (ltb-false _ _ (row_fails _ _ few.0))
    (lowest_none _ _ (row_at_fails _ (is_duplicate o) (size o) few.1))

-- what the check establishes
pub accepted_formed : (o : List ℕ) → is_accepted o ≡ true → WellFormed o
unfolding checked
accepted_formed o e = let rows = both_pass _ _ (eqb-true _ _ e) in rows_kept o rows.0 rows.1

-- how many records are left from r on, none for 0: fewer at each link, so that a recursion over the links ends
unfoldable pub left : List ℕ → ℕ → ℕ
left o zero = 0
left o (suc r) = size o - r

pub left_less : (o : List ℕ) (r q : ℕ) → 0 < r → r ≤ size o → Later o r q → left o q < left o r
unfolding left
left_less o (suc r) zero p m h = omega arith
left_less o (suc r) (suc q) p m h = omega (arith, h.later (omega arith), h.most)
left_less o zero q p m h = absurd (omega arith)

-- so at the first of a record's members, and at the next of its chain
module _ {o : List ℕ} (linked : Linked o) {r q : ℕ} (low : 0 < r) (most : r ≤ size o) where
  pub first_less : q ≡ first o r → (left o q < left o r) × (q ≤ size o)
  first_less e = let later = linked.first_later r low most in rw e (left_less o r (first o r) low most later, later.most)

  pub next_less : q ≡ next o r → (left o q < left o r) × (q ≤ size o)
  next_less e = let later = linked.next_later r low most in rw e (left_less o r (next o r) low most later, later.most)
