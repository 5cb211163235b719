-- To be the same tree is an equivalence of accepted outlines; and what a renumbering keeps besides: ways, taxa, smallest plates.
use Rattle.std.specs.Prelude.{if◌then◌else◌}
use Prim.Native.Nat.{ℕ, ◌≤◌}
use mathlib.Core.Path.{◌≡◌, refl, sym, ap, subst, ◌∙◌}
use mathlib.Core.Bool.{Bool, true, false}
use mathlib.Core.List.{List}
use native.Mathlib.Omega.{arith}
use lib.Dec.{eqb}
use borrow.Author.Tests.{eqb-true, eqb-false, eq-eqb, ne_eqb}
use Rattle.outline.specs.Outline.{size, plate, is_taxon, IsRecord}
use Rattle.outline.specs.WellFormed.{WellFormed}
use Rattle.diversity.specs.Paths.{Parent, OnWay, itself, parent}
use Rattle.laws.proofs.Paths.{parent_later}
use Rattle.laws.proofs.Subtrees.{parent_of, parent_one}
use Rattle.canonical.specs.SameTree.{SameTree}
use Rattle.canonical.specs.House.{smallest}
use Rattle.canonical.specs.Rules.{TaxonBelow, SmallestPlate}
use Rattle.canonical.proofs.Smallest.{member_record, plate_taxon, taxon_plate, smallest_plate, smallest_one}

pub same_refl : (o : List ℕ) → SameTree o o
same_refl o = record {
  sizes = refl;
  to = λ r. r;
  back = λ r. r;
  to_record = λ r i. i;
  back_record = λ r i. i;
  back_to = λ r i. refl;
  to_back = λ r i. refl;
  none = refl;
  parents = λ q r i x. x;
  branches = λ r i. refl;
  prices = λ r i. refl;
  plate_fields = λ r i. refl;
}

pub same_trans : {o p q : List ℕ} → SameTree o p → SameTree p q → SameTree o q
same_trans s t = record {
  sizes = t.sizes ∙ s.sizes;
  to = λ r. t.to (s.to r);
  back = λ r. s.back (t.back r);
  to_record = λ r i. t.to_record (s.to r) (s.to_record r i);
  back_record = λ r i. s.back_record (t.back r) (t.back_record r i);
  back_to = λ r i. ap s.back (t.back_to (s.to r) (s.to_record r i)) ∙ s.back_to r i;
  to_back = λ r i. ap t.to (s.to_back (t.back r) (t.back_record r i)) ∙ t.to_back r i;
  none = ap t.to s.none ∙ t.none;
  parents = λ q r i x. t.parents (s.to q) (s.to r) (s.to_record r i) (s.parents q r i x);
  branches = λ r i. t.branches (s.to r) (s.to_record r i) ∙ s.branches r i;
  prices = λ r i. t.prices (s.to r) (s.to_record r i) ∙ s.prices r i;
  plate_fields = λ r i. t.plate_fields (s.to r) (s.to_record r i) ∙ s.plate_fields r i;
}

module _ {o p : List ℕ} (formed : WellFormed o) (also : WellFormed p) (s : SameTree o p) where
  -- the way back, where 0 stays 0
  pub turned : ℕ → ℕ
  turned r = if eqb r 0 then 0 else s.back r

  turned_none : turned 0 ≡ 0
  unfolding turned
  turned_none = ap (λ b. if b then 0 else s.back 0) (eq-eqb 0 0 refl)

  turned_record : (r : ℕ) → 1 ≤ r → turned r ≡ s.back r
  unfolding turned
  turned_record r h = ap (λ b. if b then 0 else s.back r) (ne_eqb r 0 (λ e. omega arith))

  -- what came from a record, or from none, goes back to it
  pub turned_to : (q : ℕ) → q ≤ size o → turned (s.to q) ≡ q
  turned_to q h = go (eqb q 0) refl
    where
      go : (b : Bool) → eqb q 0 ≡ b → turned (s.to q) ≡ q
      go true e = let z = eqb-true q 0 e in ap (λ v. turned (s.to v)) z ∙ ap turned s.none ∙ turned_none ∙ sym z
      go false e =
          let d = eqb-false q 0 e in
          let i : IsRecord o q = record { low = omega arith; high = h } in
          turned_record (s.to q) (s.to_record q i).low ∙ s.back_to q i

  pub to_turned : (r : ℕ) → IsRecord p r → s.to (turned r) ≡ r
  to_turned r i = ap s.to (turned_record r i.low) ∙ s.to_back r i

  pub turned_here : (r : ℕ) → IsRecord p r → IsRecord o (turned r)
  turned_here r i = rw (turned_record r i.low) (s.back_record r i)

  pub turned_parent : (q r : ℕ) → IsRecord p r → Parent p q r → Parent o (turned q) (turned r)
  turned_parent q r i x =
      let j = s.back_record r i in
      let (g, y) = parent_of o formed.linked (s.back r) j.low j.high in
      let there : Parent p (s.to g) r = subst (λ v. Parent p (s.to g) v) (s.to_back r i) (s.parents g (s.back r) j y) in
      let later = parent_later o formed.linked y in
      let above : turned q ≡ g = ap turned (sym (parent_one p also.linked there x)) ∙ turned_to g (omega arith) in
      rw (above, turned_record r i.low) y

  pub same_sym : SameTree p o
  same_sym = record {
    sizes = sym s.sizes;
    to = turned;
    back = s.to;
    to_record = turned_here;
    back_record = s.to_record;
    back_to = to_turned;
    to_back = λ r i. turned_to r i.high;
    none = turned_none;
    parents = turned_parent;
    branches = kept _ _ s.branches;
    prices = kept _ _ s.prices;
    plate_fields = kept _ _ s.plate_fields;
  }
    where
      kept : (f g : ℕ → ℕ) → ((r : ℕ) → IsRecord o r → g (s.to r) ≡ f r) → (r : ℕ) → IsRecord p r → f (turned r) ≡ g r
      kept f g h r i = ap f (turned_record r i.low) ∙ sym (h (s.back r) (s.back_record r i)) ∙ ap g (s.to_back r i)

-- ---- what a renumbering keeps besides
module _ {o p : List ℕ} (formed : WellFormed o) (also : WellFormed p) (s : SameTree o p) where
  ways_to : {t r : ℕ} → IsRecord o t → OnWay o t r → OnWay p (s.to t) (s.to r)
  ways_to i itself = itself
  ways_to i (parent {p = g} {q = q} w x) = parent (ways_to i w) (s.parents g q (member_record o formed.linked x) x)

  plates_to : (r : ℕ) → IsRecord o r → plate p (s.to r) ≡ plate o r
  plates_to r i = omega (arith, s.plate_fields r i)

  taxa_to : (r : ℕ) → IsRecord o r → is_taxon o r ≡ true → is_taxon p (s.to r) ≡ true
  taxa_to r i e =
      plate_taxon p also (s.to r) (s.to_record r i) (omega (arith, plates_to r i, taxon_plate o formed r i e))

  pub below_to : {r t : ℕ} → TaxonBelow o r t → TaxonBelow p (s.to r) (s.to t)
  below_to {r} {t} b = record {
    record_here = s.to_record t b.record_here;
    taxon_here = taxa_to t b.record_here b.taxon_here;
    on_way = ways_to b.record_here b.on_way;
  }

module _ {o p : List ℕ} (formed : WellFormed o) (also : WellFormed p) (s : SameTree o p) where
  -- the smallest plate at or below a record stays
  pub smallest_to : (r : ℕ) → IsRecord o r → smallest p (s.to r) ≡ smallest o r
  unfolding same_sym
  smallest_to r i = smallest_one p also (smallest_plate p also (s.to r) (s.to_record r i)) (record { least = least; taken = taken })
    where
      here : SmallestPlate o r (smallest o r)
      here = smallest_plate o formed r i

      turn : SameTree p o
      turn = same_sym formed also s

      least : (t : ℕ) → TaxonBelow p (s.to r) t → smallest o r ≤ plate p t
      least t b =
          let home : turn.to (s.to r) ≡ r = turn.to_back r i in
          let below : TaxonBelow o r (turn.to t) = subst (λ v. TaxonBelow o v (turn.to t)) home (below_to also formed turn b) in
          omega (arith, here.least (turn.to t) below, plates_to also formed turn t b.record_here)

      taken : (t : ℕ) × TaxonBelow p (s.to r) t × (plate p t ≡ smallest o r)
      taken = let (t, b, e) = here.taken in (s.to t, below_to formed also s b, plates_to formed also s t b.record_here ∙ e)
