-- Picks one after another, from a set that fits to one that does.
use Rattle.std.specs.Prelude.{Option, None, Some}
use Prim.Native.Nat.{ℕ, zero, suc, ◌+◌, ◌*◌, ◌-◌, ◌≤◌, ◌<◌}
use mathlib.Core.Path.{◌≡◌, refl, sym, ap, subst, ◌∙◌}
use mathlib.Core.Bool.{true, false}
use mathlib.Core.List.{List}
use native.Mathlib.Omega.{arith}
use lib.Dec.{eqb}
use lib.ListN.{set}
use borrow.Author.Tests.{eq-eqb, ne_eqb}
use Rattle.outline.specs.Outline.{IsRecord}
use Rattle.outline.specs.Rules.{most_records, most_price}
use Rattle.diversity.specs.Diversity.{cost}
use Rattle.quick.specs.Quick.{with_taxon, added_cost, picked, after_picks}
use Rattle.quick.specs.Inner.{Joined, pick_of, PicksFit, PicksDone}
use Rattle.quick.specs.declared.picker.Pick.{Pick}
use Rattle.quick.specs.declared.ways.Ways.{Ways}
use Rattle.quick.proofs.Bounds.{cost_bound}
use Rattle.quick.proofs.Hand.{pick_some, pick_none}
use Rattle.quick.proofs.Holding.{held_joined}
use Rattle.quick.proofs.Picking.{Good, picked_most, picking}
use Rattle.quick.proofs.Taxon.{with_chosen, cost_with}

-- a loop's invariant: the picks that are left, of k less those made, lead to the same set
pub record Taking (o : List ℕ) (b : ℕ) (s : List ℕ) (k : ℕ) (marks : List ℕ) (w : Ways) (spent made : ℕ) : Type 0 where
  pub ready : PicksFit o b marks w
  pub spent_is : spent ≡ cost o marks
  pub whole : after_picks o b (k - made) marks ≡ after_picks o b k s

module _ {o : List ℕ} {b : ℕ} {s : List ℕ} {k : ℕ} where
  module _ {marks : List ℕ} {w : Ways} {spent made : ℕ} (h : Taking o b s k marks w spent made) {v : Option Pick}
      (next : v ≡ pick_of o marks (picked o (cost o marks + (b - spent)) marks)) where
    -- what is left of the page count is room
    next_is : v ≡ pick_of o marks (picked o b marks)
    next_is = subst (λ c. v ≡ pick_of o marks (picked o c marks)) (omega (arith, h.spent_is, h.ready.fits.cost_most)) next

    -- there is no pick
    pub taking_stops : v ≡ None → PicksDone o b k s marks w
    taking_stops z = record { set_is = sym (none (k - made)) ∙ h.whole; ready = h.ready.ready }
      where
        nothing : eqb (picked o b marks) 0 ≡ true
        nothing = eq-eqb _ _ (pick_none o marks _ (sym z ∙ next_is))

        none : (n : ℕ) → after_picks o b n marks ≡ marks
        none zero = unfold after_picks in refl
        none (suc n) = unfold after_picks in rw nothing refl

    -- there is one, which is a record
    module _ {p : Pick} (is : v ≡ Some p) where
      pick_is : (p.taxon ≡ picked o b marks) × (1 ≤ picked o b marks) × (p.quarters ≡ added_cost o marks (picked o b marks))
      pick_is = pick_some o marks _ (sym is ∙ next_is)

      pub pick_record : IsRecord o p.taxon
      pick_record = record { low = omega (arith, pick_is.0, pick_is.1); high = omega (arith, pick_is.0, picked_most o b marks) }

      -- what it adds is added to the cost
      spent_with : spent + p.quarters ≡ cost o (with_taxon marks p.taxon)
      spent_with = omega (arith, h.spent_is, pick_is.2, ap (added_cost o marks) pick_is.0, cost_with o marks p.taxon)

      pub spent_small : spent + p.quarters ≤ most_records * most_price
      spent_small =
          let formed = h.ready.ready.base.formed in
          omega (arith, spent_with, cost_bound o formed (with_taxon marks p.taxon), formed.size_most)

      -- and as many are to go as before less one
      one_less : (n : ℕ) → after_picks o b (suc n) marks ≡ after_picks o b n (with_taxon marks p.taxon)
      unfolding after_picks
      one_less n =
          let some : eqb (picked o b marks) 0 ≡ false = ne_eqb _ _ (λ z. omega (arith, pick_is.1)) in
          rw (some, pick_is.0) refl

      left_less : made < k → after_picks o b (k - (made + 1)) (with_taxon marks p.taxon) ≡ after_picks o b (k - made) marks
      left_less l = let more : k - made ≡ suc (k - (made + 1)) = omega arith in rw more (sym (one_less _))

      pub taking_goes : {new : Ways} → made < k → Joined w p.taxon new
          → Taking o b s k (set marks (p.taxon - 1) 1) new (spent + p.quarters) (made + 1)
      unfolding with_taxon
      taking_goes {new} l j =
          let was = h.ready.ready in
          let kept : Good o b (with_taxon marks p.taxon) = still_good in
          record {
            ready = record {
              ready = record {
                base = record { formed = was.base.formed; is_set = kept.0 };
                parents_are = rw j.parents_kept was.parents_are;
                held_are = held_joined was.base.formed.linked was.parents_are pick_record
                    (with_chosen o marks was.base.is_set pick_record) was.held_are j;
              };
              fits = kept.1;
            };
            spent_is = spent_with;
            whole = left_less l ∙ h.whole;
          }
        where
          -- one pick keeps a set that fits one
          still_good : Good o b (with_taxon marks p.taxon)
          still_good =
              let one : after_picks o b 1 marks ≡ with_taxon marks p.taxon = one_less 0 ∙ unfold after_picks in refl in
              rw one at ((picking o b 1 marks (h.ready.ready.base.is_set, h.ready.fits)).good)

  pub taking_ends : {marks : List ℕ} {w : Ways} {spent made : ℕ} → Taking o b s k marks w spent made → k ≤ made → PicksDone o b k s marks w
  taking_ends {marks} {made = made} h l = record { set_is = sym none ∙ h.whole; ready = h.ready.ready }
    where
      none : after_picks o b (k - made) marks ≡ marks
      none = unfold after_picks in let z : k - made ≡ 0 = omega arith in rw z refl
