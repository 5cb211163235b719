-- What a buyer's reader gets, by its bytes: how long it is, its fields, that the check accepts it, and what it does not depend on.
use Prim.Native.Nat.{ℕ, ◌+◌, ◌*◌, ◌-◌, ◌≤◌, ◌<◌}
use mathlib.Core.Path.{◌≡◌, sym, ap, ◌∙◌}
use mathlib.Core.Bool.{true}
use mathlib.Core.List.{List, ◌++◌}
use native.Mathlib.Omega.{arith}
use lib.Dec.{eqb}
use lib.ListN.{length}
use Rattle.lists.specs.Lists.{from}
use Rattle.outline.specs.Outline.{size, records, next, first, branch, plate, is_taxon, record_bytes, IsRecord}
use Rattle.outline.specs.WellFormed.{Ranged, WellFormed}
use Rattle.outline.specs.Answer.{is_accepted}
use Rattle.laws.proofs.Accepted.{SameLinksAndPlates, formed_accepted, same_formed}
use Rattle.text.specs.Text.{texts}
use Rattle.text.specs.Written.{LongEnough}
use Rattle.text.specs.declared.Pen.{Pen}
use Rattle.text.proofs.Texts.{texts_ext}
use Rattle.records.proofs.Records.{Fields, record_length, records_length, records_at, fields_back}
use Rattle.view.specs.Demands.{Cleared, AgreeButPricesAndLocks}
use Rattle.view.specs.Inner.{RecordFits}
use Rattle.view.specs.View.{buyer_record, buyer_view}

-- sixteen bytes a record
pub sixteen : (o : List ℕ) (r : ℕ) → length (buyer_record o r) ≡ 16
unfolding buyer_record
sixteen o r = record_length (next o r) (first o r) (branch o r) 0 (plate o r)

pub buyer_length : (o : List ℕ) → length (buyer_view o) ≡ 16 * size o
unfolding buyer_view records
buyer_length o = records_length (buyer_record o) (sixteen o) 1 (size o)

-- any record fits where a cleared one does
pub record_fits : {o : List ℕ} {r : ℕ} {pen : Pen ℕ} → RecordFits o r pen
    → (next first branch price plate : ℕ) → LongEnough (record_bytes next first branch price plate) pen
record_fits {o} {r} fits next first branch price plate = omega (arith, fits.room, sixteen o r, record_length next first branch price plate)

-- accepted or not, outlines that agree except in prices and locks give the same bytes
pub buyer_alike : (o p : List ℕ) → AgreeButPricesAndLocks o p → buyer_view o ≡ buyer_view p
unfolding buyer_view buyer_record records
buyer_alike o p agree =
    texts_ext (buyer_record o) (buyer_record p) 1 (size o) each ∙ ap (λ n. texts (buyer_record p) (from 1 n)) agree.sizes
  where
    each : (r : ℕ) → 1 ≤ r → r < 1 + size o → buyer_record o r ≡ buyer_record p r
    each r l u =
        let i : IsRecord o r = record { low = l; high = omega arith } in
        rw (agree.nexts r i, agree.firsts r i, agree.branches r i, agree.plates r i)

-- ---- of an outline that keeps the rules
module _ (o : List ℕ) (formed : WellFormed o) where
  module _ (r : ℕ) (i : IsRecord o r) where
    buyer_fields : Fields (buyer_view o) r (next o r) (first o r) (branch o r) 0 (plate o r)
    unfolding buyer_view buyer_record records
    buyer_fields =
        let place : 1 + (r - 1) ≡ r = omega (arith, i.low) in
        let own = records_at (buyer_record o) (sixteen o) 1 (size o) (r - 1) (omega (arith, i.low, i.high)) in
        fields_back (buyer_view o) r (next o r) (first o r) (branch o r) 0 (plate o r) _
        (own ∙ ap (λ k. buyer_record o k ++ texts (buyer_record o) (from (1 + (r - 1) + 1) (size o - (r - 1) - 1))) place)

    pub buyer_cleared : Cleared o (buyer_view o) r
    buyer_cleared =
        let f = buyer_fields in
        let n = (formed.linked.next_later r i.low i.high).most in
        let k = (formed.linked.first_later r i.low i.high).most in
        let b = (formed.ranged r i.low i.high).branch_most in
        let few = formed.size_most in
        record {
          next_same = f.next_is ∙ omega arith;
          first_same = f.first_is ∙ omega arith;
          branch_same = f.branch_is ∙ omega arith;
          price_none = f.price_is;
          plate_same = omega (arith, f.field_is);
          lock_none = omega (arith, f.field_is);
        }

  -- the check accepts it
  buyer_formed : WellFormed (buyer_view o)
  buyer_formed = same_formed o (buyer_view o) links formed ranged
    where
      links : SameLinksAndPlates o (buyer_view o)
      links = record {
        as_long = omega (arith, buyer_length o, formed.whole);
        nexts = λ r i. (buyer_cleared r i).next_same;
        firsts = λ r i. (buyer_cleared r i).first_same;
        plates = λ r i. (buyer_cleared r i).plate_same;
      }

      ranged : (r : ℕ) → IsRecord o r → Ranged (buyer_view o) r
      ranged r i =
          let own = formed.ranged r i.low i.high in
          let c = buyer_cleared r i in
          let taxon : is_taxon (buyer_view o) r ≡ is_taxon o r = ap (λ q. eqb q 0) c.first_same in
          record {
            branch_most = rw c.branch_same own.branch_most;
            price_most = rw c.price_none (omega arith);
            taxon_plate = λ t. rw c.plate_same (own.taxon_plate (sym taxon ∙ t));
            group_plate = λ t. let z = own.group_plate (sym taxon ∙ t) in omega (arith, c.lock_none, c.plate_same);
          }

  pub buyer_accepted : is_accepted (buyer_view o) ≡ true
  buyer_accepted = formed_accepted (buyer_view o) buyer_formed
