-- An accepted outline of a tree's rows: it has that tree, stands in text order, can be written, and its taxa have their plates' prices.
use Rattle.std.specs.Prelude.{if◌then◌else◌}
use Prim.Native.Nat.{ℕ, zero, suc, ◌+◌, ◌%◌, ◌≤◌, ◌<◌}
use mathlib.Core.Path.{◌≡◌, refl, sym, ap, subst, ◌∙◌}
use mathlib.Core.Bool.{Bool, true, false, false≢true}
use mathlib.Core.List.{List, [], ◌∷◌}
use native.Mathlib.Omega.{arith}
use lib.Dec.{eqb}
use borrow.Author.Tests.{eqb-true, eqb-false, not-false}
use Rattle.lists.specs.Lists.{from}
use Rattle.lists.proofs.Bools.{second_false}
use Rattle.lists.proofs.Walk.{anywhere_none}
use Rattle.refusals.specs.Refusals.{Ruling, passed}
use Rattle.outline.specs.Outline.{size, records, price, plate, is_taxon, IsRecord}
use Rattle.outline.specs.Answer.{checked}
use Rattle.outline.proofs.WellFormed.{accepted_formed}
use Rattle.diversity.specs.Order.{InTextOrder}
use Rattle.newick.specs.Grammar.{part, Tree}
use Rattle.newick.specs.Inner.{plates_in, InRange}
use Rattle.newick.specs.Layout.{count, plates, layout}
use Rattle.newick.specs.Pairs.{price_in}
use Rattle.newick.specs.Trees.{tree_of, unwritable}
use Rattle.newick.proofs.Plain.{Plain}
use Rattle.newick.proofs.Regrown.{mispriced, layout_regrown, layout_plates}
use Rattle.newick.proofs.Traced.{tree_traced, traced_one}
use Rattle.reading.specs.Answer.{Numbers}
use Rattle.reading.specs.Demands.{In, here, there}
use Rattle.reading.proofs.Answers.{layout_size}
use Rattle.outline.specs.Rules.{most_records}

-- a price among 32-bit numbers is one
pub price_small : (pairs : List ℕ) → Numbers pairs → (p : ℕ) → price_in pairs p < 4294967296
unfolding price_in
price_small [] h p = omega arith
price_small (q ∷ []) h p = omega arith
price_small (q ∷ (c ∷ rest)) h p = go (eqb q p) (price_small rest (record { small = λ i. h.small (suc (suc i)) }) p)
  where
    go : (b : Bool) → price_in rest p < 4294967296 → (if b then c else price_in rest p) < 4294967296
    go true k = h.small 1
    go false k = k

-- a taxon's plate is among those of the records from k on
pub plate_in : (o : List ℕ) (n k r : ℕ) → k ≤ r → r < k + n → is_taxon o r ≡ true → In (plate o r) (plates_in o (from k n))
unfolding from plates_in
plate_in o zero k r low high e = absurd (omega arith)
plate_in o (suc n) k r low high e = go (eqb k r) refl (is_taxon o k) refl (λ h. plate_in o n (k + 1) r h (omega arith) e)
  where
    go : (b : Bool) → eqb k r ≡ b → (d : Bool) → is_taxon o k ≡ d → (k + 1 ≤ r → In (plate o r) (plates_in o (from (k + 1) n)))
        → In (plate o r) (if d then plate o k ∷ plates_in o (from (k + 1) n) else plates_in o (from (k + 1) n))
    go true f true g later = rw (eqb-true k r f) here
    go true f false g later = absurd (false≢true (sym g ∙ ap (is_taxon o) (eqb-true k r f) ∙ e))
    go false f true g later = let d = eqb-false k r f in there (later (omega arith))
    go false f false g later = let d = eqb-false k r f in later (omega arith)

pub record Settled (cost : ℕ → ℕ) (t : Tree part) (o : List ℕ) : Type 0 where
  pub tree_is : tree_of o ≡ t
  pub order : InTextOrder o
  pub plain : Plain o
  pub priced : (r : ℕ) → IsRecord o r → is_taxon o r ≡ true → In (plate o r) (plates t) × (price o r ≡ cost (plate o r) % 4294967296)

pub layout_settled : (cost : ℕ → ℕ) (t : Tree part) → InRange part t → checked (layout cost t) ≡ passed → Settled cost t (layout cost t)
unfolding records mispriced
layout_settled cost t range accepted =
    let o = layout cost t in
    let many = layout_size cost t in
    let formed = accepted_formed o (ap (λ (u : Ruling). eqb u.number 0) accepted) in
    let few : count t ≤ most_records = omega (arith, formed.size_most) in
    let grown = layout_regrown cost t range few in
    let same = traced_one (tree_traced o formed.linked) grown.traced in
    record {
      tree_is = same.0;
      order = rw many same.1;
      plain = record { formed = formed; writable = λ r i. anywhere_none (unwritable o) (count t) grown.writable r i.low (omega (arith, i.high)) };
      priced = λ r i e.
          let right = anywhere_none (mispriced cost o) (count t) grown.priced r i.low (omega (arith, i.high)) in (
            subst (In (plate o r)) (layout_plates cost t range few) (plate_in o (size o) 1 r i.low (omega (arith, i.high)) e),
            eqb-true (price o r) (cost (plate o r) % 4294967296) (not-false _ (second_false (is_taxon o r) _ right e)),
          );
    }
