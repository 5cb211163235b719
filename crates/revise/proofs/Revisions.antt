-- An outline that keeps the rules, with another length of one record, keeps them, and its best diversity moves with the length: by exactly as
-- much, or not at all, where the old best set spans the branch and its length rises, or does not and the length falls.
use Prim.Native.Nat.{ℕ, ◌+◌, ◌≤◌}
use mathlib.Core.Path.{◌≡◌, refl, sym, subst, ◌∙◌}
use mathlib.Core.Bool.{Bool, true, false}
use mathlib.Core.List.{List}
use native.Mathlib.Omega.{arith}
use lib.Dec.{eqb}
use borrow.Author.Tests.{eqb-true, eqb-false}
use Rattle.outline.specs.Outline.{branch, IsRecord}
use Rattle.outline.specs.Rules.{most_length}
use Rattle.outline.specs.WellFormed.{Ranged, WellFormed}
use Rattle.diversity.specs.Diversity.{cost}
use Rattle.diversity.specs.Search.{optimum, best_diversity}
use Rattle.laws.specs.Locks.{locked_set}
use Rattle.laws.proofs.Accepted.{same_formed}
use Rattle.laws.proofs.Alike.{Alike, alike_links, alike_taxon}
use Rattle.revise.specs.Revised.{revised}
use Rattle.revise.specs.Moved.{moved, MovesWith}
use Rattle.revise.specs.Spans.{spans}
use Rattle.revise.specs.Demands.{SameSetsFit}
use Rattle.revise.proofs.Bytes.{revised_alike, revised_price, other_length, new_length}
use Rattle.revise.proofs.Signs.{moves_signed}
use Rattle.revise.proofs.Lengths.{Moves, OneLength, one_length_back, length_passes, length_fit, best_moves, spanned_rises, unspanned_falls}

module _ (o : List ℕ) (r n : ℕ) (is : IsRecord o r) where
  one_length : OneLength o (revised o r n) r
  one_length = record {
    alike = revised_alike o r n is;
    prices = revised_price o r n is;
    is = is;
    others = other_length o r n is;
  }

  -- the same sets of taxa fit both
  pub fit_alike : SameSetsFit o (revised o r n)
  fit_alike b s = (
    λ x. length_passes o (revised o r n) r one_length b s x.0 x.1,
    λ x. length_passes (revised o r n) o r (one_length_back one_length) b s x.0 x.1,
  )

  -- the locked taxa fit both
  pub revised_fit : (b : ℕ) → cost o (locked_set o) ≤ b → cost (revised o r n) (locked_set (revised o r n)) ≤ b
  revised_fit b fit = length_fit o (revised o r n) r one_length b fit

  module _ (most : n ≤ most_length) where
    revised_branch : branch (revised o r n) r ≡ n
    revised_branch = new_length o r n is (omega arith)

    -- the best diversity moves with the length
    pub movement_alike : (way b : ℕ) → cost o (locked_set o) ≤ b
        → MovesWith (moved (best_diversity o way b) (best_diversity (revised o r n) way b)) (moved (branch o r) n)
    movement_alike way b fit =
        moves_signed
        (subst (Moves (best_diversity o way b) (best_diversity (revised o r n) way b) (branch o r)) revised_branch
        (best_moves o (revised o r n) r one_length b fit way))

    -- where the best set spans the branch and the length rises, that set stays, and the best diversity rises by the difference
    pub rises_exactly : (way b : ℕ) → cost o (locked_set o) ≤ b → spans o way (optimum o way b) r ≡ true → branch o r ≤ n
        → (optimum (revised o r n) way b ≡ optimum o way b)
        × (best_diversity (revised o r n) way b + branch o r ≡ best_diversity o way b + n)
    rises_exactly way b fit e h =
        let (same, best) = spanned_rises o (revised o r n) r one_length b fit way e (rw revised_branch h) in
        (same, rw revised_branch at best)

    -- where it does not and the length falls, that set stays, and the best diversity too
    pub stays_exactly : (way b : ℕ) → cost o (locked_set o) ≤ b → spans o way (optimum o way b) r ≡ false → n ≤ branch o r
        → (optimum (revised o r n) way b ≡ optimum o way b) × (best_diversity (revised o r n) way b ≡ best_diversity o way b)
    stays_exactly way b fit e h = unspanned_falls o (revised o r n) r one_length b fit way e (rw revised_branch h)

    branch_ranged : (q : ℕ) → IsRecord o q → branch o q ≤ most_length → branch (revised o r n) q ≤ most_length
    branch_ranged q i h = go (eqb q r) refl
      where
        go : (b : Bool) → eqb q r ≡ b → branch (revised o r n) q ≤ most_length
        go true e = rw (eqb-true q r e, revised_branch) most
        go false e = rw (other_length o r n is q i.low (eqb-false q r e)) h

    pub revised_formed : WellFormed o → WellFormed (revised o r n)
    revised_formed formed = same_formed o (revised o r n) (alike_links alike) formed ranged
      where
        alike : Alike o (revised o r n)
        alike = revised_alike o r n is

        ranged : (q : ℕ) → IsRecord o q → Ranged (revised o r n) q
        ranged q i =
            let own = formed.ranged q i.low i.high in
            record {
              branch_most = branch_ranged q i own.branch_most;
              price_most = rw (revised_price o r n is q) own.price_most;
              taxon_plate = λ t. rw ((alike_links alike).plates q i) (own.taxon_plate (sym (alike_taxon alike q) ∙ t));
              group_plate = λ t. alike.plate_fields q ∙ own.group_plate (sym (alike_taxon alike q) ∙ t);
            }
