-- Outlines that are alike: as long as each other, with the same links and plate fields. Their sets of taxa are the same, and so is what a set
-- has below each record and its number of taxa; with the same prices its cost is the same, and with the same lengths its diversity.
use Rattle.std.specs.Prelude.{if◌then◌else◌, ◌⊎◌}
use Prim.Native.Nat.{ℕ, zero, suc, ◌-◌, ◌/◌, ◌%◌}
use mathlib.Core.Path.{◌≡◌, refl, sym, ap, ap₂, subst, fun_ext, ◌∙◌}
use mathlib.Core.Bool.{Bool, true, ◌&&◌, not}
use mathlib.Core.List.{List, ◌∷◌, ◌++◌}
use native.Mathlib.Omega.{arith}
use lib.ListN.{length, get_or}
use lib.Dec.{eqb}
use Rattle.lists.specs.Lists.{one, from, anywhere, total}
use Rattle.outline.specs.Outline.{size, records, next, first, branch, price, plate_field, is_taxon, locked, lock_bit}
use Rattle.diversity.specs.Behind.{IsSet}
use Rattle.diversity.specs.Diversity.{chain, clade, chosen, within, elsewhere, rooted, unrooted, diversity, cost, holds_locked, chosen_taxa}
use Rattle.laws.proofs.Accepted.{SameLinksAndPlates}

pub record Alike (o p : List ℕ) : Type 0 where
  pub as_long : length p ≡ length o
  pub nexts : (r : ℕ) → next p r ≡ next o r
  pub firsts : (r : ℕ) → first p r ≡ first o r
  pub plate_fields : (r : ℕ) → plate_field p r ≡ plate_field o r

pub alike_back : {o p : List ℕ} → Alike o p → Alike p o
alike_back a = record {
  as_long = sym a.as_long;
  nexts = λ r. sym (a.nexts r);
  firsts = λ r. sym (a.firsts r);
  plate_fields = λ r. sym (a.plate_fields r);
}

module _ {o p : List ℕ} (alike : Alike o p) where
  pub alike_links : SameLinksAndPlates o p
  alike_links = record {
    as_long = alike.as_long;
    nexts = λ r i. alike.nexts r;
    firsts = λ r i. alike.firsts r;
    plates = λ r i. ap (λ f. f % lock_bit) (alike.plate_fields r);
  }

  pub alike_size : size p ≡ size o
  alike_size = ap (λ n. n / 16) alike.as_long

  pub alike_records : records p ≡ records o
  unfolding records
  alike_records = ap (from 1) alike_size

  pub alike_taxon : (r : ℕ) → is_taxon p r ≡ is_taxon o r
  alike_taxon r = ap (λ q. eqb q 0) (alike.firsts r)

  alike_locked : (r : ℕ) → locked p r ≡ locked o r
  unfolding locked
  alike_locked r = ap₂ (λ f v. eqb f 0 && eqb (v / lock_bit % 2) 1) (alike.firsts r) (alike.plate_fields r)

  alike_chain : (k r : ℕ) → chain k p r ≡ chain k o r
  unfolding chain
  alike_chain zero r = refl
  alike_chain (suc k) zero = refl
  alike_chain (suc k) (suc r) =
      ap₂ (λ f n. suc r ∷ (f ++ n))
      (alike_chain k (first p (suc r)) ∙ ap (chain k o) (alike.firsts (suc r)))
      (alike_chain k (next p (suc r)) ∙ ap (chain k o) (alike.nexts (suc r)))

  alike_clade : (r : ℕ) → clade p r ≡ clade o r
  unfolding clade
  alike_clade r = ap (λ c. r ∷ c) (alike_chain (size p) (first p r) ∙ ap₂ (λ k q. chain k o q) alike_size (alike.firsts r))

  pub alike_within : (s : List ℕ) (r : ℕ) → within p s r ≡ within o s r
  unfolding within
  alike_within s r = ap (anywhere (chosen s)) (alike_clade r)

  pub alike_elsewhere : (s : List ℕ) (r : ℕ) → elsewhere p s r ≡ elsewhere o s r
  unfolding elsewhere
  alike_elsewhere s r = ap₂ (λ c rs. anywhere (λ t. chosen s t && not (anywhere (eqb t) c)) rs) (alike_clade r) alike_records

  pub alike_holds : (s : List ℕ) → holds_locked p s ≡ holds_locked o s
  unfolding holds_locked
  alike_holds s = ap₂ (λ l rs. not (anywhere (λ r. l r && not (chosen s r)) rs)) (fun_ext alike_locked) alike_records

  pub alike_set : (s : List ℕ) → IsSet o s → IsSet p s
  alike_set s x = record {
    whole = x.whole ∙ sym alike_size;
    marks = λ r l u.
        subst (λ b. (get_or s (r - 1) 0 ≡ 0) ⊎ ((get_or s (r - 1) 0 ≡ 1) × (b ≡ true))) (sym (alike_taxon r)) (x.marks r l (omega (arith, alike_size)));
  }

  pub alike_cost : ((r : ℕ) → price p r ≡ price o r) → (s : List ℕ) → cost p s ≡ cost o s
  unfolding cost
  alike_cost prices s = ap₂ total (fun_ext (λ r. ap₂ (λ b n. if b then n else 0) (alike_within s r) (prices r))) alike_records

  pub alike_diversity : ((r : ℕ) → branch p r ≡ branch o r) → (way : ℕ) (s : List ℕ) → diversity p way s ≡ diversity o way s
  unfolding diversity rooted unrooted
  alike_diversity lengths way s = ap₂ (λ a b. if eqb way 0 then a else b) root between
    where
      counted : {a b : ℕ → Bool} → ((r : ℕ) → a r ≡ b r)
          → total (λ r. if a r then branch p r else 0) (records p) ≡ total (λ r. if b r then branch o r else 0) (records o)
      counted same = ap₂ total (fun_ext (λ r. ap₂ (λ b n. if b then n else 0) (same r) (lengths r))) alike_records

      root : rooted p s ≡ rooted o s
      root = counted (alike_within s)

      between : unrooted p s ≡ unrooted o s
      between = counted (λ r. ap₂ ◌&&◌ (alike_within s r) (alike_elsewhere s r))

  pub alike_taxa : (s : List ℕ) → chosen_taxa p s ≡ chosen_taxa o s
  unfolding chosen_taxa
  alike_taxa s = ap (total (λ r. one (chosen s r))) alike_records
