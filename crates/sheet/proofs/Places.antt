-- From which place on a record counts: the first chosen taxon of a chain and of a clade, and the first outside them, along the links.
use Rattle.std.specs.Prelude.{if◌then◌else◌}
use Prim.Native.Nat.{ℕ, zero, suc, ◌+◌, ◌-◌, ◌≤◌, min, max}
use mathlib.Core.Path.{◌≡◌, refl, sym, ap, ap₂, ◌∙◌}
use mathlib.Core.Bool.{Bool, true, false, ◌||◌, ◌&&◌}
use mathlib.Core.List.{List}
use native.Mathlib.Nat.{zero-add, min-le_left, min-le_right}
use native.Mathlib.Omega.{arith}
use lib.Dec.{eqb, ltb}
use borrow.Author.Tests.{ltb-true, ltb-false, lt-ltb, le-ltb}
use Rattle.lists.specs.Lists.{one, positive}
use Rattle.outline.specs.Outline.{next, first, IsRecord}
use Rattle.outline.specs.WellFormed.{WellFormed}
use Rattle.diversity.specs.Diversity.{chosen, elsewhere}
use Rattle.laws.specs.Forest.{Forest}
use Rattle.laws.proofs.Sums.{positive_true}
use Rattle.laws.proofs.Forest.{tree_zero, tree_step, sum_part, sum_all}
use Rattle.laws.proofs.ByTree.{chosen_below, within_count, elsewhere_count}
use Rattle.laws.proofs.Prefixes.{chosen_up_to}
use Rattle.sheet.specs.Sheet.{up_to}
use Rattle.sheet.specs.Inner.{no_place, place_of, Since, in_chain, out_chain, price_counts, branch_counts, FirstIn, FirstOut}
use Rattle.outline.specs.Rules.{most_records}
use Rattle.laws.specs.Measures.{chosen_in}

-- ---- a place before k: the lower of two is where either is, the higher where both are
before_lower : (x y k : ℕ) → ltb (min x y) k ≡ (ltb x k || ltb y k)
before_lower x y k = go (ltb x k) refl (ltb y k) refl
  where
    go : (c : Bool) → ltb x k ≡ c → (d : Bool) → ltb y k ≡ d → ltb (min x y) k ≡ (c || d)
    go true p d q = lt-ltb (min x y) k (omega (arith, min-le_left x y, ltb-true x k p))
    go false p true q = lt-ltb (min x y) k (omega (arith, min-le_right x y, ltb-true y k q))
    go false p false q = le-ltb (min x y) k (omega (arith, ltb-false x k p, ltb-false y k q))

before_higher : (x y k : ℕ) → ltb (max x y) k ≡ (ltb x k && ltb y k)
before_higher x y k = go (ltb x k) refl (ltb y k) refl
  where
    go : (c : Bool) → ltb x k ≡ c → (d : Bool) → ltb y k ≡ d → ltb (max x y) k ≡ (c && d)
    go true p true q = lt-ltb (max x y) k (omega (arith, ltb-true x k p, ltb-true y k q))
    go true p false q = le-ltb (max x y) k (omega (arith, ltb-false y k q))
    go false p d q = le-ltb (max x y) k (omega (arith, ltb-false x k p))

-- so hold either of two tests, and both
since_lower : {x y : ℕ} {p q : ℕ → Bool} → Since x p → Since y q → Since (min x y) (λ k. p k || q k)
since_lower {x} {y} a b = record {
  most = omega (arith, a.most, b.most);
  each = λ k l u. before_lower x y k ∙ ap₂ ◌||◌ (a.each k l u) (b.each k l u);
}

since_higher : {x y : ℕ} {p q : ℕ → Bool} → Since x p → Since y q → Since (max x y) (λ k. p k && q k)
since_higher {x} {y} a b = record {
  most = omega (arith, a.most, b.most);
  each = λ k l u. before_higher x y k ∙ ap₂ ◌&&◌ (a.each k l u) (b.each k l u);
}

-- tests that agree hold from the same place on
since_same : {x : ℕ} {p q : ℕ → Bool} → ((k : ℕ) → p k ≡ q k) → Since x p → Since x q
since_same e a = record { most = a.most; each = λ k l u. a.each k l u ∙ e k }

-- the test that never holds
since_never : Since no_place (λ k. false)
since_never = record { most = omega arith; each = λ k l u. le-ltb no_place k u }

-- a record is chosen from its own place on
since_chosen : (s : List ℕ) (r : ℕ) → r ≤ most_records → Since (place_of s r) (λ k. chosen (up_to s k) r)
unfolding place_of
since_chosen s r h = go (chosen s r) refl
  where
    go : (b : Bool) → chosen s r ≡ b → Since (if b then r - 1 else no_place) (λ k. chosen (up_to s k) r)
    go true e = record { most = omega arith; each = λ k l u. sym (chosen_up_to s k r ∙ ap (λ b. b && ltb (r - 1) k) e) }
    go false e = since_same (λ k. sym (chosen_up_to s k r ∙ ap (λ b. b && ltb (r - 1) k) e)) since_never

-- ---- counts as tests
positive_either : (m n : ℕ) → (positive m || positive n) ≡ positive (m + n)
positive_either zero n = rw zero-add
positive_either (suc m) n = sym (positive_true (suc m + n) (omega arith))

positive_one : (b : Bool) → positive (one b) ≡ b
positive_one true = refl
positive_one false = refl

-- a sum counts from the lower of the places on from which its parts do
since_sum : {x y : ℕ} (m n sum : ℕ → ℕ) → ((k : ℕ) → m k + n k ≡ sum k) → Since x (λ k. positive (m k)) → Since y (λ k. positive (n k))
    → Since (min x y) (λ k. positive (sum k))
since_sum m n sum e a b = since_same (λ k. positive_either (m k) (n k) ∙ ap positive (e k)) (since_lower a b)

-- the empty chain has no taxon
pub first_none : (o s : List ℕ) → FirstIn o s 0 no_place
first_none o s = since_same (λ k. ap (λ F. positive (chosen_in (chosen (up_to s k)) F)) (sym (tree_zero o))) since_never

-- ---- record r, the chain of its members and the rest of its own
module _ {o : List ℕ} (formed : WellFormed o) {r : ℕ} (i : IsRecord o r) (s : List ℕ) where
  abbrev own : ℕ → ℕ
  own k = one (chosen (up_to s k) r)

  stepped : (k : ℕ) → in_chain o s r k ≡ own k + (in_chain o s (first o r) k + in_chain o s (next o r) k)
  stepped k = ap (chosen_in (chosen (up_to s k))) (tree_step o formed.linked r i.low i.high)

  part : (k : ℕ) → in_chain o s r k ≤ in_chain o s 1 k
  part k =
      let marked : ℕ → Forest → ℕ = λ q f. one (chosen (up_to s k) q) in
      omega (arith, sum_part o formed.linked marked r i.high, sum_all o formed.linked marked)

  since_own : Since (place_of s r) (λ k. positive (own k))
  since_own = since_same (λ k. sym (positive_one (chosen (up_to s k) r))) (since_chosen s r (omega (arith, i.high, formed.size_most)))

  -- the price of record r counts from the first taxon at or below it on
  pub price_since : {x : ℕ} → FirstIn o s (first o r) x → Since (min (place_of s r) x) (price_counts o s r)
  price_since f =
      since_same (λ k. sym (within_count o (up_to s k) r))
      (since_sum own (in_chain o s (first o r)) (λ k. chosen_below o (up_to s k) r) (λ k. refl) since_own f)

  -- its chain has the taxa at or below it and those of the rest of the chain
  pub first_step : {x y : ℕ} → Since x (price_counts o s r) → FirstIn o s (next o r) y → FirstIn o s r (min x y)
  first_step a n =
      since_sum (λ k. chosen_below o (up_to s k) r) (in_chain o s (next o r)) (in_chain o s r) (λ k. omega (arith, stepped k))
      (since_same (λ k. within_count o (up_to s k) r) a) n

  module _ (way : ℕ) {x : ℕ} (out : FirstOut o way s r x) where
    -- outside its chain, and itself
    around : Since (min x (place_of s r)) (λ k. positive (out_chain o way s r k + own k))
    around = since_sum (out_chain o way s r) own (λ k. out_chain o way s r k + own k) (λ k. refl) out since_own

    -- with the rest of its chain, that is what is outside the chain of its members; with its members, what is outside the rest
    pub out_members : {y : ℕ} → FirstIn o s (next o r) y → FirstOut o way s (first o r) (min (min x (place_of s r)) y)
    out_members n =
        since_sum (λ k. out_chain o way s r k + own k) (in_chain o s (next o r)) (out_chain o way s (first o r))
        (λ k. omega (arith, stepped k, part k)) around n

    pub out_rest : {y : ℕ} → FirstIn o s (first o r) y → FirstOut o way s (next o r) (min (min x (place_of s r)) y)
    out_rest f =
        since_sum (λ k. out_chain o way s r k + own k) (in_chain o s (first o r)) (out_chain o way s (next o r))
        (λ k. omega (arith, stepped k, part k)) around f

    -- its branch counts where a taxon is at or below it and one is not
    pub branch_since : {y z : ℕ} → Since y (price_counts o s r) → FirstIn o s (next o r) z → Since (max y (min x z)) (branch_counts o way s r)
    branch_since a n =
        since_higher a
        (since_same (go (eqb way 0))
        (since_sum (out_chain o way s r) (in_chain o s (next o r)) (λ k. out_chain o way s r k + in_chain o s (next o r) k) (λ k. refl) out n))
      where
        go : (b : Bool) (k : ℕ) → positive (one b + in_chain o s 1 k - in_chain o s r k + in_chain o s (next o r) k) ≡ (b || elsewhere o (up_to s k) r)
        go true k = positive_true (1 + in_chain o s 1 k - in_chain o s r k + in_chain o s (next o r) k) (omega (arith, part k))
        go false k =
            let left : 0 + in_chain o s 1 k - in_chain o s r k + in_chain o s (next o r) k ≡ in_chain o s 1 k - chosen_below o (up_to s k) r =
            omega (arith, stepped k, part k) in
            ap positive left ∙ sym (elsewhere_count o formed.linked (up_to s k) r i.low i.high)
