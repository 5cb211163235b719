-- Pairs of numbers gone through one by one, by the code and for the row that judges them.
use Rattle.std.specs.Prelude.{if◌then◌else◌, Option, None, Some, is_some, option_map, MatchOption, count_by}
use Rattle.std.specs.List.{find, list_any}
use Rattle.std.specs.Simd.{first_chunks}
use Rattle.std.proofs.lemmas.List.Sums.{sum_by-cons}
use Prim.Native.Nat.{ℕ, zero, suc, ◌+◌, ◌/◌, ◌%◌}
use mathlib.Core.Path.{◌≡◌, refl, sym, ap, ap₂, subst, fun_ext, ◌∙◌}
use mathlib.Core.Logic.Iff
use mathlib.Core.Logic.{inl, inr}
use mathlib.Core.Bool.{Bool, true, false, ◌||◌, ◌&&◌, cond, not, or-true, false≢true}
use mathlib.Core.List.{List, [], ◌∷◌}
use native.Mathlib.Omega.{arith}
use lib.Dec.{eqb}
use lib.ListN.{length, get_or}
use borrow.Author.Tests.{eqb-true, eqb-false, eq-eqb, ne_eqb}
use Rattle.lists.specs.Lists.{one, from, anywhere, lowest, nonzero}
use Rattle.lists.proofs.Bools.{eqb_comm}
use Rattle.lists.proofs.Walk.{anywhere_lowest, is_some_nonzero}
use Rattle.refusals.proofs.Tests.{Decides, decides_equal, decides_not, decides_either}
use Rattle.outline.specs.Outline.{size, records, plate, is_taxon}
use Rattle.newick.specs.Pairs.{price_in, pairs_of, paired, bad_pairs}
use Rattle.newick.specs.Inner.{plates_in, plates_of}
use Rattle.reading.specs.Inner.{by_two, unpaired, unmatched}
use Rattle.reading.specs.Demands.{In, here, there, Pair, first_pair, later_pair, BadPairs}
use Rattle.outline.specs.Rules.{has_plate}

-- ---- pairs, two numbers each

-- the chunks of two numbers
pub chunks_by_two : (xs : List ℕ) (k : ℕ) → k ≡ length xs / 2 → first_chunks 2 k xs ≡ by_two xs
chunks_by_two [] zero e = refl
chunks_by_two [] (suc k) e = absurd (omega arith)
chunks_by_two (q ∷ []) zero e = refl
chunks_by_two (q ∷ []) (suc k) e = absurd (omega arith)
chunks_by_two (q ∷ (c ∷ rest)) zero e = absurd (omega arith)
chunks_by_two (q ∷ (c ∷ rest)) (suc k) e = ap (λ ps. (q ∷ (c ∷ [])) ∷ ps) (chunks_by_two rest k (omega arith))

-- a pair is of a plate
abbrev pub of_plate : ℕ → List ℕ → Bool
of_plate p pair = eqb (get_or pair 0 0) p

-- the price of a pair, if there is one
abbrev pub price_of : Option (List ℕ) → ℕ
price_of None = 0
price_of (Some pair) = get_or pair 1 0

-- a number that is 0 without a pair, and with one says its price
pub told_price : {X : Type 0} (v : X → List ℕ) (o : Option X) {Says : X → Type 0} {n : ℕ} → MatchOption o (n ≡ 0) Says
    → ((x : X) → Says x → n ≡ get_or (v x) 1 0) → n ≡ price_of (option_map v o)
told_price v None e k = e
told_price v (Some x) s k = k x s

pub found_price : (pairs : List ℕ) (p : ℕ) → price_of (find (of_plate p) (by_two pairs)) ≡ price_in pairs p
unfolding price_in
found_price [] p = refl
found_price (q ∷ []) p = refl
found_price (q ∷ (c ∷ rest)) p = go (eqb q p) (found_price rest p)
  where
    go : (b : Bool) → price_of (find (of_plate p) (by_two rest)) ≡ price_in rest p
        → price_of (cond b (Some (q ∷ (c ∷ []))) (find (of_plate p) (by_two rest))) ≡ (if b then c else price_in rest p)
    go true h = refl
    go false h = h

pub counted_pairs : (pairs : List ℕ) (p : ℕ) → count_by (of_plate p) (by_two pairs) ≡ pairs_of pairs p
unfolding pairs_of
counted_pairs [] p = refl
counted_pairs (q ∷ []) p = refl
counted_pairs (q ∷ (c ∷ rest)) p =
    sum_by-cons (λ pair. cond (of_plate p pair) 1 0) (q ∷ (c ∷ [])) (by_two rest) ∙ go (eqb q p) (counted_pairs rest p)
  where
    go : (b : Bool) → count_by (of_plate p) (by_two rest) ≡ pairs_of rest p
        → cond b 1 0 + count_by (of_plate p) (by_two rest) ≡ one b + pairs_of rest p
    go true h = ap (λ n. 1 + n) h
    go false h = ap (λ n. 0 + n) h

-- ---- taxa without a pair, and pairs without a taxon

-- no taxon has a plate where none holds it
holder_unmatched : (o : List ℕ) (q : ℕ) → not (is_some (nonzero (lowest (has_plate o q) (from 1 (size o))))) ≡ unmatched o q
unfolding records
holder_unmatched o q = rw (is_some_nonzero, anywhere_lowest)

pub any_unmatched : (o pairs : List ℕ)
    → list_any (λ pair. not (is_some (nonzero (lowest (has_plate o (get_or pair 0 0)) (from 1 (size o)))))) (by_two pairs) ≡ anywhere (unmatched o) (paired pairs)
unfolding anywhere paired
any_unmatched o [] = refl
any_unmatched o (q ∷ []) = refl
any_unmatched o (q ∷ (c ∷ rest)) = ap₂ (λ (a : Bool) (b : Bool). a || b) (holder_unmatched o q) (any_unmatched o rest)

-- ---- the row over the plates of the taxa

-- a test of the taxa among records is one of their plates
plates_anywhere : (o : List ℕ) (test : ℕ → Bool) (rs : List ℕ)
    → anywhere (λ r. is_taxon o r && test (plate o r)) rs ≡ anywhere test (plates_in o rs)
unfolding anywhere plates_in
plates_anywhere o test [] = refl
plates_anywhere o test (r ∷ rs) = go (is_taxon o r) (plates_anywhere o test rs)
  where
    go : (b : Bool) → anywhere (λ r. is_taxon o r && test (plate o r)) rs ≡ anywhere test (plates_in o rs)
        → ((b && test (plate o r)) || anywhere (λ r. is_taxon o r && test (plate o r)) rs)
        ≡ anywhere test (if b then plate o r ∷ plates_in o rs else plates_in o rs)
    go true ih = ap (λ a. test (plate o r) || a) ih
    go false ih = ih

-- no taxon has the plate: it is not among theirs
unmatched_plates : (o : List ℕ) → unmatched o ≡ (λ q. not (anywhere (eqb q) (plates_of o)))
unfolding has_plate
unmatched_plates o =
    fun_ext (λ q. ap not
    (plates_anywhere o (λ p. eqb p q) (records o) ∙ ap (λ test. anywhere test (plates_of o)) (fun_ext (λ p. eqb_comm p q))))

module _ (o pairs : List ℕ) where
  -- the three parts of the row, one after the other
  pub bad_odd : (length pairs % 2 ≡ 0 → ⊥) → true ≡ bad_pairs (plates_of o) pairs
  unfolding bad_pairs
  bad_odd h = rw (ne_eqb (length pairs % 2) 0 h)

  module _ (h : length pairs % 2 ≡ 0) where
    even : bad_pairs (plates_of o) pairs ≡ (anywhere (unpaired o pairs) (records o) || anywhere (unmatched o) (paired pairs))
    unfolding bad_pairs
    even =
        rw (eq-eqb (length pairs % 2) 0 h, unmatched_plates o)
        (ap (λ a. a || anywhere (λ q. not (anywhere (eqb q) (plates_of o))) (paired pairs))
        (sym (plates_anywhere o (λ p. not (eqb (pairs_of pairs p) 1)) (records o))))

    pub bad_unpaired : anywhere (unpaired o pairs) (records o) ≡ true → true ≡ bad_pairs (plates_of o) pairs
    bad_unpaired e = rw (even, e)

    pub bad_unmatched : {b : Bool} → anywhere (unpaired o pairs) (records o) ≡ false → b ≡ anywhere (unmatched o) (paired pairs)
        → b ≡ bad_pairs (plates_of o) pairs
    bad_unmatched e f = rw (even, e) f

-- ---- the row and its condition

-- a test that decides a condition holds somewhere exactly if the condition does
decides_any : {C : ℕ → Type 0} {test : ℕ → Bool} → ((x : ℕ) → Decides (C x) (test x)) → (xs : List ℕ)
    → Decides ((x : ℕ) × In x xs × C x) (anywhere test xs)
unfolding anywhere
decides_any {C} {test} d xs = (found xs, λ (x, i, c). holds i ((d x).1 c))
  where
    found : (xs : List ℕ) → anywhere test xs ≡ true → (x : ℕ) × In x xs × C x
    found [] e = absurd (false≢true e)
    found (x ∷ xs) e = go (test x) refl e (found xs)
      where
        go : (b : Bool) → test x ≡ b → (b || anywhere test xs) ≡ true → (anywhere test xs ≡ true → (y : ℕ) × In y xs × C y)
            → (y : ℕ) × In y (x ∷ xs) × C y
        go true t e ih = (x, here, (d x).0 t)
        go false t e ih = let (y, i, c) = ih e in (y, there i, c)

    holds : {x : ℕ} {xs : List ℕ} → In x xs → test x ≡ true → anywhere test xs ≡ true
    holds here e = rw e
    holds (there i) e = rw (holds i e, or-true)

-- a number is in a list
decides_in : (x : ℕ) (xs : List ℕ) → Decides (In x xs) (anywhere (eqb x) xs)
decides_in x xs = Iff.trans (decides_any (decides_equal x) xs) (λ (y, i, e). subst (λ z. In z xs) (sym e) i, λ i. (x, i, refl))

-- a plate among those of the pairs has a pair, and the other way round
pair_of : (p : ℕ) (pairs : List ℕ) → In p (paired pairs) → (c : ℕ) × Pair p c pairs
unfolding paired
pair_of p (q ∷ (c ∷ rest)) here = (c, first_pair)
pair_of p (q ∷ (c ∷ rest)) (there i) = let (d, x) = pair_of p rest i in (d, later_pair x)
pair_of p [] i = elim i [ ]
pair_of p (q ∷ []) i = elim i [ ]

pub in_paired : {p c : ℕ} {pairs : List ℕ} → Pair p c pairs → In p (paired pairs)
unfolding paired
in_paired first_pair = here
in_paired (later_pair x) = there (in_paired x)

-- refusal 11, in words and as a test
pub decides_pairs : (plates pairs : List ℕ) → Decides (BadPairs plates pairs) (bad_pairs plates pairs)
unfolding bad_pairs
decides_pairs plates pairs =
    decides_either (decides_not (decides_equal (length pairs % 2) 0))
    (decides_either (decides_any (λ p. decides_not (decides_equal (pairs_of pairs p) 1)) plates)
    (Iff.trans (decides_any (λ q. decides_not (decides_in q plates)) (paired pairs))
    (λ (p, i, n). let (c, x) = pair_of p pairs i in (p, c, x, n), λ (p, c, x, n). (p, in_paired x, n))))

-- where it does not hold, each plate has one pair
pub pairs_once : (plates pairs : List ℕ) → bad_pairs plates pairs ≡ false → (p : ℕ) → In p plates → pairs_of pairs p ≡ 1
pairs_once plates pairs e p i = go (eqb (pairs_of pairs p) 1) refl
  where
    go : (b : Bool) → eqb (pairs_of pairs p) 1 ≡ b → pairs_of pairs p ≡ 1
    go true t = eqb-true (pairs_of pairs p) 1 t
    go false t = absurd (false≢true (sym e ∙ (decides_pairs plates pairs).1 (inr (inl (p, i, eqb-false (pairs_of pairs p) 1 t)))))

-- and that pair has its price
pub priced : (pairs : List ℕ) (p : ℕ) → pairs_of pairs p ≡ 1 → Pair p (price_in pairs p) pairs
unfolding pairs_of price_in
priced [] p e = absurd (omega arith)
priced (q ∷ []) p e = absurd (omega arith)
priced (q ∷ (c ∷ rest)) p e = go (eqb q p) refl e (priced rest p)
  where
    go : (b : Bool) → eqb q p ≡ b → one b + pairs_of rest p ≡ 1 → (pairs_of rest p ≡ 1 → Pair p (price_in rest p) rest)
        → Pair p (if b then c else price_in rest p) (q ∷ (c ∷ rest))
    go true t e ih = rw (eqb-true q p t) first_pair
    go false t e ih = later_pair (ih (omega arith))
