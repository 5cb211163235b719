-- Refusal 17 record by record: two outlines of as many records differ in prices only, with no price of the first above that of the second, exactly
-- if it holds at no record. And its condition, by the parts of a record before its price and after it.
use Rattle.std.proofs.lemmas.Bool.{or_parts}
use Rattle.std.proofs.Math.Seq.{drop-cons}
use Rattle.std.specs.Str.{bytes_eq}
use Prim.Native.Nat.{ℕ, zero, suc, ◌+◌, ◌*◌, ◌-◌, ◌/◌, ◌≤◌, ◌<◌}
use mathlib.Core.Path.{◌≡◌, refl, sym, ap, ap₂, ◌∙◌}
use mathlib.Core.Logic.{◌↔◌}
use mathlib.Core.Bool.{Bool, true, false, ◌||◌, ◌&&◌, not, or-true, false≢true}
use mathlib.Core.List.{List}
use native.Mathlib.Omega.{arith}
use lib.Dec.{eqb, ltb}
use lib.ListN.{length, get_or, take, drop, get_or-eq_default}
use borrow.Author.Tests.{eqb-true, eq-eqb, le-ltb, lt-ltb, ltb-true, ltb-false, not-false}
use Rattle.lists.specs.Lists.{one, from, anywhere}
use Rattle.lists.proofs.Bools.{second_false}
use Rattle.lists.proofs.Walk.{nowhere_from, from_nowhere, from_both, anywhere_both}
use Rattle.outline.specs.Outline.{size, price, IsRecord}
use Rattle.laws.proofs.Sums.{one_true, positive_some, anywhere_count, total_some}
use Rattle.range.specs.Prices.{of_price, NoDearer}
use Rattle.range.specs.Demands.{BadAt, byte_differs, low_above}
use Rattle.range.specs.Answer.{differs, bad_range}
use Rattle.range.proofs.Places.{before_price, at_price, past_price}

same_byte : (low high : List ℕ) (i : ℕ) → differs low high i ≡ false → of_price i ≡ false → get_or high i 0 ≡ get_or low i 0
same_byte low high i e f = sym (eqb-true _ _ (not-false _ (second_false (not (of_price i)) _ e (ap not f))))

-- no record is bad where the two differ in prices only, with none above
pub none_bad : (low high : List ℕ) → NoDearer low high → (r : ℕ) → IsRecord low r → bad_range low high r ≡ false
unfolding bad_range
none_bad low high d r is =
    ap₂ ◌||◌ (from_nowhere (differs low high) (16 * (r - 1)) 16 (λ i l u. each i (of_price i) refl))
    (le-ltb (price high r) (price low r) (d.no_above r is))
  where
    each : (i : ℕ) (b : Bool) → of_price i ≡ b → (not b && not (eqb (get_or low i 0) (get_or high i 0))) ≡ false
    each i true e = refl
    each i false e = ap not (eq-eqb _ _ (sym (d.others_same i e)))

module _ (low high : List ℕ) (as_many : size high ≡ size low) (low_whole : length low ≡ 16 * size low) (high_whole : length high ≡ 16 * size high) where
  -- and the converse
  pub none_dearer : ((r : ℕ) → 1 ≤ r → r ≤ size low → bad_range low high r ≡ false) → NoDearer low high
  unfolding bad_range
  none_dearer h = record {
    as_long = omega (arith, as_many, low_whole, high_whole);
    others_same = λ i e. same i e (ltb i (length low)) refl;
    no_above = λ r is. ltb-false _ _ (or_parts (anywhere (differs low high) (from (16 * (r - 1)) 16)) _ (h r is.low is.high)).1;
  }
    where
      at : (i : ℕ) → i < length low → differs low high i ≡ false
      at i l =
          let r = i / 16 + 1 in
          let none = or_parts (anywhere (differs low high) (from (16 * (i / 16 + 1 - 1)) 16)) _ (h r (omega arith) (omega (arith, low_whole))) in
          nowhere_from (differs low high) (16 * (i / 16 + 1 - 1)) 16 none.0 i (omega arith) (omega arith)

      same : (i : ℕ) → of_price i ≡ false → (b : Bool) → ltb i (length low) ≡ b → get_or high i 0 ≡ get_or low i 0
      same i e true f = same_byte low high i (at i (ltb-true i (length low) f)) e
      same i e false f =
          let past = ltb-false i (length low) f in
          get_or-eq_default high 0 (omega (arith, as_many, low_whole, high_whole)) ∙ sym (get_or-eq_default low 0 past)

-- ---- the two parts of a record
-- a test of each place at which bytes differ, by the bytes from a place on as one part
part_differs : (a b : List ℕ) (d : ℕ → Bool) (at n : ℕ) → at + n ≤ length a → at + n ≤ length b
    → ((i : ℕ) → at ≤ i → i < at + n → d i ≡ not (eqb (get_or a i 0) (get_or b i 0)))
    → anywhere d (from at n) ≡ not (bytes_eq (take n (drop at a)) (take n (drop at b)))
unfolding anywhere from
part_differs a b d at zero la lb h = refl
part_differs a b d at (suc n) la lb h =
    let next : suc at ≡ at + 1 = omega arith in
    rw (drop-cons a at 0 (omega arith), drop-cons b at 0 (omega arith), next, h at (omega arith) (omega arith))
    (go (eqb (get_or a at 0) (get_or b at 0)) (part_differs a b d (at + 1) n (omega arith) (omega arith) (λ i l u. h i (omega arith) (omega arith))))
  where
    go : (e : Bool) → anywhere d (from (at + 1) n) ≡ not (bytes_eq (take n (drop (at + 1) a)) (take n (drop (at + 1) b)))
        → (not e || anywhere d (from (at + 1) n)) ≡ not (e && bytes_eq (take n (drop (at + 1) a)) (take n (drop (at + 1) b)))
    go true ih = ih
    go false ih = refl

module _ (low high : List ℕ) (r : ℕ) (of_low : IsRecord low r) (of_high : IsRecord high r) where
  abbrev at : ℕ
  at = 16 * (r - 1)

  -- the n bytes from a place on, as one part, differ
  abbrev part_differs_at : ℕ → ℕ → Bool
  part_differs_at place n = not (bytes_eq (take n (drop place low)) (take n (drop place high)))

  outside : (place n : ℕ) → place + n ≤ at + 16 → ((i : ℕ) → place ≤ i → i < place + n → of_price i ≡ false)
      → anywhere (differs low high) (from place n) ≡ part_differs_at place n
  outside place n h out =
      part_differs low high (differs low high) place n (omega (arith, of_low.low, of_low.high)) (omega (arith, of_high.low, of_high.high))
      (λ i l u. ap (λ b. not b && not (eqb (get_or low i 0) (get_or high i 0))) (out i l u))

  own_price : anywhere (differs low high) (from (at + 8) 4) ≡ false
  own_price =
      from_nowhere (differs low high) (at + 8) 4
      (λ i l u. ap (λ b. not b && not (eqb (get_or low i 0) (get_or high i 0))) (at_price i (omega arith) (omega arith)))

  past_own_price : anywhere (differs low high) (from (at + 8) 8) ≡ part_differs_at (at + 12) 4
  past_own_price =
      let rest : at + 8 + 4 ≡ at + 12 = omega arith in
      ap (anywhere (differs low high)) (from_both (at + 8) 4 4)
      ∙ anywhere_both (differs low high) (from (at + 8) 4) (from (at + 8 + 4) 4)
      ∙ ap (λ b. b || anywhere (differs low high) (from (at + 8 + 4) 4)) own_price
      ∙ ap (λ k. anywhere (differs low high) (from k 4)) rest
      ∙ outside (at + 12) 4 (omega arith) (λ i l u. past_price i (omega arith))

  -- a record is bad if its bytes before its price differ, or those past it, or its low price is above its high
  bad_parts : ((part_differs_at at 8 || part_differs_at (at + 12) 4) || ltb (price high r) (price low r)) ≡ bad_range low high r
  unfolding bad_range
  bad_parts =
      sym (ap (λ b. b || ltb (price high r) (price low r))
      (ap (anywhere (differs low high)) (from_both at 8 8)
      ∙ anywhere_both (differs low high) (from at 8) (from (at + 8) 8)
      ∙ ap (λ b. b || anywhere (differs low high) (from (at + 8) 8)) (outside at 8 (omega arith) (λ i l u. before_price i (omega arith)))
      ∙ ap (λ b. part_differs_at at 8 || b) past_own_price))

  -- by what comparing the two parts and the two prices gives, where the parts are given by both their ends
  abbrev part : List ℕ → ℕ → ℕ → List ℕ
  part o begin end = take (end - begin) (drop begin o)

  pub bad_if : {before after : Bool} {cheap dear : ℕ} → before ≡ not (bytes_eq (part low at (at + 8)) (part high at (at + 8)))
      → after ≡ not (bytes_eq (part low (at + 12) (at + 16)) (part high (at + 12) (at + 16))) → dear ≡ price high r → cheap ≡ price low r
      → ((before || after) || ltb dear cheap) ≡ bad_range low high r
  bad_if b a d c =
      let eight : at + 8 - at ≡ 8 = omega arith in
      let four : at + 16 - (at + 12) ≡ 4 = omega arith in
      rw (b, a, d, c, eight, four) bad_parts

-- ---- in words
-- a record is bad exactly if the words say so
pub bad_exactly : (low high : List ℕ) (r : ℕ) → bad_range low high r ≡ true ↔ BadAt low high r
unfolding bad_range
bad_exactly low high r = (there (anywhere (differs low high) (from at 16)) refl, back)
  where
    at : ℕ
    at = 16 * (r - 1)

    apart : (i : ℕ) → at ≤ i → i < at + 16 → (b : Bool) → of_price i ≡ b → differs low high i ≡ true → BadAt low high r
    apart i l u true p e = absurd (false≢true (sym (ap (λ b. not b && not (eqb (get_or low i 0) (get_or high i 0))) p) ∙ e))
    apart i l u false p e =
        byte_differs i l u p
        (λ same.
        false≢true (sym (ap₂ (λ b d. not b && not d) p (eq-eqb (get_or low i 0) (get_or high i 0) same)) ∙ e))

    there : (a : Bool) → anywhere (differs low high) (from (16 * (r - 1)) 16) ≡ a → (a || ltb (price high r) (price low r)) ≡ true → BadAt low high r
    there true e h =
        let found = total_some (λ i. one (differs low high i)) at 16 (positive_some _ (sym (anywhere_count (differs low high) (from at 16)) ∙ e)) in
        apart found.0 found.1 found.2 (of_price found.0) refl (one_true _ found.3)
    there false e h = low_above (ltb-true _ _ h)

    back : BadAt low high r → (anywhere (differs low high) (from (16 * (r - 1)) 16) || ltb (price high r) (price low r)) ≡ true
    back (byte_differs i l u p n) = go (anywhere (differs low high) (from (16 * (r - 1)) 16)) refl
      where
        go : (a : Bool) → anywhere (differs low high) (from (16 * (r - 1)) 16) ≡ a → (a || ltb (price high r) (price low r)) ≡ true
        go true e = refl
        go false e = absurd (n (sym (same_byte low high i (nowhere_from (differs low high) (16 * (r - 1)) 16 e i l u) p)))
    back (low_above h) = rw (lt-ltb _ _ h) (or-true _)
