-- The decimal digits of a number: those of the library, by a tenth of the number, and how many at most. The library's own laws are of
-- numbers below 2^64; these are of every number, as the definition is.
use Prim.Native.Nat.{ℕ, zero, suc, ◌+◌, ◌*◌, ◌/◌, ◌%◌, ◌^◌, ◌≤◌, ◌<◌}
use mathlib.Core.Path.{◌≡◌, refl, sym, ap, subst, ◌∙◌}
use mathlib.Core.Bool.{Bool, true, false}
use mathlib.Core.List.{List, [], ◌∷◌, ◌++◌}
use native.Mathlib.Nat.{pow-succ'}
use native.Mathlib.Numerals.{add-one}
use native.Mathlib.Omega.{arith}
use lib.ListN.{length, get_or, length-append}
use lib.Dec.{ltb}
use borrow.Author.Tests.{lt-ltb, le-ltb, ltb-true, ltb-false}
use Rattle.std.specs.Fmt.{decimal as std_decimal}
use Rattle.std.proofs.lemmas.Fmt.{decimal_from_appends, length-decimal-le_succ}
use Rattle.std.proofs.lemmas.List.{get_or_append_left}
use Rattle.text.specs.Text.{digits_in, decimal}

one_digit : (depth n : ℕ) → n < 10 → digits_in (suc depth) n ≡ (48 + n) ∷ []
unfolding digits_in
one_digit depth n h = rw (lt-ltb n 10 h)

more_digits : (depth n : ℕ) → 10 ≤ n → digits_in (suc depth) n ≡ digits_in depth (n / 10) ++ ((48 + n % 10) ∷ [])
unfolding digits_in
more_digits depth n h = rw (le-ltb n 10 h)

-- the digits that the library writes
pub decimal_is : (n : ℕ) → n < 2 ^ 64 → decimal n ≡ std_decimal n
unfolding decimal
decimal_is n h =
    decimal_from_appends digits_in (record { one = one_digit; more = more_digits }) (n + 1) n h (length-decimal-le_succ n h)

-- enough depth is enough
enough : (d e n : ℕ) → n < d → n < e → digits_in d n ≡ digits_in e n
enough zero e n h k = absurd (omega arith)
enough (suc d) zero n h k = absurd (omega arith)
enough (suc d) (suc e) n h k = go (ltb n 10) refl (enough d e (n / 10))
  where
    go : (b : Bool) → ltb n 10 ≡ b → (n / 10 < d → n / 10 < e → digits_in d (n / 10) ≡ digits_in e (n / 10)) → digits_in (suc d) n ≡ digits_in (suc e) n
    go true t ih = one_digit d n (ltb-true n 10 t) ∙ sym (one_digit e n (ltb-true n 10 t))
    go false t ih =
        let many = ltb-false n 10 t in
        more_digits d n many ∙ rw (ih (omega arith) (omega arith)) (sym (more_digits e n many))

-- a digit alone, or the digits of a tenth and the last one
pub decimal_one : (n : ℕ) → n < 10 → decimal n ≡ (48 + n) ∷ []
unfolding decimal
decimal_one n h = ap (λ d. digits_in d n) (add-one n) ∙ one_digit n n h

pub decimal_more : (n : ℕ) → 10 ≤ n → decimal n ≡ decimal (n / 10) ++ ((48 + n % 10) ∷ [])
unfolding decimal
decimal_more n h =
    ap (λ d. digits_in d n) (add-one n) ∙ more_digits n n h
    ∙ ap (λ ds. ds ++ ((48 + n % 10) ∷ [])) (enough n (n / 10 + 1) (n / 10) (omega arith) (omega arith))

-- what holds of a digit alone, and of a tenth's digits and a last one, holds of every number's digits
pub decimal_ind : (P : ℕ → List ℕ → Type 0) → ((n : ℕ) → n < 10 → P n ((48 + n) ∷ []))
    → ((n : ℕ) → 10 ≤ n → P (n / 10) (decimal (n / 10)) → P n (decimal (n / 10) ++ ((48 + n % 10) ∷ []))) → (n : ℕ) → P n (decimal n)
decimal_ind P alone more n = go (n + 1) n (omega arith)
  where
    go : (depth n : ℕ) → n < depth → P n (decimal n)
    go zero n h = absurd (omega arith)
    go (suc depth) n h = by (ltb n 10) refl (go depth (n / 10))
      where
        by : (b : Bool) → ltb n 10 ≡ b → (n / 10 < depth → P (n / 10) (decimal (n / 10))) → P n (decimal n)
        by true t ih = let few = ltb-true n 10 t in subst (P n) (sym (decimal_one n few)) (alone n few)
        by false t ih =
            let many = ltb-false n 10 t in
            subst (P n) (sym (decimal_more n many)) (more n many (ih (omega arith)))

-- there is a digit
pub decimal_some : (n : ℕ) → 1 ≤ length (decimal n)
decimal_some = decimal_ind (λ n ds. 1 ≤ length ds) (λ n h. omega arith) (λ n h ih. rw length-append (omega arith))

-- and none in front of others is 0
pub decimal_leads : (n : ℕ) → 1 ≤ n → 49 ≤ get_or (decimal n) 0 0
decimal_leads =
    decimal_ind (λ n ds. 1 ≤ n → 49 ≤ get_or ds 0 0) (λ n h some. omega arith)
    (λ n h ih some.
    omega (arith, ih (omega arith), get_or_append_left (decimal (n / 10)) ((48 + n % 10) ∷ []) 0 0 (decimal_some (n / 10))))

-- a number below 10 to the power k has at most k digits
pub decimal_most : (k n : ℕ) → n < 10 ^ suc k → length (decimal n) ≤ suc k
decimal_most k n h = decimal_ind (λ n ds. (k : ℕ) → n < 10 ^ suc k → length ds ≤ suc k) (λ n few k h. omega arith) more n k h
  where
    more : (n : ℕ) → 10 ≤ n → ((k : ℕ) → n / 10 < 10 ^ suc k → length (decimal (n / 10)) ≤ suc k)
        → (k : ℕ) → n < 10 ^ suc k → length (decimal (n / 10) ++ ((48 + n % 10) ∷ [])) ≤ suc k
    more n many ih zero h = absurd (omega arith)
    more n many ih (suc k) h =
        let up : n < 10 * 10 ^ suc k = rw (pow-succ' 10 (suc k)) at h in
        rw length-append (omega (arith, ih k (omega arith)))
