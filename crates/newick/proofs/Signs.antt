-- The class of a byte, by the tests that find it.
use Rattle.std.proofs.lemmas.Bool.{and_parts}
use Rattle.std.specs.Prelude.{if◌then◌else◌}
use Prim.Native.Nat.{ℕ, ◌≤◌}
use mathlib.Core.Path.{◌≡◌, refl, sym, ap, ◌∙◌}
use mathlib.Core.Bool.{Bool, true, false, ◌||◌, ◌&&◌, false≢true}
use native.Mathlib.Omega.{arith}
use lib.Dec.{eqb, leb}
use borrow.Author.Tests.{ne_eqb, le-leb, leb-true}
use Rattle.newick.specs.Grammar.{Digit, Blank, blank, tab, line_feed, carriage_return}
use Rattle.newick.specs.Parsing.{sign_of, digit_sign, is_digit}
use Rattle.newick.specs.declared.sign.Sign.{Sign}

pub sign_digit : {b : ℕ} → 48 ≤ b → b ≤ 57 → sign_of b ≡ Sign.Digit
unfolding sign_of
sign_digit {b} l u =
    rw (
      ne_eqb b 40 (λ e. omega arith),
      ne_eqb b 41 (λ e. omega arith),
      ne_eqb b 44 (λ e. omega arith),
      ne_eqb b 58 (λ e. omega arith),
      ne_eqb b 59 (λ e. omega arith),
      le-leb 48 b l,
      le-leb b 57 u,
    )

-- the four blanks
pub sign_blank : {b : ℕ} → Blank b → sign_of b ≡ Sign.Blank
unfolding sign_of
sign_blank blank = refl
sign_blank tab = refl
sign_blank line_feed = refl
sign_blank carriage_return = refl

-- a byte of the class of digits is a digit
no_digit_if : (t : Bool) (a b : Sign) → digit_sign a ≡ false → digit_sign b ≡ false → digit_sign (if t then a else b) ≡ false
no_digit_if true a b p q = p
no_digit_if false a b p q = q

no_digit_sign : (b : ℕ) → (leb 48 b && leb b 57) ≡ false → is_digit b ≡ false
unfolding sign_of
no_digit_sign b e =
    no_digit_if (eqb b 40) _ _ refl
    (no_digit_if (eqb b 41) _ _ refl
    (no_digit_if (eqb b 44) _ _ refl
    (no_digit_if (eqb b 58) _ _ refl
    (no_digit_if (eqb b 59) _ _ refl
    (rw e (no_digit_if (eqb b 32 || (eqb b 9 || (eqb b 10 || eqb b 13))) _ _ refl refl))))))

pub digit_test : (b : ℕ) → (leb 48 b && leb b 57) ≡ is_digit b
digit_test b = go (leb 48 b && leb b 57) refl
  where
    go : (t : Bool) → (leb 48 b && leb b 57) ≡ t → t ≡ is_digit b
    go true e =
        let both = and_parts (leb 48 b) (leb b 57) e in
        sym (ap digit_sign (sign_digit (leb-true 48 b both.0) (leb-true b 57 both.1)))
    go false e = sym (no_digit_sign b e)

pub digit_range : (b : ℕ) → is_digit b ≡ true → Digit b
digit_range b h = go (leb 48 b && leb b 57) refl
  where
    go : (t : Bool) → (leb 48 b && leb b 57) ≡ t → Digit b
    go true e = let both = and_parts (leb 48 b) (leb b 57) e in record { low = leb-true 48 b both.0; high = leb-true b 57 both.1 }
    go false e = absurd (false≢true (sym (no_digit_sign b e) ∙ h))
