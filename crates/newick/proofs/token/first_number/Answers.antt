-- `newick::token::first_number`: the number is small enough to go on, and each way out meets the token that it answers.
use Rattle.std.proofs.Common.{arith, sym}
use Rattle.newick.proofs.Tokens.{counting_goes, counting_ends, counting_fails, counting_last, small_value}
use Rattle.newick.proofs.token.first_number.Goals as goal

pub returns-then-not-is_ascii_digit : goal.returns-then-not-is_ascii_digit
returns-then-not-is_ascii_digit c =
    counting_ends c.loop-i.invariant c.loop-i-test.true c.requires (sym c.if-not-is_ascii_digit.ensures.value)

pub returns-then-i-eq-MOST_DIGITS : goal.returns-then-i-eq-MOST_DIGITS
returns-then-i-eq-MOST_DIGITS c =
    counting_fails c.loop-i.invariant c.loop-i-test.true (sym c.if-not-is_ascii_digit.ensures.value) c.if-i-eq-MOST_DIGITS.true

pub overflow_mul-value : goal.overflow_mul-value
overflow_mul-value c = omega (arith, small_value _ _ (omega arith) c.loop-i.invariant.small)

pub overflow_add-value : goal.overflow_add-value
overflow_add-value c =
    omega (arith, small_value _ _ (omega arith) c.loop-i.invariant.small, c.if-not-is_ascii_digit.ensures.bound)

pub loop-i-preserved : goal.loop-i-preserved
loop-i-preserved c =
    counting_goes c.loop-i.invariant c.loop-i-test.true (sym c.if-not-is_ascii_digit.ensures.value) (omega arith)

pub returns : goal.returns
returns c = counting_last c.loop-i.invariant c.loop-i-test.false c.requires.inside
