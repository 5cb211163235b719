-- `newick::token::read_token`: a blank leaves the tokens as they are, and each way out tells of the first of them.
use Rattle.std.proofs.lemmas.Result.{MatchResult-weaker}
use Rattle.newick.proofs.Tokens.{skipping_goes, skipping_number, skipping_tokenless, skipping_meets, skipping_ends}
use Rattle.newick.proofs.token.read_token.Goals as goal

pub loop-i-preserved : goal.loop-i-preserved
loop-i-preserved c = skipping_goes c.loop-i.invariant c.loop-i-test.true c.in-Blank.ensures

pub returns-in-Digit : goal.returns-in-Digit
returns-in-Digit c =
    MatchResult-weaker c.first_number.result c.first_number.ensures
    (λ _. skipping_number c.loop-i.invariant c.loop-i-test.true) (skipping_tokenless c.loop-i.invariant c.loop-i-test.true)

pub returns-in_default : goal.returns-in_default
returns-in_default c =
    skipping_meets c.loop-i.invariant c.loop-i-test.true c.from-sign.ensures c.in_default.not-Blank c.in_default.not-Digit c.from.ensures

pub returns : goal.returns
returns c = skipping_ends c.loop-i.invariant c.loop-i-test.false
