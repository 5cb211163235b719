-- `newick::token::first_number` meets its contract: each turn reads one digit.
use Rattle.newick.proofs.Tokens.{Counting}
use Rattle.newick.proofs.token.first_number.Given as goal

abbrev pub invariant-loop-i : goal.invariant-loop-i
invariant-loop-i l = Counting l.text l.i l.value
