-- `newick::token::read_token` meets its contract: each turn passes a blank.
use Rattle.newick.proofs.Tokens.{Skipping}
use Rattle.newick.proofs.token.read_token.Given as goal

abbrev pub invariant-loop-i : goal.invariant-loop-i
invariant-loop-i l = Skipping l.text l.i
