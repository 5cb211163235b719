-- `cells::candidate::Candidate::joined` meets its contract.
use Rattle.std.proofs.Common.{◌+◌, ◌<◌, ◌≤◌, ◌≢◌, arith}
use Rattle.laws.specs.Candidate.{none}
use Rattle.cells.specs.declared.candidate.Candidate.{Candidate}
use Rattle.cells.specs.Cells.{unit, word_limit, view, Joinable}
use Rattle.cells.proofs.Words.{seen_none, join_second_none, join_bounds, join_both}
use Rattle.cells.proofs.candidate.Candidate.joined.Goals as goal

-- the first is there
there : (c : Candidate) → view c ≢ none → c.score ≢ 0
unfolding view
there c n z = n (seen_none _ _ z)

-- the sums fit
fits : (c d : Candidate) → Joinable (view c) (view d) × (view c ≢ none) → d.score ≢ 0
    → (c.score + d.score < word_limit) × (unit ≤ c.score + d.score) × (c.set + d.set < word_limit)
unfolding view
fits c d j k = join_bounds _ _ _ _ (there c j.1) k j.0

pub returns-then-other-eq0 : goal.returns-then-other-eq0
unfolding view
returns-then-other-eq0 c = join_second_none _ _ _ _ (there _ c.requires.1) c.if-other-eq0.true

pub overflow_add-result : goal.overflow_add-result
overflow_add-result c = omega (arith, (fits _ _ c.requires c.if-other-eq0.false).0)

pub overflow_sub-result : goal.overflow_sub-result
overflow_sub-result c = (fits _ _ c.requires c.if-other-eq0.false).1

pub overflow_add-result-2 : goal.overflow_add-result-2
overflow_add-result-2 c = omega (arith, (fits _ _ c.requires c.if-other-eq0.false).2)

pub returns : goal.returns
unfolding view
returns c = join_both _ _ _ _ (there _ c.requires.1) c.if-other-eq0.false c.requires.0
