-- `cells::candidate::Candidate::added` meets its contract.
use Rattle.std.proofs.Common.{◌≡◌, ap₂, arith}
use Rattle.laws.specs.Candidate.{nothing_worth, some}
use Rattle.cells.specs.declared.candidate.Candidate.{Candidate}
use Rattle.cells.specs.Cells.{unit, seen, view}
use Rattle.cells.proofs.Words.{nothing_words}
use Rattle.cells.proofs.candidate.Candidate.added.Goals as goal

-- the words of nothing chosen
words : (c : Candidate) → view c ≡ some nothing_worth → (c.score ≡ unit) × (c.set ≡ 0)
unfolding view
words c = nothing_words _ _

pub overflow_sub-result : goal.overflow_sub-result
overflow_sub-result c = omega (arith, (words _ c.requires).0)

pub overflow_add-result : goal.overflow_add-result
overflow_add-result c = omega (arith, (words _ c.requires).0)

pub overflow_add-result-2 : goal.overflow_add-result-2
overflow_add-result-2 c = omega (arith, (words _ c.requires).1)

pub returns : goal.returns
unfolding view
returns c =
    let w = words c.args.self c.requires in
    ap₂ seen (omega (arith, w.0)) (omega (arith, w.1))
