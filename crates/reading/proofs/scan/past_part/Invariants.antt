-- `reading::scan::past_part` meets its contract: each turn takes a part, until no list is open.
use Rattle.std.proofs.Common.{length}
use Rattle.newick.specs.Parsing.{grown}
use Rattle.reading.specs.Scan.{Taken}
use Rattle.reading.proofs.scan.past_part.Given as goal

abbrev pub invariant-loop-place : goal.invariant-loop-place
invariant-loop-place l = Taken (grown l.text) l.place.token l.place.rest.now l.place.depth

abbrev pub decreases-loop-place : goal.decreases-loop-place
decreases-loop-place l = length l.place.rest.now
