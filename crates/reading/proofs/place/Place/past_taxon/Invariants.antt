-- `reading::place::Place::past_taxon` meets its contract: each turn passes an opening bracket.
use Rattle.std.proofs.Common.{length}
use Rattle.reading.proofs.Scanning.{Descending}
use Rattle.reading.proofs.place.Place.past_taxon.Given as goal

abbrev pub invariant-loop-token : goal.invariant-loop-token
invariant-loop-token l = Descending l.fn.text l.fn.depth l.text l.depth

abbrev pub decreases-loop-token : goal.decreases-loop-token
decreases-loop-token l = length l.text
