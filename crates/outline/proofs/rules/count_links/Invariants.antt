-- `outline::rules::count_links` meets its contract: the records passed are counted.
use Rattle.outline.specs.Outline.{size}
use Rattle.outline.proofs.Counting.{Tallying}
use Rattle.outline.proofs.rules.count_links.Given as goal

abbrev pub invariant-loop-r : goal.invariant-loop-r
invariant-loop-r l = Tallying l.o (size l.o) l.r l.counts
