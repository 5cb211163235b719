-- `quick::ceiling::parts_of` meets its contract: a sum over the records.
use Rattle.std.proofs.Common.{◌*◌}
use Rattle.lists.proofs.Walk.{Summing}
use Rattle.outline.specs.Outline.{size}
use Rattle.outline.specs.Rules.{most_records, most_length}
use Rattle.quick.specs.Inner.{ceiling_part, SumsUpTo}
use Rattle.quick.proofs.ceiling.parts_of.Given as goal

abbrev pub invariant-loop-r : goal.invariant-loop-r
invariant-loop-r l =
    Summing (most_records * most_length) (ceiling_part l.o l.count l.marks) (size l.o) l.sum l.r
    × SumsUpTo l.o l.marks l.r (record { added = l.sums.added; costs = l.sums.costs })
