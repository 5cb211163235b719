-- `quick::ceiling::ceiling_of` meets its contract.
use Rattle.std.proofs.Common.{◌*◌, ◌≤◌, arith}
use Rattle.outline.specs.Rules.{most_records, most_length}
use Rattle.quick.specs.Quick.{ceiling}
use Rattle.quick.proofs.Bounds.{diversity_bound, parts_most}
use Rattle.quick.proofs.ceiling.ceiling_of.Goals as goal

pub overflow_add-result : goal.overflow_add-result
overflow_add-result c =
    let o = c.args.o.now in
    let formed = c.requires.ready.base.formed in
    let most : c.parts_of.result ≤ most_records * (most_records * most_length) = rw c.parts_of.ensures (parts_most o formed _ _) in
    record { fits = omega (arith, c.requires.diversity_is, diversity_bound o formed c.args.marks.now, formed.size_most) }

pub returns : goal.returns
unfolding ceiling
returns c = rw (← c.requires.diversity_is, c.parts_of.ensures)
