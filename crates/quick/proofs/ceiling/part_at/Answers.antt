-- `quick::ceiling::part_at` meets its contract.
use Rattle.std.proofs.Common.{arith}
use Rattle.quick.proofs.Adding.{sums_pass, held_part, can_add, sums_add, known_before}
use Rattle.quick.proofs.ceiling.part_at.Goals as goal

pub returns-then-ways-r : goal.returns-then-ways-r
returns-then-ways-r c =
    let e = c.if-ways-r.true in
    record { part_is = held_part c.requires e _; sums_are = sums_pass c.requires e }

pub add_up-requires : goal.add_up-requires
add_up-requires c = can_add c.requires c.if-ways-r.false

pub returns-then-is_taxon-open : goal.returns-then-is_taxon-open
returns-then-is_taxon-open c =
    let u = sums_add c.requires c.if-ways-r.false c.add_up.ensures in
    let known = known_before u c.args.r c.requires.is_record.low (omega arith) in
    record { part_is = rw (known.0, ← c.is_taxon.ensures, ← c.is_chosen-open.ensures, ← c.price_of.ensures, c.if-is_taxon-open.true); sums_are = u }

pub returns-else-is_taxon-open : goal.returns-else-is_taxon-open
returns-else-is_taxon-open c = record {
  part_is = rw (← c.is_taxon.ensures, ← c.is_chosen-open.ensures, ← c.price_of.ensures, c.if-is_taxon-open.false);
  sums_are = sums_add c.requires c.if-ways-r.false c.add_up.ensures;
}
