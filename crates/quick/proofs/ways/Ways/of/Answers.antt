use Rattle.std.proofs.Common.{arith, sym, ◌∙◌}
use Rattle.outline.specs.Outline.{IsRecord}
use Rattle.quick.proofs.Holding.{rising, gathering_starts, gathering_passes, gathering_holds, gathering_ends}
use Rattle.quick.proofs.ways.Ways.of.Goals as goal
use Rattle.quick.proofs.ways.Ways.of.Goals.{then-is_chosen, else-is_chosen}

pub loop-r-init : goal.loop-r-init
loop-r-init c = (gathering_starts (omega (arith, c.requires.formed.size_most)), c.parents_of.ensures)

pub hold-requires : goal.hold-requires
hold-requires c =
    let (h, ps) = c.loop-r.invariant in
    let formed = c.requires.formed in
    let i : IsRecord c.args.o.now c.loop-r.r = record { low = h.low; high = c.loop-r-test.true } in
    rising formed.linked ps i formed h.held_are

pub loop-r-preserved : goal.loop-r-preserved
loop-r-preserved c =
    let (h, ps) = c.loop-r.invariant in
    let linked = c.requires.formed.linked in
    elim c.if-is_chosen.branch [
      | then-is_chosen w ↦
          rw w.ways-is (
            gathering_holds linked ps _ h c.loop-r-test.true (sym c.is_chosen.ensures ∙ w.if-is_chosen.true) w.hold.ensures,
            rw w.hold.ensures.parents_kept ps,
          )
      | else-is_chosen w ↦ rw w.ways-is (gathering_passes _ h (sym c.is_chosen.ensures ∙ w.if-is_chosen.false), ps)
    ]

-- after the last record
pub returns-after-is_chosen : goal.returns-after-is_chosen
returns-after-is_chosen c =
    let (h, ps) = c.loop-r.invariant in
    let linked = c.requires.formed.linked in
    elim c.if-is_chosen.branch [
      | then-is_chosen w ↦
          let last = gathering_holds linked ps _ h c.loop-r-test.true (sym c.is_chosen.ensures ∙ w.if-is_chosen.true) w.hold.ensures in
          rw w.ways-is
          (record {
            base = c.requires;
            parents_are = rw w.hold.ensures.parents_kept ps;
            held_are = gathering_ends last (omega (arith, c.requires.is_set.whole));
          })
      | else-is_chosen w ↦
          let last = gathering_passes _ h (sym c.is_chosen.ensures ∙ w.if-is_chosen.false) in
          rw w.ways-is
          (record { base = c.requires; parents_are = ps; held_are = gathering_ends last (omega (arith, c.requires.is_set.whole)) })
    ]
