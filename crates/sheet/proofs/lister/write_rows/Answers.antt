use Rattle.std.proofs.Common.{arith, refl, rules}
use Rattle.outline.specs.Outline.{size}
use Rattle.text.proofs.Walks.{walking_starts, walking_fits, walking_goes, walking_ends}
use Rattle.text.proofs.Writing.{put_over}
use Rattle.sheet.specs.Inner.{row_in}
use Rattle.sheet.proofs.Listing.{rows_fit, rows_in}
use Rattle.sheet.proofs.lister.write_rows.Goals as goal

pub loop-r-init : goal.loop-r-init
loop-r-init c =
    let rows = row_in c.args.o.now c.args.set.now c.of-adds.result in
    walking_starts rows 1 (size c.args.o.now) _ (omega (arith, rows_fit _ _ c.of-adds.result c.requires))

pub put_row-requires : goal.put_row-requires
put_row-requires c =
    record {
      base = record { formed = c.requires.formed; marks_long = omega (arith, c.requires.is_set.whole) };
      is_record = record { low = c.loop-r.invariant.low; high = omega arith };
      room = walking_fits c.loop-r.invariant (omega arith);
    }

pub loop-r-preserved : goal.loop-r-preserved
loop-r-preserved c = walking_goes c.loop-r.invariant (omega arith) c.put_row.ensures

pub returns-2 : goal.returns-2
returns-2 c =
    let written = walking_ends (walking_goes c.loop-r.invariant (omega arith) c.put_row.ensures) (omega arith) in
    rw (← rows_in _ _ _ c.args.way c.of-adds.ensures) (put_over written refl (search rules))
