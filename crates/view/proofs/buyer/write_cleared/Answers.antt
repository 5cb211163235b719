use Rattle.std.proofs.Common.{refl, arith, rules}
use Rattle.outline.specs.Outline.{size, records}
use Rattle.text.proofs.Walks.{walking_starts, walking_fits, walking_goes, walking_ends}
use Rattle.text.proofs.Writing.{put_over}
use Rattle.view.specs.View.{buyer_record, buyer_view}
use Rattle.view.proofs.Cleared.{buyer_length}
use Rattle.view.proofs.buyer.write_cleared.Goals as goal

pub loop-r-init : goal.loop-r-init
unfolding buyer_view records
loop-r-init c = let o = c.args.o.now in walking_starts (buyer_record o) 1 (size o) _ (omega (arith, buyer_length o))

pub put_cleared-requires : goal.put_cleared-requires
put_cleared-requires c = record {
  is_record = record { low = c.loop-r.invariant.low; high = omega arith };
  room = walking_fits c.loop-r.invariant (omega arith);
}

pub loop-r-preserved : goal.loop-r-preserved
loop-r-preserved c = walking_goes c.loop-r.invariant (omega arith) c.put_cleared.ensures

pub returns : goal.returns
unfolding buyer_view records
returns c = let written = walking_ends c.loop-r.invariant (omega arith) in put_over written refl (search rules)

pub returns-2 : goal.returns-2
unfolding buyer_view records
returns-2 c =
    let written = walking_ends (walking_goes c.loop-r.invariant (omega arith) c.put_cleared.ensures) (omega arith) in
    put_over written refl (search rules)
