-- `quick::picker::look_at` meets its contract.
use Rattle.std.proofs.Common.{arith}
use Rattle.quick.proofs.Adding.{sums_pass, held_kept, can_add, sums_add, sums_long, known_before}
use Rattle.quick.proofs.picker.look_at.Goals as goal

pub returns-then-ways-r : goal.returns-then-ways-r
returns-then-ways-r c =
    let e = c.if-ways-r.true in
    record { hand_is = held_kept c.requires.0 e _ _; sums_are = sums_pass c.requires.0 e }

pub add_up-requires : goal.add_up-requires
add_up-requires c = can_add c.requires.0 c.if-ways-r.false

pub in_hand-requires : goal.in_hand-requires
in_hand-requires c =
    let l = c.requires.0 in
    let u = sums_add l c.if-ways-r.false c.add_up.ensures in
    record {
      at = record {
        base = l.ready.base;
        is_record = l.is_record;
        lengths = sums_long u;
        known = known_before u _ l.is_record.low (omega arith);
      };
      hand_most = omega (arith, c.requires.1, l.is_record.high);
      hand_known = λ m. known_before u _ m (omega (arith, c.requires.1));
    }

pub returns : goal.returns
returns c = record { hand_is = c.in_hand.ensures; sums_are = sums_add c.requires.0 c.if-ways-r.false c.add_up.ensures }
