-- `view::house::write_whole` meets its contract: the bytes passed stand.
use Rattle.lists.proofs.Buffers.{Rising}
use Rattle.view.proofs.house.write_whole.Given as goal

abbrev pub invariant-loop-i : goal.invariant-loop-i
invariant-loop-i l = Rising l.o l.initial.byte-items l.byte-items l.i
