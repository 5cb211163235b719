-- `listing::main` is safe: what `list` answers counts bytes of the buffer.
use Rattle.std.proofs.Common.{sym, length-take-le}
use Rattle.text.proofs.Writing.{written_within}
use Rattle.listing.proofs.main.Goals as goal

pub slice_bounds-buffer-end : goal.slice_bounds-buffer-end
slice_bounds-buffer-end c = written_within c.list-size.ensures

pub slice_bounds-write_all-end : goal.slice_bounds-write_all-end
slice_bounds-write_all-end c = sym (length-take-le _ _ (written_within c.list-size.ensures))
