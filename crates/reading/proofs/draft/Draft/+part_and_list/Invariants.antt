-- `reading::part::read_part` and `reading::part::read_list` meet their contracts: each way out is a law of proofs/Parts. The bytes
-- left fall: a list is read after its opening bracket or its comma, and a part at the place where its list begins, so that the
-- measure is twice the bytes left, and one more for a list.
use Rattle.std.proofs.Common.{◌+◌, ◌*◌, length}
use Rattle.reading.specs.Inner.{left_of}
use Rattle.reading.proofs.draft.Draft.+part_and_list.Given as goal

abbrev pub decreases-read_part : goal.decreases-read_part
decreases-read_part l = 2 * length (left_of l.self.now.cursor)

abbrev pub decreases-read_list : goal.decreases-read_list
decreases-read_list l = 2 * length (left_of l.self.now.cursor) + 1
