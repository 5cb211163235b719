-- `reading::reader::read_short` meets its contract: no tree, too many records, or a tree that is drafted and placed.
use Rattle.std.proofs.Common.{refl}
use Rattle.reading.proofs.Answers.{bad_answered, many_answered, none_answered, placed_answered}
use Rattle.reading.proofs.reader.read_short.Goals as goal

pub draft_tree-requires : goal.draft_tree-requires
draft_tree-requires c = record { left_is = refl; pairs_are = refl; none = c.new-draft.ensures.none }

pub returns-in-Err-TooMany : goal.returns-in-Err-TooMany
returns-in-Err-TooMany c =
    many_answered _ _ _ c.requires (rw (c.in-Err-TooMany.field-0-is, c.new-draft.ensures.left_is) at c.in-Err-TooMany.ensures) c.if-is_tree.ensures

pub returns-in-Err-Malformed : goal.returns-in-Err-Malformed
returns-in-Err-Malformed c = bad_answered _ _ _ c.requires (rw (c.in-Err-Malformed.field-0-is, c.new-draft.ensures.left_is) at c.in-Err-Malformed.ensures)

pub returns-in-Err-TooMany-2 : goal.returns-in-Err-TooMany-2
returns-in-Err-TooMany-2 c = none_answered _ _ _ c.requires c.if-is_tree.ensures

pub returns-in-Ok : goal.returns-in-Ok
returns-in-Ok c =
    let f = c.new-draft.ensures in
    placed_answered _ _ _ c.requires (rw (f.left_is, f.pairs_are) at c.in-Ok.ensures) c.place.ensures
