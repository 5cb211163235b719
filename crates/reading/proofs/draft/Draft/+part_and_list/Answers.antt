use Rattle.std.proofs.Common.{refl, rules}
use Rattle.refusals.proofs.Refusals.{handed_on}
use Rattle.reading.proofs.Parts.{part_stops, part_nowhere, part_fails, head_taxon, head_group, group_unread}
use Rattle.reading.proofs.Parts.{part_unfinished, part_finished, own_room, list_unread, list_fails, list_ends, list_goes}
use Rattle.reading.proofs.draft.Draft.+part_and_list.Goals as goal
use Rattle.reading.proofs.draft.Draft.+part_and_list.Goals.{read_part-in-Number, read_part-in-Open+in_ok-read_list-in-Open}

-- ---- a part
pub read_part-returns-in_err-before : goal.read_part-returns-in_err-before
read_part-returns-in_err-before t c = rw (handed_on _ c.from_residual.ensures.1) (part_stops _ c.in_err-before.ensures)

pub read_part-returns-in_err-token : goal.read_part-returns-in_err-token
read_part-returns-in_err-token t c =
    rw (handed_on _ c.from_residual-in_err-token.ensures.1) (part_nowhere c.in_ok-before.ensures c.in_err-token.ensures)

pub read_part-returns-in_err-read_list-in-Open : goal.read_part-returns-in_err-read_list-in-Open
read_part-returns-in_err-read_list-in-Open t c =
    rw (handed_on _ c.from_residual-in_err-read_list-in-Open.ensures.1) (group_unread c.in_ok-before.ensures c.in_ok-token.ensures c.in-Open.is c.in_err-read_list-in-Open.ensures)

pub read_part-returns-in_default : goal.read_part-returns-in_default
read_part-returns-in_default t c =
    part_fails c.in_ok-before.ensures c.in_ok-token.ensures c.in_default.not-Open c.in_default.not-Number

pub read_part-returns-in_err-length : goal.read_part-returns-in_err-length
read_part-returns-in_err-length t c =
    rw (handed_on _ c.from_residual-in_err-length.ensures.1)
    (elim c.match-token.branch [
      | read_part-in-Number w ↦
          part_unfinished (head_taxon c.args.self.now c.in_ok-before.ensures c.in_ok-token.ensures _ w.in-Number.is)
          (rw w.self-is at c.in_err-length.ensures)
      | read_part-in-Open+in_ok-read_list-in-Open w ↦
          part_unfinished
          (head_group c.args.self.now c.in_ok-before.ensures c.in_ok-token.ensures w.in-Open.is w.in_ok-read_list-in-Open.ensures)
          (rw w.self-is at c.in_err-length.ensures)
    ])

pub read_part-returns : goal.read_part-returns
read_part-returns t c =
    elim c.match-token.branch [
      | read_part-in-Number w ↦
          rw (w.self-is, w.first-is)
          (part_finished (head_taxon _ c.in_ok-before.ensures c.in_ok-token.ensures _ w.in-Number.is)
          (rw w.self-is at c.in_ok-length.ensures))
      | read_part-in-Open+in_ok-read_list-in-Open w ↦
          rw (w.self-is, w.first-is)
          (part_finished
          (head_group _ c.in_ok-before.ensures c.in_ok-token.ensures w.in-Open.is w.in_ok-read_list-in-Open.ensures)
          (rw w.self-is at c.in_ok-length.ensures))
    ]

-- ---- a list
pub read_list-returns-in_err-part : goal.read_list-returns-in_err-part
read_list-returns-in_err-part t c = rw (handed_on _ c.from_residual.ensures.1) (list_unread c.in_err-part.ensures)

pub read_list-draft_record-requires : goal.read_list-draft_record-requires
read_list-draft_record-requires t c = own_room c.in_ok-part.ensures

pub read_list-draft_record-requires-in-Close : goal.read_list-draft_record-requires-in-Close
read_list-draft_record-requires-in-Close t c = own_room c.in_ok-part.ensures

pub read_list-returns-in-Comma : goal.read_list-returns-in-Comma
read_list-returns-in-Comma t c =
    list_goes c.in_ok-part.ensures (search rules) c.draft_record.ensures c.in-Comma.is refl _ _ c.read_list.ensures

pub read_list-returns-in-Close : goal.read_list-returns-in-Close
read_list-returns-in-Close t c =
    list_ends c.in_ok-part.ensures (search rules) c.draft_record-in-Close.ensures c.in-Close.is refl

pub read_list-returns-in_default : goal.read_list-returns-in_default
read_list-returns-in_default t c =
    list_fails c.in_ok-part.ensures c.in_default.not-Comma c.in_default.not-Close
