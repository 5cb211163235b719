-- `reading::cursor::Cursor::next_token` meets its contract: without a token the place is stuck.
use Rattle.std.proofs.Common.{rules, sym, ◌∙◌}
use Rattle.refusals.proofs.Refusals.{handed_on}
use Rattle.reading.proofs.Lengths.{stuck_next}
use Rattle.reading.proofs.cursor.Cursor.next_token.Goals as goal

pub returns-in_err-token : goal.returns-in_err-token
returns-in_err-token c =
    rw (handed_on _ c.from_residual.ensures.1)
    record {
      is = search rules;
      stuck =
          rw c.left.ensures at
          (stuck_next _ c.read_token.result c.read_token.ensures (sym c.in_err-token.ensures.ok_part ∙ c.ok.ensures.value));
    }
