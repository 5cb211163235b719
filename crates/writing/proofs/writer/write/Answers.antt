-- `writing::writer::write` meets its contract: the rows in their order.
use Rattle.std.proofs.Common.{arith, inl, inr}
use Rattle.lists.proofs.Buffers.{bytes_small}
use Rattle.refusals.proofs.Refusals.{handed_on}
use Rattle.writing.specs.Answer.{call}
use Rattle.writing.proofs.Answers.{check_refused, formed_by, place_refused, bytes_few, room_refused, writable, all_written}
use Rattle.writing.proofs.writer.write.Goals as goal
use Rattle.writing.proofs.writer.write.Goals.{then-text-bytes-via-then-text-bytes, then-text-bytes-via-else-text-bytes+then-pairs-taxa}

pub returns-in_err-check : goal.returns-in_err-check
returns-in_err-check c = rw (handed_on _ c.from_residual.ensures.1) (check_refused _ (bytes_small c.type_inv.outline) _ c.in_err-check.ensures)

pub returns-in-Some : goal.returns-in-Some
returns-in-Some c = place_refused _ (bytes_small c.type_inv.outline) c.in_ok-check.ensures c.in-Some.ensures

pub bytes_of-bytes-requires : goal.bytes_of-bytes-requires
bytes_of-bytes-requires c =
    let lent = call c.args.outline.now c.args.text.now c.args.pairs.now in
    (formed_by lent (bytes_small c.type_inv.outline) c.in_ok-check.ensures).size_most

pub overflow_add-bytes : goal.overflow_add-bytes
overflow_add-bytes c =
    let lent = call c.args.outline.now c.args.text.now c.args.pairs.now in
    omega (
      arith,
      bytes_few lent (bytes_small c.type_inv.outline) c.in_ok-check.ensures c.in_default.ensures c.bytes_of-bytes.ensures,
    )

pub overflow_mul-taxa : goal.overflow_mul-taxa
overflow_mul-taxa c =
    let lent = call c.args.outline.now c.args.text.now c.args.pairs.now in
    omega (arith, (formed_by lent (bytes_small c.type_inv.outline) c.in_ok-check.ensures).taxa_most)

pub returns-then-text-bytes : goal.returns-then-text-bytes
returns-then-text-bytes c =
    room_refused _ (bytes_small c.type_inv.outline) c.in_ok-check.ensures c.in_default.ensures c.bytes_of-bytes.ensures c.taxa_of-taxa.ensures
    (elim c.then-text-bytes.branch [
      | then-text-bytes-via-then-text-bytes w ↦ inl w.if-text-bytes.true
      | then-text-bytes-via-else-text-bytes+then-pairs-taxa w ↦ inr w.if-pairs-taxa.true
    ])

pub write_all-requires : goal.write_all-requires
write_all-requires c =
    let lent = call c.args.outline.now c.args.text.now c.args.pairs.now in
    writable lent (bytes_small c.type_inv.outline) c.in_ok-check.ensures c.in_default.ensures c.bytes_of-bytes.ensures
    c.taxa_of-taxa.ensures c.if-text-bytes.false c.if-pairs-taxa.false

pub returns : goal.returns
returns c =
    all_written _ (bytes_small c.type_inv.outline) c.in_ok-check.ensures c.in_default.ensures c.bytes_of-bytes.ensures
    c.taxa_of-taxa.ensures c.if-text-bytes.false c.if-pairs-taxa.false c.write_all.ensures.text_after c.write_all.ensures.pairs_after
