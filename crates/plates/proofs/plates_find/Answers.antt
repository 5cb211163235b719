-- `plates::plates_find` meets its contract.
use Rattle.std.proofs.Common.{arith, ap, ◌∙◌, ◌≡◌}
use Rattle.std.specs.Prelude.{unwrap_or}
use Rattle.lists.proofs.Walk.{nonzero_value}
use Rattle.outline.specs.Answer.{found_at}
use Rattle.outline.proofs.Found.{found_at_most}
use Rattle.plates.proofs.plates_find.Goals as goal

-- a record's number fits 32 bits
pub overflow_cast-result : goal.overflow_cast-result
overflow_cast-result c =
    let found : c.unwrap_or.result ≡ found_at c.args.outline.now c.args.plate =
    c.unwrap_or.ensures ∙ ap (λ v. unwrap_or v 0) c.find_record.ensures ∙ nonzero_value _ in
    record { fits = omega (arith, found, found_at_most c.args.outline.now c.args.plate) }
