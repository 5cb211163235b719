-- `outline::finder::find_record` meets its contract.
use Rattle.std.proofs.Common.{ap, sym, ◌∙◌}
use Rattle.std.specs.Prelude.{◌≡◌, false, true, eqb}
use Rattle.refusals.specs.Refusals.{Ruling}
use Rattle.refusals.proofs.Refusals.{zero_if_ok}
use Rattle.outline.specs.Outline.{records}
use Rattle.outline.specs.Answer.{checked, found_at}
use Rattle.outline.proofs.finder.find_record.Goals as goal

pub returns-in_err-ok : goal.returns-in_err-ok
unfolding found_at
returns-in_err-ok c =
    let refused : eqb (checked c.args.outline.now).number 0 ≡ false =
    ap (λ (t : Ruling). eqb t.number 0) (sym c.check.ensures) ∙ zero_if_ok c.check.result ∙ sym c.in_err-ok.ensures.variant in
    rw refused c.from_residual.ensures

pub returns : goal.returns
unfolding found_at records
returns c =
    let passes : eqb (checked c.args.outline.now).number 0 ≡ true =
    ap (λ (t : Ruling). eqb t.number 0) (sym c.check.ensures) ∙ zero_if_ok c.check.result ∙ sym c.in_ok-ok.ensures.variant in
    rw passes c.holder_of.ensures
