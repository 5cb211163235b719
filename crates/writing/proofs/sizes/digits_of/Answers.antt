-- `writing::sizes::digits_of` meets its contract: the logarithm tells how many digits there are.
use Rattle.std.proofs.Common.{ap, ◌+◌, ◌∙◌}
use Rattle.writing.proofs.OwnBytes.{digits_told}
use Rattle.writing.proofs.sizes.digits_of.Goals as goal

pub returns-clause-value : goal.returns-clause-value
returns-clause-value c =
    let log = c.checked_ilog10.ensures in
    ap (λ k. k + 1) c.unwrap_or.ensures ∙ digits_told c.args.n c.checked_ilog10.result c.ranges.n.fits log.none log.power_le log.next_power_gt
