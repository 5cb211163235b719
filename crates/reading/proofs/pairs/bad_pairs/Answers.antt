-- `reading::pairs::bad_pairs` meets its contract: the three parts of the row, one after the other.
use Rattle.std.proofs.Common.{sym, ◌∙◌}
use Rattle.reading.proofs.Pairing.{bad_odd, bad_unpaired, bad_unmatched}
use Rattle.reading.proofs.pairs.bad_pairs.Goals as goal

pub returns-then-pairs-ne0 : goal.returns-then-pairs-ne0
returns-then-pairs-ne0 c = bad_odd _ _ c.if-pairs-ne0.true

pub returns-then-any_unpaired : goal.returns-then-any_unpaired
returns-then-any_unpaired c = bad_unpaired _ _ c.if-pairs-ne0.false (sym c.any_unpaired.ensures ∙ c.if-any_unpaired.true)

pub returns : goal.returns
returns c =
    bad_unmatched _ _ c.if-pairs-ne0.false (sym c.any_unpaired.ensures ∙ c.if-any_unpaired.false) c.any_unmatched.ensures
