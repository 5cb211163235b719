-- `reading::pairs::any_unmatched` meets its contract: a pair without a taxon is looked for.
use Rattle.std.proofs.Common.{not, get_or, rules, tests, ◌∙◌}
use Rattle.std.specs.Prelude.{is_some}
use Rattle.std.proofs.lemmas.Iterator.{YieldsList-from_slice}
use Rattle.std.proofs.lemmas.Iterator.Search.{any_from_yields_List}
use Rattle.lists.specs.Lists.{lowest, nonzero, from}
use Rattle.outline.specs.Outline.{size}
use Rattle.outline.specs.Rules.{has_plate}
use Rattle.reading.proofs.Pairing.{any_unmatched}
use Rattle.reading.proofs.pairs.any_unmatched.Goals as goal

pub returns : goal.returns
returns c =
    let o = c.args.o.now in
    let k = any_from_yields_List (λ p. not (is_some (nonzero (lowest (has_plate o (get_or p 0 0)) (from 1 (size o)))))) _ _ c.any.result c.any.ensures.ran (YieldsList-from_slice c.by_two.result.now cc) (λ x b q k. search (rules, tests)) in
    k ∙ rw c.by_two.ensures (any_unmatched o c.args.pairs.now)
