-- `reading::pairs::price_in` meets its contract: the first pair of the plate is looked for.
use Rattle.std.proofs.Common.{ap, rules, tests, ◌∙◌}
use Rattle.std.proofs.lemmas.Iterator.{YieldsList-from_slice}
use Rattle.std.proofs.lemmas.Iterator.Search.{find_from_yields_List}
use Rattle.reading.proofs.Pairing.{of_plate, price_of, told_price, found_price}
use Rattle.reading.proofs.pairs.price_in.Goals as goal

pub returns : goal.returns
returns c =
    let found = find_from_yields_List (of_plate c.args.plate) _ _ c.find.result c.find.ensures.ran (YieldsList-from_slice c.by_two.result.now cc) (λ x b q k. search (rules, tests)) in
    told_price _ c.find.result c.map_or.ensures (λ x s. search rules) ∙ ap price_of found ∙ rw c.by_two.ensures (found_price c.args.pairs.now c.args.plate)
