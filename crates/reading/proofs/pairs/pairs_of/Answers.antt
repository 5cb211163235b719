-- `reading::pairs::pairs_of` meets its contract: each pair of the plate counts one, and there are fewer than 2 ^ 64.
use Rattle.std.proofs.Common.{ℕ, List, cond, arith, rules, tests, ap, ◌∙◌}
use Rattle.std.specs.Prelude.{count_by}
use Rattle.std.proofs.lemmas.Iterator.{YieldsList-from_slice, YieldsList-from_map}
use Rattle.std.proofs.lemmas.Iterator.Consumers.{sum_by_from_yields_List, fits_by_from_yields_list}
use Rattle.std.proofs.lemmas.List.Sums.{count_by-le-length}
use Rattle.reading.proofs.Pairing.{of_plate, counted_pairs}
use Rattle.reading.proofs.pairs.pairs_of.Goals as goal

pub sum-requires-clause-fits : goal.sum-requires-clause-fits
sum-requires-clause-fits c =
    let hit : List ℕ → ℕ = λ p. cond (of_plate c.args.plate p) 1 0 in
    fits_by_from_yields_list hit c.by_two.result.now _ _
    (YieldsList-from_map _ hit (YieldsList-from_slice c.by_two.result.now cc) c.map.ensures.closure (λ x r q k. search (rules, tests)))
    (omega (arith, count_by-le-length (of_plate c.args.plate) c.by_two.result.now, c.iter.ensures.bound))

pub returns : goal.returns
returns c =
    let hit : List ℕ → ℕ = λ p. cond (of_plate c.args.plate p) 1 0 in
    let count = sum_by_from_yields_List hit c.by_two.result.now c.map.result c.sum.result c.sum.ensures.ran
    (YieldsList-from_map _ hit (YieldsList-from_slice c.by_two.result.now cc) c.map.ensures.closure (λ x r q k. search (rules, tests))) in
    count ∙ ap (count_by (of_plate c.args.plate)) c.by_two.ensures ∙ counted_pairs c.args.pairs.now c.args.plate
