-- `writing::sizes::bytes_of`: each record adds its own bytes.
use Rattle.std.proofs.Common.{arith, rules, tests, ◌+◌, ◌∙◌}
use Rattle.std.proofs.lemmas.Iterator.{YieldsList-from_range, YieldsList-from_map}
use Rattle.std.proofs.lemmas.Iterator.Adapters.{fits_from_length, at_most_from_yields_List}
use Rattle.std.proofs.lemmas.Iterator.Consumers.{sum_by_from_yields_List}
use Rattle.std.proofs.lemmas.List.FromFn.{length-range_with_len}
use Rattle.writing.specs.Inner.{own_bytes}
use Rattle.outline.specs.Outline.{records, size}
use Rattle.writing.proofs.OwnBytes.{summed}
use Rattle.writing.proofs.sizes.bytes_of.Goals as goal

pub sum-requires-clause-fits : goal.sum-requires-clause-fits
sum-requires-clause-fits c =
    let n = size c.args.o.now in
    let all = YieldsList-from_range 1 (n + 1) n c.map.ensures.source (omega arith) in
    fits_from_length _ _ 127 _ (at_most_from_yields_List all (omega (arith, length-range_with_len 1 n, c.requires))) c.map.ensures.closure (omega arith)
    (λ x r q k. search (rules, tests))

pub returns : goal.returns
unfolding records
returns c =
    let n = size c.args.o.now in
    sum_by_from_yields_List (own_bytes c.args.o.now) _ c.map.result c.sum.result c.sum.ensures.ran
    (YieldsList-from_map _ (own_bytes c.args.o.now) (YieldsList-from_range 1 (n + 1) n c.map.ensures.source (omega arith)) c.map.ensures.closure (λ x r q k. search (rules, tests)))
    ∙ summed (own_bytes c.args.o.now) 1 n
