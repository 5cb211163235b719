-- `table::taxa::weight_of` meets its contract: the taxa after the record are counted.
use Rattle.std.proofs.Common.{ℕ, rules, tests, arith, ◌≡◌, ◌+◌, ◌-◌, ◌^◌, ◌∙◌, cond}
use Rattle.std.specs.List.{range_with_len}
use Rattle.std.proofs.lemmas.Iterator.{YieldsList-from_range, YieldsList-from_map}
use Rattle.std.proofs.lemmas.Iterator.Consumers.{sum_by_from_yields_List, fits_by_from_yields_list}
use Rattle.std.proofs.lemmas.List.Sums.{count_by-le-length}
use Rattle.std.proofs.lemmas.List.FromFn.{length-range_with_len}
use Rattle.outline.specs.Outline.{size, is_taxon}
use Rattle.laws.specs.Numbers.{weight}
use Rattle.table.proofs.Weighing.{taxa_passed, pow_below}
use Rattle.table.proofs.taxa.weight_of.Goals as goal

pub sum-taxa-requires-clause-fits : goal.sum-taxa-requires-clause-fits
sum-taxa-requires-clause-fits c =
    let o = c.args.o.now in
    let r = c.args.r in
    let hit : ℕ → ℕ = λ q. cond (is_taxon o q) 1 0 in
    let after = range_with_len (r + 1) (size o - r) in
    fits_by_from_yields_list hit after _ _
    (YieldsList-from_map _ hit (YieldsList-from_range (r + 1) (size o + 1) (size o - r) (cc) (omega arith)) c.map.ensures.closure (λ x r q k. search (rules, tests)))
    (omega (arith, count_by-le-length (is_taxon o) after, length-range_with_len (r + 1) (size o - r)))

-- 2 to their number is the weight
weighed : (c : goal.After-sum-taxa) → 2 ^ c.sum-taxa.result ≡ weight c.args.o.now c.args.r
unfolding weight
weighed c =
    let o = c.args.o.now in
    let r = c.args.r in
    let hit : ℕ → ℕ = λ q. cond (is_taxon o q) 1 0 in
    let taxa = sum_by_from_yields_List hit (range_with_len (r + 1) (size o - r)) c.map.result c.sum-taxa.result c.sum-taxa.ensures.ran
    (YieldsList-from_map _ hit (YieldsList-from_range (r + 1) (size o + 1) (size o - r) (cc) (omega arith)) c.map.ensures.closure (λ x r q k. search (rules, tests)))
    ∙ taxa_passed o r in
    rw taxa

pub overflow_shl-result : goal.overflow_shl-result
overflow_shl-result c = pow_below _ 64 (omega (arith, weighed c, c.requires.weight_fits))

pub returns : goal.returns
returns c = omega (arith, weighed c, c.requires.weight_fits)
