-- `outline::checker::check_records` meets its contract: the rows that passed leave the answer to the next one.
use Rattle.std.proofs.Common.{arith, rules, lt-ltb, le-ltb}
use Rattle.refusals.proofs.Refusals.{row_at_found, row_at_passed}
use Rattle.outline.specs.Answer.{record_rows}
use Rattle.outline.specs.Rules.{most_taxa, bad_field, bad_link, is_duplicate}
use Rattle.outline.proofs.checker.check_records.Goals as goal

pub returns-in-Some : goal.returns-in-Some
unfolding record_rows
returns-in-Some c = simp (row_at_found 5 _ _ c.in-Some.is (c.lowest.ensures (bad_field c.args.outline.now) (λ r l u b p. search rules)))

pub returns-in-Some-lowest : goal.returns-in-Some-lowest
unfolding record_rows
returns-in-Some-lowest c =
    simp (
      row_at_passed 5 _ _ c.in_default.is (c.lowest.ensures (bad_field c.args.outline.now) (λ r l u b p. search rules)),
      row_at_found 6 _ _ c.in-Some-lowest.is (c.lowest-2.ensures (bad_link c.args.outline.now) (λ r l u b p. search rules)),
    )

pub returns-then-taxa_of-gt-MOST_TAXA : goal.returns-then-taxa_of-gt-MOST_TAXA
unfolding record_rows
returns-then-taxa_of-gt-MOST_TAXA c =
    simp (
      row_at_passed 5 _ _ c.in_default.is (c.lowest.ensures (bad_field c.args.outline.now) (λ r l u b p. search rules)),
      row_at_passed 6 _ _ c.in_default-lowest.is (c.lowest-2.ensures (bad_link c.args.outline.now) (λ r l u b p. search rules)),
      ← c.taxa_of.ensures,
      lt-ltb most_taxa c.taxa_of.result (omega (arith, c.if-taxa_of-gt-MOST_TAXA.true)),
    )

pub returns-in-Some-lowest-2 : goal.returns-in-Some-lowest-2
unfolding record_rows
returns-in-Some-lowest-2 c =
    simp (
      row_at_passed 5 _ _ c.in_default.is (c.lowest.ensures (bad_field c.args.outline.now) (λ r l u b p. search rules)),
      row_at_passed 6 _ _ c.in_default-lowest.is (c.lowest-2.ensures (bad_link c.args.outline.now) (λ r l u b p. search rules)),
      ← c.taxa_of.ensures,
      le-ltb most_taxa c.taxa_of.result (omega (arith, c.if-taxa_of-gt-MOST_TAXA.false)),
      row_at_found 8 _ _ c.in-Some-lowest-2.is (c.lowest-3.ensures (is_duplicate c.args.outline.now) (λ r l u b p. search rules)),
    )

pub returns : goal.returns
unfolding record_rows
returns c =
    simp (
      row_at_passed 5 _ _ c.in_default.is (c.lowest.ensures (bad_field c.args.outline.now) (λ r l u b p. search rules)),
      row_at_passed 6 _ _ c.in_default-lowest.is (c.lowest-2.ensures (bad_link c.args.outline.now) (λ r l u b p. search rules)),
      ← c.taxa_of.ensures,
      le-ltb most_taxa c.taxa_of.result (omega (arith, c.if-taxa_of-gt-MOST_TAXA.false)),
      row_at_passed 8 _ _ c.in_default-lowest-2.is (c.lowest-3.ensures (is_duplicate c.args.outline.now) (λ r l u b p. search rules)),
    )
