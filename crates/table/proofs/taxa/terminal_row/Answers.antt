-- `table::taxa::terminal_row` meets its contract: nothing chosen up to the price, and then the taxon.
use Rattle.std.proofs.Common.{ap₂, ◌∙◌, arith}
use Rattle.laws.specs.Candidate.{some}
use Rattle.table.specs.Table.{taxon_worth}
use Rattle.table.proofs.Terminal.{terminal_filled, terminal_dear}
use Rattle.table.proofs.taxa.terminal_row.Goals as goal

pub returns-then-price-width : goal.returns-then-price-width
returns-then-price-width c =
    terminal_filled _ _ (rw c.price_of-price.ensures at c.min.ensures) (c.read-nothing.ensures ∙ c.requires.nothing) c.fill_row.ensures
    (c.taxon_of-taxon.ensures
    ∙ ap₂ (λ d p. some (taxon_worth c.args.o.now c.args.r d p)) c.branch_of.ensures c.price_of-price.ensures)
    (rw c.price_of-price.ensures at c.fill_row-then-price-width.ensures)
    (omega arith)

pub returns-else-price-width : goal.returns-else-price-width
returns-else-price-width c =
    terminal_dear _ _ (rw c.price_of-price.ensures at c.min.ensures) (c.read-nothing.ensures ∙ c.requires.nothing) c.fill_row.ensures
    (omega arith)
