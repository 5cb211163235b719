-- `measures::marks::measure` meets its contract.
use Rattle.std.proofs.Common.{◌+◌, ap₂}
use Rattle.lists.proofs.Bools.{byte_one}
use Rattle.measures.proofs.Parts.{measured}
use Rattle.measures.proofs.marks.measure.Goals as goal

pub returns : goal.returns
returns c = measured c.requires (ap₂ (λ a b. a + b) c.marked.ensures.taxa_is (byte_one _)) c.measure_chain.ensures
