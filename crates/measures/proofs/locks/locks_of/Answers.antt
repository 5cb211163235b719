-- `measures::locks::locks_of` meets its contract.
use Rattle.std.proofs.Common.{ap, ◌∙◌}
use Rattle.diversity.specs.Diversity.{chosen_taxa}
use Rattle.measures.proofs.Locking.{blank_taxa}
use Rattle.measures.proofs.locks.locks_of.Goals as goal

pub returns : goal.returns
returns c =
    let o = c.args.o.now in
    c.marked.ensures.taxa_is ∙ ap (chosen_taxa o) c.lock_marks-marks.ensures ∙ blank_taxa o
