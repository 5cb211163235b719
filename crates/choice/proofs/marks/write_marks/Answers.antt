use Rattle.std.proofs.Common.{sym, ◌∙◌}
use Rattle.choice.proofs.Digits.{reading_starts, reading_taxon, reading_group}
use Rattle.choice.proofs.marks.write_marks.Goals as goal
use Rattle.choice.proofs.marks.write_marks.Goals.{then-is_taxon, else-is_taxon}

pub loop-r-init : goal.loop-r-init
loop-r-init c = reading_starts _ _ _ c.requires

pub loop-r-preserved : goal.loop-r-preserved
loop-r-preserved c =
    let h = c.loop-r.invariant in
    let l = c.loop-r-test.true in
    elim c.if-is_taxon.branch [
      | then-is_taxon w ↦ rw (w.marks-is, w.left-is) (reading_taxon _ _ h l (sym c.is_taxon.ensures ∙ w.if-is_taxon.true))
      | else-is_taxon w ↦ rw (w.marks-is, w.left-is) (reading_group _ _ h l (sym c.is_taxon.ensures ∙ w.if-is_taxon.false))
    ]
