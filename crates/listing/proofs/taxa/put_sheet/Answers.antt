-- `listing::taxa::put_sheet` meets its contract: the set is listed, and the lines come from its sheet.
use Rattle.std.proofs.Common.{◌≡◌, ℕ, List, [], ◌∷◌, ◌++◌, replicate, arith, subst}
use Rattle.refusals.specs.Reply.{Reply}
use Rattle.sheet.specs.declared.answer.Figures.{Figures}
use Rattle.sheet.specs.Answer.{Call, call, Answered, judged, marked_set}
use Rattle.text.specs.Text.{labelled}
use Rattle.text.specs.Written.{LongEnough}
use Rattle.text.specs.declared.Pen.{Pen}
use Rattle.text.proofs.Writing.{Left, left_starts, left_fits, left_goes}
use Rattle.listing.specs.FromBuffers.{taxa_text}
use Rattle.listing.specs.Printed.{total_word, sheet_text}
use Rattle.listing.proofs.Answers.{sheet_lines, rows_inside, not_refused}
use Rattle.listing.proofs.taxa.put_sheet.Goals as goal

-- the lines are yet to be put
begun : (c : Call) {r : Reply Figures} {lent : List ℕ} (pen : Pen ℕ) → Answered c r lent → (judged c).number ≡ 0
    → LongEnough (sheet_text c.outline c.way (marked_set c)) pen
    → Left (sheet_text c.outline c.way (marked_set c)) pen
    (taxa_text lent r.figures.rows ++ labelled total_word (r.figures.quarters ∷ r.figures.diversity ∷ [])) pen
begun c pen x passes h =
    let whole = sheet_text c.outline c.way (marked_set c) in
    subst (λ t. Left whole pen t pen) (sheet_lines c x passes) (left_starts h)

-- the call of `sheet`, which is lent 192 numbers
abbrev called : List ℕ → ℕ → List ℕ → Call
called o way marks = call o way marks (replicate 192 0)

-- what a choice marked is not refused
pub unwrap-sums-requires : goal.unwrap-sums-requires
unwrap-sums-requires c = not_refused (called c.args.o.now c.args.way c.args.marks.now) c.sheet.result c.sheet.ensures c.requires.listed

pub put_taxa-requires : goal.put_taxa-requires
put_taxa-requires c =
    let a = c.args in
    let sheet = called a.o.now a.way a.marks.now in
    let told = rw c.unwrap-sums.ensures at c.sheet.ensures in (
      omega (arith, rows_inside sheet told c.requires.listed, c.sheet.auto.sheet),
      left_fits (taxa_text c.sheet.new.sheet c.unwrap-sums.result.rows) _
          (begun sheet a.pen.now told c.requires.listed c.requires.long_enough),
    )

pub put_labelled-requires : goal.put_labelled-requires
put_labelled-requires c =
    let a = c.args in
    let told = rw c.unwrap-sums.ensures at c.sheet.ensures in
    let start = begun (called a.o.now a.way a.marks.now) a.pen.now told c.requires.listed c.requires.long_enough in
    (left_goes (taxa_text c.sheet.new.sheet c.unwrap-sums.result.rows) _ start c.put_taxa.ensures).fits

pub returns : goal.returns
returns c =
    let a = c.args in
    let told = rw c.unwrap-sums.ensures at c.sheet.ensures in
    let start = begun (called a.o.now a.way a.marks.now) a.pen.now told c.requires.listed c.requires.long_enough in
    (left_goes (taxa_text c.sheet.new.sheet c.unwrap-sums.result.rows) _ start c.put_taxa.ensures).completes c.put_labelled.ensures
