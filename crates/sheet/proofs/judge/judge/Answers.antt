-- `sheet::judge::judge` meets its contract: the rows that passed leave the answer to the next one.
use Rattle.std.proofs.Common.{◌≡◌, ◌≤◌, None, false, ltb, length, arith, sym, ◌∙◌, refl, lt-ltb, le-ltb}
use Rattle.lists.specs.Lists.{lowest, nonzero}
use Rattle.refusals.specs.Refusals.{Ruling, passed, ◌▸◌, row, row_at}
use Rattle.refusals.proofs.Refusals.{refusal_not_zero, handed_on, row_at_found, row_at_passed}
use Rattle.outline.specs.Outline.{size, records}
use Rattle.outline.specs.Answer.{checked}
use Rattle.outline.proofs.WellFormed.{accepted_formed}
use Rattle.laws.proofs.Prefixes.{taxa_whole}
use Rattle.choice.specs.Answer.{unknown}
use Rattle.sheet.specs.Answer.{Call, call, bad_mark, sheet_taken, judged}
use Rattle.sheet.proofs.judge.judge.Goals as goal

pub returns-then-is_unknown : goal.returns-then-is_unknown
unfolding judged
returns-then-is_unknown c = simp (← c.is_unknown.ensures, c.if-is_unknown.true)

pub returns-in_err-check : goal.returns-in_err-check
unfolding judged
returns-in_err-check c =
    rw (handed_on _ c.from_residual.ensures.1) (simp (← c.is_unknown.ensures, c.if-is_unknown.false, ← c.in_err-check.ensures, refusal_not_zero))

-- the rows that are left where row 1 and the check's passed, and then those of row 14
module _ (c : Call) where
  abbrev after14 : Ruling
  after14 = row 9 (ltb (length c.sheet) (sheet_taken c))

  abbrev afterMarks : Ruling
  afterMarks = row_at 14 (bad_mark c.outline c.marks) (size c.outline) ▸ after14

  module _ (way : unknown c.way ≡ false) (accepted : passed ≡ checked c.outline) where
    passed8 : row 14 (ltb (length c.marks) (size c.outline)) ▸ afterMarks ≡ judged c
    unfolding judged
    passed8 = simp (way, ← accepted)

    module _ (long : size c.outline ≤ length c.marks) where
      passedMarks : afterMarks ≡ judged c
      passedMarks = simp (le-ltb (length c.marks) (size c.outline) long) at passed8

      passed14 : None ≡ nonzero (lowest (bad_mark c.outline c.marks) (records c.outline)) → after14 ≡ judged c
      unfolding records
      passed14 none = simp (row_at_passed 14 (bad_mark c.outline c.marks) (size c.outline) refl none) at passedMarks

pub returns-then-marks-outline : goal.returns-then-marks-outline
returns-then-marks-outline c =
    let a = call c.args.outline.now c.args.way c.args.marks.now c.args.sheet.now in
    simp (lt-ltb (length a.marks) (size a.outline) c.if-marks-outline.true) at (passed8 a (sym c.is_unknown.ensures ∙ c.if-is_unknown.false) c.in_ok-check.ensures)

pub returns-in-Some : goal.returns-in-Some
unfolding records
returns-in-Some c =
    let a = call c.args.outline.now c.args.way c.args.marks.now c.args.sheet.now in
    simp (row_at_found 14 (bad_mark a.outline a.marks) (size a.outline) refl c.in-Some.ensures)
    at (passedMarks a (sym c.is_unknown.ensures ∙ c.if-is_unknown.false) c.in_ok-check.ensures c.if-marks-outline.false)

pub marked-requires : goal.marked-requires
marked-requires c = record { formed = accepted_formed _ (rw (← c.in_ok-check.ensures)); marks_long = c.if-marks-outline.false }

pub returns-then-sheet-marked : goal.returns-then-sheet-marked
returns-then-sheet-marked c =
    let a = call c.args.outline.now c.args.way c.args.marks.now c.args.sheet.now in
    simp (lt-ltb (length a.sheet) (sheet_taken a) (omega (arith, c.marked.ensures.taxa_is, taxa_whole a.marks a.outline)))
    at (passed14 a (sym c.is_unknown.ensures ∙ c.if-is_unknown.false) c.in_ok-check.ensures c.if-marks-outline.false c.in_default.ensures)

pub returns : goal.returns
returns c =
    let a = call c.args.outline.now c.args.way c.args.marks.now c.args.sheet.now in
    simp (le-ltb (length a.sheet) (sheet_taken a) (omega (arith, c.marked.ensures.taxa_is, taxa_whole a.marks a.outline)))
    at (passed14 a (sym c.is_unknown.ensures ∙ c.if-is_unknown.false) c.in_ok-check.ensures c.if-marks-outline.false c.in_default.ensures)
