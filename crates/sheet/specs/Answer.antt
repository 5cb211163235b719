-- What a call of `sheet` is answered, and what it leaves in the sheet that it was lent.
use Rattle.std.specs.Prelude.{Result, ℕ, ◌-◌, ◌*◌, ◌≡◌, Bool, ◌||◌, ◌&&◌, not, List, [], ◌∷◌, length, get_or, take, eqb, ltb}
use Rattle.refusals.specs.Refusals.{Ruling, row, row_at, ◌▸◌, after}
use Rattle.refusals.specs.declared.refusal.Refusal.{Refusal}
use Rattle.refusals.specs.Reply.{Reply, answer_told, replied}
use Rattle.outline.specs.Outline.{size, is_taxon}
use Rattle.outline.specs.Answer.{checked}
use Rattle.diversity.specs.Diversity.{diversity, cost, chosen_taxa}
use Rattle.choice.specs.Answer.{unknown}
use Rattle.sheet.specs.Sheet.{rows_of, sum_of}
pub use Rattle.sheet.specs.declared.answer.Figures.{Figures}

-- a call: the outline, the way, the marks, and the lent sheet as it came in
pub record Call : Type 0 where
  pub outline : List ℕ
  pub way : ℕ
  pub marks : List ℕ
  pub sheet : List ℕ

abbrev pub call : List ℕ → ℕ → List ℕ → List ℕ → Call
call outline way marks sheet = record { outline = outline; way = way; marks = marks; sheet = sheet }

abbrev pub sums : ℕ → ℕ → ℕ → Figures
sums rows quarters diversity = record { rows = rows; quarters = quarters; diversity = diversity }

-- on a refusal they are 0
abbrev pub no_figures : Figures
no_figures = sums 0 0 0

abbrev pub numbers_of : Figures → List ℕ
numbers_of f = f.rows ∷ f.quarters ∷ f.diversity ∷ []

-- the numbers of each answer
abbrev pub told : Result Figures Refusal → Reply Figures
told = answer_told no_figures

-- the marked set: a mark for each record
abbrev pub marked_set : Call → List ℕ
marked_set c = take (size c.outline) c.marks

-- refusal 14: a mark that is neither 0 nor 1, or 1 at a group
unfoldable pub bad_mark : List ℕ → List ℕ → ℕ → Bool
bad_mark o marks r = let mark = get_or marks (r - 1) 0 in ltb 1 mark || (eqb mark 1 && not (is_taxon o r))

-- the sheet needs 3 numbers for each chosen taxon
abbrev pub sheet_taken : Call → ℕ
sheet_taken c = 3 * chosen_taxa c.outline (marked_set c)

-- the rows in their order: 1, the check's, 14, 9. Marks shorter than N have place 0, a bad mark has its record
unfoldable pub judged : Call → Ruling
judged c =
    row 1 (unknown c.way)
    ▸ checked c.outline
    ▸ row 14 (ltb (length c.marks) (size c.outline))
    ▸ row_at 14 (bad_mark c.outline c.marks) (size c.outline)
    ▸ row 9 (ltb (length c.sheet) (sheet_taken c))

-- the number of rows, one for each chosen taxon, and the sums of the two columns
unfoldable pub figures : Call → Figures
figures c =
    let o = c.outline in
    let s = marked_set c in
    sums (chosen_taxa o s) (sum_of (cost o) o s) (sum_of (diversity o c.way) o s)

-- what a call is told
unfoldable pub reply : Call → Reply Figures
reply c = replied no_figures (judged c) (figures c)

-- the sheet after a call: the rows where no row of the table holds, and the rest unchanged
unfoldable pub sheet_after : Call → List ℕ
sheet_after c = after (judged c) (rows_of c.outline c.way (marked_set c)) c.sheet

-- what a call ensures, of the numbers that it is told and of the sheet as it leaves it
pub record Answered (c : Call) (r : Reply Figures) (sheet : List ℕ) : Type 0 where
  pub told_reply : r ≡ reply c
  pub sheet_written : sheet ≡ sheet_after c
