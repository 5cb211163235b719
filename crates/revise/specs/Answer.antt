-- What a call of `revise` is answered, and what it leaves in the buffers that it was lent.
use Rattle.std.specs.Prelude.{Result, ℕ, ℤ, pos, nat_abs, ◌≡◌, Bool, ◌||◌, List, [], ◌∷◌, ◌++◌, replicate, eqb, ltb}
use Rattle.refusals.specs.Refusals.{Ruling, row, ◌▸◌, after}
use Rattle.refusals.specs.declared.refusal.Refusal.{Refusal}
use Rattle.refusals.specs.Reply.{Reply, answer_told, replied}
use Rattle.outline.specs.Outline.{size, branch}
use Rattle.outline.specs.Rules.{most_length}
use Rattle.outline.specs.Answer.{size_rows, record_rows}
use Rattle.diversity.specs.Search.{none_fits, best_diversity}
use Rattle.choice.specs.Answer as choose
use Rattle.choice.specs.declared.answer.Figures.{Figures as Choice}
use Rattle.choice.specs.Answer.{most_count, unknown, too_short, work_taken, best_set, figures as figures_chosen, curve_of}
use Rattle.revise.specs.Revised.{revised}
use Rattle.revise.specs.Moved.{moved, MovesWith}
pub use Rattle.revise.specs.declared.answer.Moved.{Moved}
pub use Rattle.revise.specs.declared.answer.Figures.{Figures}

-- a call: the outline, the record whose length is changed, its new length, the page count, the way, and the lent buffers as they came in
pub record Call : Type 0 where
  pub outline : List ℕ
  pub changed : ℕ
  pub to : ℕ
  pub count : ℕ
  pub way : ℕ
  pub marks : List ℕ
  pub curve : List ℕ
  pub work : List ℕ

abbrev pub call : List ℕ → ℕ → ℕ → ℕ → ℕ → List ℕ → List ℕ → List ℕ → Call
call outline changed to count way marks curve work =
    record { outline = outline; changed = changed; to = to; count = count; way = way; marks = marks; curve = curve; work = work }

-- the revised outline
abbrev pub new_outline : Call → List ℕ
new_outline c = revised c.outline c.changed c.to

-- a choice on the given outline, and on the revised one, with the same buffers
abbrev pub old_choice : Call → choose.Call
old_choice c = choose.call c.outline c.count c.way c.marks c.curve c.work

abbrev pub new_choice : Call → choose.Call
new_choice c = choose.call (new_outline c) c.count c.way c.marks c.curve c.work

-- the best diversities of both, at the page count
abbrev pub old_best : Call → ℕ
old_best c = best_diversity c.outline c.way c.count

abbrev pub new_best : Call → ℕ
new_best c = best_diversity (new_outline c) c.way c.count

abbrev pub movements : ℤ → ℤ → Moved
movements best length = record { best = best; length = length }

abbrev pub remade : Choice → Moved → Figures
remade choice moved = record { choice = choice; moved = moved }

-- on a refusal they are 0
abbrev pub no_figures : Figures
no_figures = remade choose.no_figures (movements (pos 0) (pos 0))

-- of a signed number its size, which is 0 for 0 alone
abbrev pub numbers_of : Figures → List ℕ
numbers_of f = choose.numbers_of f.choice ++ (nat_abs f.moved.best ∷ nat_abs f.moved.length ∷ [])

-- the numbers of each answer
abbrev pub told : Result Figures Refusal → Reply Figures
told = answer_told no_figures

-- refusal 16: the record is 0 or above N, or the length above 1,000,000
unfoldable pub bad_revision : List ℕ → ℕ → ℕ → Bool
bad_revision o changed to = eqb changed 0 || (ltb (size o) changed || ltb most_length to)

-- judged from 1 to 8, then 16, 9 and 12; the first that holds is given
unfoldable pub judged : Call → Ruling
judged c =
    row 1 (unknown c.way)
    ▸ size_rows c.outline
    ▸ row 4 (ltb most_count c.count)
    ▸ record_rows c.outline
    ▸ row 16 (bad_revision c.outline c.changed c.to)
    ▸ row 9 (too_short (old_choice c))
    ▸ row 12 (none_fits c.outline c.way c.count)

-- the choice on the revised outline; the new best diversity minus the old, and the new length minus the old
unfoldable pub figures : Call → Figures
figures c =
    remade (figures_chosen (new_choice c)) (movements (moved (old_best c) (new_best c)) (moved (branch c.outline c.changed) c.to))

-- what a call is told: 0, place 0, and its figures where no row holds
unfoldable pub reply : Call → Reply Figures
reply c = replied no_figures (judged c) (figures c)

-- the buffers after a call: as a choice on the revised outline leaves them
unfoldable pub marks_after : Call → List ℕ
marks_after c = after (judged c) (best_set (new_choice c)) c.marks

unfoldable pub curve_after : Call → List ℕ
curve_after c = after (judged c) (curve_of (new_choice c)) c.curve

unfoldable pub work_after : Call → List ℕ
work_after c = after (judged c) (replicate (work_taken (new_outline c) c.count) 0) c.work

-- what a call ensures, of the numbers that it is told and of the buffers as it leaves them; and that the best diversity moves with the length
pub record Answered (c : Call) (r : Reply Figures) (marks curve work : List ℕ) : Type 0 where
  pub told_reply : r ≡ reply c
  pub moves_with : MovesWith r.figures.moved.best r.figures.moved.length
  pub marks_written : marks ≡ marks_after c
  pub curve_written : curve ≡ curve_after c
  pub work_cleared : work ≡ work_after c
