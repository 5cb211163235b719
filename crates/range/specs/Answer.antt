-- What a call of `range` is answered, and what it leaves in the buffers that it was lent.
use Rattle.std.specs.Prelude.{Result, ℕ, ◌*◌, ◌-◌, ◌≡◌, Bool, ◌||◌, ◌&&◌, not, List, [], ◌∷◌, ◌++◌, get_or, replicate, eqb, ltb}
use Rattle.lists.specs.Lists.{from, anywhere}
use Rattle.refusals.specs.Refusals.{Ruling, row, row_at, ◌▸◌, after}
use Rattle.refusals.specs.declared.refusal.Refusal.{Refusal}
use Rattle.refusals.specs.Reply.{Reply, answer_told, replied}
use Rattle.outline.specs.Outline.{size, price}
use Rattle.outline.specs.Answer.{checked}
use Rattle.diversity.specs.Search.{none_fits, best_diversity}
use Rattle.choice.specs.Answer as choose
use Rattle.choice.specs.declared.answer.Figures.{Figures as Choice}
use Rattle.choice.specs.Answer.{most_count, unknown, too_short, work_taken, best_set, figures as figures_chosen, curve_of}
use Rattle.range.specs.Prices.{of_price}
pub use Rattle.range.specs.declared.answer.Figures.{Figures}

-- a call: the outline at low prices, that at high prices, the page count, the way, and the lent buffers as they came in
pub record Call : Type 0 where
  pub low : List ℕ
  pub high : List ℕ
  pub count : ℕ
  pub way : ℕ
  pub marks : List ℕ
  pub curve : List ℕ
  pub work : List ℕ

abbrev pub call : List ℕ → List ℕ → ℕ → ℕ → List ℕ → List ℕ → List ℕ → Call
call low high count way marks curve work =
    record { low = low; high = high; count = count; way = way; marks = marks; curve = curve; work = work }

-- a choice at high prices, with the same page count, way and buffers
abbrev pub high_choice : Call → choose.Call
high_choice c = choose.call c.high c.count c.way c.marks c.curve c.work

abbrev pub with_roof : Choice → ℕ → Figures
with_roof choice roof = record { choice = choice; roof = roof }

-- on a refusal they are 0
abbrev pub no_figures : Figures
no_figures = with_roof choose.no_figures 0

abbrev pub numbers_of : Figures → List ℕ
numbers_of f = choose.numbers_of f.choice ++ (f.roof ∷ [])

-- the numbers of each answer
abbrev pub told : Result Figures Refusal → Reply Figures
told = answer_told no_figures

-- the bytes at place i differ, and are no part of a price
abbrev pub differs : List ℕ → List ℕ → ℕ → Bool
differs low high i = not (of_price i) && not (eqb (get_or low i 0) (get_or high i 0))

-- refusal 17 at record r: one of its 16 bytes differs so, or its low price is above its high
unfoldable pub bad_range : List ℕ → List ℕ → ℕ → Bool
bad_range low high r = anywhere (differs low high) (from (16 * (r - 1)) 16) || ltb (price high r) (price low r)

-- it is given with place 0 if the numbers of records differ, else with the lowest such record
unfoldable pub price_rows : List ℕ → List ℕ → Ruling
price_rows low high = row 17 (not (eqb (size high) (size low))) ▸ row_at 17 (bad_range low high) (size low)

-- judged by 1, the check of both, low first, 17, and then 4, 9 and 12 at high prices; the first that holds is given
unfoldable pub judged : Call → Ruling
judged c =
    row 1 (unknown c.way)
    ▸ checked c.low
    ▸ checked c.high
    ▸ price_rows c.low c.high
    ▸ row 4 (ltb most_count c.count)
    ▸ row 9 (too_short (high_choice c))
    ▸ row 12 (none_fits c.high c.way c.count)

-- the choice at high prices, and the best diversity at low prices
unfoldable pub figures : Call → Figures
figures c = with_roof (figures_chosen (high_choice c)) (best_diversity c.low c.way c.count)

-- what a call is told: 0, place 0, and its figures where no row holds
unfoldable pub reply : Call → Reply Figures
reply c = replied no_figures (judged c) (figures c)

-- the buffers after a call: as a choice at high prices leaves them
unfoldable pub marks_after : Call → List ℕ
marks_after c = after (judged c) (best_set (high_choice c)) c.marks

unfoldable pub curve_after : Call → List ℕ
curve_after c = after (judged c) (curve_of (high_choice c)) c.curve

unfoldable pub work_after : Call → List ℕ
work_after c = after (judged c) (replicate (work_taken c.high c.count) 0) c.work

-- what a call ensures, of the numbers that it is told and of the buffers as it leaves them
pub record Answered (c : Call) (r : Reply Figures) (marks curve work : List ℕ) : Type 0 where
  pub told_reply : r ≡ reply c
  pub marks_written : marks ≡ marks_after c
  pub curve_written : curve ≡ curve_after c
  pub work_cleared : work ≡ work_after c
