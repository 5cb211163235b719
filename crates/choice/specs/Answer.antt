-- What a call of `choose` is answered, and what it leaves in the buffers that it was lent.
use Rattle.std.specs.Prelude.{Result, ℕ, ◌+◌, ◌*◌, ◌≡◌, Bool, ◌||◌, ◌&&◌, not, List, [], ◌∷◌, length, get_or, replicate, eqb, ltb}
use Rattle.lists.specs.Lists.{from}
use Rattle.refusals.specs.Refusals.{Ruling, row, ◌▸◌, after}
use Rattle.refusals.specs.declared.refusal.Refusal.{Refusal}
use Rattle.refusals.specs.Reply.{Reply, answer_told, replied}
use Rattle.outline.specs.Outline.{size}
use Rattle.outline.specs.Answer.{size_rows, record_rows}
use Rattle.diversity.specs.Diversity.{diversity, cost, chosen_taxa}
use Rattle.diversity.specs.Search.{optimum, none_fits, best_diversity, least_cost, spare}
pub use Rattle.choice.specs.declared.answer.Figures.{Figures}

-- a call: the outline, the page count, the way, and the lent buffers as they came in
pub record Call : Type 0 where
  pub outline : List ℕ
  pub count : ℕ
  pub way : ℕ
  pub marks : List ℕ
  pub curve : List ℕ
  pub work : List ℕ

abbrev pub call : List ℕ → ℕ → ℕ → List ℕ → List ℕ → List ℕ → Call
call outline count way marks curve work =
    record { outline = outline; count = count; way = way; marks = marks; curve = curve; work = work }

-- on a refusal they are 0
abbrev pub no_figures : Figures
no_figures = record { diversity = 0; cost = 0; taxa = 0; spare = 0 }

abbrev pub numbers_of : Figures → List ℕ
numbers_of f = f.diversity ∷ f.cost ∷ f.taxa ∷ f.spare ∷ []

-- the numbers of each answer
abbrev pub told : Result Figures Refusal → Reply Figures
told = answer_told no_figures

-- page counts go up to this
abbrev pub most_count : ℕ
most_count = 4096

-- how many marks, numbers of the curve and numbers of work a call takes
abbrev pub marks_taken : List ℕ → ℕ
marks_taken o = size o

abbrev pub curve_taken : ℕ → ℕ
curve_taken count = 2 * (count + 1)

abbrev pub work_taken : List ℕ → ℕ → ℕ
work_taken o count = 4 * ((size o + 2) * (count + 1))

-- refusal 1: a way that is neither of the two
abbrev pub unknown : ℕ → Bool
unknown way = not (eqb way 0) && not (eqb way 1)

-- refusal 9: marks, curve or work shorter than that
unfoldable pub too_short : Call → Bool
too_short c =
    ltb (length c.marks) (marks_taken c.outline)
    || (ltb (length c.curve) (curve_taken c.count) || ltb (length c.work) (work_taken c.outline c.count))

-- judged from 1 to 9, and then 12: no set that holds every locked taxon fits the page count; the first that holds is given
unfoldable pub judged : Call → Ruling
judged c =
    row 1 (unknown c.way)
    ▸ size_rows c.outline
    ▸ row 4 (ltb most_count c.count)
    ▸ record_rows c.outline
    ▸ row 9 (too_short c)
    ▸ row 12 (none_fits c.outline c.way c.count)

-- no row holds: the answer is a selection
abbrev pub is_selected : Call → Bool
is_selected c = eqb (judged c).number 0

-- the exhaustive search's set at the page count
abbrev pub best_set : Call → List ℕ
best_set c = optimum c.outline c.way c.count

-- diversity, cost and number of taxa of that set, and the spare
unfoldable pub figures : Call → Figures
figures c = record {
  diversity = diversity c.outline c.way (best_set c);
  cost = cost c.outline (best_set c);
  taxa = chosen_taxa c.outline (best_set c);
  spare = spare c.outline c.way c.count;
}

-- what a call is told: a selection gives 0, place 0, and its figures
unfoldable pub reply : Call → Reply Figures
reply c = replied no_figures (judged c) (figures c)

-- for each column its diversity, then its cost
unfoldable pub columns : (ℕ → ℕ) → (ℕ → ℕ) → List ℕ → List ℕ
columns diversities costs [] = []
columns diversities costs (b ∷ bs) = diversities b ∷ costs b ∷ columns diversities costs bs

-- the columns 0 to the page count: the best diversity, then its cost
unfoldable pub curve_of : Call → List ℕ
curve_of c = columns (best_diversity c.outline c.way) (least_cost c.outline c.way) (from 0 (c.count + 1))

-- column b of a curve: its diversity, then its cost
abbrev pub diversity_at : List ℕ → ℕ → ℕ
diversity_at curve b = get_or curve (2 * b) 0

abbrev pub cost_at : List ℕ → ℕ → ℕ
cost_at curve b = get_or curve (2 * b + 1) 0

-- the buffers after a call
unfoldable pub marks_after : Call → List ℕ
marks_after c = after (judged c) (best_set c) c.marks

unfoldable pub curve_after : Call → List ℕ
curve_after c = after (judged c) (curve_of c) c.curve

unfoldable pub work_after : Call → List ℕ
work_after c = after (judged c) (replicate (work_taken c.outline c.count) 0) c.work

-- what a call ensures, of the numbers that it is told and of the buffers as it leaves them
pub record Answered (c : Call) (r : Reply Figures) (marks curve work : List ℕ) : Type 0 where
  pub told_reply : r ≡ reply c
  pub marks_written : marks ≡ marks_after c
  pub curve_written : curve ≡ curve_after c
  pub work_cleared : work ≡ work_after c
