-- What a call of `quick` is answered, and what it leaves in the marks that it was lent.
use Rattle.std.specs.Prelude.{Result, ℕ, ◌≡◌, List, [], ◌∷◌, length, ltb}
use Rattle.refusals.specs.Refusals.{Ruling, row, ◌▸◌, after}
use Rattle.refusals.specs.declared.refusal.Refusal.{Refusal}
use Rattle.refusals.specs.Reply.{Reply, answer_told, replied}
use Rattle.outline.specs.Outline.{size}
use Rattle.outline.specs.Answer.{size_rows, record_rows}
use Rattle.diversity.specs.Diversity.{diversity, cost, chosen_taxa}
use Rattle.diversity.specs.Search.{none_fits}
use Rattle.choice.specs.Answer.{most_count}
use Rattle.quick.specs.Quick.{quick, ceiling}
pub use Rattle.quick.specs.declared.answer.Figures.{Figures}

-- a call: the outline, the page count, at most how many picks, and the lent marks as they came in
pub record Call : Type 0 where
  pub outline : List ℕ
  pub count : ℕ
  pub picks : ℕ
  pub marks : List ℕ

abbrev pub call : List ℕ → ℕ → ℕ → List ℕ → Call
call outline count picks marks = record { outline = outline; count = count; picks = picks; marks = marks }

abbrev pub reported : ℕ → ℕ → ℕ → ℕ → Figures
reported diversity cost taxa ceiling = record { diversity = diversity; cost = cost; taxa = taxa; ceiling = ceiling }

-- on a refusal they are 0
abbrev pub no_figures : Figures
no_figures = reported 0 0 0 0

abbrev pub numbers_of : Figures → List ℕ
numbers_of f = f.diversity ∷ f.cost ∷ f.taxa ∷ f.ceiling ∷ []

-- the numbers of each answer
abbrev pub told : Result Figures Refusal → Reply Figures
told = answer_told no_figures

-- picks go up to this
abbrev pub most_picks : ℕ
most_picks = 64

-- the rows in their order: 2, 3, 4, 15, 5 to 8, 9, and 12, no set that holds every locked taxon fits the page count
unfoldable pub judged : Call → Ruling
judged c =
    size_rows c.outline
    ▸ row 4 (ltb most_count c.count)
    ▸ row 15 (ltb most_picks c.picks)
    ▸ record_rows c.outline
    ▸ row 9 (ltb (length c.marks) (size c.outline))
    ▸ row 12 (none_fits c.outline 0 c.count)

-- the set that a call chooses
abbrev pub quick_set : Call → List ℕ
quick_set c = quick c.outline c.count c.picks

-- what a set is reported with: its diversity, its cost, its number of taxa, and its ceiling
unfoldable pub figures_of : List ℕ → ℕ → List ℕ → Figures
figures_of o b s = reported (diversity o 0 s) (cost o s) (chosen_taxa o s) (ceiling o b s)

-- what a call is told
unfoldable pub reply : Call → Reply Figures
reply c = replied no_figures (judged c) (figures_of c.outline c.count (quick_set c))

-- the marks after a call: the set where no row of the table holds, and the rest unchanged
unfoldable pub marks_after : Call → List ℕ
marks_after c = after (judged c) (quick_set c) c.marks

-- what a call ensures, of the numbers that it is told and of the marks as it leaves them
pub record Answered (c : Call) (r : Reply Figures) (marks : List ℕ) : Type 0 where
  pub told_reply : r ≡ reply c
  pub marks_written : marks ≡ marks_after c
