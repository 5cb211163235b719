-- The words of what is promised of a call of `quick`, of one beside a call of `choose`, and of two calls.
use Rattle.std.specs.Prelude.{ℕ, ◌+◌, ◌≤◌, ◌<◌, ◌≡◌, ◌≢◌, true, false, List, [], ◌∷◌, ◌++◌, length, take}
use Rattle.refusals.specs.Reply.{Reply, ruling_of}
use Rattle.refusals.specs.Table.{Row, whole, Decided}
use Rattle.outline.specs.Outline.{size, IsRecord}
use Rattle.outline.specs.Demands.{size_table, record_table}
use Rattle.diversity.specs.Diversity.{diversity, cost, chosen_taxa}
use Rattle.diversity.specs.Behind.{IsSet, Fits, NoneFits}
use Rattle.laws.specs.Locks.{locks}
use Rattle.choice.specs.Answer as choose
use Rattle.choice.specs.declared.answer.Figures.{Figures as ChoiceFigures}
use Rattle.quick.specs.Quick.{added, added_cost, can_pick, ceiling}
use Rattle.quick.specs.Answer.{Call, Figures, numbers_of, most_picks}

-- the table of a call, in the order in which it is judged: 2, 3, 4, 15, 5 to 8, 9, 12
abbrev pub quick_table : Call → List Row
quick_table c =
    size_table c.outline
    ++ (whole 4 (choose.most_count < c.count) ∷ [])
    ++ (whole 15 (most_picks < c.picks) ∷ [])
    ++ record_table c.outline
    ++ (whole 9 (length c.marks < size c.outline) ∷ [])
    ++ (whole 12 (NoneFits c.outline c.count) ∷ [])

-- demand 1: a choice, and no row of the table holds; or exactly one refusal of the table, under its condition only, and then the other
-- numbers are 0, the ceiling too, and the marks are unchanged
abbrev pub ChosenOrRefused : Call → Reply Figures → List ℕ → Type 1
ChosenOrRefused c r marks = Decided (quick_table c) (ruling_of r) (numbers_of r.figures) (c.marks ∷ []) (marks ∷ [])

-- the set that is marked
abbrev pub marked_set : Call → List ℕ → List ℕ
marked_set c marks = take (size c.outline) marks

-- what is marked is a set of taxa that fits the page count and holds every locked taxon, and what is told is its own
pub record TrueChoice (c : Call) (r : Reply Figures) (marks : List ℕ) : Type 0 where
  pub marked_is_set : IsSet c.outline (marked_set c marks)
  pub marked_fits : Fits c.outline c.count (marked_set c marks)
  pub diversity_true : r.figures.diversity ≡ diversity c.outline 0 (marked_set c marks)
  pub cost_true : r.figures.cost ≡ cost c.outline (marked_set c marks)
  pub taxa_true : r.figures.taxa ≡ chosen_taxa c.outline (marked_set c marks)
  pub ceiling_true : r.figures.ceiling ≡ ceiling c.outline c.count (marked_set c marks)

-- ---- a pick
-- t is picked rather than u: it adds more diversity, or as much for fewer quarters, or as much for as many and has the lower record
pub data Rather (o s : List ℕ) (t u : ℕ) : Type 0 where
  more_added : added o s u < added o s t → Rather o s t u
  fewer_quarters : added o s t ≡ added o s u → added_cost o s t < added_cost o s u → Rather o s t u
  lower_record : added o s t ≡ added o s u → added_cost o s t ≡ added_cost o s u → t < u → Rather o s t u

-- the pick among the records up to n: of those that can be picked the one that is picked rather than any other; or 0, and none can be picked
pub data IsPick (o : List ℕ) (b : ℕ) (s : List ℕ) (n t : ℕ) : Type 0 where
  no_pick : t ≡ 0 → ((u : ℕ) → 1 ≤ u → u ≤ n → can_pick o b s u ≡ false) → IsPick o b s n t
  a_pick : 1 ≤ t → t ≤ n → can_pick o b s t ≡ true
      → ((u : ℕ) → 1 ≤ u → u ≤ n → can_pick o b s u ≡ true → u ≢ t → Rather o s t u) → IsPick o b s n t

-- the picks add at most as many taxa to the locked ones as were asked for, and fewer only where no taxon is left that can be picked
pub record PicksMade (c : Call) (r : Reply Figures) (marks : List ℕ) : Type 0 where
  pub most : r.figures.taxa ≤ locks c.outline + c.picks
  pub ended : r.figures.taxa < locks c.outline + c.picks → (t : ℕ) → IsRecord c.outline t
      → can_pick c.outline c.count (marked_set c marks) t ≡ false

-- ---- beside the best
-- the best diversity lies from the quick choice's to its ceiling
pub record BestBetween (r : Reply Figures) (best : Reply ChoiceFigures) : Type 0 where
  pub least : r.figures.diversity ≤ best.figures.diversity
  pub most : best.figures.diversity ≤ r.figures.ceiling

-- ---- more picks
-- two calls on one outline at one page count, the second with as many picks or more
pub record MorePicks (c d : Call) : Type 0 where
  pub outline_is : d.outline ≡ c.outline
  pub count_is : d.count ≡ c.count
  pub picks_more : c.picks ≤ d.picks
