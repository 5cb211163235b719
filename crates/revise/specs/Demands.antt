-- The words of what is promised of a call of `revise`, and of one beside a call of `choose`.
use Rattle.std.specs.Prelude.{ℕ, ◌+◌, ◌≤◌, ◌<◌, pos, ◌≡◌, ◌≢◌, ◌⊎◌, ◌↔◌, Bool, true, false, List, [], ◌∷◌, ◌++◌, length, get_or}
use Rattle.refusals.specs.Reply.{Reply, ruling_of}
use Rattle.refusals.specs.Table.{Row, whole, Decided}
use Rattle.outline.specs.Outline.{size, branch}
use Rattle.outline.specs.Rules.{most_length}
use Rattle.outline.specs.Demands.{size_table, record_table}
use Rattle.diversity.specs.Behind.{IsSet, Fits, NoneFits}
use Rattle.choice.specs.Answer as choose
use Rattle.choice.specs.Demands.{TooShort, marked_set}
use Rattle.choice.specs.declared.answer.Figures.{Figures as Choice}
use Rattle.revise.specs.Revised.{length_place}
use Rattle.revise.specs.Moved.{moved}
use Rattle.revise.specs.Spans.{spans}
use Rattle.revise.specs.Answer.{Call, Figures, numbers_of, old_choice}

-- the table of a call, in the order in which it is judged: 1 to 8, 16, 9, 12
abbrev pub revise_table : Call → List Row
revise_table c =
    (whole 1 ((c.way ≢ 0) × (c.way ≢ 1)) ∷ [])
    ++ size_table c.outline
    ++ (whole 4 (choose.most_count < c.count) ∷ [])
    ++ record_table c.outline
    ++ (whole 16 ((c.changed ≡ 0) ⊎ ((size c.outline < c.changed) ⊎ (most_length < c.to))) ∷ [])
    ++ (whole 9 (TooShort (old_choice c)) ∷ [])
    ++ (whole 12 (NoneFits c.outline c.count) ∷ [])

-- demand 1: a choice on the revised outline, and no row of the table holds; or exactly one refusal of the table, under its condition only, and
-- then the other numbers are 0, both movements too, and no byte of a buffer is changed
abbrev pub RevisedOrRefused : Call → Reply Figures → List ℕ → List ℕ → List ℕ → Type 1
RevisedOrRefused c r marks curve work =
    Decided (revise_table c) (ruling_of r) (numbers_of r.figures) (c.marks ∷ c.curve ∷ c.work ∷ []) (marks ∷ curve ∷ work ∷ [])

-- p is o with the length n of record r: as long, byte for byte the same but for the four of that length, and they give n
pub record LengthReplaced (o p : List ℕ) (r n : ℕ) : Type 0 where
  pub as_long : length p ≡ length o
  pub others : (i : ℕ) → (length_place r ≤ i → i < length_place r + 4 → ⊥) → get_or p i 0 ≡ get_or o i 0
  pub length_is : branch p r ≡ n

-- a set of taxa fits a page count on the one outline exactly if it does on the other
abbrev pub SameSetsFit : List ℕ → List ℕ → Type 0
SameSetsFit o p = (b : ℕ) (s : List ℕ) → (IsSet o s × Fits o b s) ↔ (IsSet p s × Fits p b s)

-- what is told of the choice alone, with the number and the place
abbrev pub choice_in : Reply Figures → Reply Choice
choice_in r = record { number = r.number; place = r.place; figures = r.figures.choice }

-- what is told of the movements, where a choice on the given outline is told `old`: the best diversity that is told beside them, which is
-- that of the revised outline, minus the old; and the new length minus the old
pub record MovementsTrue (c : Call) (r : Reply Figures) (old : Reply Choice) : Type 0 where
  pub best_true : r.figures.moved.best ≡ moved old.figures.diversity r.figures.choice.diversity
  pub length_true : r.figures.moved.length ≡ moved (branch c.outline c.changed) c.to

-- the old choice, whose marks are `before`, spans the revised branch
abbrev pub old_spans : Call → List ℕ → Bool
old_spans c before = spans c.outline c.way (marked_set (old_choice c) before) c.changed

-- the same set stays chosen: the marks of the outline's records are the same, and so are the cost, the number of taxa and the spare that are
-- told; and where marks are lent as the old choice left them, no byte of them changes
pub record SetStays (c : Call) (r : Reply Figures) (marks : List ℕ) (old : Reply Choice) (before : List ℕ) : Type 0 where
  pub same_set : marked_set (old_choice c) marks ≡ marked_set (old_choice c) before
  pub same_cost : r.figures.choice.cost ≡ old.figures.cost
  pub same_taxa : r.figures.choice.taxa ≡ old.figures.taxa
  pub same_spare : r.figures.choice.spare ≡ old.figures.spare
  pub same_buffer : c.marks ≡ before → marks ≡ before

-- "the best must rise by exactly the difference, and the same set stays chosen"
pub record RisesExactly (c : Call) (r : Reply Figures) (marks : List ℕ) (old : Reply Choice) (before : List ℕ) : Type 0 where
  pub moved_as_length : r.figures.moved.best ≡ r.figures.moved.length
  pub diversity_rises : r.figures.choice.diversity + branch c.outline c.changed ≡ old.figures.diversity + c.to
  pub set_stays : SetStays c r marks old before

-- "the movement is 0 and the set also stays"
pub record StaysExactly (c : Call) (r : Reply Figures) (marks : List ℕ) (old : Reply Choice) (before : List ℕ) : Type 0 where
  pub moved_nowhere : r.figures.moved.best ≡ pos 0
  pub diversity_stays : r.figures.choice.diversity ≡ old.figures.diversity
  pub set_stays : SetStays c r marks old before

-- what is told and marked, where a choice on the given outline, at the same count and by the same way, is told `old` and leaves the marks
-- `before`: where that spans the revised branch and the length rises, and where it does not span it and the length falls. A length that stays
-- as it is counts as rising where the branch is spanned, else as falling
pub record ExactlyAsMuch (c : Call) (r : Reply Figures) (marks : List ℕ) (old : Reply Choice) (before : List ℕ) : Type 0 where
  pub spanned_rises : old_spans c before ≡ true → branch c.outline c.changed ≤ c.to → RisesExactly c r marks old before
  pub unspanned_falls : old_spans c before ≡ false → c.to ≤ branch c.outline c.changed → StaysExactly c r marks old before
