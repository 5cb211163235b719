-- The words of what is promised of a call of `range`, and of calls of `choose` at prices between.
use Rattle.std.specs.Prelude.{ℕ, ◌+◌, ◌*◌, ◌-◌, ◌≤◌, ◌<◌, ◌≡◌, ◌≢◌, true, false, List, [], ◌∷◌, ◌++◌, length, get_or}
use Rattle.refusals.specs.Reply.{Reply, ruling_of}
use Rattle.refusals.specs.Table.{Row, whole, lowest_at, Decided}
use Rattle.outline.specs.Outline.{size, price}
use Rattle.outline.specs.Answer.{is_accepted}
use Rattle.outline.specs.Demands.{check_table}
use Rattle.diversity.specs.Diversity.{diversity, cost}
use Rattle.diversity.specs.Behind.{IsSet, Fits, NoneFits}
use Rattle.diversity.specs.Search.{best_diversity}
use Rattle.choice.specs.Answer as choose
use Rattle.choice.specs.Demands.{TooShort, marked_set}
use Rattle.choice.specs.declared.answer.Figures.{Figures as Choice}
use Rattle.range.specs.Prices.{of_price}
use Rattle.range.specs.Answer.{Call, Figures, numbers_of, high_choice, bad_range}

-- row 17: the numbers of records differ, with place 0; else the lowest record that is bad
abbrev pub price_table : List ℕ → List ℕ → List Row
price_table low high = whole 17 (size high ≢ size low) ∷ lowest_at 17 (size low) (bad_range low high) ∷ []

-- the table of a call, in the order in which it is judged: 1, the check of low prices, that of high prices, 17, 4, 9, 12
abbrev pub range_table : Call → List Row
range_table c =
    (whole 1 ((c.way ≢ 0) × (c.way ≢ 1)) ∷ [])
    ++ check_table c.low
    ++ check_table c.high
    ++ price_table c.low c.high
    ++ (whole 4 (choose.most_count < c.count) ∷ [])
    ++ (whole 9 (TooShort (high_choice c)) ∷ [])
    ++ (whole 12 (NoneFits c.high c.count) ∷ [])

-- demand 1: a range, and no row of the table holds; or exactly one refusal of the table, under its condition only, and then the other numbers are
-- 0, the roof too, and no byte of a buffer is changed
abbrev pub RangedOrRefused : Call → Reply Figures → List ℕ → List ℕ → List ℕ → Type 1
RangedOrRefused c r marks curve work =
    Decided (range_table c) (ruling_of r) (numbers_of r.figures) (c.marks ∷ c.curve ∷ c.work ∷ []) (marks ∷ curve ∷ work ∷ [])

-- what is told of the choice alone, with the number and the place
abbrev pub choice_in : Reply Figures → Reply Choice
choice_in r = record { number = r.number; place = r.place; figures = r.figures.choice }

-- "its diversity as floor, and the best at low prices as roof"
abbrev pub floor : Reply Figures → ℕ
floor r = r.figures.choice.diversity

abbrev pub roof : Reply Figures → ℕ
roof r = r.figures.roof

-- "as the sure set": the set that is marked
abbrev pub sure_set : Call → List ℕ → List ℕ
sure_set c marks = marked_set (high_choice c) marks

-- a number is from floor to roof
pub record FromFloorToRoof (r : Reply Figures) (n : ℕ) : Type 0 where
  pub floor_least : floor r ≤ n
  pub roof_most : n ≤ roof r

-- "for all prices between, the sure set fits and the best lies from floor to roof": on an outline at such prices. It is accepted, and the sure set
-- is a set of its taxa that fits, so that it holds every locked one; it costs no more there, and has the floor as its diversity
pub record SureAt (c : Call) (r : Reply Figures) (marks mid : List ℕ) : Type 0 where
  pub accepted : is_accepted mid ≡ true
  pub is_set : IsSet mid (sure_set c marks)
  pub fits : Fits mid c.count (sure_set c marks)
  pub cost_most : cost mid (sure_set c marks) ≤ r.figures.choice.cost
  pub diversity_is : diversity mid c.way (sure_set c marks) ≡ floor r
  pub best_between : FromFloorToRoof r (best_diversity mid c.way c.count)

-- buffers that are each at least as long as those that a call was lent
pub record AsLong (c : Call) (marks curve work : List ℕ) : Type 0 where
  pub marks_long : length c.marks ≤ length marks
  pub curve_long : length c.curve ≤ length curve
  pub work_long : length c.work ≤ length work

-- what is wrong with record r, in words: one of its bytes differs and is no part of a price, or its low price is above its high
pub data BadAt (low high : List ℕ) (r : ℕ) : Type 0 where
  byte_differs : (i : ℕ) → 16 * (r - 1) ≤ i → i < 16 * (r - 1) + 16 → of_price i ≡ false → get_or low i 0 ≢ get_or high i 0 → BadAt low high r
  low_above : price high r < price low r → BadAt low high r
