-- A filled table read out: its top row is the curve, and its last column the best set.
use Rattle.std.specs.Prelude.{if◌then◌else◌}
use Prim.Native.Nat.{ℕ, zero, suc, ◌+◌, ◌*◌, ◌-◌, ◌/◌, ◌%◌, ◌≤◌, ◌<◌}
use mathlib.Core.Path.{◌≡◌, sym, ap, ◌∙◌}
use mathlib.Core.Bool.{Bool, true, false, ◌&&◌}
use mathlib.Core.List.{List}
use native.Mathlib.Omega.{arith}
use lib.Dec.{eqb}
use lib.ListN.{length, replicate}
use Rattle.lists.specs.Lists.{one, from, over}
use Rattle.lists.proofs.Bools.{if_most}
use Rattle.lists.proofs.Buffers.{over_at_lem}
use Rattle.outline.specs.Outline.{size, records, branch}
use Rattle.outline.specs.WellFormed.{WellFormed}
use Rattle.diversity.specs.Diversity.{chosen, within, elsewhere, rooted, unrooted, diversity, chosen_taxa}
use Rattle.diversity.specs.Behind.{IsSet}
use Rattle.diversity.specs.Search.{exhaustive_search, is_holding, optimum, best_diversity, least_cost, columns_alike, spare}
use Rattle.laws.specs.Candidate.{Value, none, some}
use Rattle.laws.specs.Locks.{locks}
use Rattle.laws.specs.Numbers.{decode, worth}
use Rattle.laws.proofs.Sums.{total_ext, total_most}
use Rattle.laws.proofs.Optimum.{search_ends, optimum_set, shown_diversity, blank_exactly}
use Rattle.laws.proofs.Numbers.{decode_code}
use Rattle.rows.specs.Rows.{top_row}
use Rattle.rows.proofs.TopRow.{Tells, top_row_lem}
use Rattle.cells.specs.Cells.{unit, lift, seen, view, diversity_of, cost_of, code_of, cell}
use Rattle.table.specs.Table.{Filled}
use Rattle.cells.specs.declared.candidate.Candidate.{Candidate}
use Rattle.choice.specs.Answer.{Call, Figures, most_count, best_set, figures, columns, curve_of, diversity_at, cost_at}
use Rattle.choice.specs.Inner.{top_diversity, top_cost, level, Searchable, Solvable, Solved}
use Rattle.choice.proofs.Columns.{columns_long, column_diversity, column_cost, columns_ext, alike_ext}
use Rattle.choice.proofs.Shown.{complete_is, shown_by}
use Rattle.outline.specs.Rules.{most_records}

-- ---- how large the numbers are
-- 127 records with branches of a million
pub diversity_most : (o : List ℕ) → WellFormed o → (way : ℕ) (s : List ℕ) → diversity o way s ≤ most_records * 1000000
unfolding diversity rooted unrooted records
diversity_most o formed way s = go (eqb way 0)
  where
    bounded : (p : ℕ → Bool) (r : ℕ) → 1 ≤ r → r < 1 + size o → (if p r then branch o r else 0) ≤ 1000000
    bounded p r l u = omega (arith, if_most (p r) (branch o r), (formed.ranged r l (omega arith)).branch_most)

    go : (b : Bool) → (if b then rooted o s else unrooted o s) ≤ most_records * 1000000
    go true = omega (arith, formed.size_most, total_most _ 1000000 1 (size o) (bounded (within o s)))
    go false = omega (arith, formed.size_most, total_most _ 1000000 1 (size o) (bounded (λ r. within o s r && elsewhere o s r)))

pub alike_most : (alike : ℕ → Bool) (n : ℕ) → columns_alike alike n ≤ n
unfolding columns_alike
alike_most alike zero = omega arith
alike_most alike (suc n) = go (alike n) (alike_most alike n)
  where
    go : {k : ℕ} (b : Bool) → k ≤ n → (if b then suc k else 0) ≤ suc n
    go true h = omega arith
    go false h = omega arith

-- ---- the set written over a buffer, counted
taxa_over : (o s buffer : List ℕ) → IsSet o s → chosen_taxa o (over s buffer) ≡ chosen_taxa o s
unfolding chosen_taxa records chosen
taxa_over o s buffer x = total_ext _ _ 1 (size o) (λ r l u. ap (λ (k : ℕ). one (eqb k 1)) (over_at_lem s buffer (r - 1) (omega (arith, x.whole))))

-- ---- the curve, column by column, also where it is written over a buffer
module _ (c : Call) where
  pub curve_long : length (curve_of c) ≡ 2 * (c.count + 1)
  unfolding curve_of
  curve_long = columns_long _ _ 0 (c.count + 1)

  module _ (buffer : List ℕ) (b : ℕ) (h : b ≤ c.count) where
    pub curve_diversity : diversity_at (over (curve_of c) buffer) b ≡ best_diversity c.outline c.way b
    unfolding curve_of
    curve_diversity = over_at_lem (curve_of c) buffer (2 * b) (omega (arith, curve_long)) ∙ column_diversity _ _ (c.count + 1) b (omega arith)

    pub curve_cost : cost_at (over (curve_of c) buffer) b ≡ least_cost c.outline c.way b
    unfolding curve_of
    curve_cost = over_at_lem (curve_of c) buffer (2 * b + 1) (omega (arith, curve_long)) ∙ column_cost _ _ (c.count + 1) b (omega arith)

  -- and read leftwards: a column tells by its cost whether a set was in hand
  curve_level : (buffer : List ℕ) (b : ℕ) → b ≤ c.count → c.count ≤ most_count
      → level (over (curve_of c) buffer) (diversity_at (over (curve_of c) buffer) c.count) b
      ≡ (is_holding (exhaustive_search c.outline c.way b) && eqb (best_diversity c.outline c.way b) (best_diversity c.outline c.way c.count))
  unfolding level
  curve_level buffer b h low =
      rw (
        curve_diversity buffer c.count (omega arith),
        curve_diversity buffer b h,
        curve_cost buffer b h,
        blank_exactly c.outline c.way b (omega arith),
      )

  curve_spare : (buffer : List ℕ) → c.count ≤ most_count
      → columns_alike (level (over (curve_of c) buffer) (diversity_at (over (curve_of c) buffer) c.count)) c.count
      ≡ spare c.outline c.way c.count
  unfolding spare
  curve_spare buffer low = alike_ext _ _ c.count (λ b l. curve_level buffer b (omega arith) low)

-- ---- the set of a candidate
set_of_lem : (score set : ℕ) {v : Value} → seen score set ≡ some v → set ≡ v.code
unfolding seen code_of
set_of_lem score set {v} e = go (eqb score 0) e
  where
    go : (b : Bool) → (if b then none else some (record { locked = (score - 1) / unit / lift; diversity = (score - 1) / unit % lift; cost = unit - 1 - (score - 1) % unit; code = set }))
        ≡ some v → set ≡ v.code
    go true e = let z : ◌≡◌ {A = ℕ} 0 1 = cc in absurd (omega arith)
    go false e = ap code_of e

-- the figures of a selection
abbrev pub selected : ℕ → ℕ → ℕ → ℕ → Figures
selected d k t l = record { diversity = d; cost = k; taxa = t; spare = l }

selected_path : {d e k m t u l n : ℕ} → d ≡ e → k ≡ m → t ≡ u → l ≡ n → selected d k t l ≡ selected e m u n
selected_path p q r s = rw (p, q, r, s)

-- the last column's candidate is the best set, with what it is worth
module _ {o : List ℕ} {way count : ℕ} {work table : List ℕ} (s : Searchable o count work) (filled : Filled o way (count + 1) table)
    (best : Candidate) (is_best : view best ≡ cell table (2 * (count + 1) + count)) where
  best_worth : view best ≡ some (worth o way (optimum o way count))
  best_worth =
      is_best ∙ filled.row count (omega arith)
      ∙ complete_is o way (top_row_lem o s.formed.linked way count) (search_ends o way count s.locked_fit)

  pub best_shown : {d : ℕ} → d ≡ diversity_of (view best) → d ≡ best_diversity o way count
  unfolding diversity_of worth
  best_shown e = e ∙ ap diversity_of best_worth ∙ sym (shown_diversity o way count s.locked_fit)

module _ (c : Call) (s : Solvable c) (table : List ℕ) (filled : Filled c.outline c.way (c.count + 1) table) where
  -- the top row is the curve
  ruling : (b : ℕ) → Tells c.outline c.way (exhaustive_search c.outline c.way b) (top_row c.outline c.way b)
  ruling b = top_row_lem c.outline s.searchable.formed.linked c.way b

  top_column : (b : ℕ) → b < 0 + (c.count + 1)
      → (top_diversity table (c.count + 1) (locks c.outline) b ≡ best_diversity c.outline c.way b)
      × (top_cost table (c.count + 1) (locks c.outline) b ≡ least_cost c.outline c.way b)
  unfolding best_diversity least_cost optimum
  top_column b h = rw (filled.row b (omega arith)) (shown_by c.outline c.way (ruling b))

  top_curve : columns (top_diversity table (c.count + 1) (locks c.outline)) (top_cost table (c.count + 1) (locks c.outline)) (from 0 (c.count + 1))
      ≡ curve_of c
  unfolding curve_of
  top_curve = columns_ext _ _ _ _ 0 (c.count + 1) top_column

  module _ (best : Candidate) (is_best : view best ≡ cell table (2 * (c.count + 1) + c.count)) where
    best_is : view best ≡ some (worth c.outline c.way (best_set c))
    best_is = best_worth s.searchable filled best is_best

    best_marks : decode c.outline best.set ≡ best_set c
    unfolding view worth
    best_marks = ap (decode c.outline) (set_of_lem best.score best.set best_is) ∙ decode_code (optimum_set c.outline c.way c.count s.searchable.locked_fit)

    -- what is told and written
    pub solved : {marks curve work : List ℕ} {locked d k taxa left : ℕ} → marks ≡ over (decode c.outline best.set) c.marks
        → locked ≡ locks c.outline
        → curve ≡ over (columns (top_diversity table (c.count + 1) locked) (top_cost table (c.count + 1) locked) (from 0 (c.count + 1))) c.curve
        → work ≡ replicate (length c.work) 0
        → d ≡ diversity_of (view best) → k ≡ cost_of (view best)
        → taxa ≡ chosen_taxa c.outline marks
        → left ≡ columns_alike (level curve (diversity_at curve c.count)) c.count
        → Solved c (selected d k taxa left) marks curve work
    unfolding figures diversity_of cost_of worth
    solved {marks} {curve} m held v w d k t l =
        let marked : marks ≡ over (best_set c) c.marks = m ∙ ap (λ x. over x c.marks) best_marks in
        let drawn : curve ≡ over (curve_of c) c.curve = rw held at v ∙ ap (λ x. over x c.curve) top_curve in
        record {
          told_figures =
              selected_path (d ∙ ap diversity_of best_is) (k ∙ ap cost_of best_is)
              (t ∙ ap (chosen_taxa c.outline) marked ∙ taxa_over c.outline (best_set c) c.marks (optimum_set _ _ _ s.searchable.locked_fit))
              (l ∙ ap (λ x. columns_alike (level x (diversity_at x c.count)) c.count) drawn ∙ curve_spare c c.curve s.searchable.low);
          marks_written = marked;
          curve_written = drawn;
          work_cleared = w;
        }
