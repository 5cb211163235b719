-- The rows of choosing in two parts, and what they say where they pass.
use Rattle.std.proofs.lemmas.Bool.{or_parts}
use Prim.Native.Nat.{ℕ, ◌≤◌}
use mathlib.Core.Path.{◌≡◌, refl, ap, ap₂, ◌∙◌}
use mathlib.Core.Logic.{◌⊎◌}
use mathlib.Core.Bool.{false, ◌||◌}
use mathlib.Core.List.{List}
use lib.Dec.{ltb}
use borrow.Author.Tests.{eqb-true, ltb-false, le-ltb}
use Rattle.refusals.specs.Refusals.{Ruling, row, ◌▸◌}
use Rattle.refusals.proofs.Refusals.{then_assoc, both_pass, both_passes, row_fails, row_passes}
use Rattle.refusals.proofs.Tables.{two_ways, known_way}
use Rattle.outline.specs.Answer.{size_rows, record_rows, checked}
use Rattle.outline.specs.WellFormed.{WellFormed}
use Rattle.outline.proofs.WellFormed.{rows_kept}
use Rattle.diversity.specs.Diversity.{cost}
use Rattle.diversity.specs.Search.{none_fits}
use Rattle.laws.specs.Locks.{locked_set}
use Rattle.laws.proofs.Accepted.{formed_accepted}
use Rattle.laws.proofs.Optimum.{none_exactly}
use Rattle.choice.specs.Answer.{Call, call, most_count, unknown, too_short, judged}
use Rattle.choice.specs.Inner.{first_rows, last_rows, Solvable}

-- the first part before any other rows, row by row
pub first_then : (o : List ℕ) (count way : ℕ) (rest : Ruling)
    → (first_rows o count way ▸ rest) ≡ (row 1 (unknown way) ▸ size_rows o ▸ row 4 (ltb most_count count) ▸ record_rows o ▸ rest)
unfolding first_rows
first_then o count way rest =
    let one = row 1 (unknown way) in
    let sizes = size_rows o in
    let four = row 4 (ltb most_count count) in
    let records = record_rows o in
    rw (then_assoc one (sizes ▸ four ▸ records) rest, then_assoc sizes (four ▸ records) rest, then_assoc four records rest) refl

-- the last part, as `judged` has it
pub last_is : (c : Call) → last_rows c.outline c.count c.marks c.curve c.work ≡ (row 9 (too_short c) ▸ row 12 (none_fits c.outline c.way c.count))
unfolding last_rows too_short
last_is c = rw (none_exactly c.outline c.way c.count) refl

-- a call is judged by both parts
pub rows_judged : (c : Call) → judged c ≡ (first_rows c.outline c.count c.way ▸ last_rows c.outline c.count c.marks c.curve c.work)
unfolding judged
rows_judged c = rw (first_then c.outline c.count c.way (last_rows c.outline c.count c.marks c.curve c.work), last_is c) refl

-- where the first part passes
pub record FirstPassed (o : List ℕ) (count way : ℕ) : Type 0 where
  pub way_known : (way ≡ 0) ⊎ (way ≡ 1)
  pub accepted : (checked o).number ≡ 0
  pub formed : WellFormed o
  pub low : count ≤ most_count

pub first_passed : (o : List ℕ) (count way : ℕ) → (first_rows o count way).number ≡ 0 → FirstPassed o count way
unfolding first_rows checked
first_passed o count way z =
    let one = both_pass (row 1 (unknown way)) _ z in
    let three = both_pass (size_rows o) _ one.1 in
    let four = both_pass (row 4 (ltb most_count count)) _ three.1 in
    record {
      way_known = two_ways way (row_fails _ _ one.0);
      accepted = both_passes (size_rows o) (record_rows o) three.0 four.1;
      formed = rows_kept o three.0 four.1;
      low = ltb-false _ _ (row_fails _ _ four.0);
    }

-- with buffers that are long enough, and locked taxa that fit, a call on an outline that keeps the rules can be solved
pub solvable_if : (c : Call) → WellFormed c.outline → c.count ≤ most_count → cost c.outline (locked_set c.outline) ≤ c.count → too_short c ≡ false
    → Solvable c
unfolding too_short
solvable_if c formed low fit e =
    let short = or_parts _ _ e in
    let rest = or_parts _ _ short.1 in
    record {
      searchable = record { formed = formed; low = low; locked_fit = fit; work_long = ltb-false _ _ rest.1 };
      marks_long = ltb-false _ _ short.0;
      curve_long = ltb-false _ _ rest.0;
    }

-- where the last part passes, on an accepted outline
pub last_passed : (c : Call) → WellFormed c.outline → c.count ≤ most_count → (last_rows c.outline c.count c.marks c.curve c.work).number ≡ 0
    → Solvable c
unfolding last_rows too_short
last_passed c formed low z =
    let both = both_pass (row 9 (too_short (call c.outline c.count 0 c.marks c.curve c.work))) _ z in
    solvable_if c formed low (ltb-false _ _ (row_fails _ _ both.1)) (row_fails _ _ both.0)

-- where a call can be solved, the last part passes; and where its way is one of the two, no row holds
pub last_passes : (c : Call) → Solvable c → (last_rows c.outline c.count c.marks c.curve c.work).number ≡ 0
unfolding last_rows too_short
last_passes c s =
    let o = c.outline in
    let lengths = ap₂ ◌||◌ (le-ltb _ _ s.marks_long) (ap₂ ◌||◌ (le-ltb _ _ s.curve_long) (le-ltb _ _ s.searchable.work_long)) in
    both_passes (row 9 (too_short (call o c.count 0 c.marks c.curve c.work))) (row 12 (ltb c.count (cost o (locked_set o)))) (row_passes 9 _ lengths)
    (row_passes 12 _ (le-ltb _ _ s.searchable.locked_fit))

pub rows_passed : (c : Call) → (c.way ≡ 0) ⊎ (c.way ≡ 1) → Solvable c → (judged c).number ≡ 0
unfolding first_rows checked
rows_passed c known s =
    let o = c.outline in
    let h = s.searchable in
    let accepted = both_pass (size_rows o) (record_rows o) (eqb-true _ _ (formed_accepted o h.formed)) in
    ap (λ (t : Ruling). t.number) (rows_judged c)
    ∙ both_passes (first_rows o c.count c.way) (last_rows o c.count c.marks c.curve c.work)
    (both_passes (row 1 (unknown c.way)) _ (row_passes 1 (unknown c.way) (known_way known))
    (both_passes (size_rows o) _ accepted.0
    (both_passes (row 4 (ltb most_count c.count)) (record_rows o) (row_passes 4 _ (le-ltb _ _ h.low)) accepted.1)))
    (last_passes c s)
