-- Where no taxon is locked, an outline gives what it gave before locks; where every group's price is 0 too, what it gave by document 01.
use Rattle.std.proofs.lemmas.Bool.{or_parts}
use Prim.Native.Nat.{ℕ, zero, suc, ◌+◌, ◌-◌, ◌/◌, ◌%◌, ◌≤◌, ◌<◌}
use mathlib.Core.Path.{◌≡◌, refl, sym, ap, ◌∙◌}
use mathlib.Core.Bool.{Bool, true, false}
use mathlib.Core.List.{List, [], ◌∷◌, foldl}
use native.Mathlib.Omega.{arith}
use borrow.Author.Tests.{le-leb, ne_eqb, eqb-true, not-false}
use lib.Dec.{eqb, ltb}
use Rattle.lists.specs.Lists.{from, lowest, one}
use Rattle.lists.proofs.Walk.{lowest_ext, lowest_none, anywhere_lowest}
use Rattle.refusals.specs.Refusals.{row, ◌▸◌}
use Rattle.outline.specs.Outline.{size, records, branch, price, plate_field, plate, is_taxon, locked}
use Rattle.outline.specs.Answer.{record_rows, checked, found_at, found}
use Rattle.diversity.specs.Diversity.{cost}
use Rattle.diversity.specs.Headings.{FreeHeadings}
use Rattle.diversity.specs.Search.{subsets, better, Incumbent, nothing, holding, turn, exhaustive_search, is_holding, set_of, optimum}
use Rattle.diversity.specs.Search.{none_fits, best_diversity, least_cost, columns_alike, spare}
use Rattle.laws.specs.Locks.{locks, locked_set}
use Rattle.laws.proofs.Sums.{total_ext, total_zero}
use Rattle.laws.proofs.Headings.{free_headings}
use Rattle.laws.proofs.Locks.{unlocked_fits, unlocked_cost}
use Rattle.laws.proofs.Optimum.{search_exactly}
use Rattle.choice.specs.Answer.{Call, too_short, judged, figures, reply, curve_of, marks_after, curve_after, work_after}
use Rattle.choice.proofs.Columns.{columns_ext}
use Rattle.newick.specs.Grammar.{part, Tree, Spells}
use Rattle.newick.specs.Layout.{layout}
use Rattle.newick.proofs.Ranges.{spells_in_range}
use Rattle.earlier.specs.Earlier as earlier
use Rattle.earlier.specs.Before.{Unlocked, ChoosesAsBefore, AsBefore}
use Rattle.earlier.proofs.Layouts.{layout_unlocked, layout_free}
use Rattle.outline.specs.Rules.{most_length, most_price, bad_field, has_plate, is_duplicate}

-- ---- without locks
module _ (o : List ℕ) (unlocked : Unlocked o) where
  plate_same : (r : ℕ) → 1 ≤ r → r ≤ size o → is_taxon o r ≡ true → plate o r ≡ plate_field o r
  plate_same r l u t = omega (arith, unlocked r (record { low = l; high = u }) t)

  has_same : (p r : ℕ) → 1 ≤ r → r ≤ size o → has_plate o p r ≡ earlier.has_plate o p r
  unfolding has_plate earlier.has_plate
  has_same p r l u = go (is_taxon o r) refl
    where
      go : (b : Bool) → is_taxon o r ≡ b → has_plate o p r ≡ earlier.has_plate o p r
      go true t = rw (t, plate_same r l u t) refl
      go false t = rw t refl

  -- where its field is in range, a group's is 0
  field_same : (r : ℕ) → 1 ≤ r → r ≤ size o → bad_field o r ≡ false → plate o r ≡ plate_field o r
  unfolding bad_field
  field_same r l u e = go (is_taxon o r) refl
    where
      go : (b : Bool) → is_taxon o r ≡ b → plate o r ≡ plate_field o r
      go true t = plate_same r l u t
      go false t =
          let ranged = or_parts (ltb most_price (price o r)) _ (or_parts (ltb most_length (branch o r)) _ (rw t at e)).1 in
          omega (arith, eqb-true (plate_field o r) 0 (not-false _ ranged.1))

  duplicate_same : (r : ℕ) → 1 ≤ r → r ≤ size o → bad_field o r ≡ false → is_duplicate o r ≡ earlier.is_duplicate o r
  unfolding is_duplicate earlier.is_duplicate
  duplicate_same r l u e =
      sym (anywhere_lowest (has_plate o (plate o r)) (r - 1))
      ∙ rw (lowest_ext (has_plate o (plate o r)) (earlier.has_plate o (plate o r)) 1 (r - 1) (λ q m v. has_same (plate o r) q m (omega arith)), field_same r l u e)
      (anywhere_lowest (earlier.has_plate o (plate_field o r)) (r - 1))

  none_locked : locks o ≡ 0
  unfolding locks locked records
  none_locked = total_ext _ (λ r. 0) 1 (size o) each ∙ total_zero (records o)
    where
      each : (r : ℕ) → 1 ≤ r → r < 1 + size o → one (locked o r) ≡ 0
      each r l u = go (is_taxon o r) refl
        where
          go : (b : Bool) → is_taxon o r ≡ b → one (locked o r) ≡ 0
          go true t =
              rw (t, ne_eqb (plate_field o r / 2147483648 % 2) 1 (λ z. omega (arith, unlocked r (record { low = l; high = omega arith }) t))) refl
          go false t = rw t refl

  always_held : (way b : ℕ) → is_holding (exhaustive_search o way b) ≡ true
  always_held way b = search_exactly o way b ∙ le-leb (cost o (locked_set o)) b (omega (arith, unlocked_cost o none_locked))

-- reading leftwards, where a test of columns is that of their diversity
alike_same : (f : ℕ → Bool) (curve : ℕ → ℕ) (d n : ℕ) → ((b : ℕ) → b < n → f b ≡ eqb (curve b) d)
    → columns_alike f n ≡ earlier.columns_alike curve d n
unfolding columns_alike earlier.columns_alike
alike_same f curve d zero h = refl
alike_same f curve d (suc n) h = rw (h n (omega arith), alike_same f curve d n (λ b l. h b (omega arith))) refl

-- ---- an outline whose fields and costs are the same in an edition
record SameRules (e : earlier.Edition) (o : List ℕ) : Type 0 where
  unlocked : Unlocked o
  fields : (r : ℕ) → 1 ≤ r → r ≤ size o → bad_field o r ≡ e.bad_field o r
  costs : (s : List ℕ) → cost o s ≡ e.cost o s

module _ (e : earlier.Edition) (o : List ℕ) (same : SameRules e o) where
  -- row 5 holds in both at one record, or in neither
  records_same : record_rows o ≡ earlier.record_rows e o
  unfolding record_rows earlier.record_rows
  records_same = go (lowest (bad_field o) (from 1 (size o))) refl
    where
      both : lowest (bad_field o) (from 1 (size o)) ≡ lowest (e.bad_field o) (from 1 (size o))
      both = lowest_ext (bad_field o) (e.bad_field o) 1 (size o) (λ r l u. same.fields r l (omega arith))

      go : (p : ℕ) → lowest (bad_field o) (from 1 (size o)) ≡ p → record_rows o ≡ earlier.record_rows e o
      go zero z =
          let ranged = lowest_none (bad_field o) (size o) z in
          rw (
            both,
            lowest_ext (is_duplicate o) (earlier.is_duplicate o) 1 (size o)
                (λ r l u. duplicate_same o same.unlocked r l (omega arith) (ranged r l (omega arith))),
          ) refl
      go (suc p) z = rw (z, sym both ∙ z, ne_eqb (suc p) 0 (λ e. omega arith)) refl

  check_same : checked o ≡ earlier.checked e o
  unfolding checked earlier.checked
  check_same = rw records_same refl

  found_at_same : (p : ℕ) → found_at o p ≡ earlier.found_at e o p
  unfolding found_at earlier.found_at records
  found_at_same p =
      rw (check_same, lowest_ext (has_plate o p) (earlier.has_plate o p) 1 (size o) (λ r l u. has_same o same.unlocked p r l (omega arith))) refl

  found_same : (p : ℕ) → found o p ≡ earlier.found e o p
  unfolding found earlier.found
  found_same p = rw (found_at_same p) refl

  -- ---- the exhaustive search
  better_same : (way : ℕ) (s t : List ℕ) → better o way s t ≡ earlier.better e o way s t
  unfolding better earlier.better
  better_same way s t = rw (same.costs s, same.costs t) refl

  turn_same : (way b : ℕ) (hand : Incumbent) (s : List ℕ) → turn o way b hand s ≡ earlier.turn e o way b hand s
  unfolding turn earlier.turn
  turn_same way b nothing s = rw (unlocked_fits o (none_locked o same.unlocked) b s, same.costs s) refl
  turn_same way b (holding t) s = rw (unlocked_fits o (none_locked o same.unlocked) b s, same.costs s, better_same way s t) refl

  turns_same : (way b : ℕ) (hand : Incumbent) (sets : List (List ℕ)) → foldl (turn o way b) hand sets ≡ foldl (earlier.turn e o way b) hand sets
  turns_same way b hand [] = refl
  turns_same way b hand (s ∷ sets) = rw (turn_same way b hand s) (turns_same way b (earlier.turn e o way b hand s) sets)

  optimum_same : (way b : ℕ) → optimum o way b ≡ earlier.optimum e o way b
  unfolding optimum exhaustive_search earlier.optimum earlier.exhaustive_search
  optimum_same way b = ap set_of (turns_same way b nothing (subsets o (records o)))

  diversity_same : (way b : ℕ) → best_diversity o way b ≡ earlier.best_diversity e o way b
  unfolding best_diversity earlier.best_diversity
  diversity_same way b = rw (always_held o same.unlocked way b, optimum_same way b) refl

  least_same : (way b : ℕ) → least_cost o way b ≡ earlier.least_cost e o way b
  unfolding least_cost earlier.least_cost
  least_same way b = rw (always_held o same.unlocked way b, optimum_same way b) (same.costs (earlier.optimum e o way b))

  spare_same : (way b : ℕ) → spare o way b ≡ earlier.spare e o way b
  unfolding spare earlier.spare
  spare_same way b =
      rw (diversity_same way b) (alike_same _ _ _ b (λ i l. rw (always_held o same.unlocked way i, diversity_same way i) refl))

-- ---- a call of `choose`
-- row 12 does not hold
last_same : (short : Bool) → (row 9 short ▸ row 12 false) ≡ row 9 short
last_same true = refl
last_same false = refl

module _ (e : earlier.Edition) (c : Call) (same : SameRules e c.outline) where
  judged_same : judged c ≡ earlier.judged e c
  unfolding judged none_fits earlier.judged
  judged_same =
      rw (always_held c.outline same.unlocked c.way c.count, last_same (too_short c), records_same e c.outline same) refl

  set_same : (way b : ℕ) → optimum c.outline way b ≡ earlier.optimum e c.outline way b
  set_same = optimum_same e c.outline same

  figures_same : figures c ≡ earlier.figures e c
  unfolding figures earlier.figures
  figures_same =
      rw (set_same c.way c.count, same.costs (earlier.best_set e c), spare_same e c.outline same c.way c.count) refl

  curve_same : curve_of c ≡ earlier.curve_of e c
  unfolding curve_of earlier.curve_of
  curve_same =
      columns_ext _ _ _ _ 0 (c.count + 1)
      (λ b l. (diversity_same e c.outline same c.way b, least_same e c.outline same c.way b))

  chooses_same : ChoosesAsBefore e c
  unfolding reply earlier.reply marks_after earlier.marks_after curve_after earlier.curve_after work_after earlier.work_after
  chooses_same = record {
    told = rw (judged_same, figures_same) refl;
    marks = rw (judged_same, set_same c.way c.count) refl;
    curve = rw (judged_same, curve_same) refl;
    work = rw judged_same refl;
  }

as_before : (e : earlier.Edition) (o : List ℕ) → SameRules e o → AsBefore e o
as_before e o same = record {
  check = check_same e o same;
  find_record = found_at_same e o same;
  find = found_same e o same;
  choose = λ c q. chooses_same e c (rw q same);
}

-- document 02, §4: outlines without a taxon's field above 2,147,483,647 give what they gave
pub unlocked_as_before : (o : List ℕ) → Unlocked o → AsBefore earlier.with_headings o
unlocked_as_before o unlocked =
    as_before earlier.with_headings o (record { unlocked = unlocked; fields = λ r l u. fields r l u (is_taxon o r) refl; costs = λ s. refl })
  where
    fields : (r : ℕ) → 1 ≤ r → r ≤ size o → (b : Bool) → is_taxon o r ≡ b → bad_field o r ≡ earlier.bad_field_priced o r
    fields r l u true t = unfold bad_field in unfold earlier.bad_field_priced in rw (t, plate_same o unlocked r l u t) refl
    fields r l u false t = unfold bad_field in unfold earlier.bad_field_priced in rw t refl

-- document 02, §2: those with headings of 0 give what they gave by document 01
free_same : (o : List ℕ) → Unlocked o → FreeHeadings o → SameRules earlier.document01 o
free_same o unlocked free = record { unlocked = unlocked; fields = λ r l u. fields r l u (is_taxon o r) refl; costs = λ s. free_headings o s free }
  where
    fields : (r : ℕ) → 1 ≤ r → r ≤ size o → (b : Bool) → is_taxon o r ≡ b → bad_field o r ≡ earlier.bad_field_first o r
    fields r l u true t = unfold bad_field in unfold earlier.bad_field_first in rw (t, plate_same o unlocked r l u t) refl
    fields r l u false t = unfold bad_field in unfold earlier.bad_field_first in rw (t, free r (record { low = l; high = u }) t) refl

pub free_as_before : (o : List ℕ) → Unlocked o → FreeHeadings o → AsBefore earlier.document01 o
free_as_before o unlocked free = as_before earlier.document01 o (free_same o unlocked free)

-- and rows 5 to 8 for the records of a tree that a text spells, by which `read` refuses it, are document 01's
pub read_as_before : (t : Tree part) {text : List ℕ} → Spells t text → (price : ℕ → ℕ)
    → record_rows (layout price t) ≡ earlier.record_rows earlier.document01 (layout price t)
read_as_before t spells price =
    let range = spells_in_range spells in
    records_same earlier.document01 (layout price t) (free_same (layout price t) (layout_unlocked price t range) (layout_free price t range))
