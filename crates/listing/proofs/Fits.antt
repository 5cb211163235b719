-- What is printed fits a buffer of 16,384 bytes.
use Rattle.std.specs.Prelude.{if◌then◌else◌}
use Prim.Native.Nat.{ℕ, ◌+◌, ◌^◌, ◌≤◌, ◌<◌}
use mathlib.Core.Path.{◌≡◌, refl}
use mathlib.Core.Logic.{◌⊎◌, ⊎_elim}
use mathlib.Core.Bool.{Bool, true, false}
use mathlib.Core.List.{List, [], ◌∷◌}
use native.Mathlib.Omega.{arith}
use lib.Dec.{ltb, leb}
use lib.ListN.{length, take, length-append}
use borrow.Author.Tests.{lt-ltb, le-ltb, leb-true, leb-false}
use Rattle.lists.specs.Lists.{one, from}
use Rattle.lists.proofs.Bools.{one_le, if_most}
use Rattle.refusals.specs.Refusals.{Ruling}
use Rattle.refusals.proofs.Placed.{Placed}
use Rattle.outline.specs.Outline.{size, records, price, plate}
use Rattle.outline.specs.WellFormed.{WellFormed}
use Rattle.diversity.specs.Diversity.{chosen, within, diversity, cost, chosen_taxa}
use Rattle.diversity.specs.Search.{optimum, blank_cost, best_diversity, least_cost}
use Rattle.laws.specs.Locks.{locked_set}
use Rattle.laws.proofs.Optimum.{optimum_set, optimum_fits, shown_diversity, shown_cost, blank_diversity, blank_cost_lem}
use Rattle.laws.proofs.Sums.{total_most}
use Rattle.choice.specs.Answer.{Call, judged, is_selected, best_set, figures}
use Rattle.choice.specs.Inner.{Solvable}
use Rattle.choice.proofs.Answers.{way_known, selected_solvable}
use Rattle.choice.proofs.Bounds.{judged_placed}
use Rattle.choice.proofs.Solving.{diversity_most}
use Rattle.sheet.specs.Sheet.{added, row_of}
use Rattle.sheet.proofs.Sums.{quarters_sum, diversity_sum}
use Rattle.text.specs.Text.{decimal, others, line, labelled}
use Rattle.text.proofs.Decimal.{decimal_most}
use Rattle.text.proofs.Texts.{texts_length}
use Rattle.listing.specs.Printed.{call_with, call_of, refusal_text, first_line, column_line, taxon_line, total_word, total_line, sheet_text}
use Rattle.listing.specs.Printed.{selection_text, answer_text, printed}
use Rattle.outline.specs.Rules.{most_records}

-- ---- a refusal
refusal_most : (t : Ruling) → Placed 12 most_records t → length (refusal_text t) ≤ 15
unfolding refusal_text labelled others
refusal_most t p =
    simp length-append (omega (
      arith,
      decimal_most 1 t.number (omega (arith, p.number_most)),
      decimal_most 2 t.place (omega (arith, p.place_most)),
    ))

-- ---- a selection
total_length : (a b : ℕ) → length (labelled total_word (a ∷ b ∷ [])) ≡ 8 + (length (decimal a) + length (decimal b))
unfolding labelled others
total_length a b = simp length-append (omega arith)

module _ (o : List ℕ) (formed : WellFormed o) (way : ℕ) (s : List ℕ) where
  diversity_small : diversity o way s < 10 ^ 9
  diversity_small = omega (arith, diversity_most o formed way s)

  cost_small : cost o s < 10 ^ 7
  unfolding cost records
  cost_small =
      omega (
        arith,
        total_most (λ r. if within o s r then price o r else 0) 65535 1 (size o)
            (λ r l u. omega (arith, if_most (within o s r) (price o r), (formed.ranged r l (omega arith)).price_most)),
        formed.size_most,
      )

  taxa_most : chosen_taxa o s < 10 ^ 3
  unfolding chosen_taxa records
  taxa_most = omega (arith, total_most (λ r. one (chosen s r)) 1 1 (size o) (λ r l u. one_le (chosen s r)), formed.size_most)

module _ (c : Call) (known : (c.way ≡ 0) ⊎ (c.way ≡ 1)) (p : Solvable c) (narrow : length c.curve ≤ 1024) where
  cost_most : (b : ℕ) → b ≤ c.count → cost c.outline (locked_set c.outline) ≤ b → cost c.outline (optimum c.outline c.way b) < 10 ^ 3
  cost_most b h fit = omega (arith, (optimum_fits c.outline c.way b fit).cost_most, p.curve_long)

  first_most : length (first_line c) ≤ 24
  unfolding first_line figures line others
  first_most = simp length-append (omega (
    arith,
    decimal_most 2 c.count (omega (arith, p.curve_long)),
    decimal_most 0 c.way (⊎_elim (λ (e : c.way ≡ 0). omega arith) (λ (e : c.way ≡ 1). omega arith) known),
    decimal_most 8 (diversity c.outline c.way (best_set c)) (diversity_small c.outline p.searchable.formed c.way (best_set c)),
    decimal_most 2 (cost c.outline (best_set c)) (cost_most c.count (omega arith) p.searchable.locked_fit),
    decimal_most 2 (chosen_taxa c.outline (best_set c)) (taxa_most c.outline p.searchable.formed c.way (best_set c)),
  ))

  -- a column's two numbers: nine digits and three where a set fits, one digit and ten where none does
  digits_most : (b : ℕ) → b ≤ c.count
      → length (decimal (best_diversity c.outline c.way b)) + length (decimal (least_cost c.outline c.way b)) ≤ 12
  digits_most b h = go (leb (cost o (locked_set o)) b) refl
    where
      o : List ℕ
      o = c.outline

      go : (t : Bool) → leb (cost o (locked_set o)) b ≡ t → length (decimal (best_diversity o c.way b)) + length (decimal (least_cost o c.way b)) ≤ 12
      go true e =
          let fit = leb-true _ _ e in
          let s = optimum o c.way b in
          rw (shown_diversity o c.way b fit, shown_cost o c.way b fit)
          (omega (arith, decimal_most 8 (diversity o c.way s) (diversity_small o p.searchable.formed c.way s), decimal_most 2 (cost o s) (cost_most b h fit)))
      go false e =
          let short = leb-false _ _ e in
          rw (blank_diversity o c.way b short, blank_cost_lem o c.way b short)
          (omega (arith, decimal_most 0 0 (omega arith), decimal_most 9 blank_cost (omega arith)))

  column_most : (b : ℕ) → b ≤ c.count → length (column_line c b) ≤ 18
  unfolding column_line line others
  column_most b h = simp length-append (omega (arith, decimal_most 2 b (omega (arith, p.curve_long)), digits_most b h))

  taxon_most : (r : ℕ) → length (taxon_line c.outline c.way (best_set c) r) ≤ 29
  unfolding taxon_line row_of
  taxon_most r = go (chosen (best_set c) r)
    where
      row : List ℕ
      row = plate c.outline r ∷ added (cost c.outline) (best_set c) r ∷ added (diversity c.outline c.way) (best_set c) r ∷ []

      written : length (line row) ≤ 29
      written = unfold line in unfold others in simp length-append (omega (
        arith,
        decimal_most 9 (plate c.outline r) (omega arith),
        decimal_most 6 (added (cost c.outline) (best_set c) r) (omega (arith, cost_small c.outline p.searchable.formed c.way (take r (best_set c)))),
        decimal_most 8 (added (diversity c.outline c.way) (best_set c) r)
            (omega (arith, diversity_small c.outline p.searchable.formed c.way (take r (best_set c)))),
      ))

      go : (b : Bool) → length (if b then line row else []) ≤ 29
      go true = written
      go false = omega arith

  total_long : length (total_line c.outline c.way (best_set c)) ≤ 20
  unfolding total_line
  total_long =
      let o = c.outline in
      let s = best_set c in
      let whole = (optimum_set o c.way c.count p.searchable.locked_fit).whole in
      rw (quarters_sum o s whole, diversity_sum o s whole c.way)
      (omega (
        arith,
        total_length (cost o s) (diversity o c.way s),
        decimal_most 2 (cost o s) (cost_most c.count (omega arith) p.searchable.locked_fit),
        decimal_most 8 (diversity o c.way s) (diversity_small o p.searchable.formed c.way s),
      ))

  selection_most : length (selection_text c) ≤ 16384
  unfolding selection_text sheet_text records
  selection_most =
      let columns = from 0 (c.count + 1) in
      let taxa = from 1 (size c.outline) in
      simp length-append (omega (
        arith,
        first_most,
        texts_length (column_line c) columns,
        total_most (λ b. length (column_line c b)) 18 0 (c.count + 1) (λ b l u. column_most b (omega arith)),
        texts_length (taxon_line c.outline c.way (best_set c)) taxa,
        total_most (λ r. length (taxon_line c.outline c.way (best_set c) r)) 29 1 (size c.outline) (λ r l u. taxon_most r),
        total_long,
        p.curve_long,
        p.searchable.formed.size_most,
      ))

-- ---- what is printed
answer_most : (c : Call) → length c.curve ≤ 1024 → length (answer_text c) ≤ 16384
unfolding answer_text
answer_most c narrow = go (is_selected c) refl
  where
    go : (b : Bool) → is_selected c ≡ b → length (if b then selection_text c else refusal_text (judged c)) ≤ 16384
    go true e = selection_most c (way_known c e) (selected_solvable c e) narrow
    go false e = omega (arith, refusal_most (judged c) (judged_placed c))

call_most : (l : List ℕ) → length (answer_text (call_of l)) ≤ 16384
unfolding call_of call_with
call_most l = answer_most (call_of l) (omega arith)

-- ---- by the length of the input
pub printed_short : (input : List ℕ) → length input < 4 → printed input ≡ refusal_text (record { number = 2; place = 0 })
unfolding printed
printed_short input h = rw (lt-ltb (length input) 4 h)

pub printed_judged : (input : List ℕ) → 4 ≤ length input → printed input ≡ answer_text (call_of (take 2052 input))
unfolding printed
printed_judged input h = rw (le-ltb (length input) 4 h)

pub printed_fits : (input : List ℕ) → length (printed input) ≤ 16384
unfolding printed
printed_fits input = go (ltb (length input) 4)
  where
    go : (t : Bool) → length (if t then refusal_text (record { number = 2; place = 0 }) else answer_text (call_of (take 2052 input))) ≤ 16384
    go true =
        omega (arith, refusal_most (record { number = 2; place = 0 }) (record { number_most = omega arith; place_most = omega arith }))
    go false = call_most (take 2052 input)
