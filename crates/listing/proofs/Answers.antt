-- What an answer's numbers, the curve and the sheet print is what the call prints; and that the total is the first line's cost and
-- diversity.
use Rattle.std.specs.Prelude.{Result, Ok, Err, IsOk}
use Prim.Native.Nat.{ℕ, zero, suc, ◌+◌, ◌*◌, ◌≤◌, ◌<◌}
use mathlib.Core.Path.{◌≡◌, refl, sym, ap, ap₂, ◌∙◌}
use mathlib.Core.Bool.{Bool, true, false}
use mathlib.Core.List.{List, [], ◌∷◌, ◌++◌, append-nil}
use native.Mathlib.Omega.{arith}
use lib.ListN.{length, get_or, take, drop, replicate, length-replicate}
use lib.Seq.{get_or-take, take-length}
use Rattle.lists.specs.Lists.{one, from, over}
use Rattle.lists.proofs.Buffers.{over_taken}
use borrow.Author.Tests.{eq-eqb}
use Rattle.refusals.specs.Refusals.{Ruling}
use Rattle.refusals.specs.Reply.{Reply, granted, refused}
use Rattle.refusals.specs.declared.refusal.Refusal.{Refusal}
use Rattle.refusals.proofs.Replies.{granted_told, told_passed, granted_apart}
use Rattle.outline.specs.Outline.{short, size, records}
use Rattle.diversity.specs.Diversity.{chosen, chosen_taxa}
use Rattle.diversity.specs.Behind.{IsSet}
use Rattle.laws.proofs.Optimum.{optimum_set}
use Rattle.laws.proofs.Prefixes.{taxa_step, taxa_nothing}
use Rattle.choice.specs.declared.answer.Figures.{Figures}
use Rattle.choice.specs.Answer.{Call, no_figures, told, judged, is_selected, best_set, figures, reply, curve_of, marks_after, curve_after}
use Rattle.choice.proofs.Answers.{way_known, selected_accepted, selected_solvable}
use Rattle.choice.proofs.Solving.{curve_diversity, curve_cost}
use Rattle.sheet.specs.Answer as sheets
use Rattle.sheet.specs.declared.answer.Figures.{Figures as SheetFigures}
use Rattle.sheet.specs.Sheet.{row_of, rows_of}
use Rattle.sheet.proofs.Answers.{set_long, listable}
use Rattle.sheet.proofs.Demands.{set_listed}
use Rattle.sheet.proofs.Sums.{quarters_sum, diversity_sum, row_over, set_few}
use Rattle.text.specs.Text.{line, labelled, texts}
use Rattle.text.proofs.Texts.{texts_ext, texts_last}
use Rattle.listing.specs.FromBuffers.{column_text, taxon_text, columns_text, taxa_text, Listed}
use Rattle.listing.specs.Printed.{call_with, call_of, refusal_text, first_line, column_line, taxon_line, total_word, total_line, sheet_text}
use Rattle.listing.specs.Printed.{selection_text, answer_text}

-- the call that bytes make: their first four are two numbers, and what follows is the outline
pub call_made : (bytes : List ℕ) {numbers o : List ℕ} {count way : ℕ} → numbers ≡ take 4 bytes → o ≡ drop 4 bytes
    → count ≡ short numbers 0 → way ≡ short numbers 2
    → call_with o count way ≡ call_of bytes
unfolding call_of short
call_made bytes e f n w =
    let at = λ (i : ℕ) (h : i < 4). get_or-take 4 bytes i 0 h in
    rw (f, n, w, e, at 0 (omega arith), at 1 (omega arith), at 2 (omega arith), at 3 (omega arith))

-- a refusal
pub refused_text : (c : Call) (t : Ruling) → 1 ≤ t.number → refused no_figures t ≡ reply c → refusal_text t ≡ answer_text c
unfolding reply refusal_text answer_text
refused_text c t h e = go (is_selected c) refl
  where
    go : (b : Bool) → is_selected c ≡ b → refusal_text t ≡ answer_text c
    go true s = let z : t.number ≡ 0 = ap (λ (r : Reply Figures). r.number) (rw s at e) in absurd (omega arith)
    go false s =
        let f : refused no_figures t ≡ refused no_figures (judged c) = rw s at e in
        let n : t.number ≡ (judged c).number = ap (λ (r : Reply Figures). r.number) f in
        let p : t.place ≡ (judged c).place = ap (λ (r : Reply Figures). r.place) f in
        rw (s, n, p)

-- the lines of the columns, from the curve
columns_text_lem : (c : Call) (rest : List ℕ) → columns_text (over (curve_of c) rest) (c.count + 1) ≡ texts (column_line c) (from 0 (c.count + 1))
unfolding columns_text column_text column_line
columns_text_lem c rest =
    texts_ext _ _ 0 (c.count + 1) (λ b l u. rw (curve_diversity c rest b (omega arith), curve_cost c rest b (omega arith)))

-- ---- the lines of the taxa, from the sheet
module _ (o : List ℕ) (way : ℕ) (s lent : List ℕ) where
  abbrev sheet : List ℕ
  sheet = over (rows_of o way s) lent

  -- the row of a chosen taxon, behind those before it
  row_line : (i : ℕ) → i < size o → chosen s (suc i) ≡ true → taxon_text sheet (chosen_taxa o (take i s)) ≡ taxon_line o way s (suc i)
  unfolding taxon_text taxon_line row_of
  row_line i l e =
      let k = chosen_taxa o (take i s) in
      let first : 3 * k ≡ 3 * k + 0 = omega arith in
      let its_plate = ap (λ n. get_or sheet n 0) first ∙ row_over o way s i 0 l e (omega arith) lent in
      rw (its_plate, row_over o way s i 1 l e (omega arith) lent, row_over o way s i 2 l e (omega arith) lent, e)

  lines_so_far : (i : ℕ) → i ≤ size o → taxa_text sheet (chosen_taxa o (take i s)) ≡ texts (taxon_line o way s) (from 1 i)
  unfolding taxa_text texts from taxon_line
  lines_so_far zero h = rw (taxa_nothing o)
  lines_so_far (suc i) h = go (chosen s (suc i)) refl (lines_so_far i (omega arith))
    where
      last : texts (taxon_line o way s) (from 1 (suc i)) ≡ texts (taxon_line o way s) (from 1 i) ++ taxon_line o way s (suc i)
      last =
          let place : 1 + i ≡ suc i = omega arith in
          texts_last (taxon_line o way s) 1 i ∙ ap (λ r. texts (taxon_line o way s) (from 1 i) ++ taxon_line o way s r) place

      unchosen : chosen s (suc i) ≡ false → taxon_line o way s (suc i) ≡ []
      unchosen e = rw e

      go : (b : Bool) → chosen s (suc i) ≡ b → taxa_text sheet (chosen_taxa o (take i s)) ≡ texts (taxon_line o way s) (from 1 i)
          → taxa_text sheet (chosen_taxa o (take (suc i) s)) ≡ texts (taxon_line o way s) (from 1 (suc i))
      go true e ih =
          let k = chosen_taxa o (take i s) in
          let more : chosen_taxa o (take (suc i) s) ≡ suc k = omega (arith, taxa_step s i o (omega arith), ap one e) in
          let place : 0 + k ≡ k = omega arith in
          ap (taxa_text sheet) more ∙ texts_last (taxon_text sheet) 0 k
          ∙ ap₂ ◌++◌ ih (ap (taxon_text sheet) place ∙ row_line i (omega arith) e) ∙ sym last
      go false e ih =
          let same : chosen_taxa o (take (suc i) s) ≡ chosen_taxa o (take i s) = omega (arith, taxa_step s i o (omega arith), ap one e) in
          ap (taxa_text sheet) same ∙ ih ∙ sym (last ∙ rw (unchosen e) (append-nil (texts (taxon_line o way s) (from 1 i))))

  taxa_text_lem : length s ≡ size o → taxa_text sheet (chosen_taxa o s) ≡ texts (taxon_line o way s) (records o)
  unfolding records
  taxa_text_lem whole =
      let all : take (size o) s ≡ s = rw (← whole) (take-length s) in
      ap (λ t. taxa_text sheet (chosen_taxa o t)) (sym all) ∙ lines_so_far (size o) (omega arith)

-- a call of `sheet` that is told 0 has the sheet's lines, and the sums of the total
module _ (c : sheets.Call) {r : Reply SheetFigures} {lent : List ℕ} (x : sheets.Answered c r lent) (passes : (sheets.judged c).number ≡ 0) where
  told_listing : r ≡ granted (sheets.figures c)
  unfolding sheets.reply
  told_listing = x.told_reply ∙ granted_told _ _ _ passes

  pub sheet_lines : sheet_text c.outline c.way (sheets.marked_set c)
      ≡ taxa_text lent r.figures.rows ++ labelled total_word (r.figures.quarters ∷ r.figures.diversity ∷ [])
  unfolding sheet_text total_line sheets.figures sheets.sheet_after
  sheet_lines =
      let written : lent ≡ over (rows_of c.outline c.way (sheets.marked_set c)) c.sheet = x.sheet_written ∙ rw passes in
      rw (told_listing, written, taxa_text_lem c.outline c.way (sheets.marked_set c) c.sheet (set_long c passes))

  pub rows_inside : 3 * r.figures.rows ≤ length c.sheet
  unfolding sheets.figures
  rows_inside = rw told_listing (listable c passes).room

-- a call of `sheet` that no row refuses is answered with rows
pub not_refused : (c : sheets.Call) (r : Result SheetFigures Refusal) {lent : List ℕ} → sheets.Answered c (sheets.told r) lent
    → (sheets.judged c).number ≡ 0 → IsOk r
not_refused c (Ok f) x passes = refl
not_refused c (Err e) x passes = absurd (granted_apart sheets.no_figures (sheets.figures c) e (sym (told_listing c x passes)))

-- ---- a selection
module _ (c : Call) (e : is_selected c ≡ true) where
  best : IsSet c.outline (best_set c)
  best = optimum_set c.outline c.way c.count (selected_solvable c e).searchable.locked_fit

  -- the total's numbers are the first line's cost and diversity
  pub total_is_first : total_line c.outline c.way (best_set c) ≡ labelled total_word ((figures c).cost ∷ (figures c).diversity ∷ [])
  unfolding total_line figures
  total_is_first = rw (quarters_sum c.outline (best_set c) best.whole, diversity_sum c.outline (best_set c) best.whole c.way)

  module _ {marks : List ℕ} (m : marks ≡ marks_after c) where
    set_marked : take (size c.outline) marks ≡ best_set c
    unfolding marks_after
    set_marked = let now = rw e at m in ap (take (size c.outline)) now ∙ over_taken (best_set c) c.marks (size c.outline) best.whole

    -- its marks are listed in 192 numbers
    pub selection_listed : Listed c.outline c.way marks
    selection_listed =
        set_listed (sheets.call c.outline c.way marks (replicate 192 0)) (selected_accepted c e) (way_known c e) (rw set_marked best)
        (rw set_marked (omega (arith, set_few c.outline (best_set c) best, (selected_solvable c e).searchable.formed.taxa_most, length-replicate {A = ℕ} 192 0)))

module _ (c : Call) (f : Figures) (e : told (Ok f) ≡ reply c) where
  pub is_selected_lem : is_selected c ≡ true
  unfolding reply
  is_selected_lem = eq-eqb _ _ (told_passed _ _ _ (sym (ap (λ (r : Reply Figures). r.number) e)))

  figures_are : f ≡ figures c
  unfolding reply
  figures_are =
      let is : granted f ≡ granted (figures c) = e ∙ rw is_selected_lem in
      ap (λ (r : Reply Figures). r.figures) is

  pub selected_text : {marks curve : List ℕ} → marks ≡ marks_after c → curve ≡ curve_after c
      → line (c.count ∷ c.way ∷ f.diversity ∷ f.cost ∷ f.taxa ∷ [])
      ++ (columns_text curve (c.count + 1) ++ sheet_text c.outline c.way (take (size c.outline) marks))
      ≡ answer_text c
  unfolding answer_text selection_text first_line curve_after
  selected_text {marks} {curve} m v =
      let v' : curve ≡ over (curve_of c) c.curve = rw is_selected_lem at v in
      rw (is_selected_lem, set_marked c is_selected_lem m, v', columns_text_lem c c.curve, figures_are)
