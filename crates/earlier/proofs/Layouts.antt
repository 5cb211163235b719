-- The records of a tree that a text spells: none is locked, and headings are free.
use Prim.Native.Nat.{ℕ, ◌+◌, ◌*◌, ◌-◌, ◌≤◌, ◌<◌}
use mathlib.Core.Path.{◌≡◌, refl, sym, subst, ◌∙◌}
use mathlib.Core.Bool.{Bool, true, false}
use mathlib.Core.List.{List, [], ◌++◌, append_assoc, append-nil}
use native.Mathlib.Omega.{arith}
use lib.Dec.{ltb}
use lib.ListN.{drop}
use borrow.Author.Tests.{eqb-false, ltb-true, ltb-false}
use Rattle.lists.proofs.Pieces.{after_list}
use Rattle.outline.specs.Outline.{size, first, price, plate_field, is_taxon, record_bytes}
use Rattle.diversity.specs.Headings.{FreeHeadings}
use Rattle.records.proofs.Records.{record_length, fields_back}
use Rattle.newick.specs.Grammar.{Kind, part, Tree}
use Rattle.newick.specs.Layout.{count, rows, layout}
use Rattle.newick.specs.Inner.{InRange, taxon_in, group_in, last_in, more_in}
use Rattle.newick.proofs.Layouts.{rows_length}
use Rattle.earlier.specs.Before.{Unlocked}

-- a record of a tree that is laid out: no field above the plates, and a group is free
record Laid (o : List ℕ) (r : ℕ) : Type 0 where
  field_most : plate_field o r ≤ 2147483647
  heading_free : is_taxon o r ≡ false → price o r ≡ 0

either : (P : ℕ → Type 0) (m r : ℕ) → (r < m → P r) → (m ≤ r → P r) → P r
either P m r before after = go (ltb r m) refl
  where
    go : (b : Bool) → ltb r m ≡ b → P r
    go true e = before (ltb-true _ _ e)
    go false e = after (ltb-false _ _ e)

module _ (o : List ℕ) (cost : ℕ → ℕ) where
  laid : {κ : Kind} {t : Tree κ} → InRange κ t → (k n : ℕ) → 1 ≤ k → (rest : List ℕ)
      → drop (16 * (k - 1)) o ≡ rows cost t k n ++ rest → (r : ℕ) → k ≤ r → r < k + count t → Laid o r
  unfolding rows
  laid (taxon_in {p} {l} a b) k n low rest h r from to =
      let fields = fields_back o k n 0 l (cost p) p rest h in
      let here : k ≡ r = omega arith in
      subst (Laid o) here (record {
        field_most = omega (arith, fields.field_is);
        heading_free = λ e. absurd (eqb-false (first o k) 0 e (omega (arith, fields.first_is)));
      })
  laid (group_in {ms} {l} q b) k n low rest h r from to =
      let own = record_bytes n (k + 1) l 0 0 in
      let g : drop (16 * (k - 1)) o ≡ own ++ (rows cost ms (k + 1) 0 ++ rest) = h ∙ append_assoc own (rows cost ms (k + 1) 0) rest in
      let fields = fields_back o k n (k + 1) l 0 0 (rows cost ms (k + 1) 0 ++ rest) g in
      let after = after_list o (16 * (k - 1)) 16 own (rows cost ms (k + 1) 0 ++ rest) (record_length n (k + 1) l 0 0) g in
      let i : 16 * (k - 1) + 16 ≡ 16 * (k + 1 - 1) = omega arith in
      let members = laid q (k + 1) 0 (omega arith) rest (rw i at after) in
      let group : Laid o k = record { field_most = omega (arith, fields.field_is); heading_free = λ e. omega (arith, fields.price_is) } in
      either (Laid o) (k + 1) r (λ l. let here : k ≡ r = omega arith in subst (Laid o) here group) (λ l. members r l (omega arith))
  laid (last_in q) k n low rest h r from to = laid q k n low rest h r from to
  laid (more_in {t} {ms} q s) k n low rest h r from to =
      let next = k + count t in
      let g : drop (16 * (k - 1)) o ≡ rows cost t k next ++ (rows cost ms next n ++ rest) =
      h ∙ append_assoc (rows cost t k next) (rows cost ms next n) rest in
      let after = after_list o (16 * (k - 1)) (16 * count t) (rows cost t k next) (rows cost ms next n ++ rest) (rows_length cost t k next) g in
      let i : 16 * (k - 1) + 16 * count t ≡ 16 * (next - 1) = omega arith in
      let own = laid q k next low (rows cost ms next n ++ rest) g in
      let others = laid s next n (omega arith) rest (rw i at after) in
      either (Laid o) next r (λ l. own r from l) (λ l. others r l (omega arith))

module _ (cost : ℕ → ℕ) (t : Tree part) (range : InRange part t) where
  layout_laid : (r : ℕ) → 1 ≤ r → r ≤ size (layout cost t) → Laid (layout cost t) r
  unfolding layout
  layout_laid r l u =
      let o = rows cost t 1 0 in
      laid o cost range 1 0 (omega arith) [] (sym (append-nil o)) r l (omega (arith, rows_length cost t 1 0))

  pub layout_unlocked : Unlocked (layout cost t)
  layout_unlocked r i e = (layout_laid r i.low i.high).field_most

  pub layout_free : FreeHeadings (layout cost t)
  layout_free r i e = (layout_laid r i.low i.high).heading_free e
