-- The rows of a set, written one after the other.
use Rattle.std.specs.Prelude.{if◌then◌else◌}
use Prim.Native.Nat.{ℕ, ◌*◌, ◌-◌, ◌≤◌}
use mathlib.Core.Path.{◌≡◌, refl}
use mathlib.Core.Bool.{Bool, true, false}
use mathlib.Core.List.{List, [], ◌∷◌}
use native.Mathlib.Omega.{arith}
use lib.ListN.{length, get_or}
use Rattle.lists.specs.Lists.{one, from}
use Rattle.outline.specs.Outline.{size, records, plate, IsRecord}
use Rattle.diversity.specs.Diversity.{chosen, chosen_taxa}
use Rattle.text.specs.Text.{texts}
use Rattle.text.proofs.Texts.{texts_ext}
use Rattle.sheet.specs.Sheet.{row_of, rows_of}
use Rattle.sheet.specs.Inner.{Listable, AddsBoth, row_in}
use Rattle.sheet.specs.declared.tables.Additions.{Additions}
use Rattle.sheet.proofs.Sums.{threes}

module _ (o s : List ℕ) (adds : Additions) where
  row_length : (r : ℕ) → length (row_in o s adds r) ≡ 3 * one (chosen s r)
  row_length r = go (chosen s r)
    where
      go : (b : Bool) → length (if b then plate o r ∷ get_or adds.quarters (r - 1) 0 ∷ get_or adds.diversity (r - 1) 0 ∷ [] else []) ≡ 3 * one b
      go true = refl
      go false = refl

  -- the rows of all taxa fit where there is room for three numbers each
  pub rows_fit : {sheet : List ℕ} → Listable o s sheet → length (texts (row_in o s adds) (from 1 (size o))) ≤ length sheet
  unfolding chosen_taxa records
  rows_fit l = omega (arith, l.room, threes s (row_in o s adds) row_length (records o))

  -- by tables of what each record adds, they are the rows of the sheet
  pub rows_in : (way : ℕ) → AddsBoth o way s adds → texts (row_in o s adds) (from 1 (size o)) ≡ rows_of o way s
  unfolding rows_of row_of records
  rows_in way b =
      texts_ext _ _ 1 (size o) (λ r l u. let i : IsRecord o r = record { low = l; high = omega arith } in rw (b.quarters_are.at_place r i, b.diversity_are.at_place r i))
