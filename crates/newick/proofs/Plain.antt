-- An accepted outline that no row 13 stops: what its records keep, so that its text spells its tree.
use Rattle.std.proofs.lemmas.Bool.{or_parts}
use Prim.Native.Nat.{ℕ, zero, suc, ◌/◌, ◌%◌, ◌≤◌, ◌<◌}
use mathlib.Core.Path.{◌≡◌, refl, ap}
use mathlib.Core.Bool.{true, false, ◌||◌, ◌&&◌, not}
use mathlib.Core.List.{List}
use native.Mathlib.Omega.{arith}
use lib.Dec.{ltb}
use borrow.Author.Tests.{eqb-false, ltb-false}
use Rattle.lists.specs.Lists.{Bytes}
use Rattle.lists.proofs.Bools.{second_false}
use Rattle.outline.specs.WellFormed.{WellFormed}
use Rattle.outline.specs.Outline.{price, plate_field, lock_bit, plate, is_taxon, locked, IsRecord}
use Rattle.newick.specs.Inner.{InRange}
use Rattle.newick.specs.Grammar.{part, most_number}
use Rattle.newick.specs.Trees.{tree_of, unwritable}
use Rattle.records.proofs.Records.{long_small}
use Rattle.newick.proofs.Traced.{tree_traced, traced_range}

-- accepted, and no row 13
pub record Plain (o : List ℕ) : Type 0 where
  pub formed : WellFormed o
  pub writable : (r : ℕ) → IsRecord o r → unwritable o r ≡ false

module _ {o : List ℕ} (plain : Plain o) (r : ℕ) (i : IsRecord o r) where
  parts : ((not (is_taxon o r) && ltb 0 (price o r)) ≡ false) × ((locked o r || ltb most_number (plate o r)) ≡ false)
  unfolding unwritable
  parts = or_parts _ _ (plain.writable r i)

  -- a plate has at most nine digits
  pub plate_small : plate o r ≤ most_number
  plate_small = ltb-false most_number (plate o r) (or_parts (locked o r) (ltb most_number (plate o r)) parts.1).1

  -- a heading is free
  pub heading_free : is_taxon o r ≡ false → price o r ≡ 0
  heading_free e =
      let most = ltb-false 0 (price o r) (second_false (not (is_taxon o r)) (ltb 0 (price o r)) parts.0 (ap not e)) in
      omega arith

  -- a taxon's field is its plate
  pub field_plate : Bytes o → is_taxon o r ≡ true → plate_field o r ≡ plate o r
  unfolding locked
  field_plate small e =
      let free = eqb-false _ _ (second_false (is_taxon o r) _ (or_parts (locked o r) (ltb most_number (plate o r)) parts.1).0 e) in
      go (plate_field o r / lock_bit) refl free (long_small o small _)
    where
      go : (bit : ℕ) → plate_field o r / lock_bit ≡ bit → (bit % 2 ≡ 1 → ⊥) → plate_field o r < 4294967296 → plate_field o r ≡ plate o r
      go zero d free most = omega arith
      go (suc zero) d free most = absurd (free refl)
      go (suc (suc bit)) d free most = absurd (omega arith)

-- the tree of such an outline is in range
pub tree_in_range : {o : List ℕ} → Plain o → InRange part (tree_of o)
tree_in_range {o} plain =
    traced_range
    (λ r i. (plate_small plain r i, let most = (plain.formed.ranged r i.low i.high).branch_most in omega arith))
    (tree_traced o plain.formed.linked)
