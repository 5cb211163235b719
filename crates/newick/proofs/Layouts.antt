-- The records of a tree: one at least, of sixteen bytes each.
use Prim.Native.Nat.{ℕ, ◌+◌, ◌*◌, ◌≤◌}
use mathlib.Core.Path.{◌≡◌, ◌∙◌}
use native.Mathlib.Omega.{arith}
use lib.ListN.{length, length-append}
use Rattle.outline.specs.Outline.{record_bytes}
use Rattle.records.proofs.Records.{record_length}
use Rattle.newick.specs.Grammar.{Kind, Tree, taxon, group, last, more}
use Rattle.newick.specs.Layout.{count, rows}

-- a tree has a record
pub count_some : {κ : Kind} (t : Tree κ) → 1 ≤ count t
count_some (taxon p l) = omega arith
count_some (group ms l) = omega arith
count_some (last t) = count_some t
count_some (more t ms) = omega (arith, count_some t)

-- its records have sixteen bytes each
pub rows_length : (price : ℕ → ℕ) {κ : Kind} (t : Tree κ) (k next : ℕ) → length (rows price t k next) ≡ 16 * count t
unfolding rows
rows_length price (taxon p l) k next = record_length next 0 l (price p) p
rows_length price (group ms l) k next =
    length-append (record_bytes next (k + 1) l 0 0) (rows price ms (k + 1) 0)
    ∙ omega (arith, record_length next (k + 1) l 0 0, rows_length price ms (k + 1) 0)
rows_length price (last t) k next = rows_length price t k next
rows_length price (more t ms) k next =
    length-append (rows price t k (k + count t)) (rows price ms (k + count t) next)
    ∙ omega (arith, rows_length price t k (k + count t), rows_length price ms (k + count t) next)
