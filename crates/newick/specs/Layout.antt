-- A tree as an outline: its records in the order in which their parts begin.
use Rattle.std.specs.Prelude.{ℕ, ◌+◌, List, [], ◌∷◌, ◌++◌}
use Rattle.outline.specs.Outline.{record_bytes}
use Rattle.newick.specs.Grammar.{Kind, part, Tree, taxon, group, last, more}

-- how many records a tree has
abbrev pub count : {κ : Kind} → Tree κ → ℕ
count (taxon p l) = 1
count (group ms l) = count ms + 1
count (last t) = count t
count (more t ms) = count t + count ms

-- the plates of its taxa
unfoldable pub plates : {κ : Kind} → Tree κ → List ℕ
plates (taxon p l) = p ∷ []
plates (group ms l) = plates ms
plates (last t) = plates t
plates (more t ms) = plates t ++ plates ms

-- the records of a tree, the first of them number k, with the next of its last member, and a price for each plate: a record is
-- numbered as its part begins, so that a group's first member is the record after it, and the next of a member is the record of
-- the part after the comma
unfoldable pub rows : (ℕ → ℕ) → {κ : Kind} → Tree κ → ℕ → ℕ → List ℕ
rows price (taxon p l) k next = record_bytes next 0 l (price p) p
rows price (group ms l) k next = record_bytes next (k + 1) l 0 0 ++ rows price ms (k + 1) 0
rows price (last t) k next = rows price t k next
rows price (more t ms) k next = rows price t k (k + count t) ++ rows price ms (k + count t) next

-- the outline of a tree
unfoldable pub layout : (ℕ → ℕ) → Tree part → List ℕ
layout price t = rows price t 1 0
