-- The tree of an outline, by its links, and the records that no text can say.
use Rattle.std.specs.Prelude.{if◌then◌else◌, ℕ, zero, suc, Bool, ◌||◌, ◌&&◌, not, List, eqb, ltb}
use Rattle.outline.specs.Outline.{size, next, first, branch, price, plate, is_taxon, locked}
use Rattle.newick.specs.Grammar.{part, chain, Tree, taxon, group, last, more, most_number}

-- a record as a part: a taxon, or the group of the chain that its first begins
abbrev pub part_by : (ℕ → Tree chain) → List ℕ → ℕ → Tree part
part_by members o r = if is_taxon o r then taxon (plate o r) (branch o r) else group (members (first o r)) (branch o r)

-- the chain that begins at a record, its members in chain order; depth bounds how far to look
unfoldable pub chain_in : ℕ → List ℕ → ℕ → Tree chain
chain_in zero o r = last (taxon 0 0)
chain_in (suc depth) o r =
    if eqb (next o r) 0 then last (part_by (chain_in depth o) o r) else more (part_by (chain_in depth o) o r) (chain_in depth o (next o r))

-- links lead to later records, so that there are no more steps than records
unfoldable pub chain_of : List ℕ → ℕ → Tree chain
chain_of o r = chain_in (size o) o r

-- a record as a part, with all below it
abbrev pub part_of : List ℕ → ℕ → Tree part
part_of o r = part_by (chain_of o) o r

-- the tree of an outline: the part of record 1
abbrev pub tree_of : List ℕ → Tree part
tree_of o = part_of o 1

-- refusal 13: a heading price above 0, a lock, or a plate of more than 9 digits
unfoldable pub unwritable : List ℕ → ℕ → Bool
unwritable o r = (not (is_taxon o r) && ltb 0 (price o r)) || (locked o r || ltb most_number (plate o r))
