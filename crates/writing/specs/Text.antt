-- The text and the pairs that an outline is written as.
use Rattle.std.specs.Prelude.{if◌then◌else◌, ℕ, List, [], ◌∷◌, ◌++◌}
use Rattle.outline.specs.Outline.{price, plate, is_taxon}
use Rattle.diversity.specs.Diversity.{clade}
use Rattle.text.specs.Text.{decimal, texts}
use Rattle.newick.specs.Grammar.{Kind, part, Tree, taxon, group, last, more}
use Rattle.newick.specs.Trees.{tree_of}

-- a tree in its one spelling: no blanks, tabs or line ends, no leading zeros, every length shown, members in their order.
-- Brackets are bytes 40 and 41, the comma is 44, the colon 58
unfoldable pub spelling : {κ : Kind} → Tree κ → List ℕ
spelling (taxon p l) = decimal p ++ (58 ∷ decimal l)
spelling (group ms l) = 40 ∷ (spelling ms ++ (41 ∷ 58 ∷ decimal l))
spelling (last t) = spelling t
spelling (more t ms) = spelling t ++ (44 ∷ spelling ms)

-- the semicolon, byte 59, ends it
unfoldable pub text_of : Tree part → List ℕ
text_of t = spelling t ++ (59 ∷ [])

-- an outline's text: its tree, members in chain order
abbrev pub outline_text : List ℕ → List ℕ
outline_text o = text_of (tree_of o)

-- a taxon's pair, plate then price; a group has none
unfoldable pub own_pair : List ℕ → ℕ → List ℕ
own_pair o r = if is_taxon o r then plate o r ∷ price o r ∷ [] else []

-- an outline's pairs, in text order: record 1, then all below it, each record before its members
unfoldable pub outline_pairs : List ℕ → List ℕ
outline_pairs o = texts (own_pair o) (clade o 1)
