-- What the functions behind `write` speak of.
use Rattle.std.specs.Prelude.{if◌then◌else◌, ℕ, ◌+◌, ◌≤◌, ◌≡◌, true, List, [], ◌∷◌, ◌++◌, length, eqb}
use Rattle.outline.specs.Outline.{size, next, branch, plate, is_taxon}
use Rattle.outline.specs.Answer.{is_accepted}
use Rattle.diversity.specs.Diversity.{chain}
use Rattle.text.specs.Text.{decimal, texts}
use Rattle.writing.specs.Text.{spelling, own_pair, outline_text, outline_pairs}
use Rattle.newick.specs.Trees.{chain_of}

-- the text and the pairs of the chain that a link begins: none for 0
abbrev pub chain_text : List ℕ → ℕ → List ℕ
chain_text o r = if eqb r 0 then [] else spelling (chain_of o r)

abbrev pub chain_pairs : List ℕ → ℕ → List ℕ
chain_pairs o r = texts (own_pair o) (chain (size o) o r)

-- what stands in the text of a record before its members, and after them
unfoldable pub head : List ℕ → ℕ → List ℕ
head o r = if is_taxon o r then decimal (plate o r) else 40 ∷ []

unfoldable pub tail : List ℕ → ℕ → List ℕ
tail o r = (if is_taxon o r then [] else 41 ∷ []) ++ (58 ∷ (decimal (branch o r) ++ (if eqb (next o r) 0 then [] else 44 ∷ [])))

-- how many bytes of the text are a record's own
abbrev pub own_bytes : List ℕ → ℕ → ℕ
own_bytes o r = length (head o r) + length (tail o r)

-- an outline that the check accepts, and a link of it: 0, or a record
pub record Along (o : List ℕ) (r : ℕ) : Type 0 where
  pub accepted : is_accepted o ≡ true
  pub most : r ≤ size o

-- an accepted outline, and room for its text and its pairs
pub record Writable (o text pairs : List ℕ) : Type 0 where
  pub accepted : is_accepted o ≡ true
  pub text_room : length (outline_text o) ≤ length text
  pub pairs_room : length (outline_pairs o) ≤ length pairs
