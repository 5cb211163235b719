-- The lines of a selection, read from the curve and from the sheet.
use Rattle.std.specs.Prelude.{ℕ, ◌≡◌, List, [], ◌∷◌, replicate}
use Rattle.lists.specs.Lists.{from}
use Rattle.choice.specs.Answer.{diversity_at, cost_at}
use Rattle.sheet.specs.Answer.{call, judged}
use Rattle.sheet.specs.Demands as row
use Rattle.text.specs.Text.{line, texts}

-- column b, from the curve
unfoldable pub column_text : List ℕ → ℕ → List ℕ
column_text curve b = line (b ∷ diversity_at curve b ∷ cost_at curve b ∷ [])

-- row k, from the sheet
unfoldable pub taxon_text : List ℕ → ℕ → List ℕ
taxon_text sheet k = line (row.plate_at sheet k ∷ row.quarters_at sheet k ∷ row.diversity_at sheet k ∷ [])

-- all columns, and all rows
unfoldable pub columns_text : List ℕ → ℕ → List ℕ
columns_text curve width = texts (column_text curve) (from 0 width)

unfoldable pub taxa_text : List ℕ → ℕ → List ℕ
taxa_text sheet rows = texts (taxon_text sheet) (from 0 rows)

-- marks that `sheet` lists in the 192 numbers that the program lends
abbrev pub Listed : List ℕ → ℕ → List ℕ → Type 0
Listed o way marks = (judged (call o way marks (replicate 192 0))).number ≡ 0
