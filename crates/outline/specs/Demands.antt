-- The check's table of refusals in words, beside each row the table's word for it; and the words of what the finder promises.
use Rattle.std.specs.Prelude.{ℕ, ◌%◌, ◌≤◌, ◌<◌, ◌≡◌, ◌⊎◌, ◌≢◌, true, List, [], ◌∷◌, ◌++◌, length}
use Rattle.refusals.specs.Table.{Row, whole, lowest_at}
use Rattle.outline.specs.Outline.{size, plate, is_taxon}
use Rattle.outline.specs.Rules.{bad_field, bad_link, taxa, is_duplicate, most_records, most_taxa}

-- rows 2 and 3
abbrev pub size_table : List ℕ → List Row
size_table o =
    whole 2 ((length o ≡ 0) ⊎ (length o % 16 ≢ 0))  -- ragged
    ∷ whole 3 (most_records < size o)  -- thick
    ∷ []

-- rows 5 to 8
abbrev pub record_table : List ℕ → List Row
record_table o =
    lowest_at 5 (size o) (bad_field o)  -- field
    ∷ lowest_at 6 (size o) (bad_link o)  -- link
    ∷ whole 7 (most_taxa < taxa o)  -- crowd
    ∷ lowest_at 8 (size o) (is_duplicate o)  -- twin
    ∷ []

-- the check alone
abbrev pub check_table : List ℕ → List Row
check_table o = size_table o ++ record_table o

-- some taxon has plate p
pub record Holder (o : List ℕ) (p : ℕ) : Type 0 where
  pub at : ℕ
  pub low : 1 ≤ at
  pub high : at ≤ size o
  pub taxon : is_taxon o at ≡ true
  pub plated : plate o at ≡ p

-- bytes that are one record, that of a taxon with plate p
pub record Carries (p : ℕ) (bytes : List ℕ) : Type 0 where
  pub whole : length bytes ≡ 16
  pub taxon : is_taxon bytes 1 ≡ true
  pub plated : plate bytes 1 ≡ p
