-- What an accepted outline keeps: its size, its fields, its links, at most 64 taxa, and no plate twice.
use Rattle.std.specs.Prelude.{ℕ, ◌*◌, ◌≤◌, ◌<◌, ◌≡◌, true, false, List, length}
use Rattle.outline.specs.Outline.{size, next, first, branch, price, plate_field, plate, is_taxon}
use Rattle.outline.specs.Rules.{most_records, most_taxa, most_length, most_price, named, taxa}

-- q is 0, or the number of a record after r
pub record Later (o : List ℕ) (r q : ℕ) : Type 0 where
  pub later : 0 < q → r < q
  pub most : q ≤ size o

-- the links: each leads to a later record, the root has no next, and each other record is named by exactly one link
pub record Linked (o : List ℕ) : Type 0 where
  pub filled : 1 ≤ size o
  pub next_later : (r : ℕ) → 1 ≤ r → r ≤ size o → Later o r (next o r)
  pub first_later : (r : ℕ) → 1 ≤ r → r ≤ size o → Later o r (first o r)
  pub root_alone : next o 1 ≡ 0
  pub named_once : (q : ℕ) → 2 ≤ q → q ≤ size o → named o q ≡ 1

-- the fields of record r are in their ranges
pub record Ranged (o : List ℕ) (r : ℕ) : Type 0 where
  pub branch_most : branch o r ≤ most_length
  pub price_most : price o r ≤ most_price
  pub taxon_plate : is_taxon o r ≡ true → 1 ≤ plate o r
  pub group_plate : is_taxon o r ≡ false → plate_field o r ≡ 0

-- every rule that the check asks
pub record WellFormed (o : List ℕ) : Type 0 where
  pub whole : length o ≡ 16 * size o
  pub size_most : size o ≤ most_records
  pub ranged : (r : ℕ) → 1 ≤ r → r ≤ size o → Ranged o r
  pub linked : Linked o
  pub taxa_most : taxa o ≤ most_taxa
  pub plates_differ : (q r : ℕ) → 1 ≤ q → q ≤ size o → 1 ≤ r → r ≤ size o
      → is_taxon o q ≡ true → is_taxon o r ≡ true → plate o q ≡ plate o r → q ≡ r
