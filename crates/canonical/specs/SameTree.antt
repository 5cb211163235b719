-- Two outlines are the same tree if a renumbering of records keeps each one's parent, length, price and plate field.
use Rattle.std.specs.Prelude.{ℕ, ◌≡◌, true, List}
use Rattle.lists.specs.Lists.{Bytes}
use Rattle.outline.specs.Outline.{size, branch, price, plate_field, IsRecord}
use Rattle.outline.specs.Answer.{is_accepted}
use Rattle.diversity.specs.Paths.{Parent}

-- an accepted outline: bytes that the check passes
pub record Accepted (o : List ℕ) : Type 0 where
  pub bytes : Bytes o
  pub passes : is_accepted o ≡ true

-- a renumbering of the records of o as those of p, and the way back. A record whose parent is q gets one whose parent is the record that q
-- gets; above record 1 there is none, which is 0 and stays 0. The plate field is kept whole, with its lock
pub record SameTree (o p : List ℕ) : Type 0 where
  pub sizes : size p ≡ size o
  pub to : ℕ → ℕ
  pub back : ℕ → ℕ
  pub to_record : (r : ℕ) → IsRecord o r → IsRecord p (to r)
  pub back_record : (r : ℕ) → IsRecord p r → IsRecord o (back r)
  pub back_to : (r : ℕ) → IsRecord o r → back (to r) ≡ r
  pub to_back : (r : ℕ) → IsRecord p r → to (back r) ≡ r
  pub none : to 0 ≡ 0
  pub parents : (q r : ℕ) → IsRecord o r → Parent o q r → Parent p (to q) (to r)
  pub branches : (r : ℕ) → IsRecord o r → branch p (to r) ≡ branch o r
  pub prices : (r : ℕ) → IsRecord o r → price p (to r) ≡ price o r
  pub plate_fields : (r : ℕ) → IsRecord o r → plate_field p (to r) ≡ plate_field o r
