-- The words of what is promised of a call of `view_house` or of `view_buyer`, and of two buyers' calls.
use Rattle.std.specs.Prelude.{ℕ, ◌≤◌, ◌<◌, ◌≡◌, List, [], ◌∷◌, ◌++◌, length, take, drop}
use Rattle.refusals.specs.Refusals.{Ruling, passed}
use Rattle.refusals.specs.Table.{Row, whole, Decided}
use Rattle.outline.specs.Outline.{size, next, first, branch, price, plate_field, plate, IsRecord}
use Rattle.outline.specs.Answer.{checked}
use Rattle.outline.specs.Demands.{check_table}
use Rattle.view.specs.Answer.{Call, view_taken}

-- the table of a call, in the order in which it is judged: the check's rows, 9
abbrev pub view_table : Call → List Row
view_table c = check_table c.outline ++ (whole 9 (length c.view < view_taken c) ∷ [])

-- demand 1: no refusal, and no row of the table holds (what is then written: `HouseGiven`, `BuyerGiven`); or exactly one refusal of the
-- table, under its condition only, and then the view is unchanged. There are no other numbers
abbrev pub ShownOrRefused : Call → Ruling → List ℕ → Type 1
ShownOrRefused c t view = Decided (view_table c) t [] (c.view ∷ []) (view ∷ [])

-- the bytes that a reader gets, and those past them
abbrev pub reader_bytes : Call → List ℕ → List ℕ
reader_bytes c view = take (view_taken c) view

abbrev pub bytes_past : Call → List ℕ → List ℕ
bytes_past c view = drop (view_taken c) view

-- a house reader gets the outline's bytes, and what is past them is unchanged
pub record HouseGiven (c : Call) (view : List ℕ) : Type 0 where
  pub accepted : checked c.outline ≡ passed
  pub bytes_are : reader_bytes c view ≡ c.outline
  pub past_same : bytes_past c view ≡ bytes_past c c.view

-- record r of what a buyer's reader gets: the links, the length and the plate of the outline's, price 0, and a field that is its plate
-- alone, so that no lock stands there
pub record Cleared (o seen : List ℕ) (r : ℕ) : Type 0 where
  pub next_same : next seen r ≡ next o r
  pub first_same : first seen r ≡ first o r
  pub branch_same : branch seen r ≡ branch o r
  pub price_none : price seen r ≡ 0
  pub plate_same : plate seen r ≡ plate o r
  pub lock_none : plate_field seen r ≡ plate seen r

-- what a buyer's reader gets is an outline that the check accepts, with as many records, each of them cleared; and what is past it is
-- unchanged
pub record BuyerGiven (c : Call) (view : List ℕ) : Type 0 where
  pub accepted : checked c.outline ≡ passed
  pub also_accepted : checked (reader_bytes c view) ≡ passed
  pub size_same : size (reader_bytes c view) ≡ size c.outline
  pub cleared : (r : ℕ) → IsRecord c.outline r → Cleared c.outline (reader_bytes c view) r
  pub past_same : bytes_past c view ≡ bytes_past c c.view

-- two outlines agree except in prices and locks: record by record they have the same links, the same length and the same plate
pub record AgreeButPricesAndLocks (o p : List ℕ) : Type 0 where
  pub sizes : size o ≡ size p
  pub nexts : (r : ℕ) → IsRecord o r → next o r ≡ next p r
  pub firsts : (r : ℕ) → IsRecord o r → first o r ≡ first p r
  pub branches : (r : ℕ) → IsRecord o r → branch o r ≡ branch p r
  pub plates : (r : ℕ) → IsRecord o r → plate o r ≡ plate p r

-- two calls on accepted outlines that agree except in prices and locks
pub record BuyersCalls (c d : Call) : Type 0 where
  pub accepted : checked c.outline ≡ passed
  pub also_accepted : checked d.outline ≡ passed
  pub agree : AgreeButPricesAndLocks c.outline d.outline

-- a call's view has the bytes that it needs
abbrev pub ViewSuffices : Call → Type 0
ViewSuffices c = view_taken c ≤ length c.view

-- neither call is refused, and both readers get the same bytes
pub record SameBytes (c d : Call) (t u : Ruling) (view view' : List ℕ) : Type 0 where
  pub told_passed : t ≡ passed
  pub also_passed : u ≡ passed
  pub identical : reader_bytes c view ≡ reader_bytes d view'
