-- Worked cases of the two views: tree A with headings and locks, and refusals.
use Rattle.std.specs.Prelude.{ℕ, ◌≡◌, refl, List, [], ◌∷◌, ◌++◌, map, take, replicate}
use Rattle.lists.specs.Lists.{from, anywhere, total, lowest, over}
use Rattle.refusals.specs.Refusals.{Ruling, ruling, passed}
use Rattle.outline.specs.Outline.{short, long, records, bytes, record_bytes}
use Rattle.outline.specs.Answer.{size_rows, record_rows, checked}
use Rattle.text.specs.Text.{texts}
use Rattle.view.specs.Answer.{Call, call, judged, view_after}
use Rattle.view.specs.View.{house_view, buyer_record, buyer_view}
use Rattle.outline.specs.Rules.{bad_field, naming, named, bad_link, taxa_in, taxa, has_plate, is_duplicate}

-- tree A with the prices of its two groups and of record 5, and the plate fields of records 3 and 5
tree_a : ℕ → ℕ → ℕ → ℕ → ℕ → List ℕ
tree_a root group last third fifth =
    record_bytes 0 2 0 root 0
    ++ record_bytes 5 3 3 group 0
    ++ record_bytes 4 0 4 3 third
    ++ record_bytes 0 0 2 1 12
    ++ record_bytes 0 0 5 last fifth

-- headings of 1 and 4; plate 11 and the highest plate are locked
priced : List ℕ
priced = tree_a 1 4 65535 2147483659 4294967295

-- what a buyer's reader gets of it
cleared : List ℕ
cleared =
    record_bytes 0 2 0 0 0
    ++ record_bytes 5 3 3 0 0
    ++ record_bytes 4 0 4 0 11
    ++ record_bytes 0 0 2 0 12
    ++ record_bytes 0 0 5 0 2147483647

-- what a call is told, and the view after it, for a house reader and for a buyer's
pub record Case : Type 0 where
  pub given : Call
  pub ruling : Ruling
  pub house : List ℕ
  pub buyer : List ℕ

abbrev case : List ℕ → List ℕ → Ruling → List ℕ → List ℕ → Case
case outline view told house buyer = record { given = call outline view; ruling = told; house = house; buyer = buyer }

abbrev pub computed : Case → Case
computed x =
    record { given = x.given; ruling = judged x.given; house = view_after house_view x.given; buyer = view_after buyer_view x.given }

pub cases : List Case
cases =
    -- 80 bytes suffice; an 81st is unchanged
    case priced (replicate 80 9) passed priced cleared
    ∷ case priced (replicate 81 9) passed (priced ++ (9 ∷ [])) (cleared ++ (9 ∷ []))
    -- 79 do not
    ∷ case priced (replicate 79 9) (ruling 9 0) (replicate 79 9) (replicate 79 9)
    -- a price that is too high is refused to either reader, before a view that is too short
    ∷ case (tree_a 1 4 65536 11 13) (9 ∷ []) (ruling 5 5) (9 ∷ []) (9 ∷ [])
    -- and so is an outline that ends inside a record
    ∷ case (take 79 priced) (replicate 80 9) (ruling 2 0) (replicate 80 9) (replicate 80 9)
    ∷ []

-- each case of the list is what the definitions give for it
pub cases_hold : map computed cases ≡ cases
unfolding
    from anywhere total lowest over short long records bytes record_bytes bad_field naming named bad_link taxa_in taxa has_plate is_duplicate
    size_rows record_rows checked texts judged view_after buyer_record buyer_view tree_a priced cleared cases
cases_hold = refl
