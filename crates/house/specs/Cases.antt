-- Worked calls of `house_form` and of `compare`: a tree of three records shuffled, and refusals.
use Rattle.std.specs.Prelude.{ℕ, ◌≡◌, refl, List, [], ◌∷◌, ◌++◌, map, take, replicate}
use Rattle.std.specs.declared.cmp.Ordering.{Ordering}
use Rattle.std.specs.declared.cmp.Ordering.TheVariants.{Less, Equal, Greater}
use Rattle.lists.specs.Lists.{from, anywhere, total, lowest, over}
use Rattle.refusals.specs.Refusals.{Ruling, ruling, passed}
use Rattle.refusals.specs.Reply.{Reply, granted, refused}
use Rattle.outline.specs.Outline.{short, long, records, bytes, record_bytes}
use Rattle.outline.specs.Answer.{size_rows, record_rows, checked}
use Rattle.outline.specs.Rules.{bad_field, naming, named, bad_link, taxa_in, taxa, has_plate, is_duplicate}
use Rattle.diversity.specs.Diversity.{chain, clade}
use Rattle.laws.specs.Forest.{shape, tree}
use Rattle.canonical.specs.House.{smaller, smallest_of, smallest, put, sorted, written, house_form}
use Rattle.house.specs.Answer.{Call, call, judged, form_after}
use Rattle.house.specs.Compared as compare

-- two taxa under a root: the fields of the first and of the second, and the length of the second's branch
pair : ℕ → ℕ → ℕ → List ℕ
pair first second length = record_bytes 0 2 0 0 0 ++ record_bytes 3 0 5 1 first ++ record_bytes 0 0 length 2 second

-- ---- house forms
-- what a call is told, and the form after it
pub record Case : Type 0 where
  pub given : Call
  pub ruling : Ruling
  pub form : List ℕ

abbrev case : List ℕ → List ℕ → Ruling → List ℕ → Case
case outline form told after = record { given = call outline form; ruling = told; form = after }

abbrev pub computed : Case → Case
computed x = record { given = x.given; ruling = judged x.given; form = form_after x.given }

-- plate 12 and the locked plate 11, in house order
ordered : List ℕ
ordered = record_bytes 0 2 0 0 0 ++ record_bytes 3 0 7 2 2147483659 ++ record_bytes 0 0 5 1 12

pub cases : List Case
cases =
    -- 48 bytes suffice; a 49th is unchanged
    case (pair 12 2147483659 7) (replicate 48 9) passed ordered
    ∷ case (pair 12 2147483659 7) (replicate 49 9) passed (ordered ++ (9 ∷ []))
    -- 47 do not
    ∷ case (pair 12 2147483659 7) (replicate 47 9) (ruling 9 0) (replicate 47 9)
    -- a length that is too great is refused before a form that is too short
    ∷ case (pair 12 11 1000001) (9 ∷ []) (ruling 5 3) (9 ∷ [])
    ∷ []

-- ---- orders
-- what a call is told, and the two forms after it
pub record Comparison : Type 0 where
  pub given : compare.Call
  pub told : Reply Ordering
  pub first_form : List ℕ
  pub second_form : List ℕ

abbrev comparison : List ℕ → List ℕ → List ℕ → List ℕ → Reply Ordering → List ℕ → List ℕ → Comparison
comparison a b form_a form_b told after_a after_b =
    record { given = compare.call a b form_a form_b; told = told; first_form = after_a; second_form = after_b }

abbrev pub compared : Comparison → Comparison
compared x = record {
  given = x.given;
  told = compare.reply x.given;
  first_form = compare.first_after x.given;
  second_form = compare.second_after x.given;
}

nines : List ℕ
nines = replicate 48 9

pub comparisons : List Comparison
comparisons =
    -- the same tree, with its members shuffled
    comparison (pair 12 11 5) (record_bytes 0 2 0 0 0 ++ record_bytes 3 0 5 2 11 ++ record_bytes 0 0 5 1 12) nines nines (granted Equal)
    (record_bytes 0 2 0 0 0 ++ record_bytes 3 0 5 2 11 ++ record_bytes 0 0 5 1 12) (record_bytes 0 2 0 0 0 ++ record_bytes 3 0 5 2 11 ++ record_bytes 0 0 5 1 12)
    -- lengths of 5 and 6, and the other way round
    ∷ comparison (pair 11 12 5) (pair 11 12 6) nines nines (granted Less) (pair 11 12 5) (pair 11 12 6)
    ∷ comparison (pair 11 12 6) (pair 11 12 5) nines nines (granted Greater) (pair 11 12 6) (pair 11 12 5)
    -- both are refused: the first's refusal, before forms that are too short
    ∷ comparison (pair 11 12 1000001) (pair 0 12 5) [] [] (refused Equal (ruling 5 3)) [] []
    -- the second is refused, before forms that are too short
    ∷ comparison (pair 11 12 5) (pair 0 12 5) [] [] (refused Equal (ruling 5 2)) [] []
    -- either form is too short: neither is written
    ∷ comparison (pair 11 12 5) (pair 11 12 6) (take 47 nines) nines (refused Equal (ruling 9 0)) (take 47 nines) nines
    ∷ comparison (pair 11 12 5) (pair 11 12 6) nines (take 47 nines) (refused Equal (ruling 9 0)) nines (take 47 nines)
    ∷ []

-- each case of the lists is what the definitions give for it
pub cases_hold : (map computed cases ≡ cases) × (map compared comparisons ≡ comparisons)
unfolding
    from anywhere total lowest over short long records bytes record_bytes bad_field naming named bad_link taxa_in taxa has_plate is_duplicate
    size_rows record_rows checked chain clade shape tree smaller smallest_of smallest put sorted written house_form judged form_after
    compare.too_short compare.judged compare.reply compare.first_after compare.second_after pair ordered cases nines comparisons
cases_hold = (refl, refl)
