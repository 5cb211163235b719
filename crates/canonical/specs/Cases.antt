-- Worked house forms: tree A with its members shuffled, its records renumbered, a heading and locks; plates that only their locks would turn
-- round; a group that stands where its smallest plate does.
use Rattle.std.specs.Prelude.{ℕ, ◌≡◌, refl, List, [], ◌∷◌, ◌++◌, map}
use Rattle.outline.specs.Outline.{short, long, bytes, record_bytes}
use Rattle.diversity.specs.Diversity.{chain, clade}
use Rattle.laws.specs.Forest.{shape, tree}
use Rattle.canonical.specs.House.{smaller, smallest_of, smallest, put, sorted, written, house_form}

-- an outline, and its house form
pub record Case : Type 0 where
  pub outline : List ℕ
  pub form : List ℕ

abbrev case : List ℕ → List ℕ → Case
case outline form = record { outline = outline; form = form }

abbrev pub computed : Case → Case
computed x = record { outline = x.outline; form = house_form x.outline }

-- tree A with a heading of 4 at its second group, and plate 11 locked
tree_a : List ℕ
tree_a =
    record_bytes 0 2 0 0 0
    ++ record_bytes 5 3 3 4 0
    ++ record_bytes 4 0 4 3 2147483659
    ++ record_bytes 0 0 2 1 12
    ++ record_bytes 0 0 5 2 13

-- the same tree: plate 13 before the group, plate 12 before plate 11, and the group's members the last records
shuffled : List ℕ
shuffled =
    record_bytes 0 2 0 0 0
    ++ record_bytes 3 0 5 2 13
    ++ record_bytes 0 4 3 4 0
    ++ record_bytes 5 0 2 1 12
    ++ record_bytes 0 0 4 3 2147483659

pub cases : List Case
cases =
    case shuffled tree_a
    -- the house form of a house form is itself
    ∷ case tree_a tree_a
    -- a lone taxon keeps its lock
    ∷ case (record_bytes 0 0 0 0 3487356841) (record_bytes 0 0 0 0 3487356841)
    -- plate 921795984 comes before plate 1575935438, though it is locked
    ∷ case
    (record_bytes 0 2 0 0 0 ++ record_bytes 3 0 1 1 1575935438 ++ record_bytes 0 0 2 2 3069279632)
    (record_bytes 0 2 0 0 0 ++ record_bytes 3 0 2 2 3069279632 ++ record_bytes 0 0 1 1 1575935438)
    -- plates 1 and 9 of a group: it comes before plate 5, by the smaller
    ∷ case
    (record_bytes 0 2 0 0 0 ++ record_bytes 3 0 1 1 5 ++ record_bytes 0 4 2 0 0 ++ record_bytes 5 0 3 1 9 ++ record_bytes 0 0 4 1 1)
    (record_bytes 0 2 0 0 0 ++ record_bytes 5 3 2 0 0 ++ record_bytes 4 0 4 1 1 ++ record_bytes 0 0 3 1 9 ++ record_bytes 0 0 1 1 5)
    ∷ []

-- each case of the list is what the definitions give for it
pub cases_hold : map computed cases ≡ cases
unfolding
    short long bytes record_bytes chain clade shape tree smaller smallest_of smallest put sorted written house_form tree_a shuffled cases
cases_hold = refl
