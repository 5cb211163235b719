-- What the functions behind `quick` speak of: the way up from each record, the records that a set holds, what the others would add, and picks.
use Rattle.std.specs.Prelude.{if◌then◌else◌, ℕ, ◌+◌, ◌≤◌, ◌<◌, ◌^◌, ◌≡◌, ◌⊎◌, Bool, true, false, Option, None, Some, ◌||◌, ◌&&◌, not, List, length, get_or, set, replicate, eqb, ltb, leb}
use Rattle.outline.specs.Inner.{numbers}
use Rattle.outline.specs.Outline.{size, branch, price, is_taxon, IsRecord}
use Rattle.outline.specs.WellFormed.{WellFormed}
use Rattle.outline.specs.Rules.{most_records}
use Rattle.diversity.specs.Diversity.{chosen, within, diversity, cost}
use Rattle.diversity.specs.Behind.{IsSet, Fits}
use Rattle.diversity.specs.Paths.{Parent}
use Rattle.laws.specs.Locks.{locked_set}
use Rattle.quick.specs.Quick.{added, added_cost, in_hand, picked, after_picks, quick}
use Rattle.quick.specs.Answer.{Figures, figures_of}
use Rattle.quick.specs.declared.picker.Pick.{Pick}
use Rattle.quick.specs.declared.sums.Sums.{Sums}
use Rattle.quick.specs.declared.ways.Ways.{Ways}

-- ---- the way up
-- a table has the parent of each record
pub record Parents (o parents : List ℕ) : Type 0 where
  pub long : length parents ≡ numbers
  pub at_record : (r : ℕ) → IsRecord o r → Parent o (get_or parents r 0) r

-- of the records up to n each has its parent before it
abbrev pub Earlier : ℕ → List ℕ → Type 0
Earlier n parents = (r : ℕ) → 1 ≤ r → r ≤ n → get_or parents r 0 < r

-- r is on the way up from t that a table leads
pub data Up (parents : List ℕ) (t : ℕ) : ℕ → Type 0 where
  itself : Up parents t t
  onward : {q : ℕ} → Up parents t q → 1 ≤ q → Up parents t (get_or parents q 0)

-- ---- what a set holds
-- a table tells of each record whether the set has a taxon at or below it
pub record HeldIn (o s : List ℕ) (held : List Bool) : Type 0 where
  pub long : length held ≡ numbers
  pub at_record : (r : ℕ) → IsRecord o r → get_or held r false ≡ within o s r

-- a way up that can be gone: above a record that is held each is held
pub record Rising (w : Ways) (t : ℕ) : Type 0 where
  pub small : t < numbers
  pub earlier : Earlier t w.parents
  pub long : length w.held ≡ numbers
  pub closed : (r : ℕ) → 1 ≤ r → r ≤ t → get_or w.held r false ≡ true → 1 ≤ get_or w.parents r 0
      → get_or w.held (get_or w.parents r 0) false ≡ true

-- record r is on the way up from t and is held; or it is held as before, and if it is on that way, then P
abbrev pub JoinedAt : List ℕ → ℕ → List Bool → List Bool → ℕ → Type 0 → Type 0
JoinedAt parents t old new r P =
    (Up parents t r × (get_or new r false ≡ true)) ⊎ ((Up parents t r → P) × (get_or new r false ≡ get_or old r false))

-- what is on the way up is held, and the others as before
pub record Joined (old : Ways) (t : ℕ) (new : Ways) : Type 0 where
  pub parents_kept : new.parents ≡ old.parents
  pub long : length new.held ≡ length old.held
  pub each : (r : ℕ) → 1 ≤ r → JoinedAt old.parents t old.held new.held r (get_or old.held r false ≡ true)

-- an accepted outline, and the marks of a set of taxa, one for each record
pub record Markable (o s : List ℕ) : Type 0 where
  pub formed : WellFormed o
  pub is_set : IsSet o s

-- with the way up from each record, and the records that the set holds
pub record HasHeld (o s : List ℕ) (w : Ways) : Type 0 where
  pub base : Markable o s
  pub parents_are : Parents o w.parents
  pub held_are : HeldIn o s w.held

-- ---- what a record would add
-- a table has the gains of the records before r, and nothing else
pub record GainsUpTo (gain : ℕ → ℕ) (r : ℕ) (table : List ℕ) : Type 0 where
  pub long : length table ≡ numbers
  pub none : get_or table 0 0 ≡ 0
  pub before : (q : ℕ) → 1 ≤ q → q < r → get_or table q 0 ≡ gain q
  pub rest : (q : ℕ) → r ≤ q → get_or table q 0 ≡ 0

-- in diversity, and in quarters
pub record SumsUpTo (o s : List ℕ) (r : ℕ) (sums : Sums) : Type 0 where
  pub added_are : GainsUpTo (added o s) r sums.added
  pub costs_are : GainsUpTo (added_cost o s) r sums.costs

-- nothing yet
pub record NoSums (sums : Sums) : Type 0 where
  pub added_are : sums.added ≡ replicate numbers 0
  pub costs_are : sums.costs ≡ replicate numbers 0

-- both tables have a number for each record
pub record SumsLong (sums : Sums) : Type 0 where
  pub added_long : length sums.added ≡ numbers
  pub costs_long : length sums.costs ≡ numbers

-- record r's branch and price can be added to what its parent adds
pub record CanAdd (o parents : List ℕ) (sums : Sums) (r : ℕ) : Type 0 where
  pub few : size o ≤ most_records
  pub is_record : IsRecord o r
  pub parent_before : get_or parents r 0 < r
  pub lengths : SumsLong sums
  pub added_fits : get_or sums.added (get_or parents r 0) 0 + branch o r < 2 ^ 32
  pub costs_fit : get_or sums.costs (get_or parents r 0) 0 + price o r < 2 ^ 32

-- and are
pub record AddedUp (o parents : List ℕ) (r : ℕ) (old new : Sums) : Type 0 where
  pub added_set : new.added ≡ set old.added r (get_or old.added (get_or parents r 0) 0 + branch o r)
  pub costs_set : new.costs ≡ set old.costs r (get_or old.costs (get_or parents r 0) 0 + price o r)

-- ---- one pick
-- t is picked rather than u, by what they add
abbrev pub rather_by : ℕ → ℕ → ℕ → ℕ → ℕ → ℕ → Bool
rather_by at au ct cu t u = ltb au at || (eqb at au && (ltb ct cu || (eqb ct cu && ltb t u)))

-- two tables have what record t would add
abbrev pub Known : List ℕ → List ℕ → Sums → ℕ → Type 0
Known o s sums t = (get_or sums.added t 0 ≡ added o s t) × (get_or sums.costs t 0 ≡ added_cost o s t)

pub record KnownAt (o s : List ℕ) (sums : Sums) (t : ℕ) : Type 0 where
  pub base : Markable o s
  pub is_record : IsRecord o t
  pub lengths : SumsLong sums
  pub known : Known o s sums t

-- and what the record in hand would, if one is
pub record HandAt (o s : List ℕ) (sums : Sums) (hand t : ℕ) : Type 0 where
  pub at : KnownAt o s sums t
  pub hand_most : hand ≤ size o
  pub hand_known : 1 ≤ hand → Known o s sums hand

-- record r is the next to be looked at
pub record LookAt (o s : List ℕ) (w : Ways) (sums : Sums) (r : ℕ) : Type 0 where
  pub ready : HasHeld o s w
  pub is_record : IsRecord o r
  pub sums_are : SumsUpTo o s r sums

-- it was, and v is in hand
pub record LookedAt (o s : List ℕ) (b : ℕ) (sums : Sums) (hand r v : ℕ) : Type 0 where
  pub hand_is : v ≡ in_hand o b s hand r
  pub sums_are : SumsUpTo o s (r + 1) sums

-- all were, and the next pick is in hand, with the quarters that it adds
pub record InHand (o : List ℕ) (b : ℕ) (s : List ℕ) (sums : Sums) (hand : ℕ) : Type 0 where
  pub hand_is : hand ≡ picked o b s
  pub hand_most : hand ≤ size o
  pub quarters_are : 1 ≤ hand → get_or sums.costs hand 0 ≡ added_cost o s hand

-- the pick of taxon t, with the quarters that it adds; none for 0
abbrev pub pick_of : List ℕ → List ℕ → ℕ → Option Pick
pick_of o s t = if eqb t 0 then None else Some (record { taxon = t; quarters = added_cost o s t })

-- ---- the picks
-- a set that fits page count b
pub record PicksFit (o : List ℕ) (b : ℕ) (s : List ℕ) (w : Ways) : Type 0 where
  pub ready : HasHeld o s w
  pub fits : Fits o b s

-- the set after at most k picks
pub record PicksDone (o : List ℕ) (b k : ℕ) (s after : List ℕ) (w : Ways) : Type 0 where
  pub set_is : after ≡ after_picks o b k s
  pub ready : HasHeld o after w

-- ---- the ceiling
-- what record t counts for in it
abbrev pub ceiling_part : List ℕ → ℕ → List ℕ → ℕ → ℕ
ceiling_part o b s t = if is_taxon o t && (not (chosen s t) && leb (price o t) b) then added o s t else 0

-- record r was looked at, and counts for v
pub record PartAt (o : List ℕ) (b : ℕ) (s : List ℕ) (sums : Sums) (r v : ℕ) : Type 0 where
  pub part_is : v ≡ ceiling_part o b s r
  pub sums_are : SumsUpTo o s (r + 1) sums

-- a marked set, with its diversity
pub record Bounded (o s : List ℕ) (w : Ways) (d : ℕ) : Type 0 where
  pub ready : HasHeld o s w
  pub diversity_is : d ≡ diversity o 0 s

-- ---- a choice
-- a mark for each record, and locked taxa that fit
pub record Fillable (o : List ℕ) (b : ℕ) (marks : List ℕ) : Type 0 where
  pub formed : WellFormed o
  pub long : length marks ≡ size o
  pub locked_fit : cost o (locked_set o) ≤ b

-- what marking and measuring the choice gives
pub record Filled (o : List ℕ) (b k : ℕ) (told : Figures) (marks : List ℕ) : Type 0 where
  pub told_figures : told ≡ figures_of o b (quick o b k)
  pub marks_are : marks ≡ quick o b k
