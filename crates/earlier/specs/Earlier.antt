-- The definitions as they were before document 02's §4 let a taxon be locked, in two editions: document 01's, and the one after §2 let a
-- group have a price. They are kept for one statement, that outlines which a request does not concern give what they gave (Before); no
-- contract rests on them. Here is what hangs on the plate field, on the range of a group's price, on the cost or on what fits; all other
-- definitions are as they were.
use Rattle.std.specs.Prelude.{if◌then◌else◌, ℕ, zero, suc, ◌+◌, ◌*◌, ◌-◌, Bool, ◌||◌, ◌&&◌, not, take, drop, replicate, eqb, ltb, leb}
use mathlib.Core.List.{List, [], foldl}
use Rattle.lists.specs.Lists.{from, anywhere, lowest}
use Rattle.refusals.specs.Refusals.{Ruling, ◌▸◌, row, row_at, after}
use Rattle.refusals.specs.Reply.{Reply, replied}
use Rattle.outline.specs.Outline.{size, records, branch, price, plate_field, is_taxon}
use Rattle.outline.specs.Answer.{size_rows}
use Rattle.diversity.specs.Diversity.{diversity, cost as cost_with_headings, chosen_taxa}
use Rattle.diversity.specs.Headings.{prices_chosen}
use Rattle.diversity.specs.Search.{subsets, leads, Incumbent, nothing, holding, set_of}
use Rattle.choice.specs.declared.answer.Figures.{Figures}
use Rattle.choice.specs.Answer.{Call, no_figures, most_count, work_taken, too_short, columns}
use Rattle.outline.specs.Rules.{bad_link, taxa, most_taxa}

-- bytes 12 to 15: the plate's number
abbrev pub plate : List ℕ → ℕ → ℕ
plate o r = plate_field o r

-- ---- what the editions differ in: refusal 5, length, price or plate outside its range, and the cost of a set
pub record Edition : Type 0 where
  pub bad_field : List ℕ → ℕ → Bool
  pub cost : List ℕ → List ℕ → ℕ

-- a taxon's plate is not 0, a group's price and plate are; the sum of the set's prices
unfoldable pub bad_field_first : List ℕ → ℕ → Bool
bad_field_first o r =
    let bad_taxon = ltb 65535 (price o r) || eqb (plate o r) 0 in
    let bad_group = not (eqb (price o r) 0) || not (eqb (plate o r) 0) in
    ltb 1000000 (branch o r) || (if is_taxon o r then bad_taxon else bad_group)

abbrev pub document01 : Edition
document01 = record { bad_field = bad_field_first; cost = prices_chosen }

-- a taxon's plate is not 0, a group's is; headings included
unfoldable pub bad_field_priced : List ℕ → ℕ → Bool
bad_field_priced o r =
    let bad_plate = if is_taxon o r then eqb (plate o r) 0 else not (eqb (plate o r) 0) in
    ltb 1000000 (branch o r) || (ltb 65535 (price o r) || bad_plate)

abbrev pub with_headings : Edition
with_headings = record { bad_field = bad_field_priced; cost = cost_with_headings }

-- record r is the taxon of plate p
unfoldable pub has_plate : List ℕ → ℕ → ℕ → Bool
has_plate o p r = is_taxon o r && eqb (plate o r) p

-- refusal 8: the plate is already at an earlier taxon
unfoldable pub is_duplicate : List ℕ → ℕ → Bool
is_duplicate o r = anywhere (has_plate o (plate o r)) (from 1 (r - 1))

-- how many columns next to column b on its left have diversity d, read leftwards until it drops, and at most to column 0
unfoldable pub columns_alike : (ℕ → ℕ) → ℕ → ℕ → ℕ
columns_alike curve d zero = 0
columns_alike curve d (suc b) = if eqb (curve b) d then suc (columns_alike curve d b) else 0

module _ (e : Edition) where
  -- ---- the check and the finder
  -- rows 5 to 8
  unfoldable pub record_rows : List ℕ → Ruling
  record_rows o =
      row_at 5 (e.bad_field o) (size o)
      ▸ row_at 6 (bad_link o) (size o)
      ▸ row 7 (ltb most_taxa (taxa o))
      ▸ row_at 8 (is_duplicate o) (size o)

  -- what the check alone gives
  unfoldable pub checked : List ℕ → Ruling
  checked o = size_rows o ▸ record_rows o

  -- no row holds
  abbrev pub is_accepted : List ℕ → Bool
  is_accepted o = eqb (checked o).number 0

  -- the record of the taxon of plate p; 0 if the outline is refused or no taxon has the plate
  unfoldable pub found_at : List ℕ → ℕ → ℕ
  found_at o p = if is_accepted o then lowest (has_plate o p) (records o) else 0

  -- its 16 bytes; none if there is no such record
  unfoldable pub found : List ℕ → ℕ → List ℕ
  found o p = if eqb (found_at o p) 0 then [] else take 16 (drop (16 * (found_at o p - 1)) o)

  -- ---- the exhaustive search
  -- s is better than t: more diversity first, then fewer quarters, then the lowest-numbered taxon on which they differ
  unfoldable pub better : List ℕ → ℕ → List ℕ → List ℕ → Bool
  better o way s t =
      let ds = diversity o way s in
      let dt = diversity o way t in
      let cs = e.cost o s in
      let ct = e.cost o t in
      ltb dt ds || (eqb ds dt && (ltb cs ct || (eqb cs ct && leads s t)))

  -- a set that doesn't fit page count b is passed over; one that fits is taken in hand if nothing is there, or if it is better
  -- than the one there
  unfoldable pub turn : List ℕ → ℕ → ℕ → Incumbent → List ℕ → Incumbent
  turn o way b nothing s = if leb (e.cost o s) b then holding s else nothing
  turn o way b (holding t) s = if leb (e.cost o s) b && better o way s t then holding s else holding t

  -- the search starts with nothing in hand and goes through every subset of the taxa
  unfoldable pub exhaustive_search : List ℕ → ℕ → ℕ → Incumbent
  exhaustive_search o way b = foldl (turn o way b) nothing (subsets o (records o))

  -- the set in hand after the last subset
  unfoldable pub optimum : List ℕ → ℕ → ℕ → List ℕ
  optimum o way b = set_of (exhaustive_search o way b)

  -- column b of the curve: the diversity of the set in hand, then its cost
  unfoldable pub best_diversity : List ℕ → ℕ → ℕ → ℕ
  best_diversity o way b = diversity o way (optimum o way b)

  unfoldable pub least_cost : List ℕ → ℕ → ℕ → ℕ
  least_cost o way b = e.cost o (optimum o way b)

  -- the quarters that can go with the diversity unchanged
  unfoldable pub spare : List ℕ → ℕ → ℕ → ℕ
  spare o way b = columns_alike (best_diversity o way) (best_diversity o way b) b

  -- ---- a call of `choose`
  -- judged from 1 to 9; the first that holds is given
  unfoldable pub judged : Call → Ruling
  judged c =
      row 1 (not (eqb c.way 0) && not (eqb c.way 1))
      ▸ size_rows c.outline
      ▸ row 4 (ltb most_count c.count)
      ▸ record_rows c.outline
      ▸ row 9 (too_short c)

  -- the exhaustive search's set at the page count
  abbrev pub best_set : Call → List ℕ
  best_set c = optimum c.outline c.way c.count

  -- diversity, cost and number of taxa of that set, and the spare
  unfoldable pub figures : Call → Figures
  figures c = record {
    diversity = diversity c.outline c.way (best_set c);
    cost = e.cost c.outline (best_set c);
    taxa = chosen_taxa c.outline (best_set c);
    spare = spare c.outline c.way c.count;
  }

  -- what a call is told
  unfoldable pub reply : Call → Reply Figures
  reply c = replied no_figures (judged c) (figures c)

  -- the columns 0 to the page count: the best diversity, then its cost
  unfoldable pub curve_of : Call → List ℕ
  curve_of c = columns (best_diversity c.outline c.way) (least_cost c.outline c.way) (from 0 (c.count + 1))

  -- the buffers after a call
  unfoldable pub marks_after : Call → List ℕ
  marks_after c = after (judged c) (best_set c) c.marks

  unfoldable pub curve_after : Call → List ℕ
  curve_after c = after (judged c) (curve_of c) c.curve

  unfoldable pub work_after : Call → List ℕ
  work_after c = after (judged c) (replicate (work_taken c.outline c.count) 0) c.work
