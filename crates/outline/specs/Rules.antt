-- The rules of an outline, each by the refusal that a record or the whole outline gets for breaking it.
use Rattle.std.specs.Prelude.{if◌then◌else◌, ℕ, ◌+◌, ◌-◌, Bool, ◌||◌, ◌&&◌, not, List, eqb, ltb, leb}
use Rattle.lists.specs.Lists.{one, from, anywhere, total}
use Rattle.outline.specs.Outline.{size, records, next, first, branch, price, plate_field, plate, is_taxon}

-- the most records
abbrev pub most_records : ℕ
most_records = 127

-- the most taxa
abbrev pub most_taxa : ℕ
most_taxa = 64

-- the longest branch
abbrev pub most_length : ℕ
most_length = 1000000

-- the highest price
abbrev pub most_price : ℕ
most_price = 65535

-- refusal 5: length, price or plate outside its range. A taxon's plate is not 0, a group's whole field is
unfoldable pub bad_field : List ℕ → ℕ → Bool
bad_field o r =
    let bad_plate = if is_taxon o r then eqb (plate o r) 0 else not (eqb (plate_field o r) 0) in
    ltb most_length (branch o r) || (ltb most_price (price o r) || bad_plate)

-- a link of record r that isn't 0 and isn't a later record's number up to N
abbrev pub stray : List ℕ → ℕ → ℕ → Bool
stray o r link = not (eqb link 0) && (leb link r || ltb (size o) link)

-- how many of record r's two links hold q
unfoldable pub naming : List ℕ → ℕ → ℕ → ℕ
naming o q r = one (eqb (next o r) q) + one (eqb (first o r) q)

-- how many link fields hold q
unfoldable pub named : List ℕ → ℕ → ℕ
named o q = total (naming o q) (records o)

-- refusal 6: one of its own two links is stray, or it is record 1 and its next isn't 0, or it is record 2 or later and
-- its number stands in no link field or in more than one
unfoldable pub bad_link : List ℕ → ℕ → Bool
bad_link o r =
    stray o r (next o r)
    || stray o r (first o r)
    || (if eqb r 1 then not (eqb (next o r) 0) else not (eqb (named o r) 1))

-- how many of the records rs are taxa
unfoldable pub taxa_in : List ℕ → List ℕ → ℕ
taxa_in o rs = total (λ r. one (is_taxon o r)) rs

-- how many taxa there are, for refusal 7
unfoldable pub taxa : List ℕ → ℕ
taxa o = taxa_in o (records o)

-- record r is the taxon of plate p
unfoldable pub has_plate : List ℕ → ℕ → ℕ → Bool
has_plate o p r = is_taxon o r && eqb (plate o r) p

-- refusal 8: the plate is already at an earlier taxon
unfoldable pub is_duplicate : List ℕ → ℕ → Bool
is_duplicate o r = anywhere (has_plate o (plate o r)) (from 1 (r - 1))
