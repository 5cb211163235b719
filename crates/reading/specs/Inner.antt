-- What the functions behind `read` speak of.
use Rattle.std.specs.Prelude.{if◌then◌else◌, ℕ, ◌+◌, ◌-◌, ◌*◌, ◌≤◌, ◌<◌, ◌≡◌, Bool, ◌&&◌, not, List, [], ◌∷◌, length, drop, eqb, ltb}
use Rattle.lists.specs.Lists.{anywhere, over_at}
use Rattle.refusals.specs.Refusals.{Ruling, row, ◌▸◌, after}
use Rattle.refusals.specs.Reply.{Reply, replied}
use Rattle.outline.specs.Outline.{size, records, plate, is_taxon, record_bytes}
use Rattle.outline.specs.Answer.{record_rows}
use Rattle.newick.specs.Grammar.{Kind, part, chain, Tree, taxon, group}
use Rattle.newick.specs.Inner.{Met, plates_of}
use Rattle.newick.specs.Layout.{count, rows, layout}
use Rattle.newick.specs.Pairs.{price_in, pairs_of, bad_pairs}
use Rattle.newick.specs.Parsing.{tokens_of, Outcome, failed, got, with_number, with_length, read_in, unread, tree, grown}
use Rattle.newick.specs.declared.token.Token.{Token}
use Rattle.reading.specs.Answer.{Figures, counted, no_figures}
use Rattle.reading.specs.declared.cursor.Cursor.{Cursor}
use Rattle.reading.specs.declared.draft.Draft.{Draft}
use Rattle.reading.specs.declared.draft.Part.{Part}
use Rattle.reading.specs.declared.flaw.Flaw.{Flaw}
use Rattle.outline.specs.Rules.{most_records, has_plate}

-- ---- a place in a text

-- what is left of the text
abbrev pub left_of : Cursor → List ℕ
left_of c = drop c.at c.text.now

-- a record begins, so many before it
pub record Begun (from to : Cursor) (before : ℕ) : Type 0 where
  pub before_is : before ≡ from.records
  pub room : from.records < most_records
  pub counted : to.records ≡ from.records + 1
  pub left_stays : left_of to ≡ left_of from

-- one more would be too many
pub record Full (from : Cursor) (flaw : Flaw) : Type 0 where
  pub is : flaw ≡ Flaw.TooMany
  pub full : from.records ≡ most_records

-- the place moves past the next token
pub record Moved (from to : Cursor) (token : Token) : Type 0 where
  pub met : Met (left_of from) token (left_of to)
  pub records_stay : to.records ≡ from.records

-- no token is left, or one that no tree can contain
pub data Stuck : List Token → Type 0 where
  at_end : Stuck []
  no_word : {ts : List Token} → Stuck (Token.Other ∷ ts)

-- or the place is stuck there
pub record Ended (from : Cursor) (flaw : Flaw) : Type 0 where
  pub is : flaw ≡ Flaw.Malformed
  pub stuck : Stuck (tokens_of (left_of from))

-- ---- drafting

-- nothing is drafted of this text, with these prices
pub record Fresh (text pairs : List ℕ) (d : Draft) : Type 0 where
  pub left_is : left_of d.cursor ≡ text
  pub pairs_are : d.pairs.now ≡ pairs
  pub none : d.cursor.records ≡ 0

-- the price of a record: a group has none
abbrev pub price_for : List ℕ → Part → ℕ
price_for pairs p = if eqb p.first 0 then price_in pairs p.plate else 0

-- the bytes of a part's record, with what it names next
abbrev pub record_of : List ℕ → ℕ → Part → List ℕ
record_of pairs next p = record_bytes next p.first p.length (price_for pairs p) p.plate

-- the record after k others is written
pub record Drafted (k next : ℕ) (p : Part) (from to : Draft) : Type 0 where
  pub cursor_stays : to.cursor ≡ from.cursor
  pub pairs_stay : to.pairs.now ≡ from.pairs.now
  pub written : to.bytes ≡ over_at (16 * k) (record_of from.pairs.now next p) from.bytes

-- ---- parts and lists

-- the number after a colon is none
abbrev pub NoNumber : List ℕ → Type 0
NoNumber text = (made : ℕ → Tree part) → with_number made (tokens_of text) ≡ failed

-- or it makes a part of what is one but for its length, and leaves the text's own last bytes
pub record NumberRead (text : List ℕ) (l : ℕ) (rest : List ℕ) : Type 0 where
  pub reads : (made : ℕ → Tree part) → with_number made (tokens_of text) ≡ got (made l) (tokens_of rest)
  pub shorter : length rest < length text
  pub rest_is : rest ≡ drop (length text - length rest) text

-- a part that fails, or that nothing follows which a tree can contain
pub data Short : Outcome part → Type 0 where
  short_failed : Short failed
  short_stuck : {t : Tree part} {ts : List Token} → Stuck ts → Short (got t ts)

-- what is a part but for its length is such a part
abbrev pub Stopped : List ℕ → Type 0
Stopped text = (made : ℕ → Tree part) → Short (with_length made (tokens_of text))

-- or it has this length, and a token follows, before the text's own last bytes
pub record Followed (text : List ℕ) (l : ℕ) (token : Token) (rest : List ℕ) : Type 0 where
  pub reads : (made : ℕ → Tree part) → with_length made (tokens_of text) ≡ got (made l) (token ∷ tokens_of rest)
  pub shorter : length rest < length text
  pub rest_is : rest ≡ drop (length text - length rest) text

-- the place moves past a length, or none, and the token that follows
pub record Lengthened (from to : Cursor) (l : ℕ) (token : Token) : Type 0 where
  pub followed : Followed (left_of from) l token (left_of to)
  pub records_stay : to.records ≡ from.records

-- or there is no such length, or no such token after it
pub record Cut (from : Cursor) (flaw : Flaw) : Type 0 where
  pub is : flaw ≡ Flaw.Malformed
  pub stopped : Stopped (left_of from)

-- the fields of a part's record, k records before it, and the bytes of the records below it
abbrev pub first_of : ℕ → Tree part → ℕ
first_of k (taxon p l) = 0
first_of k (group ms l) = k + 2

abbrev pub branch_of : Tree part → ℕ
branch_of (taxon p l) = l
branch_of (group ms l) = l

abbrev pub plate_of : Tree part → ℕ
plate_of (taxon p l) = p
plate_of (group ms l) = 0

abbrev pub fields_of : ℕ → Tree part → Part
fields_of k t = record { first = first_of k t; length = branch_of t; plate = plate_of t }

abbrev pub below : List ℕ → ℕ → Tree part → List ℕ
below pairs k (taxon p l) = []
below pairs k (group ms l) = rows (price_in pairs) ms (k + 2) 0

-- what is read, if anything is, has a property
pub data IfGot {κ : Kind} (P : Tree κ → Type 0) : Outcome κ → Type 0 where
  if_failed : IfGot P failed
  if_got : {t : Tree κ} {ts : List Token} → P t → IfGot P (got t ts)

-- a text of so many bytes takes no more calls
abbrev pub calls_for : Kind → ℕ → ℕ
calls_for part n = 2 * n
calls_for chain n = 2 * n + 1

-- a list that fails
abbrev pub Failed : Outcome chain → Type 0
Failed o = o ≡ failed

-- why nothing is drafted of what is left of a text: what is read of it is bad; or more records than 127, if anything is read
pub data Unread (κ : Kind) (Bad : Outcome κ → Type 0) (from : Cursor) : Flaw → Type 0 where
  unread_bad : ((n : ℕ) → calls_for κ (length (left_of from)) < n → Bad (read_in n κ (tokens_of (left_of from))))
      → Unread κ Bad from Flaw.Malformed
  unread_many : ((n : ℕ) → calls_for κ (length (left_of from)) < n
      → IfGot (λ (t : Tree κ). most_records < from.records + count t) (read_in n κ (tokens_of (left_of from)))) → Unread κ Bad from Flaw.TooMany

-- a tree is read of what is left of the text, these tokens are left after it, and its records are counted
pub record TreeRead (κ : Kind) (from to : Draft) (after : List Token) (t : Tree κ) : Type 0 where
  pub reads : (n : ℕ) → calls_for κ (length (left_of from.cursor)) < n → read_in n κ (tokens_of (left_of from.cursor)) ≡ got t after
  pub shorter : length (left_of to.cursor) < length (left_of from.cursor)
  pub counted : to.cursor.records ≡ from.cursor.records + count t
  pub pairs_stay : to.pairs.now ≡ from.pairs.now

-- a part is read: the fields of its record, the token that follows, and the records below it in the draft
pub record PartRead (from to : Draft) (p : Part) (token : Token) : Type 0 where
  pub tree : Tree part
  pub read : TreeRead part from to (token ∷ tokens_of (left_of to.cursor)) tree
  pub fields : p ≡ fields_of from.cursor.records tree
  pub drafted : to.bytes ≡ over_at (16 * (from.cursor.records + 1)) (below from.pairs.now from.cursor.records tree) from.bytes

-- a list is read, with its records in the draft
pub record ListRead (from to : Draft) : Type 0 where
  pub members : Tree chain
  pub read : TreeRead chain from to (tokens_of (left_of to.cursor)) members
  pub drafted : to.bytes ≡ over_at (16 * from.cursor.records) (rows (price_in from.pairs.now) members (from.cursor.records + 1) 0) from.bytes

-- ---- the tree

-- a text's tree is drafted: its count, and its records at the beginning of the draft
pub record TreeDrafted (pairs text : List ℕ) (d : Draft) : Type 0 where
  pub tree_of : Tree part
  pub grown_is : grown text ≡ tree tree_of
  pub counted : d.cursor.records ≡ count tree_of
  pub drafted : (draft : List ℕ) × (length draft ≡ 16 * most_records) × (d.bytes ≡ over_at 0 (layout (price_in pairs) tree_of) draft)

-- or none: the text has no tree, or, if it has one, one of more than 127 records
pub data NotDrafted (text : List ℕ) : Flaw → Type 0 where
  no_tree : grown text ≡ unread → NotDrafted text Flaw.Malformed
  large_tree : ((t : Tree part) → grown text ≡ tree t → most_records < count t) → NotDrafted text Flaw.TooMany

-- ---- pairs and records

-- the pairs among numbers, of which a last one by itself is none
abbrev pub by_two : List ℕ → List (List ℕ)
by_two [] = []
by_two (q ∷ []) = []
by_two (q ∷ (c ∷ rest)) = (q ∷ (c ∷ [])) ∷ by_two rest

-- record r is a taxon without exactly one pair
abbrev pub unpaired : List ℕ → List ℕ → ℕ → Bool
unpaired o pairs r = is_taxon o r && not (eqb (pairs_of pairs (plate o r)) 1)

-- no taxon has the plate
abbrev pub unmatched : List ℕ → ℕ → Bool
unmatched o q = not (anywhere (has_plate o q) (records o))

-- a drafted outline is whole records, and not too many
pub record Whole (o : List ℕ) : Type 0 where
  pub few : size o ≤ most_records
  pub whole : length o ≡ 16 * size o

-- rows 11, 9 and 5 to 8, for a drafted outline and a buffer of so many bytes
unfoldable pub place_rows : List ℕ → List ℕ → ℕ → Ruling
place_rows o pairs room = row 11 (bad_pairs (plates_of o) pairs) ▸ row 9 (ltb room (length o)) ▸ record_rows o

-- what judging and writing it ensures
pub record TreePlaced (o pairs outline : List ℕ) (r : Reply Figures) (left : List ℕ) : Type 0 where
  pub told_placed : r ≡ replied no_figures (place_rows o pairs (length outline)) (counted (size o))
  pub outline_placed : left ≡ after (place_rows o pairs (length outline)) o outline
