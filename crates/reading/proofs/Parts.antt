-- Parts and lists of parts: what the readers find, by the tokens and by the calls before.
use Prim.Native.Nat.{ℕ, zero, suc, ◌+◌, ◌*◌, ◌≤◌, ◌<◌}
use mathlib.Core.Path.{◌≡◌, refl, sym, ap, subst, ◌∙◌}
use mathlib.Core.List.{List, ◌∷◌}
use native.Mathlib.Omega.{arith}
use lib.ListN.{length}
use Rattle.std.specs.Prelude.{Result, Ok, Err, MatchResult}
use Rattle.lists.specs.Lists.{over_at}
use Rattle.lists.proofs.Pieces.{over_nothing}
use Rattle.newick.specs.Grammar.{Kind, part, chain, Tree, taxon, group, last, more}
use Rattle.newick.specs.Layout.{count, rows}
use Rattle.newick.specs.Pairs.{price_in}
use Rattle.newick.specs.Parsing.{tokens_of, Outcome, failed, got, with_number, with_length, grouped, part_from, joined, chain_then, chain_from, read_in}
use Rattle.newick.specs.declared.token.Token.{Token}
use Rattle.newick.proofs.Layouts.{count_some}
use Rattle.newick.proofs.Tokens.{by_first}
use Rattle.outline.specs.Rules.{most_records}
use Rattle.reading.specs.Inner.{left_of, Begun, Full, Moved, Stuck, at_end, no_word, Ended, Lengthened, Cut, Drafted, fields_of, below, record_of}
use Rattle.reading.specs.Inner.{Short, short_failed, short_stuck, IfGot, if_failed, if_got, Failed, Unread, unread_bad, unread_many, PartRead, ListRead}
use Rattle.reading.specs.declared.cursor.Cursor.{Cursor}
use Rattle.reading.specs.declared.draft.Draft.{Draft}
use Rattle.reading.specs.declared.draft.Part.{Part}
use Rattle.reading.specs.declared.flaw.Flaw.{Flaw}
use Rattle.reading.proofs.Drafts.{own_drafted, last_drafted, list_drafted}

-- ---- one call deeper
part_by_lem : (ts : List Token) (b : ℕ) (o : Outcome part) → ((n : ℕ) → b ≤ n → part_from (read_in n chain) ts ≡ o)
    → (n : ℕ) → b < n → read_in n part ts ≡ o
unfolding read_in
part_by_lem ts b o f zero h = absurd (omega arith)
part_by_lem ts b o f (suc n) h = f n (omega arith)

list_by : (ts : List Token) (b : ℕ) (o : Outcome chain) → ((n : ℕ) → b ≤ n → chain_from (read_in n chain) (read_in n part ts) ≡ o)
    → (n : ℕ) → b < n → read_in n chain ts ≡ o
unfolding read_in
list_by ts b o f zero h = absurd (omega arith)
list_by ts b o f (suc n) h = f n (omega arith)

-- and the same of what is read, if anything is
part_if : (P : Tree part → Type 0) (ts : List Token) (b : ℕ) → ((n : ℕ) → b ≤ n → IfGot P (part_from (read_in n chain) ts))
    → (n : ℕ) → b < n → IfGot P (read_in n part ts)
unfolding read_in
part_if P ts b f zero h = absurd (omega arith)
part_if P ts b f (suc n) h = f n (omega arith)

list_if : (P : Tree chain → Type 0) (ts : List Token) (b : ℕ) → ((n : ℕ) → b ≤ n → IfGot P (chain_from (read_in n chain) (read_in n part ts)))
    → (n : ℕ) → b < n → IfGot P (read_in n chain ts)
unfolding read_in
list_if P ts b f zero h = absurd (omega arith)
list_if P ts b f (suc n) h = f n (omega arith)

-- ---- what holds of whatever is read
always : {κ : Kind} (P : Tree κ → Type 0) → ((t : Tree κ) → P t) → (o : Outcome κ) → IfGot P o
always P f failed = if_failed
always P f (got t ts) = if_got (f t)

length_if : (P : Tree part → Type 0) (f : ℕ → Tree part) → ((l : ℕ) → P (f l)) → (ts : List Token) → IfGot P (with_length f ts)
unfolding with_length with_number
length_if P f h =
    by_first (λ ts. IfGot P (with_length f ts)) (if_got (h 0)) (λ _. if_got (h 0)) (λ _. if_got (h 0)) (λ _. if_got (h 0))
    (by_first (λ ts. IfGot P (with_number f ts)) if_failed (λ _. if_failed) (λ _. if_failed) (λ _. if_failed) (λ _. if_failed) (λ _. if_failed)
    (λ l _. if_got (h l)) (λ _. if_failed))
    (λ _. if_got (h 0)) (λ _ _. if_got (h 0)) (λ _. if_got (h 0))

group_if : (P : Tree part → Type 0) {Q : Tree chain → Type 0} {o : Outcome chain} → ((ms : Tree chain) (l : ℕ) → Q ms → P (group ms l)) → IfGot Q o
    → IfGot P (grouped o)
group_if P h if_failed = if_failed
group_if P h (if_got {t = ms} {ts = ts} q) = length_if P (group ms) (λ l. h ms l q) ts

joined_if : (P : Tree chain → Type 0) {Q : Tree chain → Type 0} {o : Outcome chain} (t : Tree part) → ((ms : Tree chain) → Q ms → P (more t ms)) → IfGot Q o
    → IfGot P (joined t o)
joined_if P t h if_failed = if_failed
joined_if P t h (if_got {t = ms} q) = if_got (h ms q)

chain_if : (P : Tree chain → Type 0) {Q : Tree part → Type 0} {o : Outcome part} (f : List Token → Outcome chain)
    → ((t : Tree part) → Q t → P (last t)) → ((t : Tree part) (ms : Tree chain) → Q t → P (more t ms)) → IfGot Q o → IfGot P (chain_from f o)
chain_if P f g h if_failed = if_failed
chain_if P f g h (if_got {t = t} {ts = ts} q) = then_if ts
  where
    then_if : (ts : List Token) → IfGot P (chain_then f t ts)
    then_if =
        unfold chain_then in
        by_first (λ ts. IfGot P (chain_then f t ts)) if_failed (λ _. if_failed) (λ _. if_got (g t q))
        (λ ts. joined_if P {Q = λ _. Unit {0}} t (λ ms _. h t ms q) (always (λ _. Unit {0}) (λ _. tt) (f ts)))
        (λ _. if_failed) (λ _. if_failed) (λ _ _. if_failed) (λ _. if_failed)

-- ---- a part, by the token that begins it
pub no_part : (t : Token) → (t ≡ Token.Open → ⊥) → ((q : ℕ) → t ≡ Token.Number q → ⊥) → (f : List Token → Outcome chain) (ts : List Token)
    → part_from f (t ∷ ts) ≡ failed
unfolding part_from
no_part Token.Open o v f ts = absurd (o refl)
no_part Token.Close o v f ts = refl
no_part Token.Comma o v f ts = refl
no_part Token.Colon o v f ts = refl
no_part Token.Semicolon o v f ts = refl
no_part (Token.Number p) o v f ts = absurd (v p refl)
no_part Token.Other o v f ts = refl

-- none begins where the text is stuck
pub stuck_part : (f : List Token → Outcome chain) {ts : List Token} → Stuck ts → part_from f ts ≡ failed
unfolding part_from
stuck_part f at_end = refl
stuck_part f no_word = refl

-- a part that fails is short
fails_short : {o : Outcome part} → o ≡ failed → Short o
fails_short e = subst Short (sym e) short_failed

module _ (from : Cursor) where
  -- the records of a part that begins now would be too many
  pub part_stops : {flaw : Flaw} → Full from flaw → Unread part Short from flaw
  part_stops f = subst (Unread part Short from) (sym f.is) (unread_many (λ n h. always _ (λ t. omega (arith, count_some t, f.full)) _))

-- a record begins
module _ {from begun : Cursor} {k : ℕ} (b : Begun from begun k) where
  -- and no token is passed
  pub part_nowhere : {flaw : Flaw} → Ended begun flaw → Unread part Short from flaw
  part_nowhere e =
      let stuck : Stuck (tokens_of (left_of from)) = subst (λ s. Stuck (tokens_of s)) b.left_stays e.stuck in
      subst (Unread part Short from) (sym e.is)
      (unread_bad (λ n b. fails_short (part_by_lem _ _ _ (λ n _. stuck_part (read_in n chain) stuck) n b)))

  -- or one is
  module _ {to : Cursor} {s : Token} (m : Moved begun to s) where
    begins : (n : ℕ) (t : Token) → s ≡ t
        → part_from (read_in n chain) (tokens_of (left_of from)) ≡ part_from (read_in n chain) (t ∷ tokens_of (left_of to))
    begins n t e =
        ap (part_from (read_in n chain)) (ap tokens_of (sym b.left_stays) ∙ m.met.shows ∙ ap (λ t. t ∷ tokens_of (left_of to)) e)

    pub part_fails : (s ≡ Token.Open → ⊥) → ((q : ℕ) → s ≡ Token.Number q → ⊥) → Unread part Short from Flaw.Malformed
    part_fails o v =
        unread_bad
        (λ n b. fails_short (part_by_lem _ _ _ (λ n _. begins n s refl ∙ no_part s o v (read_in n chain) (tokens_of (left_of to))) n b))

    counts : to.records ≡ from.records + 1
    counts = m.records_stay ∙ b.counted

    nearer : length (left_of to) < length (left_of from)
    nearer = omega (arith, ap length b.left_stays, m.met.shorter)

    opens : s ≡ Token.Open → (n : ℕ)
        → part_from (read_in n chain) (tokens_of (left_of from)) ≡ grouped (read_in n chain (tokens_of (left_of to)))
    unfolding part_from
    opens e n = begins n Token.Open e

    pub group_unread : s ≡ Token.Open → {flaw : Flaw} → Unread chain Failed to flaw → Unread part Short from flaw
    group_unread e (unread_bad g) =
        unread_bad (λ n b. fails_short (part_by_lem _ _ _ (λ n h. opens e n ∙ ap grouped (g n (omega (arith, nearer)))) n b))
    group_unread e (unread_many g) =
        unread_many (part_if _ _ _ (λ n h. rw (opens e n) (group_if _ (λ ms l q. omega (arith, counts)) (g n (omega (arith, nearer))))))

-- a part is read but for its length
pub record HeadRead (from to : Draft) (first plate : ℕ) : Type 0 where
  pub made : ℕ → Tree part
  pub reads : (n : ℕ) → 2 * length (left_of from.cursor) ≤ n
      → part_from (read_in n chain) (tokens_of (left_of from.cursor)) ≡ with_length made (tokens_of (left_of to.cursor))
  pub shorter : length (left_of to.cursor) < length (left_of from.cursor)
  pub counted : (l : ℕ) → to.cursor.records ≡ from.cursor.records + count (made l)
  pub pairs_stay : to.pairs.now ≡ from.pairs.now
  pub fields : (l : ℕ) → record { first = first; length = l; plate = plate } ≡ fields_of from.cursor.records (made l)
  pub drafted : (l : ℕ) → to.bytes ≡ over_at (16 * (from.cursor.records + 1)) (below from.pairs.now from.cursor.records (made l)) from.bytes

-- a draft whose place has moved
abbrev moved_to : Draft → Cursor → Draft
moved_to d c = record { cursor = c; pairs = d.pairs; bytes = d.bytes }

module _ (from : Draft) {begun to : Cursor} {k : ℕ} {s : Token} (b : Begun from.cursor begun k) (m : Moved begun to s) where
  -- a plate number
  pub head_taxon : (q : ℕ) → s ≡ Token.Number q → HeadRead from (moved_to from to) 0 q
  unfolding part_from
  head_taxon q e =
      record {
        made = taxon q;
        reads = λ n h. begins b m n (Token.Number q) e;
        shorter = nearer b m;
        counted = λ l. counts b m;
        pairs_stay = refl;
        fields = λ l. refl;
        drafted = λ l. sym (over_nothing (16 * (from.cursor.records + 1)) from.bytes);
      }

  -- an opening bracket, and the list after it
  pub head_group : s ≡ Token.Open → {end : Draft} → ListRead (moved_to from to) end → HeadRead from end (k + 2) 0
  head_group e l =
      let near = nearer b m in
      let count = counts b m in
      record {
        made = group l.members;
        reads = λ n h. opens b m e n ∙ ap grouped (l.read.reads n (omega (arith, near)));
        shorter = omega (arith, near, l.read.shorter);
        counted = λ _. omega (arith, l.read.counted, count);
        pairs_stay = l.read.pairs_stay;
        fields = λ j. ap (λ i. record { first = i + 2; length = j; plate = 0 }) b.before_is;
        drafted = λ _. let up : to.records + 1 ≡ from.cursor.records + 2 = omega (arith, count) in l.drafted ∙ rw (up, count);
      }

-- and its length
module _ {from mid : Draft} {first plate : ℕ} (h : HeadRead from mid first plate) where
  pub part_unfinished : {flaw : Flaw} → Cut mid.cursor flaw → Unread part Short from.cursor flaw
  part_unfinished g = subst (Unread part Short from.cursor) (sym g.is) (unread_bad (λ n b. short n (g.stopped h.made) b))
    where
      short : (n : ℕ) → Short (with_length h.made (tokens_of (left_of mid.cursor))) → 2 * length (left_of from.cursor) < n
          → Short (read_in n part (tokens_of (left_of from.cursor)))
      short n s b = subst Short (sym (part_by_lem _ _ _ h.reads n b)) s

  pub part_finished : {l : ℕ} {token : Token} {to : Cursor} → Lengthened mid.cursor to l token
      → PartRead from (moved_to mid to) (record { first = first; length = l; plate = plate }) token
  part_finished {l} g =
      record {
        tree = h.made l;
        read =
            record {
              reads = part_by_lem _ _ _ (λ n b. h.reads n b ∙ g.followed.reads h.made);
              shorter = omega (arith, h.shorter, g.followed.shorter);
              counted = g.records_stay ∙ h.counted l;
              pairs_stay = h.pairs_stay;
            };
        fields = h.fields l;
        drafted = h.drafted l;
      }

-- ---- a list, by its first member
pub no_next : (u : Token) → (u ≡ Token.Comma → ⊥) → (u ≡ Token.Close → ⊥) → (f : List Token → Outcome chain) (t : Tree part) (ts : List Token)
    → chain_then f t (u ∷ ts) ≡ failed
unfolding chain_then
no_next Token.Open a o f t ts = refl
no_next Token.Close a o f t ts = absurd (o refl)
no_next Token.Comma a o f t ts = absurd (a refl)
no_next Token.Colon a o f t ts = refl
no_next Token.Semicolon a o f t ts = refl
no_next (Token.Number p) a o f t ts = refl
no_next Token.Other a o f t ts = refl

-- a list that begins with a short part fails
pub chain_short : (f : List Token → Outcome chain) {o : Outcome part} → Short o → chain_from f o ≡ failed
unfolding chain_then
chain_short f short_failed = refl
chain_short f (short_stuck at_end) = refl
chain_short f (short_stuck no_word) = refl

pub list_unread : {from : Cursor} {flaw : Flaw} → Unread part Short from flaw → Unread chain Failed from flaw
list_unread (unread_bad g) = unread_bad (list_by _ _ _ (λ n h. chain_short (read_in n chain) (g n (omega arith))))
list_unread (unread_many g) =
    unread_many (list_if _ _ _ (λ n h. chain_if _ (read_in n chain) (λ t q. omega arith) (λ t ms q. omega arith) (g n (omega arith))))

module _ {from mid : Draft} {p : Part} {token : Token} (o : PartRead from mid p token) where
  abbrev t : Tree part
  t = o.tree

  few : from.cursor.records + count t ≤ most_records
  few = omega (arith, o.read.counted, mid.cursor.few)

  pub own_room : from.cursor.records < most_records
  own_room = omega (arith, few, count_some t)

  -- the member is read, and the token that follows it decides
  followed_by : (s : Token) → token ≡ s → (n : ℕ) → 2 * length (left_of from.cursor) < n
      → chain_from (read_in n chain) (read_in n part (tokens_of (left_of from.cursor)))
      ≡ chain_then (read_in n chain) t (s ∷ tokens_of (left_of mid.cursor))
  unfolding chain_then
  followed_by s e n h =
      ap (chain_from (read_in n chain)) (o.read.reads n h)
      ∙ ap (λ u. chain_then (read_in n chain) t (u ∷ tokens_of (left_of mid.cursor))) e

  pub list_fails : (token ≡ Token.Comma → ⊥) → (token ≡ Token.Close → ⊥) → Unread chain Failed from.cursor Flaw.Malformed
  list_fails a k =
      unread_bad
      (list_by _ _ _ (λ n h. followed_by token refl n (omega arith) ∙ no_next token a k (read_in n chain) t (tokens_of (left_of mid.cursor))))

  -- the member's records are drafted
  module _ {next : ℕ} {to : Draft} (long : length from.bytes ≡ 16 * most_records) (d : Drafted from.cursor.records next p mid to) where
    counts_on : to.cursor.records ≡ from.cursor.records + count t
    counts_on = ap (λ (c : Cursor). c.records) d.cursor_stays ∙ o.read.counted

    to_left : left_of mid.cursor ≡ left_of to.cursor
    to_left = sym (ap left_of d.cursor_stays)

    less : length (left_of to.cursor) < length (left_of from.cursor)
    less = omega (arith, o.read.shorter, ap length to_left)

    pairs_on : to.pairs.now ≡ from.pairs.now
    pairs_on = d.pairs_stay ∙ o.read.pairs_stay

    goes_by : (s : Token) → token ≡ s → (n : ℕ) → 2 * length (left_of from.cursor) < n
        → chain_from (read_in n chain) (read_in n part (tokens_of (left_of from.cursor)))
        ≡ chain_then (read_in n chain) t (s ∷ tokens_of (left_of to.cursor))
    goes_by s e n h = followed_by s e n h ∙ ap (λ left. chain_then (read_in n chain) t (s ∷ tokens_of left)) to_left

    own : to.bytes ≡ over_at (16 * from.cursor.records) (rows (price_in from.pairs.now) t (from.cursor.records + 1) next) from.bytes
    own =
        d.written ∙ ap (λ pairs. over_at (16 * from.cursor.records) (record_of pairs next p) mid.bytes) o.read.pairs_stay
        ∙ own_drafted from.pairs.now from.cursor.records next from.bytes t few long o.fields o.drafted

    -- the closing bracket
    pub list_ends : token ≡ Token.Close → next ≡ 0 → ListRead from to
    unfolding chain_then
    list_ends e z =
        record {
          members = last t;
          read =
              record {
                reads = list_by _ _ _ (λ n h. goes_by Token.Close e n (omega arith));
                shorter = less;
                counted = counts_on;
                pairs_stay = pairs_on;
              };
          drafted = last_drafted (price_in from.pairs.now) from.cursor.records from.bytes t (rw z at own);
        }

    -- a comma, and the rest of the list
    module _ (e : token ≡ Token.Comma) (f : next ≡ mid.cursor.records + 1) where
      goes : (n : ℕ) → 2 * length (left_of from.cursor) < n
          → chain_from (read_in n chain) (read_in n part (tokens_of (left_of from.cursor)))
          ≡ joined t (read_in n chain (tokens_of (left_of to.cursor)))
      unfolding chain_then
      goes n h = goes_by Token.Comma e n h

      rest_unread : {flaw : Flaw} → Unread chain Failed to.cursor flaw → Unread chain Failed from.cursor flaw
      rest_unread (unread_bad g) = unread_bad (list_by _ _ _ (λ n h. goes n (omega arith) ∙ ap (joined t) (g n (omega (arith, less)))))
      rest_unread (unread_many g) =
          unread_many
          (list_if _ _ _
          (λ n h. rw (goes n (omega arith)) (joined_if _ t (λ ms q. omega (arith, counts_on)) (g n (omega (arith, less))))))

      rest_read : {after : Draft} → ListRead to after → ListRead from after
      rest_read {after} l =
          record {
            members = more t l.members;
            read =
                record {
                  reads = list_by _ _ _ (λ n h. goes n (omega arith) ∙ ap (joined t) (l.read.reads n (omega (arith, less))));
                  shorter = omega (arith, less, l.read.shorter);
                  counted = omega (arith, counts_on, l.read.counted);
                  pairs_stay = l.read.pairs_stay ∙ pairs_on;
                };
            drafted =
                list_drafted from.pairs.now from.cursor.records to.cursor.records from.bytes t l.members few long counts_on
                (own ∙ ap (λ j. over_at (16 * from.cursor.records) (rows (price_in from.pairs.now) t (from.cursor.records + 1) j) from.bytes)
                (f ∙ ap (λ (c : Cursor). c.records + 1) (sym d.cursor_stays)))
                (l.drafted ∙ rw pairs_on);
          }

      pub list_goes : {X : Type 0} (r : Result X Flaw) (after : Draft) → MatchResult r (λ _. ListRead to after) (Unread chain Failed to.cursor)
          → MatchResult r (λ _. ListRead from after) (Unread chain Failed from.cursor)
      list_goes (Ok x) after l = rest_read l
      list_goes (Err flaw) after g = rest_unread g
