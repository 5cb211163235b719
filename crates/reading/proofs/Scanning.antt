-- Going through a text: each step keeps what the reader makes of the whole.
use Rattle.std.specs.Prelude.{if◌then◌else◌, Option, None, Some}
use Prim.Native.Nat.{ℕ, suc, ◌+◌, ◌*◌, ◌-◌, ◌≤◌, ◌<◌}
use mathlib.Core.Path.{◌≡◌, refl, sym, ap, subst, ◌∙◌}
use mathlib.Core.Bool.{Bool, true, false}
use mathlib.Core.List.{List, ◌∷◌}
use native.Mathlib.Numerals.{add-one}
use native.Mathlib.Omega.{arith}
use lib.ListN.{length}
use Rattle.newick.specs.Grammar.{part, chain, Tree, taxon, group, last, more}
use Rattle.newick.specs.Inner.{Met}
use Rattle.newick.specs.Parsing.{tokens_of, Outcome, failed, got, with_length, grouped, part_from, joined, chain_then, chain_from, read_in}
use Rattle.newick.specs.Parsing.{ends, Parsed, unread, tree, closed, grown}
use Rattle.newick.specs.declared.token.Token.{Token}
use Rattle.reading.specs.Inner.{Stuck, at_end, no_word, Short, short_failed, short_stuck, Stopped, Followed}
use Rattle.reading.specs.Scan.{is_tree, grouped_as, Lists, no_list, a_list, Inside, Wanted, Taken}
use Rattle.reading.specs.Scan.{FromTaxon, FromPart}
use Rattle.reading.specs.declared.place.Place.{Place}
use Rattle.reading.proofs.Parts.{no_part, stuck_part, no_next, chain_short}

-- ---- open lists

-- calls for more bytes are enough for fewer
lists_fewer : {m n d : ℕ} {onward : Outcome part → Parsed} → m ≤ n → Lists n d onward → Lists m d onward
lists_fewer h no_list = no_list
lists_fewer h (a_list calls many made ls) = a_list calls (omega arith) made (lists_fewer h ls)

-- without a part there is no tree
lists_failed : {n d : ℕ} {onward : Outcome part → Parsed} → Lists n d onward → onward failed ≡ unread
lists_failed no_list = refl
lists_failed (a_list calls many made ls) = lists_failed ls

-- two calls deeper, the first member of a list is wanted
list_step : (n : ℕ) (ts : List Token) → 1 < n → read_in n chain ts ≡ chain_from (read_in (n - 1) chain) (part_from (read_in (n - 2) chain) ts)
unfolding read_in
list_step n ts h =
    let e : n ≡ suc (n - 1) = omega arith in
    let f : n - 1 ≡ suc (n - 2) = omega arith in
    ap (λ m. read_in m chain ts) e ∙ ap (λ m. chain_from (read_in (n - 1) chain) (read_in m part ts)) f

module _ {whole : Parsed} {n d : ℕ} {o : Outcome part} (i : Inside whole n d o) where
  inside_fails : o ≡ failed → is_tree whole ≡ false
  inside_fails e = ap is_tree (sym i.comes ∙ ap i.onward e ∙ lists_failed i.lists)

  -- nor is there one where a part stops the text
  inside_stops : Short o → is_tree whole ≡ false
  inside_stops s = ap is_tree (sym i.comes) ∙ go s i.lists
    where
      go : {o : Outcome part} {d : ℕ} {onward : Outcome part → Parsed} → Short o → Lists n d onward → is_tree (onward o) ≡ false
      go short_failed ls = ap is_tree (lists_failed ls)
      go (short_stuck at_end) no_list = unfold ends in refl
      go (short_stuck no_word) no_list = unfold ends in refl
      go (short_stuck s) (a_list {onward = onward} calls many made ls) =
          ap is_tree (ap (λ o. onward (grouped_as made o)) (chain_short (read_in calls chain) (short_stuck s)) ∙ lists_failed ls)

  -- what is read is read as well where less is left
  inside_later : {m : ℕ} {u : Outcome part} → m ≤ n → o ≡ u → Inside whole m d u
  inside_later h e = record { onward = i.onward; lists = lists_fewer h i.lists; comes = ap i.onward (sym e) ∙ i.comes }

  inside_list : {rest : List ℕ} (calls : ℕ) (made : Tree chain → ℕ → Tree part) → 2 * n ≤ calls → length rest < n
      → o ≡ grouped_as made (read_in calls chain (tokens_of rest)) → Wanted whole rest (d + 1)
  inside_list {rest} calls made many h e =
      let j = inside_later {m = length rest} (omega arith) (e ∙ ap (grouped_as made) (list_step calls (tokens_of rest) (omega arith))) in
      record {
        calls = calls - 2;
        many = omega arith;
        inside =
            record {
              onward = λ o. j.onward (grouped_as made (chain_from (read_in (calls - 1) chain) o));
              lists = a_list (calls - 1) (omega arith) made j.lists;
              comes = j.comes;
            };
      }

-- ---- a part is read but for its length

module _ {whole : Parsed} (text : List ℕ) {d : ℕ} (made : ℕ → Tree part) (i : Inside whole (length text) d (with_length made (tokens_of text))) where
  stopped : Stopped text → is_tree whole ≡ false
  stopped g = inside_stops i (g made)

  followed : {l : ℕ} {token : Token} {rest : List ℕ} → Followed text l token rest → Taken whole token rest d
  followed {l} g = record { taken = made l; inside = inside_later i (omega (arith, g.shorter)) (g.reads made) }

-- ---- a part is wanted

grouped_as_lem : (o : Outcome chain) → grouped o ≡ grouped_as group o
grouped_as_lem failed = refl
grouped_as_lem (got ms ts) = refl

module _ {whole : Parsed} {text : List ℕ} {depth : ℕ} (k : Wanted whole text depth) where
  abbrev reader : List Token → Outcome chain
  reader = read_in k.calls chain

  pub wanted_nowhere : Stuck (tokens_of text) → is_tree whole ≡ false
  wanted_nowhere s = inside_fails k.inside (stuck_part reader s)

  module _ {rest : List ℕ} {s : Token} (m : Met text s rest) where
    pub wanted_fails : (s ≡ Token.Open → ⊥) → ((q : ℕ) → s ≡ Token.Number q → ⊥) → is_tree whole ≡ false
    wanted_fails o v = inside_fails k.inside (ap (part_from reader) m.shows ∙ no_part s o v reader (tokens_of rest))

    shown : (t : Token) → s ≡ t → part_from reader (tokens_of text) ≡ part_from reader (t ∷ tokens_of rest)
    shown t e = ap (part_from reader) (m.shows ∙ ap (λ u. u ∷ tokens_of rest) e)

    pub wanted_opens : s ≡ Token.Open → Wanted whole rest (depth + 1)
    unfolding part_from
    wanted_opens e = inside_list k.inside k.calls group k.many m.shorter (shown Token.Open e ∙ grouped_as_lem (reader (tokens_of rest)))

    module _ {v : ℕ} (e : s ≡ Token.Number v) where
      taxon_inside : Inside whole (length rest) depth (with_length (taxon v) (tokens_of rest))
      unfolding part_from
      taxon_inside = inside_later k.inside (omega (arith, m.shorter)) (shown (Token.Number v) e)

      pub taxon_stops : Stopped rest → is_tree whole ≡ false
      taxon_stops = stopped rest (taxon v) taxon_inside

      pub taxon_taken : {l : ℕ} {token : Token} {past : List ℕ} → Followed rest l token past → Taken whole token past depth
      taxon_taken = followed rest (taxon v) taxon_inside

-- lists open, one after the other
pub record Descending (start : List ℕ) (outer : ℕ) (text : List ℕ) (depth : ℕ) : Type 0 where
  pub wanted : (whole : Parsed) → Wanted whole start outer → Wanted whole text depth
  pub left : length text ≤ length start
  pub deep : depth + length text ≤ outer + length start

pub descending_starts : (start : List ℕ) (outer : ℕ) → Descending start outer start outer
descending_starts start outer = record { wanted = λ _ w. w; left = omega arith; deep = omega arith }

module _ {start : List ℕ} {outer : ℕ} {text : List ℕ} {depth : ℕ} (d : Descending start outer text depth) where
  leads_nowhere : ((whole : Parsed) → Wanted whole text depth → is_tree whole ≡ false) → FromTaxon start outer None
  leads_nowhere f = record { taken = λ whole w. f whole (d.wanted whole w); shorter = tt }

  pub descending_ends : Stuck (tokens_of text) → FromTaxon start outer None
  descending_ends s = leads_nowhere (λ _ w. wanted_nowhere w s)

  module _ {rest : List ℕ} {s : Token} (m : Met text s rest) where
    pub descending_fails : (s ≡ Token.Open → ⊥) → ((q : ℕ) → s ≡ Token.Number q → ⊥) → FromTaxon start outer None
    descending_fails o v = leads_nowhere (λ _ w. wanted_fails w m o v)

    pub descending_goes : s ≡ Token.Open → Descending start outer rest (depth + 1)
    descending_goes e =
        record {
          wanted = λ whole w. wanted_opens (d.wanted whole w) m e;
          left = omega (arith, m.shorter, d.left);
          deep = omega (arith, m.shorter, d.deep);
        }

    module _ {v : ℕ} (e : s ≡ Token.Number v) where
      pub descending_stops : Stopped rest → FromTaxon start outer None
      descending_stops g = leads_nowhere (λ _ w. taxon_stops w m e g)

      pub descending_taken : {l : ℕ} {to : Place} → Followed rest l to.token to.rest.now → to.depth ≡ depth → FromTaxon start outer (Some to)
      descending_taken g z =
          record {
            taken = λ whole w. rw z (taxon_taken (d.wanted whole w) m e g);
            shorter = omega (arith, m.shorter, d.left, g.shorter);
          }

-- ---- a part is taken

joined_as : (made : Tree chain → ℕ → Tree part) (t : Tree part) (o : Outcome chain)
    → grouped_as made (joined t o) ≡ grouped_as (λ ms. made (more t ms)) o
joined_as made t failed = refl
joined_as made t (got ms ts) = refl

-- in a list, by what follows the part
record Listed (whole : Parsed) (n depth : ℕ) (ts : List Token) : Type 0 where
  calls : ℕ
  many : 2 * n ≤ calls
  made : Tree chain → ℕ → Tree part
  taken : Tree part
  inside : Inside whole n (depth - 1) (grouped_as made (chain_then (read_in calls chain) taken ts))

module _ {whole : Parsed} {token : Token} {rest : List ℕ} {depth : ℕ} (k : Taken whole token rest depth) where
  listed : 0 < depth → Listed whole (length rest + 1) depth (token ∷ tokens_of rest)
  listed h = go k.inside.lists h k.inside.comes
    where
      go : {d : ℕ} {onward : Outcome part → Parsed} → Lists (length rest + 1) d onward → 0 < d
          → onward (got k.taken (token ∷ tokens_of rest)) ≡ whole → Listed whole (length rest + 1) d (token ∷ tokens_of rest)
      go no_list h e = absurd (omega arith)
      go (a_list {d = d} {onward = onward} calls many made ls) h e =
          let same : d ≡ d + 1 - 1 = omega arith in
          record {
            calls = calls;
            many = many;
            made = made;
            taken = k.taken;
            inside = record { onward = onward; lists = subst (λ m. Lists (length rest + 1) m onward) same ls; comes = e };
          }

  module _ (some : 0 < depth) where
    abbrev l : Listed whole (length rest + 1) depth (token ∷ tokens_of rest)
    l = listed some

    list_strays : (token ≡ Token.Comma → ⊥) → (token ≡ Token.Close → ⊥) → is_tree whole ≡ false
    list_strays a o = inside_fails l.inside (ap (grouped_as l.made) (no_next token a o (read_in l.calls chain) l.taken (tokens_of rest)))

    shows : (t : Token) → token ≡ t
        → grouped_as l.made (chain_then (read_in l.calls chain) l.taken (token ∷ tokens_of rest))
        ≡ grouped_as l.made (chain_then (read_in l.calls chain) l.taken (t ∷ tokens_of rest))
    shows t e = ap (λ u. grouped_as l.made (chain_then (read_in l.calls chain) l.taken (u ∷ tokens_of rest))) e

    list_wants : token ≡ Token.Comma → Wanted whole rest depth
    unfolding chain_then
    list_wants e =
        let same : depth - 1 + 1 ≡ depth = omega arith in
        subst (Wanted whole rest) same
        (inside_list l.inside l.calls (λ ms. l.made (more l.taken ms)) l.many (omega arith)
        (shows Token.Comma e ∙ joined_as l.made l.taken (read_in l.calls chain (tokens_of rest))))

    list_inside : token ≡ Token.Close → Inside whole (length rest) (depth - 1) (with_length (l.made (last l.taken)) (tokens_of rest))
    unfolding chain_then
    list_inside e = inside_later l.inside (omega arith) (shows Token.Close e)

-- onward in a list
module _ {from : Place} (some : 0 < from.depth) where
  goes_nowhere : ((whole : Parsed) → Taken whole from.token from.rest.now from.depth → is_tree whole ≡ false) → FromPart from None
  goes_nowhere f = record { taken = f; shorter = tt }

  pub onward_fails : (from.token ≡ Token.Comma → ⊥) → (from.token ≡ Token.Close → ⊥) → FromPart from None
  onward_fails a o = goes_nowhere (λ _ w. list_strays w some a o)

  pub onward_goes : from.token ≡ Token.Comma → {to : Option Place} → FromTaxon from.rest.now from.depth to → FromPart from to
  onward_goes e l = record { taken = λ whole w. l.taken whole (list_wants w some e); shorter = l.shorter }

  module _ (e : from.token ≡ Token.Close) where
    pub onward_stops : Stopped from.rest.now → FromPart from None
    onward_stops g = goes_nowhere (λ _ w. stopped _ _ (list_inside w some e) g)

    pub onward_taken : {l : ℕ} {to : Place} → Followed from.rest.now l to.token to.rest.now → to.depth ≡ from.depth - 1 → FromPart from (Some to)
    onward_taken g z = record { taken = λ whole w. rw z (followed _ _ (list_inside w some e) g); shorter = g.shorter }

-- a part in no list is the tree, if a semicolon ends it
is_either : (b : Bool) (t : Tree part) → is_tree (if b then tree t else unread) ≡ b
is_either true t = refl
is_either false t = refl

pub outermost : {whole : Parsed} {token : Token} {rest : List ℕ} {depth : ℕ} → Taken whole token rest depth → depth ≡ 0
    → is_tree whole ≡ ends (token ∷ tokens_of rest)
outermost {whole} {token} {rest} k z = go k.inside.lists z k.inside.comes
  where
    go : {d : ℕ} {onward : Outcome part → Parsed} → Lists (length rest + 1) d onward → d ≡ 0
        → onward (got k.taken (token ∷ tokens_of rest)) ≡ whole → is_tree whole ≡ ends (token ∷ tokens_of rest)
    go no_list z e = ap is_tree (sym e) ∙ is_either (ends (token ∷ tokens_of rest)) k.taken
    go (a_list calls many made ls) z e = absurd (omega arith)

-- ---- a text

-- at its beginning a part is wanted
pub scan_starts : (text : List ℕ) → Wanted (grown text) text 0
unfolding read_in grown
scan_starts text =
    record {
      calls = 2 * length text;
      many = omega arith;
      inside =
          record {
            onward = closed;
            lists = no_list;
            comes = ap (λ n. closed (read_in n part (tokens_of text))) (sym (add-one (2 * length text)));
          };
    }
