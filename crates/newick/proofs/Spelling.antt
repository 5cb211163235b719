-- The reader's definition and the grammar agree: a text has the tree that it spells, and no other.
use Rattle.std.specs.Prelude.{if◌then◌else◌}
use Prim.Native.Nat.{ℕ, zero, suc, ◌+◌, ◌*◌, ◌≤◌}
use mathlib.Core.Path.{◌≡◌, refl, ap, ◌∙◌}
use mathlib.Core.Bool.{Bool, true, false}
use mathlib.Core.List.{List, [], ◌∷◌, ◌++◌, append-nil, append_assoc, map-append}
use native.Mathlib.Omega.{arith}
use lib.ListN.{length, length-append}
use lib.Dec.{ltb}
use borrow.Author.Tests.{le-ltb, ltb-false}
use Rattle.newick.specs.Grammar.{Kind, part, chain, Tree, taxon, group, Word, opening, closing, comma, colon, semicolon, number}
use Rattle.newick.specs.Grammar.{Length, no_length, a_length, Spelled, a_taxon, a_group, the_last, one_more, most_bytes, Spells}
use Rattle.newick.specs.Parsing.{tokens_of, Outcome, failed, got, with_number, with_length, grouped, part_from, joined, chain_then}
use Rattle.newick.specs.Parsing.{chain_from, read_in, nothing, ends, closed, Parsed, unread, tree, grown, parsed}
use Rattle.newick.specs.declared.token.Token.{Token}
use Rattle.newick.proofs.Tokens.{by_first}
use Rattle.newick.proofs.WordsWritten.{token_for, tokens_for, words_written, written_words, written_length}

-- ---- a tree that is read is spelled by the words that are read

-- the tokens of a part, or of a list with its closing bracket, and a rest
abbrev used : Kind → List Word → List Token → List Token
used part ws rest = tokens_for ws ++ rest
used chain ws rest = tokens_for ws ++ (Token.Close ∷ rest)

-- what reading some tokens comes to
data Reads (κ : Kind) (all : List Token) : Outcome κ → Type 0 where
  bad : Reads κ all failed
  good : {t : Tree κ} {rest : List Token} (ws : List Word) → Spelled κ t ws → all ≡ used κ ws rest → Reads κ all (got t rest)

-- a part that is spelled but for its length, and what follows
module _ (f : ℕ → Tree part) (ws : List Word) (spelled : (l : ℕ) (ls : List Word) → Length l ls → Spelled part (f l) (ws ++ ls)) where
  without : (ts : List Token) → Reads part (tokens_for ws ++ ts) (got (f 0) ts)
  without ts = good {rest = ts} (ws ++ []) (spelled _ _ no_length) (rw append-nil)

  number_reads : (ts : List Token) → Reads part (tokens_for ws ++ (Token.Colon ∷ ts)) (with_number f ts)
  unfolding with_number token_for
  number_reads =
      by_first (λ ts. Reads part (tokens_for ws ++ (Token.Colon ∷ ts)) (with_number f ts))
      bad (λ _. bad) (λ _. bad) (λ _. bad) (λ _. bad) (λ _. bad)
      (λ l ts. good (ws ++ (colon ∷ number l ∷ [])) (spelled _ _ a_length) (simp (map-append, append_assoc))) (λ _. bad)

  length_reads : (ts : List Token) → Reads part (tokens_for ws ++ ts) (with_length f ts)
  unfolding with_length
  length_reads =
      by_first (λ ts. Reads part (tokens_for ws ++ ts) (with_length f ts))
      (without _) (λ _. without _) (λ _. without _) (λ _. without _) number_reads (λ _. without _)
      (λ _ _. without _) (λ _. without _)

-- a bracketed list and its length
group_reads : {all : List Token} {o : Outcome chain} → Reads chain all o → Reads part (Token.Open ∷ all) (grouped o)
unfolding token_for
group_reads bad = bad
group_reads (good {t = ms} {rest = rest} ws s e) =
    let r = length_reads (group ms) (opening ∷ (ws ++ (closing ∷ []))) (λ _ _ h. rw append_assoc (a_group s h)) rest in
    rw e (simp (map-append, append_assoc) at r)

module _ (f : List Token → Outcome chain) (lists : (ts : List Token) → Reads chain ts (f ts)) where
  -- a part, by a reader of lists
  part_reads : (ts : List Token) → Reads part ts (part_from f ts)
  unfolding part_from token_for
  part_reads =
      by_first (λ ts. Reads part ts (part_from f ts)) bad (λ ts. group_reads (lists ts)) (λ _. bad) (λ _. bad) (λ _. bad) (λ _. bad)
      (λ p. length_reads (taxon p) (number p ∷ []) (λ _ _. a_taxon)) (λ _. bad)

  -- a comma and more of a list
  more_reads : {t : Tree part} {ws : List Word} {all ts : List Token} {o : Outcome chain} → Spelled part t ws
      → all ≡ tokens_for ws ++ (Token.Comma ∷ ts) → Reads chain ts o → Reads chain all (joined t o)
  unfolding token_for
  more_reads s e bad = bad
  more_reads {ws = ws} s e (good {rest = rest} vs q d) =
      good {rest = rest} (ws ++ (comma ∷ vs)) (one_more s q) (e ∙ simp (d, map-append, append_assoc))

  -- what follows a member
  then_reads : {t : Tree part} {ws : List Word} {all : List Token} → Spelled part t ws → (ts : List Token) → all ≡ tokens_for ws ++ ts
      → Reads chain all (chain_then f t ts)
  unfolding chain_then
  then_reads {t} {ws} {all} s =
      by_first (λ ts. all ≡ tokens_for ws ++ ts → Reads chain all (chain_then f t ts)) (λ _. bad) (λ _ _. bad) (λ _ e. good ws (the_last s) e)
      (λ ts e. more_reads s e (lists ts)) (λ _ _. bad) (λ _ _. bad) (λ _ _ _. bad) (λ _ _. bad)

  chain_reads : {all : List Token} {o : Outcome part} → Reads part all o → Reads chain all (chain_from f o)
  chain_reads bad = bad
  chain_reads (good {rest = rest} ws s e) = then_reads s rest e

-- whatever is read is spelled
reads : (n : ℕ) (κ : Kind) (ts : List Token) → Reads κ ts (read_in n κ ts)
unfolding read_in
reads zero κ ts = bad
reads (suc n) part ts = part_reads (read_in n chain) (reads n chain) ts
reads (suc n) chain ts = chain_reads (read_in n chain) (reads n chain) (reads n part ts)

-- ---- and a tree that is spelled is read

-- tokens before which a part without a length ends; a list ends by its bracket
abbrev Stops : List Token → Type 0
Stops rest = (f : ℕ → Tree part) → with_length f rest ≡ got (f 0) rest

-- what may follow a part, or a list with its bracket
abbrev Follows : Kind → List Token → Type 0
Follows part rest = Stops rest
Follows chain rest = Unit

length_complete : {l : ℕ} {ls : List Word} (f : ℕ → Tree part) → Length l ls → (rest : List Token) → Stops rest
    → with_length f (tokens_for ls ++ rest) ≡ got (f l) rest
unfolding with_length with_number token_for
length_complete f no_length rest s = s f
length_complete f a_length rest s = refl

-- how many calls so many words take
abbrev calls : Kind → ℕ → ℕ
calls part m = 2 * m
calls chain m = 2 * m + 1

-- what is spelled is read, by that many calls or more
complete : {κ : Kind} {t : Tree κ} {ws : List Word} → Spelled κ t ws → (n : ℕ) → calls κ (length ws) ≤ n → (rest : List Token)
    → Follows κ rest → read_in n κ (used κ ws rest) ≡ got t rest
unfolding read_in part_from chain_then with_length token_for
complete (a_taxon h) zero b rest s = absurd (omega arith)
complete (a_taxon {p = p} h) (suc n) b rest s = length_complete (taxon p) h rest s
complete (a_group r h) zero b rest s = absurd (omega arith)
complete (a_group {ms} {l} {ws} {ls} r h) (suc n) b rest s =
    let long = length-append ws (closing ∷ ls) in
    simp (map-append, append_assoc)
    (ap grouped (complete r n (omega arith) (tokens_for ls ++ rest) tt) ∙ length_complete (group ms) h rest s)
complete (the_last r) zero b rest s = absurd (omega arith)
complete (the_last r) (suc n) b rest s = ap (chain_from (read_in n chain)) (complete r n (omega arith) (Token.Close ∷ rest) (λ _. refl))
complete (one_more r q) zero b rest s = absurd (omega arith)
complete (one_more {t} {ms} {ws} {vs} r q) (suc n) b rest s =
    let long = length-append ws (comma ∷ vs) in
    simp (map-append, append_assoc)
    (ap (chain_from (read_in n chain)) (complete r n (omega arith) (Token.Comma ∷ used chain vs rest) (λ _. refl))
    ∙ ap (joined t) (complete q n (omega arith) rest tt))

-- ---- whole texts

-- what reading a text comes to
data Reading (text : List ℕ) : Parsed → Type 0 where
  no_tree : Reading text unread
  a_tree : {t : Tree part} → Spells t text → Reading text (tree t)

module _ (text : List ℕ) (short : length text ≤ most_bytes) where
  -- a semicolon and nothing after it
  end_reads : {t : Tree part} (ws : List Word) → Spelled part t ws → (ts : List Token)
      → tokens_of text ≡ tokens_for ws ++ (Token.Semicolon ∷ ts) → Reading text (if nothing ts then tree t else unread)
  unfolding token_for
  end_reads ws s [] e =
      a_tree record { short = short; words = ws; spelled = s; written = words_written (ws ++ (semicolon ∷ [])) text (e ∙ simp map-append) }
  end_reads ws s (t ∷ ts) e = no_tree

  whole_reads : {o : Outcome part} → Reads part (tokens_of text) o → Reading text (closed o)
  unfolding ends
  whole_reads bad = no_tree
  whole_reads (good {t} {rest} ws s e) =
      by_first (λ ts. tokens_of text ≡ tokens_for ws ++ ts → Reading text (if ends ts then tree t else unread))
      (λ _. no_tree) (λ _ _. no_tree) (λ _ _. no_tree) (λ _ _. no_tree) (λ _ _. no_tree) (end_reads ws s) (λ _ _ _. no_tree)
      (λ _ _. no_tree) rest e

reading : (text : List ℕ) → Reading text (parsed text)
unfolding parsed grown
reading text = go (ltb most_bytes (length text)) refl
  where
    go : (b : Bool) → ltb most_bytes (length text) ≡ b → Reading text (if b then unread else grown text)
    go true q = no_tree
    go false q = whole_reads text (ltb-false most_bytes (length text) q) (reads (2 * length text + 1) part (tokens_of text))

-- the tree that is read is the tree that is spelled
pub parsed_sound : (t : Tree part) (text : List ℕ) → parsed text ≡ tree t → Spells t text
parsed_sound t text e = given (rw e at (reading text))
  where
    given : Reading text (tree t) → Spells t text
    given (a_tree s) = s

-- and the tree that is spelled is the tree that is read
pub parsed_complete : (t : Tree part) (text : List ℕ) → Spells t text → parsed text ≡ tree t
unfolding parsed grown ends with_length token_for
parsed_complete t text s =
    let all : tokens_of text ≡ tokens_for s.words ++ (Token.Semicolon ∷ []) = written_words s.written ∙ simp map-append in
    let few : length s.words + 1 ≤ length text = omega (arith, written_length s.written, length-append s.words (semicolon ∷ [])) in
    let read = complete s.spelled (2 * length text + 1) (omega arith) (Token.Semicolon ∷ []) (λ _. refl) in
    rw (le-ltb most_bytes (length text) s.short, all, read)

-- so a text spells one tree at most
pub one_tree : {t u : Tree part} {text : List ℕ} → Spells t text → Spells u text → t ≡ u
one_tree {t} {u} {text} s r = cc (parsed_complete t text s, parsed_complete u text r)

-- a text that is not read spells no tree
pub unread_none : (text : List ℕ) → parsed text ≡ unread → (t : Tree part) → Spells t text → ⊥
unread_none text e t s = let z : ◌≡◌ {A = ℕ} 0 1 = cc (parsed_complete t text s) in omega arith
