-- Going through a text once: what is left of the reading, inside of open lists.
use Rattle.std.specs.Prelude.{ℕ, ◌+◌, ◌*◌, ◌≤◌, ◌<◌, ◌≡◌, Bool, true, false, List, ◌∷◌, length, Option, MatchOption}
use Rattle.newick.specs.Grammar.{part, chain, Tree}
use Rattle.newick.specs.Parsing.{tokens_of, Outcome, failed, got, with_length, part_from, chain_from, read_in, Parsed, unread, tree, closed}
use Rattle.newick.specs.declared.token.Token.{Token}
use Rattle.reading.specs.declared.place.Place.{Place}

-- a tree is there
abbrev pub is_tree : Parsed → Bool
is_tree unread = false
is_tree (tree t) = true

-- a list becomes a part, as its length is read
abbrev pub grouped_as : (Tree chain → ℕ → Tree part) → Outcome chain → Outcome part
grouped_as made failed = failed
grouped_as made (got ms ts) = with_length (made ms) ts

-- so many open lists, with calls left for n bytes, and what comes of a part inside of them: each list becomes a part, made of the
-- members to come and a length
pub data Lists (n : ℕ) : ℕ → (Outcome part → Parsed) → Type 0 where
  no_list : Lists n 0 closed
  a_list : {d : ℕ} {onward : Outcome part → Parsed} (calls : ℕ) → 2 * n ≤ calls → (made : Tree chain → ℕ → Tree part) → Lists n d onward
      → Lists n (d + 1) (λ o. onward (grouped_as made (chain_from (read_in calls chain) o)))

-- a place inside of so many open lists, with so many bytes left, and what comes of a text if this is read there
pub record Inside (whole : Parsed) (n depth : ℕ) (o : Outcome part) : Type 0 where
  pub onward : Outcome part → Parsed
  pub lists : Lists n depth onward
  pub comes : onward o ≡ whole

-- a part is wanted there
pub record Wanted (whole : Parsed) (text : List ℕ) (depth : ℕ) : Type 0 where
  pub calls : ℕ
  pub many : 2 * length text ≤ calls
  pub inside : Inside whole (length text) depth (part_from (read_in calls chain) (tokens_of text))

-- a part is taken there with its length: this token follows, with this after it
pub record Taken (whole : Parsed) (token : Token) (rest : List ℕ) (depth : ℕ) : Type 0 where
  pub taken : Tree part
  pub inside : Inside whole (length rest + 1) depth (got taken (token ∷ tokens_of rest))

-- whatever comes of the whole text, a part is taken there, or there is no tree
abbrev pub TakenAt : Parsed → Option Place → Type 0
TakenAt whole to = MatchOption to (is_tree whole ≡ false) (λ p. Taken whole p.token p.rest.now p.depth)

-- so it is from where a part is wanted, and the text gets shorter
pub record FromTaxon (text : List ℕ) (depth : ℕ) (to : Option Place) : Type 0 where
  pub taken : (whole : Parsed) → Wanted whole text depth → TakenAt whole to
  pub shorter : MatchOption to (Unit {0}) (λ p. length p.rest.now < length text)

-- and from where one is taken in a list
pub record FromPart (from : Place) (to : Option Place) : Type 0 where
  pub taken : (whole : Parsed) → Taken whole from.token from.rest.now from.depth → TakenAt whole to
  pub shorter : MatchOption to (Unit {0}) (λ p. length p.rest.now < length from.rest.now)
