-- Reading a text: its tokens, and the tree that they spell.
use Rattle.std.specs.Prelude.{if◌then◌else◌, ℕ, zero, suc, ◌+◌, ◌*◌, ◌-◌, Bool, true, false, ◌||◌, ◌&&◌, List, [], ◌∷◌, length, eqb, ltb, leb}
use Rattle.newick.specs.Grammar.{Kind, part, chain, Tree, taxon, group, last, more, most_digits, most_bytes}
use Rattle.newick.specs.declared.sign.Sign.{Sign}
use Rattle.newick.specs.declared.token.Token.{Token}

-- the class of a byte
unfoldable pub sign_of : ℕ → Sign
sign_of b =
    if eqb b 40 then Sign.Open
    else (if eqb b 41 then Sign.Close
    else (if eqb b 44 then Sign.Comma
    else (if eqb b 58 then Sign.Colon
    else (if eqb b 59 then Sign.Semicolon
    else (if leb 48 b && leb b 57 then Sign.Digit
    else (if eqb b 32 || (eqb b 9 || (eqb b 10 || eqb b 13)) then Sign.Blank else Sign.Other))))))

-- the class of a digit
abbrev pub digit_sign : Sign → Bool
digit_sign Sign.Open = false
digit_sign Sign.Close = false
digit_sign Sign.Comma = false
digit_sign Sign.Colon = false
digit_sign Sign.Semicolon = false
digit_sign Sign.Digit = true
digit_sign Sign.Blank = false
digit_sign Sign.Other = false

-- a byte is a digit
abbrev pub is_digit : ℕ → Bool
is_digit b = digit_sign (sign_of b)

-- a number of so many digits that ends here, if there is one; of more digits than a number may have it is none
abbrev pub ended : ℕ → ℕ → List Token → List Token
ended zero v ts = ts
ended (suc c) v ts = (if ltb c most_digits then Token.Number v else Token.Other) ∷ ts

-- what a byte adds, after c digits of a number v: inside has the tokens if the number goes on, later those of the bytes after it
abbrev pub tokens_by : Sign → ℕ → ℕ → List Token → List Token → List Token
tokens_by Sign.Open c v inside later = ended c v (Token.Open ∷ later)
tokens_by Sign.Close c v inside later = ended c v (Token.Close ∷ later)
tokens_by Sign.Comma c v inside later = ended c v (Token.Comma ∷ later)
tokens_by Sign.Colon c v inside later = ended c v (Token.Colon ∷ later)
tokens_by Sign.Semicolon c v inside later = ended c v (Token.Semicolon ∷ later)
tokens_by Sign.Digit c v inside later = inside
tokens_by Sign.Blank c v inside later = ended c v later
tokens_by Sign.Other c v inside later = ended c v (Token.Other ∷ later)

-- the tokens of a text, after c digits of a number v
unfoldable pub tokens_from : ℕ → ℕ → List ℕ → List Token
tokens_from c v [] = ended c v []
tokens_from c v (b ∷ s) = tokens_by (sign_of b) c v (tokens_from (suc c) (10 * v + (b - 48)) s) (tokens_from 0 0 s)

-- the tokens of a whole text
abbrev pub tokens_of : List ℕ → List Token
tokens_of s = tokens_from 0 0 s

-- a tree and the tokens after it, or neither
pub data Outcome (κ : Kind) : Type 0 where
  failed : Outcome κ
  got : Tree κ → List Token → Outcome κ

-- the length after a colon
unfoldable pub with_number : (ℕ → Tree part) → List Token → Outcome part
with_number f [] = failed
with_number f (Token.Open ∷ ts) = failed
with_number f (Token.Close ∷ ts) = failed
with_number f (Token.Comma ∷ ts) = failed
with_number f (Token.Colon ∷ ts) = failed
with_number f (Token.Semicolon ∷ ts) = failed
with_number f (Token.Number l ∷ ts) = got (f l) ts
with_number f (Token.Other ∷ ts) = failed

-- a part but for its length, which is 0 where no colon follows
unfoldable pub with_length : (ℕ → Tree part) → List Token → Outcome part
with_length f [] = got (f 0) []
with_length f (Token.Open ∷ ts) = got (f 0) (Token.Open ∷ ts)
with_length f (Token.Close ∷ ts) = got (f 0) (Token.Close ∷ ts)
with_length f (Token.Comma ∷ ts) = got (f 0) (Token.Comma ∷ ts)
with_length f (Token.Colon ∷ ts) = with_number f ts
with_length f (Token.Semicolon ∷ ts) = got (f 0) (Token.Semicolon ∷ ts)
with_length f (Token.Number l ∷ ts) = got (f 0) (Token.Number l ∷ ts)
with_length f (Token.Other ∷ ts) = got (f 0) (Token.Other ∷ ts)

-- a list that was read as a group, with its length
abbrev pub grouped : Outcome chain → Outcome part
grouped failed = failed
grouped (got ms ts) = with_length (group ms) ts

-- a part, by a reader of lists
unfoldable pub part_from : (List Token → Outcome chain) → List Token → Outcome part
part_from f [] = failed
part_from f (Token.Open ∷ ts) = grouped (f ts)
part_from f (Token.Close ∷ ts) = failed
part_from f (Token.Comma ∷ ts) = failed
part_from f (Token.Colon ∷ ts) = failed
part_from f (Token.Semicolon ∷ ts) = failed
part_from f (Token.Number p ∷ ts) = with_length (taxon p) ts
part_from f (Token.Other ∷ ts) = failed

-- a member before the rest of its list
abbrev pub joined : Tree part → Outcome chain → Outcome chain
joined t failed = failed
joined t (got ms ts) = got (more t ms) ts

-- what follows a member: a comma and the rest of the list, or the closing bracket
unfoldable pub chain_then : (List Token → Outcome chain) → Tree part → List Token → Outcome chain
chain_then f t [] = failed
chain_then f t (Token.Open ∷ ts) = failed
chain_then f t (Token.Close ∷ ts) = got (last t) ts
chain_then f t (Token.Comma ∷ ts) = joined t (f ts)
chain_then f t (Token.Colon ∷ ts) = failed
chain_then f t (Token.Semicolon ∷ ts) = failed
chain_then f t (Token.Number l ∷ ts) = failed
chain_then f t (Token.Other ∷ ts) = failed

-- a list, from its first member on
abbrev pub chain_from : (List Token → Outcome chain) → Outcome part → Outcome chain
chain_from f failed = failed
chain_from f (got t ts) = chain_then f t ts

-- a part, or a list with its closing bracket, and what follows; depth bounds the calls
unfoldable pub read_in : ℕ → (κ : Kind) → List Token → Outcome κ
read_in zero κ ts = failed
read_in (suc depth) part ts = part_from (read_in depth chain) ts
read_in (suc depth) chain ts = chain_from (read_in depth chain) (read_in depth part ts)

-- there are no more tokens
abbrev pub nothing : List Token → Bool
nothing [] = true
nothing (t ∷ ts) = false

-- the semicolon, and nothing after it
unfoldable pub ends : List Token → Bool
ends [] = false
ends (Token.Open ∷ ts) = false
ends (Token.Close ∷ ts) = false
ends (Token.Comma ∷ ts) = false
ends (Token.Colon ∷ ts) = false
ends (Token.Semicolon ∷ ts) = nothing ts
ends (Token.Number l ∷ ts) = false
ends (Token.Other ∷ ts) = false

-- the tree of a text, if it has one
pub data Parsed : Type 0 where
  unread : Parsed
  tree : Tree part → Parsed

-- a tree that was read, if its text ends there
abbrev pub closed : Outcome part → Parsed
closed failed = unread
closed (got t ts) = if ends ts then tree t else unread

-- the tree of a text of any length; a text of b bytes takes at most 2 * b + 1 calls
unfoldable pub grown : List ℕ → Parsed
grown text = closed (read_in (2 * length text + 1) part (tokens_of text))

-- the tree of a text that is not too long
unfoldable pub parsed : List ℕ → Parsed
parsed text = if ltb most_bytes (length text) then unread else grown text
