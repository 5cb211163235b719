-- What the code and the arguments on texts speak of: tokens, the plates of an outline, and trees whose numbers can be spelled.
use Rattle.std.specs.Prelude.{if◌then◌else◌, ℕ, ◌-◌, ◌≤◌, ◌<◌, ◌≡◌, true, List, [], ◌∷◌, length, get_or, drop}
use Rattle.std.specs.Char.{is_ascii_digit}
use Rattle.std.specs.List.{prefix_len}
use Rattle.outline.specs.Outline.{records, plate, is_taxon}
use Rattle.newick.specs.Grammar.{Kind, part, chain, Tree, taxon, group, last, more, most_number}
use Rattle.newick.specs.Parsing.{tokens_of, is_digit}
use Rattle.newick.specs.declared.sign.Sign.{Sign}
use Rattle.newick.specs.declared.token.NoToken.{NoToken}
use Rattle.newick.specs.declared.token.Token.{Token}

-- ---- tokens

-- a text begins with a digit
pub record BeginsNumber (text : List ℕ) : Type 0 where
  pub inside : 0 < length text
  pub digit : is_digit (get_or text 0 0) ≡ true

-- the token of a sign that is one by itself
abbrev pub token_of : Sign → Token
token_of Sign.Open = Token.Open
token_of Sign.Close = Token.Close
token_of Sign.Comma = Token.Comma
token_of Sign.Colon = Token.Colon
token_of Sign.Semicolon = Token.Semicolon
token_of Sign.Digit = Token.Other
token_of Sign.Blank = Token.Other
token_of Sign.Other = Token.Other

-- the first token of a text, and what is left after it, which are the text's own last bytes
pub record Met (text : List ℕ) (token : Token) (rest : List ℕ) : Type 0 where
  pub shows : tokens_of text ≡ token ∷ tokens_of rest
  pub shorter : length rest < length text
  pub rest_is : rest ≡ drop (length text - length rest) text

-- the first token is a number of too many digits, and this is left of the text from one of them on: the token ends with the last of them
pub record Overlong (text digits : List ℕ) : Type 0 where
  pub met : Met text Token.Other (drop (prefix_len is_ascii_digit digits) digits)
  pub shorter : length digits < length text
  pub digits_are : digits ≡ drop (length text - length digits) text

-- why the first token of a text is not given
abbrev pub Tokenless : List ℕ → NoToken → Type 0
Tokenless text NoToken.Nothing = tokens_of text ≡ []
Tokenless text (NoToken.Overlong digits) = Overlong text digits.now

-- ---- plates

-- the plates of the taxa among records
unfoldable pub plates_in : List ℕ → List ℕ → List ℕ
plates_in o [] = []
plates_in o (r ∷ rs) = if is_taxon o r then plate o r ∷ plates_in o rs else plates_in o rs

-- the plates of an outline's taxa
abbrev pub plates_of : List ℕ → List ℕ
plates_of o = plates_in o (records o)

-- ---- ranges

-- every plate and length of a tree has at most nine digits
pub data InRange : (κ : Kind) → Tree κ → Type 0 where
  taxon_in : {p l : ℕ} → p ≤ most_number → l ≤ most_number → InRange part (taxon p l)
  group_in : {ms : Tree chain} {l : ℕ} → InRange chain ms → l ≤ most_number → InRange part (group ms l)
  last_in : {t : Tree part} → InRange part t → InRange chain (last t)
  more_in : {t : Tree part} {ms : Tree chain} → InRange part t → InRange chain ms → InRange chain (more t ms)
