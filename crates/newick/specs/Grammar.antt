-- Trees in Newick form: which text spells which tree.
use Rattle.std.specs.Prelude.{ℕ, ◌+◌, ◌*◌, ◌-◌, ◌≤◌, List, [], ◌∷◌, ◌++◌, length}

-- a part, or a chain of parts
pub data Kind : Type 0 where
  part chain : Kind

-- a part is a plate number, or a list of parts, with a length; a list has at least one part
pub data Tree : Kind → Type 0 where
  taxon : ℕ → ℕ → Tree part
  group : Tree chain → ℕ → Tree part
  last : Tree part → Tree chain
  more : Tree part → Tree chain → Tree chain

-- what a text is made of, blanks left out
pub data Word : Type 0 where
  opening closing comma colon semicolon : Word
  number : ℕ → Word

-- a colon and a length; none means 0
pub data Length : ℕ → List Word → Type 0 where
  no_length : Length 0 []
  a_length : {l : ℕ} → Length l (colon ∷ number l ∷ [])

-- a plate number, or a bracketed list of parts with commas between, each with its length; a group has no label
pub data Spelled : (κ : Kind) → Tree κ → List Word → Type 0 where
  a_taxon : {p l : ℕ} {ls : List Word} → Length l ls → Spelled part (taxon p l) (number p ∷ ls)
  a_group : {ms : Tree chain} {l : ℕ} {ws ls : List Word} → Spelled chain ms ws → Length l ls
      → Spelled part (group ms l) (opening ∷ (ws ++ (closing ∷ ls)))
  the_last : {t : Tree part} {ws : List Word} → Spelled part t ws → Spelled chain (last t) ws
  one_more : {t : Tree part} {ms : Tree chain} {ws vs : List Word} → Spelled part t ws → Spelled chain ms vs
      → Spelled chain (more t ms) (ws ++ (comma ∷ vs))

-- a blank, a tab, a line end (bytes 10 and 13)
pub data Blank : ℕ → Type 0 where
  blank : Blank 32
  tab : Blank 9
  line_feed : Blank 10
  carriage_return : Blank 13

-- the words of one byte: round brackets, comma, colon, semicolon
pub data Mark : Word → ℕ → Type 0 where
  opening_bracket : Mark opening 40
  closing_bracket : Mark closing 41
  a_comma : Mark comma 44
  a_colon : Mark colon 58
  a_semicolon : Mark semicolon 59

-- a digit
pub record Digit (b : ℕ) : Type 0 where
  pub low : 48 ≤ b
  pub high : b ≤ 57

-- digits side by side, with the number that they continue and the number that they end
pub data Digits : ℕ → List ℕ → ℕ → Type 0 where
  no_digits : {v : ℕ} → Digits v [] v
  a_digit : {v w d : ℕ} {ds : List ℕ} → Digit d → Digits (10 * v + (d - 48)) ds w → Digits v (d ∷ ds) w

-- the text does not go on with a digit
pub data NoDigit : List ℕ → Type 0 where
  at_end : NoDigit []
  before : {b : ℕ} {s : List ℕ} → (Digit b → ⊥) → NoDigit (b ∷ s)

-- a number has at most so many digits, and is at most the greatest of so many
abbrev pub most_digits : ℕ
most_digits = 9

abbrev pub most_number : ℕ
most_number = 999999999

-- words written as a text: blanks may stand anywhere but inside a number, and a number has 1 to 9 digits, which are all that
-- stand side by side
pub data WordsWritten : List Word → List ℕ → Type 0 where
  nothing : WordsWritten [] []
  after_blank : {b : ℕ} {ws : List Word} {s : List ℕ} → Blank b → WordsWritten ws s → WordsWritten ws (b ∷ s)
  after_mark : {w : Word} {b : ℕ} {ws : List Word} {s : List ℕ} → Mark w b → WordsWritten ws s → WordsWritten (w ∷ ws) (b ∷ s)
  after_number : {v : ℕ} {ds : List ℕ} {ws : List Word} {s : List ℕ} → Digits 0 ds v → 1 ≤ length ds → length ds ≤ most_digits → NoDigit s
      → WordsWritten ws s → WordsWritten (number v ∷ ws) (ds ++ s)

-- a text has at most so many bytes
abbrev pub most_bytes : ℕ
most_bytes = 16384

-- a text spells a tree: its words are those of a part, and a semicolon ends them; only blanks may follow it
pub record Spells (t : Tree part) (text : List ℕ) : Type 0 where
  pub short : length text ≤ most_bytes
  pub words : List Word
  pub spelled : Spelled part t words
  pub written : WordsWritten (words ++ (semicolon ∷ [])) text
