-- Numbers as text, in ASCII, and lines of numbers.
use Rattle.std.specs.Prelude.{ℕ, zero, suc, ◌+◌, ◌/◌, ◌%◌, cond, List, [], ◌∷◌, ◌++◌, ltb}

-- the digit 0
abbrev pub nought : ℕ
nought = 48

-- a blank
abbrev pub blank : ℕ
blank = 32

-- a line end
abbrev pub line_end : ℕ
line_end = 10

-- the decimal digits of n, the most significant first and no 0 in front of others; depth bounds how many there are
unfoldable pub digits_in : ℕ → ℕ → List ℕ
digits_in zero n = []
digits_in (suc depth) n = cond (ltb n 10) ((nought + n) ∷ []) (digits_in depth (n / 10) ++ ((nought + n % 10) ∷ []))

-- n has at most n + 1 digits
unfoldable pub decimal : ℕ → List ℕ
decimal n = digits_in (n + 1) n

-- the numbers that follow on a line, a single blank before each, then the line end
unfoldable pub others : List ℕ → List ℕ
others [] = line_end ∷ []
others (n ∷ ns) = blank ∷ (decimal n ++ others ns)

-- a line: its numbers with single blanks between, then the line end
unfoldable pub line : List ℕ → List ℕ
line [] = line_end ∷ []
line (n ∷ ns) = decimal n ++ others ns

-- a line that begins with a word
unfoldable pub labelled : List ℕ → List ℕ → List ℕ
labelled label numbers = label ++ others numbers

-- a text for each number of a list, one after the other
unfoldable pub texts : (ℕ → List ℕ) → List ℕ → List ℕ
texts f [] = []
texts f (n ∷ ns) = f n ++ texts f ns
