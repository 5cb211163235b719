-- The one spelling of a tree spells that tree, and no blank, tab or line end is in it.
use Prim.Native.Nat.{ℕ, ◌+◌, ◌*◌, ◌-◌, ◌/◌, ◌%◌, ◌≤◌, ◌<◌}
use mathlib.Core.Path.{◌≡◌, subst}
use mathlib.Core.List.{List, [], ◌∷◌, ◌++◌, append_assoc}
use native.Mathlib.Omega.{arith}
use lib.ListN.{length}
use Rattle.text.specs.Text.{decimal}
use Rattle.text.proofs.Decimal.{decimal_ind, decimal_some, decimal_most}
use Rattle.newick.specs.Grammar.{Kind, part, Tree, taxon, group, last, more, Word, opening, closing, comma, colon, number}
use Rattle.newick.specs.Grammar.{Blank, blank, tab, line_feed, carriage_return, a_length, Spelled, a_taxon, a_group, the_last, one_more, most_bytes, Spells}
use Rattle.newick.specs.Grammar.{opening_bracket, closing_bracket, a_comma, a_colon, a_semicolon}
use Rattle.newick.specs.Grammar.{Digit, Digits, no_digits, a_digit, NoDigit, before, WordsWritten, nothing, after_mark, after_number}
use Rattle.newick.specs.Inner.{InRange, taxon_in, group_in, last_in, more_in}
use Rattle.reading.specs.Demands.{In, here, there}
use Rattle.writing.specs.Text.{spelling, text_of}

-- the digits of a number spell it
digits_then : {a v b : ℕ} {ds : List ℕ} → Digits a ds v → Digit b → Digits a (ds ++ (b ∷ [])) (10 * v + (b - 48))
digits_then no_digits d = a_digit d no_digits
digits_then (a_digit h r) d = a_digit h (digits_then r d)

pub decimal_digits : (n : ℕ) → Digits 0 (decimal n) n
decimal_digits =
    decimal_ind (λ n ds. Digits 0 ds n)
    (λ n h.
    let e : 10 * 0 + (48 + n - 48) ≡ n = omega arith in
    subst (Digits 0 ((48 + n) ∷ [])) e (a_digit (record { low = omega arith; high = omega arith }) no_digits))
    (λ n h ih.
    let e : 10 * (n / 10) + (48 + n % 10 - 48) ≡ n = omega arith in
    subst (Digits 0 (decimal (n / 10) ++ ((48 + n % 10) ∷ []))) e (digits_then ih (record { low = omega arith; high = omega arith })))

-- its words
abbrev words_in : {κ : Kind} → Tree κ → List Word
words_in (taxon p l) = number p ∷ colon ∷ number l ∷ []
words_in (group ms l) = opening ∷ (words_in ms ++ (closing ∷ colon ∷ number l ∷ []))
words_in (last t) = words_in t
words_in (more t ms) = words_in t ++ (comma ∷ words_in ms)

words_spelled : {κ : Kind} (t : Tree κ) → Spelled κ t (words_in t)
words_spelled (taxon p l) = a_taxon a_length
words_spelled (group ms l) = a_group (words_spelled ms) a_length
words_spelled (last t) = the_last (words_spelled t)
words_spelled (more t ms) = one_more (words_spelled t) (words_spelled ms)

-- a number before words that begin with no digit, as no mark does
number_first : {ws : List Word} {s : List ℕ} (v : ℕ) → v ≤ 999999999 → NoDigit s → WordsWritten ws s → WordsWritten (number v ∷ ws) (decimal v ++ s)
number_first v h n w = after_number (decimal_digits v) (decimal_some v) (decimal_most 8 v (omega arith)) n w

low_mark : {b : ℕ} {s : List ℕ} → b < 48 → NoDigit (b ∷ s)
low_mark {b} h = before (λ (d : Digit b). omega (arith, d.low))

high_mark : {b : ℕ} {s : List ℕ} → 57 < b → NoDigit (b ∷ s)
high_mark {b} h = before (λ (d : Digit b). omega (arith, d.high))

-- the bytes are those of the words
spelling_written : {κ : Kind} {t : Tree κ} → InRange κ t → {ws : List Word} {s : List ℕ} → NoDigit s → WordsWritten ws s
    → WordsWritten (words_in t ++ ws) (spelling t ++ s)
unfolding spelling
spelling_written (taxon_in {p} {l} a b) {ws} {s} n w =
    rw (append_assoc (decimal p) (58 ∷ decimal l) s)
    (number_first p a (high_mark (omega arith)) (after_mark a_colon (number_first l b n w)))
spelling_written (group_in {ms} {l} r b) {ws} {s} n w =
    rw (append_assoc (words_in ms) (closing ∷ colon ∷ number l ∷ []) ws, append_assoc (spelling ms) (41 ∷ 58 ∷ decimal l) s)
    (after_mark opening_bracket
    (spelling_written r (low_mark (omega arith)) (after_mark closing_bracket (after_mark a_colon (number_first l b n w)))))
spelling_written (last_in r) n w = spelling_written r n w
spelling_written (more_in {t} {ms} r q) {ws} {s} n w =
    rw (append_assoc (words_in t) (comma ∷ words_in ms) ws, append_assoc (spelling t) (44 ∷ spelling ms) s)
    (spelling_written r (low_mark (omega arith)) (after_mark a_comma (spelling_written q n w)))

-- a tree in range is spelled by its text, where that is not too long
pub text_spells : {t : Tree part} → InRange part t → length (text_of t) ≤ most_bytes → Spells t (text_of t)
unfolding text_of
text_spells {t} r short =
    record {
      short = short;
      words = words_in t;
      spelled = words_spelled t;
      written = spelling_written r (high_mark (omega arith)) (after_mark a_semicolon nothing);
    }

-- ---- no blank, tab or line end is in it
abbrev pub Dense : List ℕ → Type 0
Dense bs = (b : ℕ) → In b bs → Blank b → ⊥

no_blank : {b : ℕ} → 33 ≤ b → Blank b → ⊥
no_blank h blank = omega arith
no_blank h tab = omega arith
no_blank h line_feed = omega arith
no_blank h carriage_return = omega arith

dense_then : {c : ℕ} {bs : List ℕ} → 33 ≤ c → Dense bs → Dense (c ∷ bs)
dense_then h k b here = no_blank h
dense_then h k b (there i) = k b i

dense_both : (bs cs : List ℕ) → Dense bs → Dense cs → Dense (bs ++ cs)
dense_both [] cs h k c i = k c i
dense_both (b ∷ bs) cs h k c here = h c here
dense_both (b ∷ bs) cs h k c (there i) = dense_both bs cs (λ d j. h d (there j)) k c i

digits_dense : {v w : ℕ} {ds : List ℕ} → Digits v ds w → Dense ds
digits_dense no_digits b i = elim i [ ]
digits_dense (a_digit d r) b i = let h = d.low in dense_then (omega arith) (digits_dense r) b i

length_dense : (l : ℕ) → Dense (58 ∷ decimal l)
length_dense l = dense_then (omega arith) (digits_dense (decimal_digits l))

spelling_dense : {κ : Kind} (t : Tree κ) → Dense (spelling t)
unfolding spelling
spelling_dense (taxon p l) = dense_both (decimal p) _ (digits_dense (decimal_digits p)) (length_dense l)
spelling_dense (group ms l) = dense_then (omega arith) (dense_both (spelling ms) _ (spelling_dense ms) (dense_then (omega arith) (length_dense l)))
spelling_dense (last t) = spelling_dense t
spelling_dense (more t ms) = dense_both (spelling t) _ (spelling_dense t) (dense_then (omega arith) (spelling_dense ms))

pub text_dense : (t : Tree part) → Dense (text_of t)
unfolding text_of
text_dense t = dense_both (spelling t) _ (spelling_dense t) (dense_then (omega arith) (λ b i. elim i [ ]))
