-- The tokens of a text are those of the words that it is written with.
use Rattle.std.specs.Prelude.{if◌then◌else◌}
use Prim.Native.Nat.{ℕ, zero, suc, ◌+◌, ◌*◌, ◌-◌, ◌≤◌}
use mathlib.Core.Path.{◌≡◌, refl, sym, ap, ◌∙◌}
use mathlib.Core.Bool.{Bool, true, false, ◌||◌, ◌&&◌, false≢true}
use mathlib.Core.List.{List, [], ◌∷◌, ◌++◌, map, append_assoc}
use native.Mathlib.Omega.{arith}
use lib.ListN.{length, length-append}
use lib.Dec.{eqb, ltb, leb}
use borrow.Author.Tests.{ltb-true, eqb-true}
use Rattle.newick.specs.Grammar.{Word, opening, closing, comma, colon, semicolon, number}
use Rattle.newick.specs.Grammar.{Blank, blank, tab, line_feed, carriage_return}
use Rattle.newick.specs.Grammar.{Mark, opening_bracket, closing_bracket, a_comma, a_colon, a_semicolon}
use Rattle.newick.specs.Grammar.{Digit, Digits, no_digits, a_digit, NoDigit, at_end, before}
use Rattle.newick.specs.Grammar.{WordsWritten, nothing, after_blank, after_mark, after_number}
use Rattle.newick.specs.Parsing.{sign_of, digit_sign, is_digit, ended, tokens_by, tokens_from, tokens_of}
use Rattle.newick.specs.declared.sign.Sign.{Sign}
use Rattle.newick.specs.declared.token.Token.{Token}
use Rattle.newick.proofs.Signs.{sign_digit, sign_blank, digit_range}
use Rattle.newick.proofs.Tokens.{by_digit, by_other, number_ended}

-- ---- words as tokens

-- the token of a word
unfoldable pub token_for : Word → Token
token_for opening = Token.Open
token_for closing = Token.Close
token_for comma = Token.Comma
token_for colon = Token.Colon
token_for semicolon = Token.Semicolon
token_for (number v) = Token.Number v

-- the tokens of words
abbrev pub tokens_for : List Word → List Token
tokens_for ws = map token_for ws

-- the word of a token, if it has one
word_for : Token → List Word
word_for Token.Open = opening ∷ []
word_for Token.Close = closing ∷ []
word_for Token.Comma = comma ∷ []
word_for Token.Colon = colon ∷ []
word_for Token.Semicolon = semicolon ∷ []
word_for (Token.Number v) = number v ∷ []
word_for Token.Other = []

word_back : (w : Word) → word_for (token_for w) ≡ w ∷ []
unfolding token_for word_for
word_back opening = refl
word_back closing = refl
word_back comma = refl
word_back colon = refl
word_back semicolon = refl
word_back (number v) = refl

-- tokens that begin with that of a word are those of words that begin with it
first_word : (w : Word) {ts : List Token} (ws : List Word) → token_for w ∷ ts ≡ tokens_for ws
    → (vs : List Word) × (ws ≡ w ∷ vs) × (ts ≡ tokens_for vs)
first_word w [] e = let z : ◌≡◌ {A = ℕ} 0 1 = cc in absurd (omega arith)
first_word w (u ∷ vs) e = (vs, cc (word_back w, word_back u), cc)

-- no words have the token of a bad byte
no_word : {ts : List Token} (ws : List Word) {A : Type 0} → Token.Other ∷ ts ≡ tokens_for ws → A
unfolding word_for
no_word [] e = let z : ◌≡◌ {A = ℕ} 0 1 = cc in absurd (omega arith)
no_word (w ∷ ws) e =
    let o : word_for Token.Other ≡ [] = refl in
    let z : ◌≡◌ {A = ℕ} 0 1 = cc (word_back w) in
    absurd (omega arith)

-- ---- from tokens to words

-- a text is written with the words that have these tokens
abbrev Wording : List Token → List ℕ → Type 0
Wording ts s = (ws : List Word) → ts ≡ tokens_for ws → WordsWritten ws s

-- one digit more
more_digits : {a v b : ℕ} {ds : List ℕ} → Digits a ds v → Digit b → Digits a (ds ++ (b ∷ [])) (10 * v + (b - 48))
more_digits no_digits d = a_digit d no_digits
more_digits (a_digit h r) d = a_digit h (more_digits r d)

-- a number ends, if there is one
end_number : (c v : ℕ) (ds s : List ℕ) (ts : List Token) → Digits 0 ds v → length ds ≡ c → NoDigit s → Wording ts s
    → Wording (ended c v ts) (ds ++ s)
unfolding token_for
end_number zero v [] s ts d l n later ws e = later ws e
end_number zero v (x ∷ ds) s ts d l n later ws e = absurd (omega arith)
end_number (suc k) v ds s ts d l n later ws e = go (ltb k 9) refl e
  where
    go : (t : Bool) → ltb k 9 ≡ t → (if t then Token.Number v else Token.Other) ∷ ts ≡ tokens_for ws → WordsWritten ws (ds ++ s)
    go true q e =
        let (vs, all, rest) = first_word (number v) ws e in
        rw all (after_number d (omega arith) (omega (arith, ltb-true k 9 q)) n (later vs rest))
    go false q e = no_word ws e

-- one of two tests holds
either : (s t : Bool) {A : Type 0} → (s || t) ≡ true → (s ≡ true → A) → (t ≡ true → A) → A
either true t e f g = f refl
either false t e f g = g e

-- a byte of the class of blanks is a blank
blank_of : (b : ℕ) → (eqb b 32 || (eqb b 9 || (eqb b 10 || eqb b 13))) ≡ true → Blank b
blank_of b e =
    either (eqb b 32) _ e (λ h. rw (eqb-true b 32 h) blank) (λ e.
    either (eqb b 9) _ e (λ h. rw (eqb-true b 9 h) tab) (λ e.
    either (eqb b 10) _ e (λ h. rw (eqb-true b 10 h) line_feed) (λ h. rw (eqb-true b 13 h) carriage_return)))

-- a byte of a class that is no digit begins a text
record Begins (b : ℕ) (s : List ℕ) (u : Sign) : Type 0 where
  wording : digit_sign u ≡ false → Wording (tokens_by u 0 0 [] (tokens_of s)) (b ∷ s)

begin : {b : ℕ} {s : List ℕ} (t : Bool) {u v : Sign} → (t ≡ true → Begins b s u) → (t ≡ false → Begins b s v) → Begins b s (if t then u else v)
begin true f g = f refl
begin false f g = g refl

module _ (b : ℕ) (s : List ℕ) (later : Wording (tokens_of s) s) where
  by_mark : {w : Word} {k : ℕ} {u : Sign} → Mark w k → tokens_by u 0 0 [] (tokens_of s) ≡ token_for w ∷ tokens_of s → eqb b k ≡ true
      → Begins b s u
  by_mark {w} {k} m is e =
      record {
        wording = λ _ ws f. let (vs, all, rest) = first_word w ws (sym is ∙ f) in rw (all, eqb-true b k e) (after_mark m (later vs rest));
      }

  begins : Begins b s (sign_of b)
  unfolding sign_of token_for
  begins =
      begin (eqb b 40) (by_mark opening_bracket refl) (λ _.
      begin (eqb b 41) (by_mark closing_bracket refl) (λ _.
      begin (eqb b 44) (by_mark a_comma refl) (λ _.
      begin (eqb b 58) (by_mark a_colon refl) (λ _.
      begin (eqb b 59) (by_mark a_semicolon refl) (λ _.
      begin (leb 48 b && leb b 57) (λ _. record { wording = λ n. absurd (false≢true (sym n)) }) (λ _.
      begin (eqb b 32 || (eqb b 9 || (eqb b 10 || eqb b 13))) (λ e. record { wording = λ _ ws f. after_blank (blank_of b e) (later ws f) })
      (λ _. record { wording = λ _ ws f. no_word ws f })))))))

no_words : Wording [] []
no_words [] e = nothing
no_words (w ∷ ws) e = let z : ◌≡◌ {A = ℕ} 0 1 = cc in absurd (omega arith)

-- a text after the digits of a number
text_written : (s : List ℕ) (c v : ℕ) (ds : List ℕ) → Digits 0 ds v → length ds ≡ c → Wording (tokens_from c v s) (ds ++ s)
unfolding tokens_from
text_written [] c v ds d l = end_number c v ds [] [] d l at_end no_words
text_written (b ∷ s) c v ds d l =
    go (is_digit b) refl (λ h. text_written s (suc c) (10 * v + (b - 48)) (ds ++ (b ∷ [])) (more_digits d h) long)
    (text_written s 0 0 [] no_digits refl)
  where
    long : length (ds ++ (b ∷ [])) ≡ suc c
    long = length-append ds (b ∷ []) ∙ omega arith

    go : (t : Bool) → is_digit b ≡ t → (Digit b → Wording (tokens_from (suc c) (10 * v + (b - 48)) s) ((ds ++ (b ∷ [])) ++ s))
        → Wording (tokens_of s) s → Wording (tokens_from c v (b ∷ s)) (ds ++ (b ∷ s))
    go true q on later ws e = rw append_assoc at (on (digit_range b q) ws (sym (by_digit (sign_of b) c v _ _ q) ∙ e))
    go false q on later ws e =
        let stop : NoDigit (b ∷ s) = before (λ h. false≢true (sym q ∙ ap digit_sign (sign_digit h.low h.high))) in
        end_number c v ds (b ∷ s) _ d l stop ((begins b s later).wording q) ws (sym (by_other (sign_of b) c v _ [] _ q) ∙ e)

-- a text whose tokens are those of words is written with them
pub words_written : (ws : List Word) (text : List ℕ) → tokens_of text ≡ tokens_for ws → WordsWritten ws text
words_written ws text = text_written text 0 0 [] no_digits refl ws

-- ---- and the other way round

-- digits are counted, and their number goes on
digits_read : {a v : ℕ} {ds : List ℕ} → Digits a ds v → (c : ℕ) (s : List ℕ) → tokens_from c a (ds ++ s) ≡ tokens_from (c + length ds) v s
unfolding tokens_from
digits_read no_digits c s = ap (λ n. tokens_from n _ s) (omega arith)
digits_read (a_digit {v} {w} {d} {ds} h r) c s =
    ap (λ u. tokens_by u c v (tokens_from (suc c) (10 * v + (d - 48)) (ds ++ s)) (tokens_of (ds ++ s))) (sign_digit h.low h.high)
    ∙ digits_read r (suc c) s ∙ ap (λ n. tokens_from n w s) (omega arith)

-- a number of 1 to 9 digits ends
number_read : (c v : ℕ) {s : List ℕ} → NoDigit s → 1 ≤ c → c ≤ 9 → tokens_from c v s ≡ Token.Number v ∷ tokens_of s
unfolding tokens_from
number_read c v at_end l u = number_ended c v [] l u
number_read c v (before {b} {s} n) l u = go (is_digit b) refl
  where
    go : (t : Bool) → is_digit b ≡ t → tokens_from c v (b ∷ s) ≡ Token.Number v ∷ tokens_of (b ∷ s)
    go true q = absurd (n (digit_range b q))
    go false q = by_other (sign_of b) c v _ _ (tokens_of s) q ∙ number_ended c v _ l u

mark_read : {w : Word} {b : ℕ} (s : List ℕ) → Mark w b → tokens_of (b ∷ s) ≡ token_for w ∷ tokens_of s
unfolding tokens_from sign_of token_for
mark_read s opening_bracket = refl
mark_read s closing_bracket = refl
mark_read s a_comma = refl
mark_read s a_colon = refl
mark_read s a_semicolon = refl

-- the tokens of a text are those of the words that it is written with
pub written_words : {ws : List Word} {text : List ℕ} → WordsWritten ws text → tokens_of text ≡ tokens_for ws
unfolding tokens_from token_for
written_words nothing = refl
written_words (after_blank h r) = rw (sign_blank h) (written_words r)
written_words (after_mark {w = w} {s = s} m r) = mark_read s m ∙ ap (λ ts. token_for w ∷ ts) (written_words r)
written_words (after_number {v} {ds} {ws} {s} d l u n r) =
    digits_read d 0 s ∙ number_read (0 + length ds) v n (omega arith) (omega arith) ∙ ap (λ ts. Token.Number v ∷ ts) (written_words r)

-- a text has no fewer bytes than words
pub written_length : {ws : List Word} {text : List ℕ} → WordsWritten ws text → length ws ≤ length text
written_length nothing = omega arith
written_length (after_blank h r) = omega (arith, written_length r)
written_length (after_mark m r) = omega (arith, written_length r)
written_length (after_number {v} {ds} {ws} {s} d l u n r) = omega (arith, written_length r, length-append ds s)
