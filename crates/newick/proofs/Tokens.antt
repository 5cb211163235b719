-- The tokens of a text, byte by byte.
use Prim.Native.Nat.{ℕ, zero, suc, ◌+◌, ◌*◌, ◌-◌, ◌^◌, ◌≤◌, ◌<◌}
use mathlib.Core.Path.{◌≡◌, refl, sym, ap, subst, ◌∙◌}
use mathlib.Core.Bool.{Bool, true, false, cond, false≢true}
use mathlib.Core.List.{List, [], ◌∷◌}
use native.Mathlib.Numerals.{add-one, one-add}
use Rattle.std.proofs.Common.{add-zero}
use native.Mathlib.Nat.{pow-succ', pow-le-pow_right}
use native.Mathlib.Omega.{arith}
use lib.ListN.{length, get_or, take, drop, length-drop, drop_of_length-le}
use lib.Seq.{drop-cons, drop-drop, take_all, get_or-drop}
use borrow.Author.Tests.{lt-ltb, le-ltb}
use Rattle.std.specs.Char.{is_ascii_digit}
use Rattle.std.specs.List.{prefix_len}
use Rattle.std.proofs.lemmas.List.Sums.{prefix_len-le-length}
use Rattle.newick.proofs.Signs.{digit_test, digit_range}
use Rattle.newick.specs.Parsing.{sign_of, digit_sign, is_digit, ended, tokens_by, tokens_from, tokens_of}
use Rattle.newick.specs.Inner.{BeginsNumber, Met, token_of, Overlong, Tokenless}
use Rattle.newick.specs.declared.sign.Sign.{Sign}
use Rattle.newick.specs.declared.token.NoToken.{NoToken}
use Rattle.newick.specs.declared.token.Token.{Token}

-- what holds of tokens, by the first of them
abbrev pub First : (List Token → Type 0) → Token → Type 0
First P t = (ts : List Token) → P (t ∷ ts)

pub by_first : (P : List Token → Type 0) → P [] → First P Token.Open → First P Token.Close → First P Token.Comma → First P Token.Colon
    → First P Token.Semicolon → ((v : ℕ) → First P (Token.Number v)) → First P Token.Other → (ts : List Token) → P ts
by_first P z o c k l s n x [] = z
by_first P z o c k l s n x (Token.Open ∷ ts) = o ts
by_first P z o c k l s n x (Token.Close ∷ ts) = c ts
by_first P z o c k l s n x (Token.Comma ∷ ts) = k ts
by_first P z o c k l s n x (Token.Colon ∷ ts) = l ts
by_first P z o c k l s n x (Token.Semicolon ∷ ts) = s ts
by_first P z o c k l s n x (Token.Number v ∷ ts) = n v ts
by_first P z o c k l s n x (Token.Other ∷ ts) = x ts

-- the byte at a place
pub tokens_go : (text : List ℕ) (i c v : ℕ) → i < length text
    → tokens_from c v (drop i text)
    ≡ tokens_by (sign_of (get_or text i 0)) c v (tokens_from (suc c) (10 * v + (get_or text i 0 - 48)) (drop (i + 1) text)) (tokens_of (drop (i + 1) text))
unfolding tokens_from
tokens_go text i c v h = rw (drop-cons text i 0 h, add-one)

pub tokens_none : (text : List ℕ) (i c v : ℕ) → length text ≤ i → tokens_from c v (drop i text) ≡ ended c v []
unfolding tokens_from
tokens_none text i c v h = rw (drop_of_length-le text h)

-- the byte at a place, of a known class
tokens_at : (text : List ℕ) (i : ℕ) (s : Sign) → i < length text → s ≡ sign_of (get_or text i 0)
    → (inside : List Token) × (tokens_of (drop i text) ≡ tokens_by s 0 0 inside (tokens_of (drop (i + 1) text)))
tokens_at text i s h e =
    let inside = tokens_from 1 (10 * 0 + (get_or text i 0 - 48)) (drop (i + 1) text) in
    (inside, tokens_go text i 0 0 h ∙ ap (λ u. tokens_by u 0 0 inside (tokens_of (drop (i + 1) text))) (sym e))

-- a digit goes on with the number
pub by_digit : (s : Sign) (c v : ℕ) (inside later : List Token) → digit_sign s ≡ true → tokens_by s c v inside later ≡ inside
by_digit Sign.Open c v inside later e = absurd (false≢true e)
by_digit Sign.Close c v inside later e = absurd (false≢true e)
by_digit Sign.Comma c v inside later e = absurd (false≢true e)
by_digit Sign.Colon c v inside later e = absurd (false≢true e)
by_digit Sign.Semicolon c v inside later e = absurd (false≢true e)
by_digit Sign.Digit c v inside later e = refl
by_digit Sign.Blank c v inside later e = absurd (false≢true e)
by_digit Sign.Other c v inside later e = absurd (false≢true e)

-- any other sign ends it
pub by_other : (s : Sign) (c v : ℕ) (inside inside' later : List Token) → digit_sign s ≡ false
    → tokens_by s c v inside later ≡ ended c v (tokens_by s 0 0 inside' later)
by_other Sign.Open c v inside inside' later e = refl
by_other Sign.Close c v inside inside' later e = refl
by_other Sign.Comma c v inside inside' later e = refl
by_other Sign.Colon c v inside inside' later e = refl
by_other Sign.Semicolon c v inside inside' later e = refl
by_other Sign.Digit c v inside inside' later e = absurd (false≢true (sym e))
by_other Sign.Blank c v inside inside' later e = refl
by_other Sign.Other c v inside inside' later e = refl

module _ (text : List ℕ) (i c v : ℕ) (h : i < length text) where
  pub digit_goes : is_digit (get_or text i 0) ≡ true
      → tokens_from c v (drop i text) ≡ tokens_from (suc c) (10 * v + (get_or text i 0 - 48)) (drop (i + 1) text)
  digit_goes e = tokens_go text i c v h ∙ by_digit (sign_of (get_or text i 0)) c v _ _ e

  pub other_ends : is_digit (get_or text i 0) ≡ false → tokens_from c v (drop i text) ≡ ended c v (tokens_of (drop i text))
  other_ends e =
      tokens_go text i c v h ∙ by_other (sign_of (get_or text i 0)) c v _ _ _ e ∙ ap (λ ts. ended c v ts) (sym (tokens_go text i 0 0 h))

-- a number of 1 to 9 digits
pub number_ended : (c v : ℕ) (ts : List Token) → 1 ≤ c → c ≤ 9 → ended c v ts ≡ Token.Number v ∷ ts
number_ended zero v ts l u = absurd (omega arith)
number_ended (suc c) v ts l u = rw (lt-ltb c 9 (omega arith))

-- one of more digits is none
none_ended : (c v : ℕ) (ts : List Token) → 10 ≤ c → ended c v ts ≡ Token.Other ∷ ts
none_ended zero v ts h = absurd (omega arith)
none_ended (suc c) v ts h = rw (le-ltb c 9 (omega arith))

-- and goes on as long as there are digits
pub overlong : (c v : ℕ) (s : List ℕ) → 10 ≤ c + prefix_len is_ascii_digit s
    → tokens_from c v s ≡ Token.Other ∷ tokens_of (drop (prefix_len is_ascii_digit s) s)
unfolding tokens_from
overlong c v [] h = none_ended c v [] (omega arith)
overlong c v (b ∷ s) h = go (is_ascii_digit b) refl h (overlong (suc c) (10 * v + (b - 48)) s)
  where
    go : (t : Bool) → is_ascii_digit b ≡ t → 10 ≤ c + cond t (1 + prefix_len is_ascii_digit s) 0
        → (10 ≤ suc c + prefix_len is_ascii_digit s → tokens_from (suc c) (10 * v + (b - 48)) s ≡ Token.Other ∷ tokens_of (drop (prefix_len is_ascii_digit s) s))
        → tokens_from c v (b ∷ s) ≡ Token.Other ∷ tokens_of (drop (cond t (1 + prefix_len is_ascii_digit s) 0) (b ∷ s))
    go true e h ih = by_digit (sign_of b) c v _ _ (sym (digit_test b) ∙ e) ∙ ih (omega arith) ∙ ap (λ n. Token.Other ∷ tokens_of (drop n (b ∷ s))) (sym (one-add (prefix_len is_ascii_digit s)))
    go false e h ih =
        by_other (sign_of b) c v _ _ _ (sym (digit_test b) ∙ e) ∙ none_ended c v (tokens_of (b ∷ s)) (omega arith)

-- what is left of a text from a place on
rest_from : (text : List ℕ) (i : ℕ) → take (length text - i) (drop i text) ≡ drop i text
rest_from text i = take_all (length text - i) (drop i text) (rw length-drop (omega arith))

-- what is left of a text from a place on are its own last bytes
pub last_from : (text : List ℕ) (i : ℕ) → i ≤ length text → drop i text ≡ drop (length text - length (drop i text)) text
last_from text i h =
    let same : i ≡ length text - length (drop i text) = rw length-drop (omega arith) in
    ap (λ n. drop n text) same

-- and the last bytes of those are its own too
pub last_of_last : (text rest past : List ℕ) → length rest ≤ length text → length past ≤ length rest
    → rest ≡ drop (length text - length rest) text → past ≡ drop (length rest - length past) rest
    → past ≡ drop (length text - length past) text
last_of_last text rest past h l r p =
    let same : length text - length rest + (length rest - length past) ≡ length text - length past = omega arith in
    p ∙ ap (drop (length rest - length past)) r ∙ drop-drop (length rest - length past) (length text - length rest) text
    ∙ ap (λ n. drop n text) same

-- a token ends before a place past the first byte
met_at : {text : List ℕ} {t : Token} (i : ℕ) → 0 < i → i ≤ length text → tokens_of text ≡ t ∷ tokens_of (drop i text)
    → Met text t (drop i text)
met_at {text} i some h e = record { shows = e; shorter = rw length-drop (omega arith); rest_is = last_from text i h }

-- the first i bytes of a text are digits, which make v
pub record Counting (text : List ℕ) (i v : ℕ) : Type 0 where
  pub few : i ≤ 9
  pub small : v < 10 ^ i
  pub whole : tokens_of text ≡ tokens_from i v (drop i text)

pub small_value : (c v : ℕ) → c < 9 → v < 10 ^ c → v < 100000000
small_value c v h l = let p : 10 ^ c ≤ 10 ^ 8 = pow-le-pow_right {n = 10} (omega arith) {i = c} {j = 8} (omega arith) in omega arith

met_from : {text : List ℕ} {t : Token} (i : ℕ) → Met text t (drop i text) → Met text t (take (length text - i) (drop i text))
met_from {text} {t} i m = subst (Met text t) (sym (rest_from text i)) m

module _ {text : List ℕ} {i v : ℕ} (k : Counting text i v) (h : i < length text) where
  abbrev left : List ℕ
  left = take (length text - i) (drop i text)

  digit : {b : Bool} → is_ascii_digit (get_or text i 0) ≡ b → is_digit (get_or text i 0) ≡ b
  digit e = sym (digit_test (get_or text i 0)) ∙ e

  -- the next byte is a digit, and there is room for it
  pub counting_goes : is_ascii_digit (get_or text i 0) ≡ true → i < 9 → Counting text (i + 1) (10 * v + (get_or text i 0 - 48))
  counting_goes d l =
      let e : 10 ^ suc i ≡ 10 * 10 ^ i = pow-succ' 10 i in
      record {
        few = omega arith;
        small = rw add-one (omega (arith, e, k.small, (digit_range (get_or text i 0) (digit d)).high));
        whole = rw add-one (k.whole ∙ rw add-one at (digit_goes text i i v h (digit d)));
      }

  -- it is none
  pub counting_ends : BeginsNumber text → is_ascii_digit (get_or text i 0) ≡ false
      → Met text (Token.Number v) left
  counting_ends d e =
      let some : 1 ≤ i = go i refl in
      met_from i (met_at i some (omega arith) (k.whole ∙ other_ends text i i v h (digit e) ∙ number_ended i v _ some k.few))
    where
      go : (m : ℕ) → i ≡ m → 1 ≤ i
      go zero z = absurd (false≢true (sym (digit e) ∙ ap (λ j. is_digit (get_or text j 0)) z ∙ d.digit))
      go (suc m) z = omega arith

  -- it is a tenth digit
  pub counting_fails : is_ascii_digit (get_or text i 0) ≡ true → i ≡ 9 → Overlong text left
  counting_fails d z =
      let s = drop i text in
      let n = prefix_len is_ascii_digit s in
      let some : 1 ≤ n =
      rw (drop-cons text i 0 h) (subst (λ t. 1 ≤ cond t (1 + prefix_len is_ascii_digit (drop (suc i) text)) 0) (sym d) (omega arith)) in
      let same : drop n s ≡ drop (i + n) text = drop-drop n i text in
      subst (Overlong text) (sym (rest_from text i))
      record {
        met =
            subst (Met text Token.Other) (sym same)
            (met_at (i + n) (omega arith) (omega (arith, prefix_len-le-length is_ascii_digit s, length-drop i text))
            (k.whole ∙ overlong i v s (omega arith) ∙ ap (λ u. Token.Other ∷ tokens_of u) same));
        shorter = rw length-drop (omega arith);
        digits_are = last_from text i (omega arith);
      }

-- the text ends
pub counting_last : {text : List ℕ} {i v : ℕ} → Counting text i v → length text ≤ i → 0 < length text → Met text (Token.Number v) []
unfolding tokens_from
counting_last {text} {i} {v} k end some =
    record {
      shows = k.whole ∙ tokens_none text i i v end ∙ number_ended i v [] (omega arith) k.few;
      shorter = some;
      rest_is = sym (drop_of_length-le text (omega arith));
    }

-- ---- the first token

-- the first i bytes of a text are blanks
pub record Skipping (text : List ℕ) (i : ℕ) : Type 0 where
  pub whole : tokens_of text ≡ tokens_of (drop i text)

pub skipping_ends : {text : List ℕ} {i : ℕ} → Skipping text i → length text ≤ i → tokens_of text ≡ []
skipping_ends {text} {i} k end = k.whole ∙ tokens_none text i 0 0 end

-- a sign that is a token by itself
alone_token : (s : Sign) (inside later : List Token) → (s ≡ Sign.Blank → ⊥) → (s ≡ Sign.Digit → ⊥)
    → tokens_by s 0 0 inside later ≡ token_of s ∷ later
alone_token Sign.Open inside later b d = refl
alone_token Sign.Close inside later b d = refl
alone_token Sign.Comma inside later b d = refl
alone_token Sign.Colon inside later b d = refl
alone_token Sign.Semicolon inside later b d = refl
alone_token Sign.Digit inside later b d = absurd (d refl)
alone_token Sign.Blank inside later b d = absurd (b refl)
alone_token Sign.Other inside later b d = refl

module _ {text : List ℕ} {i : ℕ} (k : Skipping text i) (h : i < length text) where
  abbrev here : Sign
  here = sign_of (get_or text i 0)

  abbrev number : List ℕ
  number = take (length text - i) (drop i text)

  pub skipping_goes : Sign.Blank ≡ here → Skipping text (i + 1)
  skipping_goes e = record { whole = k.whole ∙ (tokens_at text i Sign.Blank h e).1 }

  -- a number begins here
  pub skipping_begins : Sign.Digit ≡ here → BeginsNumber number
  skipping_begins e =
      rw (rest_from text i)
      record { inside = rw length-drop (omega arith); digit = rw (get_or-drop, add-zero) (ap digit_sign (sym e)) }

  -- what is left of it are the text's own last bytes
  number_last : {rest : List ℕ} → length rest < length number → rest ≡ drop (length number - length rest) number
      → (length rest < length text) × (rest ≡ drop (length text - length rest) text)
  number_last {rest} l e =
      let same : number ≡ drop i text = rest_from text i in
      let long = length-drop i text in (
        omega (arith, l, ap length same),
        last_of_last text number rest (omega (arith, ap length same)) (omega (arith, l))
            (same ∙ last_from text i (omega arith) ∙ ap (λ s. drop (length text - length s) text) (sym same)) e,
      )

  pub skipping_number : {t : Token} {rest : List ℕ} → Met number t rest → Met text t rest
  skipping_number m =
      let last = number_last m.shorter m.rest_is in
      record { shows = k.whole ∙ ap tokens_of (sym (rest_from text i)) ∙ m.shows; shorter = last.0; rest_is = last.1 }

  -- and one that is too long
  pub skipping_tokenless : (why : NoToken) → Tokenless number why → Tokenless text why
  skipping_tokenless NoToken.Nothing e = k.whole ∙ ap tokens_of (sym (rest_from text i)) ∙ e
  skipping_tokenless (NoToken.Overlong digits) o =
      let last = number_last o.shorter o.digits_are in
      record { met = skipping_number o.met; shorter = last.0; digits_are = last.1 }

  pub skipping_meets : {s : Sign} → s ≡ here → (s ≡ Sign.Blank → ⊥) → (s ≡ Sign.Digit → ⊥) → {t : Token} → t ≡ token_of s
      → Met text t (take (length text - (i + 1)) (drop (i + 1) text))
  skipping_meets {s} e b d {t} f =
      let w = tokens_at text i s h e in
      met_from (i + 1)
      (met_at (i + 1) (omega arith) (omega arith)
      (k.whole ∙ w.1 ∙ alone_token s w.0 (tokens_of (drop (i + 1) text)) b d ∙ ap (λ u. u ∷ tokens_of (drop (i + 1) text)) (sym f)))
