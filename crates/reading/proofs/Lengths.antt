-- The next token, and what follows a part, by the tokens: a number after a colon, a length, a token.
use Prim.Native.Nat.{ℕ}
use mathlib.Core.Path.{◌≡◌, refl, sym, ap, subst, ◌∙◌}
use mathlib.Core.List.{List, ◌∷◌}
use native.Mathlib.Omega.{arith}
use Rattle.std.specs.Prelude.{None, Some, Result, Ok, Err, MatchOption, MatchResult}
use Rattle.std.proofs.Common.{Bor}
use Rattle.std.specs.Result.{result_ok}
use Rattle.newick.specs.Grammar.{part, Tree}
use Rattle.newick.specs.Inner.{Met, Tokenless}
use Rattle.newick.specs.Parsing.{tokens_of, failed, got, with_number, with_length}
use Rattle.newick.specs.declared.token.NoToken.{NoToken}
use Rattle.newick.specs.declared.token.Token.{Token}
use Rattle.newick.proofs.Tokens.{last_of_last}
use Rattle.reading.specs.Inner.{Stuck, at_end, no_word, NoNumber, NumberRead, Short, short_failed, short_stuck, Stopped, Followed}

-- ---- the next token
stuck_at : (text : List ℕ) (why : NoToken) → Tokenless text why → Stuck (tokens_of text)
stuck_at text NoToken.Nothing e = subst Stuck (sym e) at_end
stuck_at text (NoToken.Overlong digits) o = subst Stuck (sym o.met.shows) no_word

-- a token of which a tree can make something, or none
module _ (text : List ℕ) (r : Result (Token × Bor (List ℕ)) NoToken)
    (m : MatchResult r (λ found. Met text found.0 found.1.now) (Tokenless text)) where
  by_token : MatchOption (result_ok r) (Stuck (tokens_of text)) (λ found. Met text found.0 found.1.now)
  by_token = go r m
    where
      go : (r : Result (Token × Bor (List ℕ)) NoToken) → MatchResult r (λ found. Met text found.0 found.1.now) (Tokenless text)
          → MatchOption (result_ok r) (Stuck (tokens_of text)) (λ found. Met text found.0 found.1.now)
      go (Ok found) m = m
      go (Err why) m = stuck_at text why m

  pub met_next : {token : Token} {rest : Bor (List ℕ)} → Some (token, rest) ≡ result_ok r → Met text token rest.now
  met_next e = rw (← e) at by_token

  pub stuck_next : None ≡ result_ok r → Stuck (tokens_of text)
  stuck_next e = rw (← e) at by_token

-- ---- the number after a colon
number_fails : (t : Token) → ((l : ℕ) → t ≡ Token.Number l → ⊥) → (made : ℕ → Tree part) (ts : List Token) → with_number made (t ∷ ts) ≡ failed
unfolding with_number
number_fails Token.Open o made ts = refl
number_fails Token.Close o made ts = refl
number_fails Token.Comma o made ts = refl
number_fails Token.Colon o made ts = refl
number_fails Token.Semicolon o made ts = refl
number_fails (Token.Number l) o made ts = absurd (o l refl)
number_fails Token.Other o made ts = refl

number_stuck : (made : ℕ → Tree part) {ts : List Token} → Stuck ts → with_number made ts ≡ failed
unfolding with_number
number_stuck made at_end = refl
number_stuck made no_word = refl

pub number_nowhere : (text : List ℕ) → Stuck (tokens_of text) → NoNumber text
number_nowhere text s made = number_stuck made s

module _ {text rest : List ℕ} {s : Token} (m : Met text s rest) where
  pub number_missing : ((l : ℕ) → s ≡ Token.Number l → ⊥) → NoNumber text
  number_missing o made = ap (with_number made) m.shows ∙ number_fails s o made (tokens_of rest)

  pub number_there : (l : ℕ) → s ≡ Token.Number l → NumberRead text l rest
  unfolding with_number
  number_there l e =
      record { reads = λ made. ap (with_number made) (m.shows ∙ ap (λ t. t ∷ tokens_of rest) e); shorter = m.shorter; rest_is = m.rest_is }

-- ---- a length, and the token after it
no_colon : (t : Token) → (t ≡ Token.Colon → ⊥) → (made : ℕ → Tree part) (ts : List Token) → with_length made (t ∷ ts) ≡ got (made 0) (t ∷ ts)
unfolding with_length
no_colon Token.Open o made ts = refl
no_colon Token.Close o made ts = refl
no_colon Token.Comma o made ts = refl
no_colon Token.Colon o made ts = absurd (o refl)
no_colon Token.Semicolon o made ts = refl
no_colon (Token.Number l) o made ts = refl
no_colon Token.Other o made ts = refl

-- no token
length_stuck : (made : ℕ → Tree part) {ts : List Token} → Stuck ts → Short (with_length made ts)
unfolding with_length
length_stuck made at_end = short_stuck at_end
length_stuck made no_word = short_stuck no_word

pub stops_nowhere : (text : List ℕ) → Stuck (tokens_of text) → Stopped text
stops_nowhere text s made = length_stuck made s

module _ {text rest : List ℕ} {s : Token} (m : Met text s rest) where
  -- another token than a colon
  pub follows_other : (s ≡ Token.Colon → ⊥) → Followed text 0 s rest
  follows_other o =
      record {
        reads = λ made. ap (with_length made) m.shows ∙ no_colon s o made (tokens_of rest);
        shorter = m.shorter;
        rest_is = m.rest_is;
      }

  -- a colon, and no number or one
  module _ (e : s ≡ Token.Colon) where
    at_colon : (made : ℕ → Tree part) → with_length made (tokens_of text) ≡ with_number made (tokens_of rest)
    unfolding with_length
    at_colon made = ap (with_length made) (m.shows ∙ ap (λ t. t ∷ tokens_of rest) e)

    pub colon_stops : NoNumber rest → Stopped text
    colon_stops g made = subst Short (sym (at_colon made ∙ g made)) short_failed

    module _ {l : ℕ} {past : List ℕ} (g : NumberRead rest l past) where
      -- and no token follows the length, or one does
      pub length_stops : Stuck (tokens_of past) → Stopped text
      length_stops z made = subst Short (sym (at_colon made ∙ g.reads made)) (short_stuck z)

      pub length_follows : {t : Token} {after : List ℕ} → Met past t after → Followed text l t after
      length_follows n =
          record {
            reads = λ made. at_colon made ∙ g.reads made ∙ ap (got (made l)) n.shows;
            shorter = omega (arith, m.shorter, g.shorter, n.shorter);
            rest_is =
                last_of_last _ _ _ (omega (arith, m.shorter)) (omega (arith, g.shorter, n.shorter)) m.rest_is
                (last_of_last _ _ _ (omega (arith, g.shorter)) (omega (arith, n.shorter)) g.rest_is n.rest_is);
          }
