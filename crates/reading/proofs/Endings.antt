-- The end of a text, by the tokens that are left.
use Prim.Native.Nat.{ℕ}
use mathlib.Core.Path.{◌≡◌, refl, sym, ap, ◌∙◌}
use mathlib.Core.Bool.{Bool, false}
use mathlib.Core.List.{List, ◌∷◌}
use Rattle.newick.specs.Parsing.{tokens_of, nothing, ends}
use Rattle.newick.specs.declared.token.Token.{Token}

no_semicolon : (t : Token) → (t ≡ Token.Semicolon → ⊥) → (ts : List Token) → false ≡ ends (t ∷ ts)
unfolding ends
no_semicolon Token.Open o ts = refl
no_semicolon Token.Close o ts = refl
no_semicolon Token.Comma o ts = refl
no_semicolon Token.Colon o ts = refl
no_semicolon Token.Semicolon o ts = absurd (o refl)
no_semicolon (Token.Number l) o ts = refl
no_semicolon Token.Other o ts = refl

pub not_ended : (t : Token) (rest : List ℕ) → (t ≡ Token.Semicolon → ⊥) → false ≡ ends (t ∷ tokens_of rest)
not_ended t rest o = no_semicolon t o (tokens_of rest)

-- a semicolon, and what is after it
pub ended : {t : Token} (rest : List ℕ) → t ≡ Token.Semicolon → {v : Bool} → v ≡ nothing (tokens_of rest) → v ≡ ends (t ∷ tokens_of rest)
unfolding ends
ended rest e h = h ∙ sym (ap (λ u. ends (u ∷ tokens_of rest)) e)
