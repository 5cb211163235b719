-- A tree that is spelled is in range, since a number has at most 9 digits.
use Prim.Native.Nat.{ℕ, zero, suc, ◌+◌, ◌*◌, ◌-◌, ◌≤◌}
use mathlib.Core.Path.{◌≡◌, refl}
use mathlib.Core.List.{List, [], ◌∷◌, ◌++◌}
use native.Mathlib.Omega.{arith}
use lib.ListN.{length}
use Rattle.newick.specs.Grammar.{Kind, part, Tree, Word, opening, closing, comma, colon, semicolon, number, most_number}
use Rattle.newick.specs.Grammar.{Length, no_length, a_length, Spelled, a_taxon, a_group, the_last, one_more, Spells}
use Rattle.newick.specs.Grammar.{Mark, opening_bracket, closing_bracket, a_comma, a_colon, a_semicolon, Digits, no_digits, a_digit}
use Rattle.newick.specs.Grammar.{WordsWritten, nothing, after_blank, after_mark, after_number}
use Rattle.newick.specs.Inner.{InRange, taxon_in, group_in, last_in, more_in}

-- a number with n nines after it
nines : ℕ → ℕ → ℕ
nines zero b = b
nines (suc n) b = nines n (10 * b + 9)

-- n digits make no greater number than n nines
digits_most : (n b : ℕ) {a v : ℕ} {ds : List ℕ} → Digits a ds v → length ds ≤ n → a ≤ b → v ≤ nines n b
unfolding nines
digits_most zero b no_digits l h = h
digits_most zero b (a_digit d r) l h = absurd (omega arith)
digits_most (suc n) b no_digits l h = digits_most n (10 * b + 9) no_digits (omega arith) (omega arith)
digits_most (suc n) b (a_digit d r) l h = digits_most n (10 * b + 9) r (omega arith) (omega (arith, d.high))

-- by how much the numbers of words are over the range, in all
abbrev over : Word → ℕ
over opening = 0
over closing = 0
over comma = 0
over colon = 0
over semicolon = 0
over (number v) = v - most_number

excess : List Word → ℕ
excess [] = 0
excess (w ∷ ws) = over w + excess ws

excess_append : (ws vs : List Word) → excess (ws ++ vs) ≡ excess ws + excess vs
unfolding excess
excess_append [] vs = omega arith
excess_append (w ∷ ws) vs = omega (arith, excess_append ws vs)

mark_fits : {w : Word} {b : ℕ} → Mark w b → over w ≡ 0
mark_fits opening_bracket = refl
mark_fits closing_bracket = refl
mark_fits a_comma = refl
mark_fits a_colon = refl
mark_fits a_semicolon = refl

-- words that are written are not over it
written_fits : {ws : List Word} {s : List ℕ} → WordsWritten ws s → excess ws ≡ 0
unfolding excess nines
written_fits nothing = refl
written_fits (after_blank b r) = written_fits r
written_fits (after_mark m r) = omega (arith, mark_fits m, written_fits r)
written_fits (after_number {v} {ds} d l u n r) =
    let most : v ≤ most_number = digits_most 9 0 d u (omega arith) in
    omega (arith, written_fits r)

length_fits : {l : ℕ} {ls : List Word} → Length l ls → excess ls ≡ 0 → l ≤ most_number
unfolding excess
length_fits no_length e = omega arith
length_fits a_length e = omega arith

-- nor is the tree that they spell
spelled_fits : {κ : Kind} {t : Tree κ} {ws : List Word} → Spelled κ t ws → excess ws ≡ 0 → InRange κ t
unfolding excess
spelled_fits (a_taxon {p = p} h) e = taxon_in {p = p} (omega arith) (length_fits h (omega arith))
spelled_fits (a_group {ms} {l} {ws} {ls} s h) e =
    let both = excess_append ws (closing ∷ ls) in
    group_in (spelled_fits s (omega arith)) (length_fits h (omega arith))
spelled_fits (the_last s) e = last_in (spelled_fits s e)
spelled_fits (one_more {t} {ms} {ws} {vs} s q) e =
    let both = excess_append ws (comma ∷ vs) in
    more_in (spelled_fits s (omega arith)) (spelled_fits q (omega arith))

-- a tree that a text spells is in range
pub spells_in_range : {t : Tree part} {text : List ℕ} → Spells t text → InRange part t
spells_in_range s =
    spelled_fits s.spelled (omega (arith, excess_append s.words (semicolon ∷ []), written_fits s.written))
