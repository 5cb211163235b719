-- What a call of `write` is answered, and what it leaves in the two buffers that it was lent.
use Rattle.std.specs.Prelude.{Result, ℕ, ◌/◌, ◌≡◌, Bool, ◌||◌, List, [], ◌∷◌, length, ltb}
use Rattle.lists.specs.Lists.{Bytes}
use Rattle.refusals.specs.Refusals.{Ruling, row, row_at, ◌▸◌, after}
use Rattle.refusals.specs.declared.refusal.Refusal.{Refusal}
use Rattle.refusals.specs.Reply.{Reply, answer_told, replied}
use Rattle.outline.specs.Outline.{size}
use Rattle.outline.specs.Answer.{checked}
use Rattle.newick.specs.Trees.{unwritable}
use Rattle.writing.specs.Text.{outline_text, outline_pairs}
pub use Rattle.writing.specs.declared.answer.Figures.{Figures}

-- a call: the outline, and the lent buffers for its text and its pairs as they came in
pub record Call : Type 0 where
  pub outline : List ℕ
  pub text : List ℕ
  pub pairs : List ℕ

abbrev pub call : List ℕ → List ℕ → List ℕ → Call
call outline text pairs = record { outline = outline; text = text; pairs = pairs }

abbrev pub counts : ℕ → ℕ → Figures
counts bytes pairs = record { bytes = bytes; pairs = pairs }

-- a refusal gives the counts as 0
abbrev pub no_figures : Figures
no_figures = counts 0 0

abbrev pub numbers_of : Figures → List ℕ
numbers_of f = f.bytes ∷ f.pairs ∷ []

-- the numbers of each answer
abbrev pub told : Result Figures Refusal → Reply Figures
told = answer_told no_figures

-- refusal 9: the buffer for the text or for the pairs is short
unfoldable pub too_short : Call → Bool
too_short c =
    ltb (length c.text) (length (outline_text c.outline))
    || ltb (length c.pairs) (length (outline_pairs c.outline))

-- the rows in their order: the check's, 13, 9
unfoldable pub judged : Call → Ruling
judged c =
    checked c.outline
    ▸ row_at 13 (unwritable c.outline) (size c.outline)
    ▸ row 9 (too_short c)

-- the counts of what is written; a pair is two numbers
abbrev pub figures : Call → Figures
figures c = counts (length (outline_text c.outline)) (length (outline_pairs c.outline) / 2)

-- what a call is told
unfoldable pub reply : Call → Reply Figures
reply c = replied no_figures (judged c) (figures c)

-- the buffers after a call: written where no row holds, and what is past the text and the pairs is unchanged
unfoldable pub text_after : Call → List ℕ
text_after c = after (judged c) (outline_text c.outline) c.text

unfoldable pub pairs_after : Call → List ℕ
pairs_after c = after (judged c) (outline_pairs c.outline) c.pairs

-- what a call ensures, of the numbers that it is told and of the buffers as it leaves them; and that its outline is bytes, as every
-- `&[u8]` is
pub record Answered (c : Call) (r : Reply Figures) (text pairs : List ℕ) : Type 0 where
  pub told_reply : r ≡ reply c
  pub text_written : text ≡ text_after c
  pub pairs_written : pairs ≡ pairs_after c
  pub outline_bytes : Bytes c.outline
