-- What a call of `read` is answered, and what it leaves in the outline that it was lent.
use Rattle.std.specs.Prelude.{Result, ℕ, ◌*◌, ◌<◌, ◌≡◌, true, List, [], ◌∷◌, length, get_or, ltb}
use Rattle.refusals.specs.Refusals.{Ruling, row, ◌▸◌, after}
use Rattle.refusals.specs.declared.refusal.Refusal.{Refusal}
use Rattle.refusals.specs.Reply.{Reply, answer_told, replied}
use Rattle.outline.specs.Answer.{record_rows}
use Rattle.newick.specs.Layout.{count, plates, layout}
use Rattle.newick.specs.Pairs.{price_in, bad_pairs}
use Rattle.newick.specs.Parsing.{Parsed, unread, tree, parsed}
pub use Rattle.reading.specs.declared.answer.Figures.{Figures}
use Rattle.outline.specs.Rules.{most_records}

-- a call: the text, the prices beside it, and the lent outline as it came in
pub record Call : Type 0 where
  pub text : List ℕ
  pub pairs : List ℕ
  pub outline : List ℕ

abbrev pub call : List ℕ → List ℕ → List ℕ → Call
call text pairs outline = record { text = text; pairs = pairs; outline = outline }

abbrev pub counted : ℕ → Figures
counted n = record { records = n }

-- a refusal gives N as 0
abbrev pub no_figures : Figures
no_figures = counted 0

abbrev pub numbers_of : Figures → List ℕ
numbers_of f = f.records ∷ []

-- the numbers of each answer
abbrev pub told : Result Figures Refusal → Reply Figures
told = answer_told no_figures

-- the rows for the tree of a text, the pairs and a buffer of so many bytes, in their order: 10, 3, 11, 9, then 5 to 8
unfoldable pub rows_for : Parsed → List ℕ → ℕ → Ruling
rows_for unread pairs room = row 10 true
rows_for (tree t) pairs room =
    row 3 (ltb most_records (count t))
    ▸ row 11 (bad_pairs (plates t) pairs)
    ▸ row 9 (ltb room (16 * count t))
    ▸ record_rows (layout (price_in pairs) t)

unfoldable pub judged : Call → Ruling
judged c = rows_for (parsed c.text) c.pairs (length c.outline)

-- N, and the outline with its prices
abbrev pub count_of : Parsed → ℕ
count_of unread = 0
count_of (tree t) = count t

abbrev pub outline_of : List ℕ → Parsed → List ℕ
outline_of pairs unread = []
outline_of pairs (tree t) = layout (price_in pairs) t

abbrev pub figures : Call → Figures
figures c = counted (count_of (parsed c.text))

-- what a call is told
unfoldable pub reply : Call → Reply Figures
reply c = replied no_figures (judged c) (figures c)

-- the outline after a call: written where no row holds, and what is past the N records is unchanged
unfoldable pub outline_after : Call → List ℕ
outline_after c = after (judged c) (outline_of c.pairs (parsed c.text)) c.outline

-- what a call ensures, of the numbers that it is told and of the outline as it leaves it
pub record Answered (c : Call) (r : Reply Figures) (outline : List ℕ) : Type 0 where
  pub told_reply : r ≡ reply c
  pub outline_written : outline ≡ outline_after c

-- numbers of 32 bits, as those of every `&[u32]` are
pub record Numbers (ns : List ℕ) : Type 0 where
  pub small : (i : ℕ) → get_or ns i 0 < 4294967296
