-- What a call of `house_form` is answered, and what it leaves in the form that it was lent.
use Rattle.std.specs.Prelude.{ℕ, ◌*◌, ◌≡◌, List, length, ltb}
use Rattle.lists.specs.Lists.{Bytes}
use Rattle.refusals.specs.Refusals.{Ruling, row, ◌▸◌, after}
use Rattle.outline.specs.Outline.{size}
use Rattle.outline.specs.Answer.{checked}
use Rattle.canonical.specs.House.{house_form}

-- a call: the outline, and the lent form as it came in
pub record Call : Type 0 where
  pub outline : List ℕ
  pub form : List ℕ

abbrev pub call : List ℕ → List ℕ → Call
call outline form = record { outline = outline; form = form }

-- the bytes that a form needs: 16 for each record
abbrev pub form_taken : Call → ℕ
form_taken c = 16 * size c.outline

-- the rows in their order: the check's, then 9. It is all that a call is told
unfoldable pub judged : Call → Ruling
judged c = checked c.outline ▸ row 9 (ltb (length c.form) (form_taken c))

-- the form after a call: the house form where no row of the table holds, and what is past it unchanged
unfoldable pub form_after : Call → List ℕ
form_after c = after (judged c) (house_form c.outline) c.form

-- what a call ensures, of the number and the place that it is told and of the form as it leaves it; and that its outline is bytes, as every
-- `&[u8]` is
pub record Answered (c : Call) (t : Ruling) (form : List ℕ) : Type 0 where
  pub told_judged : t ≡ judged c
  pub form_written : form ≡ form_after c
  pub outline_bytes : Bytes c.outline
