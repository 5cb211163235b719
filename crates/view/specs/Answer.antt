-- What a call of `view_house` or of `view_buyer` is answered, and what it leaves in the view that it was lent.
use Rattle.std.specs.Prelude.{ℕ, ◌*◌, ◌≡◌, List, length, ltb}
use Rattle.refusals.specs.Refusals.{Ruling, row, ◌▸◌, after}
use Rattle.outline.specs.Outline.{size}
use Rattle.outline.specs.Answer.{checked}

-- a call: the outline, and the lent view as it came in
pub record Call : Type 0 where
  pub outline : List ℕ
  pub view : List ℕ

abbrev pub call : List ℕ → List ℕ → Call
call outline view = record { outline = outline; view = view }

-- the bytes that a view needs: 16 for each record
abbrev pub view_taken : Call → ℕ
view_taken c = 16 * size c.outline

-- the rows in their order, the same for either reader: the check's, then 9. It is all that a call is told
unfoldable pub judged : Call → Ruling
judged c = checked c.outline ▸ row 9 (ltb (length c.view) (view_taken c))

-- the view after a call: what its reader gets where no row of the table holds, and what is past it unchanged
unfoldable pub view_after : (List ℕ → List ℕ) → Call → List ℕ
view_after shown c = after (judged c) (shown c.outline) c.view

-- what a call ensures, of the number and the place that it is told and of the view as it leaves it, for a reader that gets what is shown
pub record Answered (shown : List ℕ → List ℕ) (c : Call) (t : Ruling) (view : List ℕ) : Type 0 where
  pub told_judged : t ≡ judged c
  pub view_written : view ≡ view_after shown c
