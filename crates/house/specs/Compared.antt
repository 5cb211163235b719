-- What a call of `compare` is answered, and what it leaves in the two forms that it was lent.
use Rattle.std.specs.Prelude.{Result, ℕ, ◌*◌, ◌≡◌, Bool, ◌||◌, List, [], ◌∷◌, length, ltb}
use Rattle.std.specs.declared.cmp.Ordering.{Ordering}
use Rattle.std.specs.declared.cmp.Ordering.TheVariants.{Less, Equal, Greater}
use Rattle.lists.specs.Lists.{Bytes}
use Rattle.refusals.specs.Refusals.{Ruling, row, ◌▸◌, after}
use Rattle.refusals.specs.declared.refusal.Refusal.{Refusal}
use Rattle.refusals.specs.Reply.{Reply, answer_told, replied}
use Rattle.outline.specs.Outline.{size}
use Rattle.outline.specs.Answer.{checked}
use Rattle.canonical.specs.House.{house_form}
use Rattle.canonical.specs.Compare.{compared}

-- a call: the two outlines, and the two lent forms as they came in
pub record Call : Type 0 where
  pub first : List ℕ
  pub second : List ℕ
  pub first_form : List ℕ
  pub second_form : List ℕ

abbrev pub call : List ℕ → List ℕ → List ℕ → List ℕ → Call
call first second first_form second_form =
    record { first = first; second = second; first_form = first_form; second_form = second_form }

-- how large the number is that tells an order: -1 before, 0 the same, 1 after
abbrev pub size_of : Ordering → ℕ
size_of Less = 1
size_of Equal = 0
size_of Greater = 1

abbrev pub numbers_of : Ordering → List ℕ
numbers_of order = size_of order ∷ []

-- the number and the place of each answer, and its order; a refusal gives 0, which is the same
abbrev pub told : Result Ordering Refusal → Reply Ordering
told = answer_told Equal

-- refusal 9: a form is shorter than 16 bytes for each record of its outline
unfoldable pub too_short : Call → Bool
too_short c = ltb (length c.first_form) (16 * size c.first) || ltb (length c.second_form) (16 * size c.second)

-- the rows in their order: the first outline's check, the second's, then 9 for either form
unfoldable pub judged : Call → Ruling
judged c = checked c.first ▸ checked c.second ▸ row 9 (too_short c)

-- what a call is told
unfoldable pub reply : Call → Reply Ordering
reply c = replied Equal (judged c) (compared c.first c.second)

-- the forms after a call: both house forms where no row holds, and what is past them unchanged
unfoldable pub first_after : Call → List ℕ
first_after c = after (judged c) (house_form c.first) c.first_form

unfoldable pub second_after : Call → List ℕ
second_after c = after (judged c) (house_form c.second) c.second_form

-- what a call ensures, of what it is told and of the forms as it leaves them; and that its outlines are bytes
pub record Answered (c : Call) (r : Reply Ordering) (first_form second_form : List ℕ) : Type 0 where
  pub told_reply : r ≡ reply c
  pub first_written : first_form ≡ first_after c
  pub second_written : second_form ≡ second_after c
  pub first_bytes : Bytes c.first
  pub second_bytes : Bytes c.second
