-- A text that a pen puts into a buffer.
use Rattle.std.specs.Prelude.{ℕ, ◌+◌, ◌≤◌, ◌≡◌, List, length}
use Rattle.lists.specs.Lists.{over_at}
use Rattle.text.specs.declared.Pen.{Pen}

-- the pen's buffer is long enough for a text where the pen is
abbrev pub LongEnough : {A : Type 0} → List A → Pen A → Type 0
LongEnough text pen = pen.at + length text ≤ length pen.buffer.now

-- a text was written at a place: the buffer before and after, and the next place, which is after the text
pub record Written {A : Type 0} (at : ℕ) (text before after : List A) (next : ℕ) : Type 0 where
  pub buffer_is : after ≡ over_at at text before
  pub next_is : next ≡ at + length text

-- a pen put a text: it was written where the pen was, the pen is at the next place, and the buffer is the same one, as long as it was
pub record Put {A : Type 0} (text : List A) (before after : Pen A) : Type 0 where
  pub written : Written before.at text before.buffer.now after.buffer.now after.at
  pub same_buffer : after.buffer.ghost_name ≡ before.buffer.ghost_name
  pub same_length : length after.buffer.now ≡ length before.buffer.now
