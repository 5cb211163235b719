-- What a pen puts, piece by piece, by what is left of it.
use Prim.Native.Nat.{ℕ, ◌+◌, ◌-◌, ◌≤◌}
use mathlib.Core.Path.{◌≡◌, refl, sym, ap, ◌∙◌}
use mathlib.Core.List.{List, [], ◌++◌}
use native.Mathlib.Omega.{arith}
use lib.ListN.{length, length-append}
use borrow.Rule.Slice.PartMut.{put_mid}
use Rattle.lists.specs.Lists.{over, over_at}
use Rattle.lists.proofs.Pieces.{over_nothing, over_length, over_both}
use Rattle.text.specs.Written.{LongEnough, Written, Put}
use Rattle.text.specs.declared.Pen.{Pen}

-- a text that is copied into its part of the buffer
pub copied : {A : Type 0} (at : ℕ) (text buffer : List A) → Written at text buffer (put_mid at (at + length text - at) buffer text) (at + length text)
unfolding over over_at
copied at text buffer = let long : at + length text - at ≡ length text = omega arith in record { buffer_is = rw long; next_is = refl }

-- what is written leaves the buffer's length
pub written_length : {A : Type 0} {at next : ℕ} {text before after : List A} → at + length text ≤ length before
    → Written at text before after next → length after ≡ length before
written_length {at = at} {text = text} {before} h d = ap length d.buffer_is ∙ over_length at text before h

-- a text that begins a buffer is within it
pub written_within : {text before after : List ℕ} {next : ℕ} → Written 0 text before after next → next ≤ length after
unfolding over over_at
written_within d = omega (arith, d.next_is, simp length-append at (ap length d.buffer_is))

-- nothing is written, and nothing is put
pub written_nothing : {A : Type 0} (at : ℕ) (buffer : List A) → Written at [] buffer buffer at
written_nothing at buffer = record { buffer_is = sym (over_nothing at buffer); next_is = omega arith }

pub put_nothing : {A : Type 0} (p : Pen A) → Put [] p p
put_nothing p = record { written = written_nothing p.at p.buffer.now; same_buffer = refl; same_length = refl }

-- one piece after another
written_then : {A : Type 0} {at m n : ℕ} {s t before mid after : List A} → at ≤ length before → Written at s before mid m → Written m t mid after n
    → Written at (s ++ t) before after n
written_then {at = at} {m} {n} {s} {t} {before} h d e = record {
  buffer_is = e.buffer_is ∙ ap (over_at m t) d.buffer_is ∙ over_both at m s t before h d.next_is;
  next_is = omega (arith, d.next_is, e.next_is, length-append s t);
}

pub put_both : {A : Type 0} {p q r : Pen A} {s t : List A} → LongEnough s p → Put s p q → Put t q r → Put (s ++ t) p r
put_both h d e = record {
  written = written_then (omega arith) d.written e.written;
  same_buffer = e.same_buffer ∙ d.same_buffer;
  same_length = e.same_length ∙ d.same_length;
}

-- four pieces, one after another; for any number of them there is `Left`
pub four_written : {A : Type 0} {at m n k next : ℕ} {s t u v before p q r exit : List A} → at + length (s ++ (t ++ (u ++ v))) ≤ length before
    → Written at s before p m → Written m t p q n → Written n u q r k → Written k v r exit next → Written at (s ++ (t ++ (u ++ v))) before exit next
four_written {s = s} {t} {u} {v} h d e f g =
    let all = simp length-append at h in
    let first = written_length (omega (arith, all)) d in
    let second = written_length (omega (arith, all, first, d.next_is)) e in
    written_then (omega (arith, all)) d
    (written_then (omega (arith, all, first, d.next_is)) e
    (written_then (omega (arith, all, first, second, d.next_is, e.next_is)) f g))

-- what a pen put at the beginning of a buffer stands there when the pen is let go
pub put_over : {A : Type 0} {text end : List A} {p q : Pen A} → Put text p q → p.at ≡ 0 → end ≡ q.buffer.now → end ≡ over text p.buffer.now
unfolding over over_at
put_over d z e = let b = d.written.buffer_is in e ∙ rw z at b

-- of a whole text, which a pen began to put as `before`, the rest is left: the pen has room for it, and whatever puts it puts the whole
pub record Left {A : Type 0} (whole : List A) (before : Pen A) (rest : List A) (now : Pen A) : Type 0 where
  pub fits : LongEnough rest now
  pub completes : {exit : Pen A} → Put rest now exit → Put whole before exit

pub left_starts : {A : Type 0} {whole : List A} {p : Pen A} → LongEnough whole p → Left whole p whole p
left_starts h = record { fits = h; completes = λ d. d }

pub left_ends : {A : Type 0} {whole : List A} {before now : Pen A} → Left whole before [] now → Put whole before now
left_ends {now = now} l = l.completes (put_nothing now)

-- a piece is put of what is left
module _ {A : Type 0} {whole : List A} {before now : Pen A} (text rest : List A) (l : Left whole before (text ++ rest) now) where
  pub left_fits : LongEnough text now
  left_fits = omega (arith, l.fits, length-append text rest)

  pub left_goes : {next : Pen A} → Put text now next → Left whole before rest next
  left_goes d = record {
    fits = omega (arith, l.fits, length-append text rest);
    completes = λ e. l.completes (put_both left_fits d e);
  }
