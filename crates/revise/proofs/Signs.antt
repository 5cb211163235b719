-- Movements as signed numbers: their signs and their sizes.
use Prim.Native.Nat.{ℕ, zero, suc, ◌+◌, ◌-◌, ◌≤◌, ◌<◌}
use mathlib.Core.Path.{◌≡◌, refl, sym, ap, ◌∙◌}
use mathlib.Core.Bool.{Bool, true, false}
use native.Mathlib.Omega.{arith}
use lib.Dec.{ltb, ltb→lt, lt→ltb}
use lib.IntN.{pos, negsuc}
use borrow.Author.Tests.{lt-ltb, le-ltb, ltb-true, ltb-false}
use Rattle.revise.specs.Moved.{moved, MovesWith}
use Rattle.revise.proofs.Lengths.{Moves}

pub moved_up : (old new : ℕ) → old ≤ new → moved old new ≡ pos (new - old)
moved_up zero new h = ap pos (omega arith)
moved_up (suc old) new h = rw (le-ltb new (suc old) h)

pub moved_down : (old new : ℕ) → new < old → moved old new ≡ negsuc (old - suc new)
moved_down zero new h = absurd (omega arith)
moved_down (suc old) new h = rw (lt-ltb new (suc old) h)

both_up : (a b : ℕ) → a ≤ b → MovesWith (pos a) (pos b)
both_up a b h = record {
  never_larger = h;
  rises_with = λ p. record { lt = lt→ltb 0 b (omega (arith, ltb→lt 0 a p.lt)) };
  falls_with = λ p. absurd (omega (arith, ltb→lt a 0 p.lt));
}

both_down : (a b : ℕ) → suc a ≤ suc b → MovesWith (negsuc a) (negsuc b)
both_down a b h = record { never_larger = h; rises_with = λ p. absurd p.lt; falls_with = λ p. record { lt = tt } }

still_down : (b : ℕ) → MovesWith (pos 0) (negsuc b)
still_down b = record {
  never_larger = omega arith;
  rises_with = λ p. absurd (omega (arith, ltb→lt 0 0 p.lt));
  falls_with = λ p. absurd (omega (arith, ltb→lt 0 0 p.lt));
}

-- neither moves, as on a refusal
pub both_still : MovesWith (pos 0) (pos 0)
both_still = both_up 0 0 (omega arith)

-- two numbers that rise by as much move alike
pub moved_alike : (old new from to : ℕ) → from ≤ to → new + from ≡ old + to → moved old new ≡ moved from to
moved_alike old new from to h e = moved_up old new (omega arith) ∙ ap pos (omega arith) ∙ sym (moved_up from to h)

pub moved_nowhere : (old : ℕ) → moved old old ≡ pos 0
moved_nowhere old = moved_up old old (omega arith) ∙ ap pos (omega arith)

pub moves_signed : {old new from to : ℕ} → Moves old new from to → MovesWith (moved old new) (moved from to)
moves_signed {old} {new} {from} {to} m = go (ltb to from) refl (ltb new old) refl
  where
    go : (a : Bool) → ltb to from ≡ a → (b : Bool) → ltb new old ≡ b → MovesWith (moved old new) (moved from to)
    go false e b f =
        let l = ltb-false to from e in
        let (up, most) = m.rises l in
        rw (moved_up old new up, moved_up from to l) (both_up (new - old) (to - from) most)
    go true e true f =
        let l = ltb-true to from e in
        let k = ltb-true new old f in
        let (down, most) = m.falls (omega arith) in
        rw (moved_down old new k, moved_down from to l) (both_down (old - suc new) (from - suc to) (omega arith))
    go true e false f =
        let l = ltb-true to from e in
        let k = ltb-false new old f in
        let (down, most) = m.falls (omega arith) in
        let same : new - old ≡ 0 = omega arith in
        rw (moved_up old new k, moved_down from to l, same) (still_down (from - suc to))
