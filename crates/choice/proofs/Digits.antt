-- A set read off its number, from the last taxon to the first.
use Rattle.std.specs.Prelude.{if◌then◌else◌}
use Prim.Native.Nat.{ℕ, ◌-◌, ◌/◌, ◌%◌, ◌≤◌, ◌<◌}
use mathlib.Core.Path.{◌≡◌, sym, ap, ◌∙◌}
use mathlib.Core.Bool.{true, false}
use mathlib.Core.List.{List}
use native.Mathlib.Omega.{arith}
use native.Mathlib.Nat.{mul_comm, div-div-eq-div-mul, div-one}
use lib.ListN.{length, get_or, set, length-map}
use Rattle.lists.specs.Lists.{from}
use Rattle.lists.proofs.Buffers.{Falling, falling_starts, falling_goes}
use Rattle.outline.specs.Outline.{size, records, is_taxon}
use Rattle.laws.specs.Numbers.{weight, decode}
use Rattle.laws.proofs.Marks.{from_length, map_at}
use Rattle.laws.proofs.Weights.{weight_last, weight_before}

module _ (o : List ℕ) (code : ℕ) where
  pub decode_long : length (decode o code) ≡ size o
  unfolding decode records
  decode_long = length-map (from 1 (size o)) _ ∙ from_length 1 (size o)

  -- the mark of record r
  digit : ℕ → ℕ
  digit r = if is_taxon o r then code / weight o r % 2 else 0

  mark_at : (r : ℕ) → 1 ≤ r → r ≤ size o → get_or (decode o code) (r - 1) 0 ≡ digit r
  unfolding decode records digit
  mark_at r l u = map_at _ 1 (size o) (r - 1) (omega arith) ∙ ap digit (omega arith)

  -- a loop's invariant: the marks of the records after r stand, and what is left of the number is that of the records up to r
  pub record Reading (buffer now : List ℕ) (left r : ℕ) : Type 0 where
    pub rest : left ≡ code / weight o r
    pub written : Falling (decode o code) buffer now r

  pub reading_starts : (buffer : List ℕ) → size o ≤ length buffer → Reading buffer buffer code (size o)
  reading_starts buffer h = record {
    rest = rw (weight_last o) (sym (div-one code));
    written = rw decode_long at (falling_starts {text = decode o code} {buffer = buffer} (omega (arith, decode_long)));
  }

  module _ {buffer now : List ℕ} {left r : ℕ} (h : Reading buffer now left r) (l : 0 < r) where
    inside : r ≤ size o
    inside = omega (arith, h.written.most, decode_long)

    pub reading_taxon : is_taxon o r ≡ true → Reading buffer (set now (r - 1) (left % 2)) (left / 2) (r - 1)
    unfolding digit
    reading_taxon t = record {
      rest = rw (weight_before o r l inside, t, h.rest, mul_comm 2 (weight o r)) (div-div-eq-div-mul code (weight o r) 2);
      written = falling_goes h.written l (rw (mark_at r l inside, t, h.rest));
    }

    pub reading_group : is_taxon o r ≡ false → Reading buffer (set now (r - 1) 0) left (r - 1)
    unfolding digit
    reading_group t = record {
      rest = rw (weight_before o r l inside, t) h.rest;
      written = falling_goes h.written l (rw (mark_at r l inside, t));
    }
