-- A line of numbers, put number by number.
use Prim.Native.Nat.{ℕ, ◌+◌, ◌-◌, ◌≤◌, ◌<◌}
use mathlib.Core.Path.{◌≡◌}
use mathlib.Core.List.{List, [], ◌∷◌, ◌++◌}
use native.Mathlib.Numerals.{add-one}
use native.Mathlib.Omega.{arith}
use lib.ListN.{length, get_or, take, drop, drop_of_length-le}
use lib.Seq.{drop-cons, take_all}
use Rattle.text.specs.Text.{blank, line_end, decimal, others, line}
use Rattle.text.specs.Written.{LongEnough, Put}
use Rattle.text.specs.declared.Pen.{Pen}
use Rattle.text.proofs.Writing.{Left, left_fits, left_goes, left_ends}

others_more : (ns : List ℕ) (i : ℕ) → i < length ns
    → others (drop i ns) ≡ (blank ∷ []) ++ (decimal (get_or ns i 0) ++ others (drop (i + 1) ns))
unfolding others
others_more ns i h = rw (drop-cons ns i 0 h, add-one)

others_none : (ns : List ℕ) (i : ℕ) → length ns ≤ i → others (drop i ns) ≡ (line_end ∷ []) ++ []
unfolding others
others_none ns i h = rw (drop_of_length-le ns h)

-- the numbers from number i on are left
module _ (ns : List ℕ) (i : ℕ) {before now : Pen ℕ} (l : Left (others ns) before (others (drop i ns)) now) where
  module _ (more : i < length ns) where
    blank_left : Left (others ns) before ((blank ∷ []) ++ (decimal (get_or ns i 0) ++ others (drop (i + 1) ns))) now
    blank_left = rw (others_more ns i more) at l

    pub blank_fits : LongEnough (blank ∷ []) now
    blank_fits = left_fits (blank ∷ []) _ blank_left

    -- the blank is put
    module _ {next : Pen ℕ} (b : Put (blank ∷ []) now next) where
      number_left : Left (others ns) before (decimal (get_or ns i 0) ++ others (drop (i + 1) ns)) next
      number_left = left_goes (blank ∷ []) _ blank_left b

      pub number_fits : LongEnough (decimal (get_or ns i 0)) next
      number_fits = left_fits (decimal (get_or ns i 0)) _ number_left

      pub others_goes : {last : Pen ℕ} → Put (decimal (get_or ns i 0)) next last → Left (others ns) before (others (drop (i + 1) ns)) last
      others_goes d = left_goes (decimal (get_or ns i 0)) _ number_left d

  module _ (none : length ns ≤ i) where
    end_left : Left (others ns) before ((line_end ∷ []) ++ []) now
    end_left = rw (others_none ns i none) at l

    pub end_fits : LongEnough (line_end ∷ []) now
    end_fits = left_fits (line_end ∷ []) [] end_left

    pub others_ends : {exit : Pen ℕ} → Put (line_end ∷ []) now exit → Put (others ns) before exit
    others_ends b = left_ends (left_goes (line_end ∷ []) [] end_left b)

-- a line's first number, and the others, which are the rest of the list
pub line_begins : (ns : List ℕ) → 0 < length ns → line ns ≡ decimal (get_or ns 0 0) ++ others (take (length ns - 1) (drop 1 ns))
unfolding line
line_begins [] h = absurd (omega arith)
line_begins (n ∷ ns) h = rw (take_all (length (n ∷ ns) - 1) ns (omega arith))
