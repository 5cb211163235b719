-- The locked taxa as marks, with zeros after them.
use Prim.Native.Nat.{ℕ, zero, suc, ◌+◌, ◌-◌, ◌<◌}
use mathlib.Core.Path.{◌≡◌, refl, sym, ap, fun_ext, ◌∙◌}
use mathlib.Core.Bool.{Bool}
use mathlib.Core.List.{List, [], ◌∷◌, ◌++◌}
use native.Mathlib.Omega.{arith}
use lib.Dec.{eqb}
use lib.ListN.{length, get_or, drop, replicate}
use lib.Seq.{get_or-drop}
use mir.Val.{bool_byte}
use Rattle.lists.specs.Lists.{one, total, over}
use Rattle.lists.proofs.Bools.{byte_one}
use Rattle.outline.specs.Outline.{size, records, locked}
use Rattle.diversity.specs.Diversity.{chosen, cost, chosen_taxa}
use Rattle.laws.specs.Locks.{locks, locked_set}
use Rattle.laws.proofs.Locks.{locked_is_set, locked_taxa}
use Rattle.laws.proofs.Marks.{map_at}
use Rattle.laws.proofs.More.{cost_alike}
use Rattle.measures.specs.Inner.{blank}
use Rattle.outline.specs.Rules.{most_records}

pub locked_long : (o : List ℕ) → length (locked_set o) ≡ size o
locked_long o = (locked_is_set o).whole

pub locked_at : (o : List ℕ) (i : ℕ) → i < size o → {b : Bool} → b ≡ locked o (i + 1) → bool_byte b ≡ get_or (locked_set o) i 0
unfolding locked_set records
locked_at o i h {b} e = byte_one b ∙ ap one (e ∙ ap (locked o) (omega arith)) ∙ sym (map_at (λ r. one (locked o r)) 1 (size o) i h)

-- zeros after a list read as nothing
pub zeros_at : (n i : ℕ) → ◌≡◌ {A = ℕ} (get_or (replicate n 0) i 0) 0
zeros_at zero i = refl
zeros_at (suc n) zero = refl
zeros_at (suc n) (suc i) = zeros_at n i

then_zeros : (xs ys : List ℕ) → ((i : ℕ) → get_or ys i 0 ≡ 0) → (i : ℕ) → get_or (xs ++ ys) i 0 ≡ get_or xs i 0
then_zeros [] ys h i = h i
then_zeros (x ∷ xs) ys h zero = refl
then_zeros (x ∷ xs) ys h (suc i) = then_zeros xs ys h i

over_blank : (s : List ℕ) (r : ℕ) → chosen (over s blank) r ≡ chosen s r
unfolding over chosen blank
over_blank s r =
    ap (λ k. eqb k 1)
    (then_zeros s (drop (length s) (replicate most_records 0)) (λ i. get_or-drop (length s) (replicate most_records 0) i 0 ∙ zeros_at most_records (length s + i)) (r - 1))

-- so their number and their cost are those of the locked taxa
pub blank_taxa : (o : List ℕ) → chosen_taxa o (over (locked_set o) blank) ≡ locks o
unfolding chosen_taxa
blank_taxa o = ap (λ p. total (λ r. one (p r)) (records o)) (fun_ext (over_blank (locked_set o))) ∙ locked_taxa o

pub locked_cost : (o : List ℕ) → cost o (over (locked_set o) blank) ≡ cost o (locked_set o)
locked_cost o = cost_alike o (over (locked_set o) blank) (locked_set o) (over_blank (locked_set o))
