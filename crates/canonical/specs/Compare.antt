-- The order of trees: that of the bytes of their house forms, a shorter beginning first. Before is `Less`, the same `Equal`, after `Greater`.
use Rattle.std.specs.Prelude.{ℕ, ◌≡◌, ◌⊎◌, List}
use Rattle.std.specs.Ordering.{nat_cmp}
use Rattle.std.specs.declared.cmp.Ordering.{Ordering}
use Rattle.std.specs.declared.cmp.Ordering.TheVariants.{Less, Equal}
use Rattle.std.specs.Cmp.Lexicographic.{slice_cmp}
use Rattle.canonical.specs.House.{house_form}

-- the first byte on which they differ decides, as the library compares lists
abbrev pub compared : List ℕ → List ℕ → Ordering
compared o p = slice_cmp nat_cmp (house_form o) (house_form p)

-- o is before p or the same tree
abbrev pub AtOrBefore : List ℕ → List ℕ → Type 0
AtOrBefore o p = (compared o p ≡ Less) ⊎ (compared o p ≡ Equal)
