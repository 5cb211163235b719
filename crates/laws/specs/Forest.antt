-- The chain that begins at a record, as a forest: each record with its members and with the rest of its chain.
use Rattle.std.specs.Prelude.{ℕ, zero, suc, ◌+◌, Bool, true, false, List, eqb}
use Rattle.lists.specs.Lists.{one}
use Rattle.outline.specs.Outline.{size, next, first}

-- a record, its members, the rest of its chain
pub data Forest : Type 0 where
  empty : Forest
  node : ℕ → Forest → Forest → Forest

-- a record with these members is a group
abbrev pub is_group : Forest → Bool
is_group empty = false
is_group (node r f n) = true

-- the sum over a forest of what w makes of a record and its members
abbrev pub sum_in : (ℕ → Forest → ℕ) → Forest → ℕ
sum_in w empty = 0
sum_in w (node r f n) = w r f + (sum_in w f + sum_in w n)

-- how many records a forest has
abbrev pub records_in : Forest → ℕ
records_in F = sum_in (λ r f. 1) F

-- how often t stands in a forest
abbrev pub count_in : ℕ → Forest → ℕ
count_in t F = sum_in (λ r f. one (eqb t r)) F

-- the forest from record r on; depth bounds how far to look
unfoldable pub shape : ℕ → List ℕ → ℕ → Forest
shape zero o r = empty
shape (suc depth) o zero = empty
shape (suc depth) o (suc r) = node (suc r) (shape depth o (first o (suc r))) (shape depth o (next o (suc r)))

-- the forest from record r on
unfoldable pub tree : List ℕ → ℕ → Forest
tree o r = shape (size o) o r
