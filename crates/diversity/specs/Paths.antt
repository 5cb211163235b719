-- The words of Pardi and Goldman (2007): the smallest subtree that connects the chosen taxa, together with the root for rooted
-- diversity; a branch goes by the record at its lower end.
use Rattle.std.specs.Prelude.{if◌then◌else◌, ℕ, zero, suc, ◌≤◌, ◌≡◌, ◌⊎◌, Bool, true, List}
use Rattle.lists.specs.Lists.{total}
use Rattle.outline.specs.Outline.{records, next, first, branch, IsRecord}
use Rattle.diversity.specs.Diversity.{chosen}

-- p is the parent of q: q is p's first member, or the next after a member of p; 0 is the upper end of record 1's own branch
pub data Parent (o : List ℕ) : ℕ → ℕ → Type 0 where
  of_root : Parent o 0 1
  of_first : {p : ℕ} → IsRecord o p → 1 ≤ first o p → Parent o p (first o p)
  of_next : {p q : ℕ} → Parent o p q → 1 ≤ next o q → Parent o p (next o q)

-- r is on the way up from t: it is t, or the parent of a record on that way
pub data OnWay (o : List ℕ) (t : ℕ) : ℕ → Type 0 where
  itself : OnWay o t t
  parent : {p q : ℕ} → OnWay o t q → Parent o p q → OnWay o t p

-- branch r lies between t and u: r is on the way up from one of them, and not on the way up from the other
abbrev pub Between : List ℕ → ℕ → ℕ → ℕ → Type 0
Between o t u r = (OnWay o t r × ¬ OnWay o u r) ⊎ (OnWay o u r × ¬ OnWay o t r)

-- a walk from x to y along branches of B: up x's own branch to its parent, or down the branch of a member q, and on from there
pub data Walk (o : List ℕ) (B : ℕ → Type 0) : ℕ → ℕ → Type 0 where
  stay : {x : ℕ} → Walk o B x x
  up : {p x y : ℕ} → B x → Parent o p x → Walk o B p y → Walk o B x y
  down : {q x y : ℕ} → B q → Parent o x q → Walk o B q y → Walk o B x y

-- the branches of B connect the ends: a walk along them joins any two
abbrev pub Connects : List ℕ → (ℕ → Type 0) → (ℕ → Type 0) → Type 0
Connects o End B = (x y : ℕ) → End x → End y → Walk o B x y

-- the branches that count are the smallest subtree that connects the ends: they connect them, and any that do include these
pub record SmallestSubtree (o : List ℕ) (End : ℕ → Type 0) (counts : ℕ → Bool) : Type 1 where
  pub connects : Connects o End (λ r. counts r ≡ true)
  pub least : (B : ℕ → Type 0) → Connects o End B → (r : ℕ) → IsRecord o r → counts r ≡ true → B r

-- record t is chosen
abbrev pub IsChosen : List ℕ → List ℕ → ℕ → Type 0
IsChosen o s t = IsRecord o t × (chosen s t ≡ true)

-- x is the root, which is the upper end of record 1's branch, or a chosen record
abbrev pub RootOrChosen : List ℕ → List ℕ → ℕ → Type 0
RootOrChosen o s x = (x ≡ 0) ⊎ IsChosen o s x

-- n is the length of the smallest subtree that connects the ends: the sum of the lengths of its branches
pub record SubtreeLength (o : List ℕ) (End : ℕ → Type 0) (n : ℕ) : Type 1 where
  pub counts : ℕ → Bool
  pub smallest : SmallestSubtree o End counts
  pub sum : n ≡ total (λ r. if counts r then branch o r else 0) (records o)

-- what a way of counting connects: rooted the chosen records and the root, unrooted the chosen records
abbrev pub Ends : List ℕ → ℕ → List ℕ → ℕ → Type 0
Ends o zero s = RootOrChosen o s
Ends o (suc n) s = IsChosen o s
