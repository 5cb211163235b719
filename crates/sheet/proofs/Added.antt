-- What each place adds to a measure: a table in which a record's weight stands at the place from which on it counts.
use Rattle.std.specs.Prelude.{if◌then◌else◌}
use Prim.Native.Nat.{ℕ, zero, suc, ◌+◌, ◌*◌, ◌-◌, ◌≤◌, ◌<◌}
use mathlib.Core.Path.{◌≡◌, refl, sym, ap₂, ◌∙◌}
use mathlib.Core.Bool.{Bool, true, false, ◌||◌, ◌&&◌, and-true}
use mathlib.Core.List.{List}
use native.Mathlib.Omega.{arith}
use lib.Dec.{eqb, ltb}
use lib.ListN.{length, get_or, set, replicate, length-set, length-replicate, get_or-replicate}
use lib.Seq.{get_or-set_same, get_or-set_other}
use borrow.Author.Tests.{eqb-true, eqb-false, lt-ltb, le-ltb, ltb-true, ltb-false}
use Rattle.lists.specs.Lists.{total}
use Rattle.lists.proofs.Bools.{if_most}
use Rattle.lists.proofs.Walk.{Summing, summing_starts, summing_goes, summing_ends}
use Rattle.outline.specs.Inner.{numbers}
use Rattle.outline.specs.Outline.{size, records, branch, price}
use Rattle.diversity.specs.Diversity.{within, elsewhere, rooted, unrooted, diversity, cost}
use Rattle.laws.proofs.Prefixes.{cost_nothing, diversity_nothing}
use Rattle.sheet.specs.Sheet.{up_to, added}
use Rattle.sheet.specs.Inner.{Since, price_counts, branch_counts, Adds}
use Rattle.outline.specs.Rules.{most_records}

-- the sum of a table's first k numbers
unfoldable pub sum_to : List ℕ → ℕ → ℕ
sum_to l zero = 0
sum_to l (suc k) = sum_to l k + get_or l k 0

-- v is added to the number at place x
abbrev pub raised : List ℕ → ℕ → ℕ → List ℕ
raised l x v = set l x (get_or l x 0 + v)

raised_at : (l : List ℕ) (x v q : ℕ) → x < length l → get_or (raised l x v) q 0 ≡ get_or l q 0 + (if eqb q x then v else 0)
raised_at l x v q h = go (eqb q x) refl
  where
    go : (b : Bool) → eqb q x ≡ b → get_or (raised l x v) q 0 ≡ get_or l q 0 + (if b then v else 0)
    go true e = let i = eqb-true q x e in rw (i, get_or-set_same l x (get_or l x 0 + v) 0 h)
    go false e = get_or-set_other l x q (get_or l x 0 + v) 0 (eqb-false q x e) ∙ omega arith

-- place x is before k + 1: before k, or it is k
before_next : (x v k : ℕ) → (if ltb x (suc k) then v else 0) ≡ (if ltb x k then v else 0) + (if eqb k x then v else 0)
before_next x v k = go (ltb x k) refl (eqb k x) refl
  where
    go : (b : Bool) → ltb x k ≡ b → (c : Bool) → eqb k x ≡ c → (if ltb x (suc k) then v else 0) ≡ (if b then v else 0) + (if c then v else 0)
    go true e true d = let h = ltb-true x k e in let i = eqb-true k x d in absurd (omega arith)
    go true e false d = let h = ltb-true x k e in rw (lt-ltb x (suc k) (omega arith)) (omega arith)
    go false e true d = let i = eqb-true k x d in rw (lt-ltb x (suc k) (omega arith)) (omega arith)
    go false e false d = let h = ltb-false x k e in let i = eqb-false k x d in rw (le-ltb x (suc k) (omega arith)) (omega arith)

-- so v is in the sums that go past place x
sum_raised : (l : List ℕ) (x v k : ℕ) → x < length l → sum_to (raised l x v) k ≡ sum_to l k + (if ltb x k then v else 0)
unfolding sum_to
sum_raised l x v zero h = rw (le-ltb x 0 (omega arith)) (omega arith)
sum_raised l x v (suc k) h = omega (arith, sum_raised l x v k h, raised_at l x v k h, before_next x v k)

sum_blank : (n k : ℕ) → k ≤ n → sum_to (replicate n 0) k ≡ 0
unfolding sum_to
sum_blank n zero h = refl
sum_blank n (suc k) h = omega (arith, sum_blank n k (omega arith), get_or-replicate {A = ℕ} n k 0 0 h)

-- ---- the weights of the records before r stand in the table; each is at most 1,000,000, so that no sum overflows
abbrev heaviest : ℕ
heaviest = 1000000

module _ (weight : ℕ → ℕ) (counts : ℕ → ℕ → Bool) (n : ℕ) where
  -- what record r counts with the taxa up to record k
  abbrev counted : ℕ → ℕ → ℕ
  counted k r = if counts r k then weight r else 0

  pub record Adding (r : ℕ) (table : List ℕ) : Type 0 where
    pub low : 1 ≤ r
    pub long : length table ≡ numbers
    pub small : (t : ℕ) → t < numbers → get_or table t 0 ≤ heaviest * (r - 1)
    pub sums : (k : ℕ) → 0 < k → k ≤ most_records → Summing heaviest (counted k) n (sum_to table k) r

  pub adding_starts : Adding 1 (replicate numbers 0)
  adding_starts = record {
    low = omega arith;
    long = length-replicate {A = ℕ} numbers 0;
    small = λ t h. omega (arith, get_or-replicate {A = ℕ} numbers t 0 0 h);
    sums = λ k l u. rw (sum_blank numbers k (omega arith)) (summing_starts (counted k) n);
  }

  module _ {r : ℕ} {table : List ℕ} (a : Adding r table) (h : r ≤ n) {x v : ℕ} (since : Since x (counts r)) (is : v ≡ weight r) (few : v ≤ heaviest) where
    inside : x < length table
    inside = omega (arith, since.most, a.long)

    pub adding_goes : Adding (r + 1) (raised table x v)
    adding_goes = record {
      low = omega (arith, a.low);
      long = length-set table x _ ∙ a.long;
      small = λ t i. omega (arith, a.small t i, raised_at table x v t inside, if_most (eqb t x) v, a.low);
      sums = λ k l u.
          rw (sum_raised table x v k inside)
          (summing_goes (counted k) n (a.sums k l u) h
          (ap₂ (λ b w. if b then w else 0) (since.each k l u) is)
          (omega (arith, if_most (ltb x k) v)));
    }

-- ---- when all are in, the table has what each record adds
module _ (measure : List ℕ → ℕ) (s table : List ℕ) (nothing : measure (up_to s 0) ≡ 0)
    (sums : (k : ℕ) → 0 < k → k ≤ most_records → sum_to table k ≡ measure (up_to s k)) where
  sum_is : (k : ℕ) → k ≤ most_records → sum_to table k ≡ measure (up_to s k)
  unfolding sum_to
  sum_is zero u = sym nothing
  sum_is (suc k) u = sums (suc k) (omega arith) u

  sums_add : (o : List ℕ) → size o ≤ most_records → Adds o measure s table
  unfolding sum_to
  sums_add o few = record { at_place = λ r i. go r i.low (omega (arith, i.high)) }
    where
      go : (r : ℕ) → 1 ≤ r → r ≤ most_records → get_or table (r - 1) 0 ≡ added measure s r
      go zero l u = absurd (omega arith)
      go (suc t) l u = let e : suc t - 1 ≡ t = omega arith in rw e (omega (arith, sum_is (suc t) u, sum_is t (omega arith)))

-- prices sum up to the cost, branches to the diversity
pub quarters_end : {o s : List ℕ} {r : ℕ} {table : List ℕ} → size o ≤ most_records → Adding (price o) (price_counts o s) (size o) r table → size o < r
    → Adds o (cost o) s table
unfolding cost records
quarters_end {o} {s} {r} {table} few a h =
    sums_add (cost o) s table (cost_nothing o) (λ k l u. summing_ends (λ q. if price_counts o s q k then price o q else 0) (size o) (a.sums k l u) h) o few

pub diversity_end : {o s : List ℕ} (way : ℕ) {r : ℕ} {table : List ℕ} → size o ≤ most_records → Adding (branch o) (branch_counts o way s) (size o) r table
    → size o < r → Adds o (diversity o way) s table
unfolding diversity rooted unrooted records
diversity_end {o} {s} way {r} {table} few a h =
    sums_add (diversity o way) s table (diversity_nothing o way)
    (λ k l u. summing_ends (λ q. if branch_counts o way s q k then branch o q else 0) (size o) (a.sums k l u) h ∙ go (eqb way 0) (up_to s k)) o few
  where
    go : (b : Bool) (t : List ℕ) → total (λ q. if within o t q && (b || elsewhere o t q) then branch o q else 0) (records o) ≡ (if b then rooted o t else unrooted o t)
    go true t = simp and-true
    go false t = refl
