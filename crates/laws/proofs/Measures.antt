-- What number, cost and diversity by recursion over a forest come to.
use Rattle.std.specs.Prelude.{if◌then◌else◌}
use Prim.Native.Nat.{ℕ, zero, suc, ◌+◌, ◌-◌, ◌<◌}
use mathlib.Core.Path.{◌≡◌, refl, ap}
use mathlib.Core.Bool.{Bool, true, false, ◌&&◌, and-true, and-false}
use mathlib.Core.List.{List}
use native.Mathlib.Omega.{arith}
use Rattle.lists.specs.Lists.{one, positive}
use Rattle.outline.specs.Outline.{branch}
use Rattle.laws.specs.Forest.{Forest, empty, node, is_group, sum_in}
use Rattle.laws.proofs.Sums.{positive_true}
use Rattle.laws.specs.Measures.{weight_in, rooted_in, across, chosen_in, unrooted_in, groups_in, crossing, within_in}

-- where nothing is chosen, nothing counts
pub sum_quiet : (p : ℕ → Bool) (w : ℕ → Forest → ℕ) → ((r : ℕ) (f : Forest) → one (p r) + chosen_in p f ≡ 0 → w r f ≡ 0)
    → (F : Forest) → chosen_in p F ≡ 0 → sum_in w F ≡ 0
sum_quiet p w quiet empty e = refl
sum_quiet p w quiet (node r f n) e =
    omega (arith, quiet r f (omega arith), sum_quiet p w quiet f (omega arith), sum_quiet p w quiet n (omega arith))

pub weight_quiet : (p : ℕ → Bool) (w : ℕ → ℕ) (F : Forest) → chosen_in p F ≡ 0 → weight_in w p F ≡ 0
weight_quiet p w = sum_quiet p _ (λ r f e. go (p r) (w r) (omega arith))
  where
    go : (b : Bool) (k : ℕ) → one b ≡ 0 → (if b then k else 0) ≡ 0
    go true k e = absurd (omega arith)
    go false k e = refl

pub within_quiet : (p : ℕ → Bool) (w : ℕ → ℕ) (F : Forest) → chosen_in p F ≡ 0 → within_in w p F ≡ 0
within_quiet p w = sum_quiet p _ (λ r f e. ap (λ k. if positive k then w r else 0) e)

module _ (o : List ℕ) (p : ℕ → Bool) where
  pub unrooted_quiet : (F : Forest) → chosen_in p F ≡ 0 → unrooted_in o p F ≡ 0
  unrooted_quiet empty e = refl
  unrooted_quiet (node r f n) e = let z : chosen_in p n ≡ 0 = omega arith in rw z (unrooted_quiet f (omega arith))

  -- none is chosen at the record or below it
  crossing_none : (c r : ℕ) (f : Forest) → one (p r) + chosen_in p f ≡ 0 → crossing o p c r f ≡ 0
  crossing_none c r f e = ap (λ k. if positive k && positive (c - k) then branch o r else 0) e

  -- none is chosen elsewhere
  crossing_shut : (c r : ℕ) (f : Forest) → one (p r) + chosen_in p f ≡ c → crossing o p c r f ≡ 0
  crossing_shut c r f h = let z : c - (one (p r) + chosen_in p f) ≡ 0 = omega arith in rw (z, and-false)

  -- some are chosen elsewhere
  crossing_open : (c r : ℕ) (f : Forest) → one (p r) + chosen_in p f < c → crossing o p c r f ≡ (if positive (one (p r) + chosen_in p f) then branch o r else 0)
  crossing_open c r f h = rw (positive_true (c - (one (p r) + chosen_in p f)) (omega arith), and-true)

  crossing_quiet : (c : ℕ) (F : Forest) → chosen_in p F ≡ 0 → sum_in (crossing o p c) F ≡ 0
  crossing_quiet c = sum_quiet p _ (crossing_none c)

  -- with a record chosen outside the forest, the rooted rule holds in it
  pub crossing_rooted : (c k : ℕ) (F : Forest) → 0 < k → k + chosen_in p F ≡ c → sum_in (crossing o p c) F ≡ rooted_in o p F
  crossing_rooted c k empty h e = refl
  crossing_rooted c k (node r f n) h e =
      omega (
        arith,
        crossing_open c r f (omega arith),
        crossing_rooted c (k + (one (p r) + chosen_in p f)) n (omega arith) (omega arith),
        crossing_rooted c (k + (one (p r) + chosen_in p n)) f (omega arith) (omega arith),
      )

  -- with none chosen outside, the unrooted rule
  pub crossing_unrooted : (c : ℕ) (F : Forest) → groups_in p F ≡ 0 → chosen_in p F ≡ c → sum_in (crossing o p c) F ≡ unrooted_in o p F
  crossing_unrooted c empty g e = refl
  crossing_unrooted c (node r f n) g e =
      cases (one (p r) + chosen_in p f) (chosen_in p n) refl refl (crossing_unrooted c n (omega arith)) (members f (omega arith) (crossing_unrooted c f (omega arith)))
    where
      -- a chosen record has no members
      members : (f : Forest) → one (p r && is_group f) ≡ 0 → (chosen_in p f ≡ c → sum_in (crossing o p c) f ≡ unrooted_in o p f)
          → one (p r) + chosen_in p f ≡ c → sum_in (crossing o p c) f ≡ unrooted_in o p f
      members empty z ih h = refl
      members (node q g m) z ih h = ih (omega (arith, ap one (and-true (p r))))

      cases : (a b : ℕ) → one (p r) + chosen_in p f ≡ a → chosen_in p n ≡ b
          → (chosen_in p n ≡ c → sum_in (crossing o p c) n ≡ unrooted_in o p n)
          → (one (p r) + chosen_in p f ≡ c → sum_in (crossing o p c) f ≡ unrooted_in o p f)
          → sum_in (crossing o p c) (node r f n) ≡ across a b (rooted_in o p (node r f n)) (unrooted_in o p f) (unrooted_in o p n)
      cases a zero ea eb ihn ihf = omega (arith, crossing_shut c r f (omega arith), crossing_quiet c n eb, ihf (omega arith))
      cases zero (suc b) ea eb ihn ihf = omega (arith, crossing_none c r f ea, crossing_quiet c f (omega arith), ihn (omega arith))
      cases (suc a) (suc b) ea eb ihn ihf =
          omega (
            arith,
            crossing_open c r f (omega arith),
            crossing_rooted c (one (p r) + chosen_in p f) n (omega arith) (omega arith),
            crossing_rooted c (one (p r) + chosen_in p n) f (omega arith) (omega arith),
          )
