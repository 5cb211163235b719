-- A value joined with a row: with nothing, with a better row, with one value, and one value after another.
use Rattle.std.specs.Prelude.{if◌then◌else◌}
use Prim.Native.Nat.{ℕ, ◌-◌, ◌≤◌, ◌<◌}
use mathlib.Core.Path.{◌≡◌, refl, sym, ap, ◌∙◌}
use mathlib.Core.Bool.{Bool, true, false}
use native.Mathlib.Omega.{arith}
use lib.Dec.{leb}
use borrow.Author.Tests.{leb-true, leb-false, le-leb, lt-leb}
use Rattle.laws.specs.Candidate.{Value, plus, nothing_worth, beats, Cand, none, some, better_of, join_of, one_at}
use Rattle.laws.proofs.Order.{plus_assoc, plus_nothing, nothing_plus, beats_same_plus}
use Rattle.rows.specs.Rows.{Row, better_row, join_row}

-- ---- candidates
pub join_none : (c : Cand) → join_of c none ≡ none
unfolding join_of
join_none none = refl
join_none (some v) = refl

join_of_better : (c d e : Cand) → join_of c (better_of d e) ≡ better_of (join_of c d) (join_of c e)
unfolding join_of better_of
join_of_better none d e = refl
join_of_better (some v) none e = refl
join_of_better (some v) (some w) none = refl
join_of_better (some v) (some w) (some u) = rw (beats_same_plus v u w) (go (beats u w))
  where
    go : (t : Bool) → join_of (some v) (if t then some u else some w) ≡ (if t then some (plus v u) else some (plus v w))
    go true = refl
    go false = refl

join_of_join : (v w : Value) (c : Cand) → join_of (some v) (join_of (some w) c) ≡ join_of (some (plus v w)) c
unfolding join_of
join_of_join v w none = refl
join_of_join v w (some u) = ap some (sym (plus_assoc v w u))

pub join_of_nothing : (c : Cand) → join_of (some nothing_worth) c ≡ c
unfolding join_of
join_of_nothing none = refl
join_of_nothing (some v) = ap some (nothing_plus v)

-- ---- rows
-- where the value fits, and where it doesn't
joined_from : (v : Value) (x : Row) (b : ℕ) → v.cost ≤ b → join_row v x b ≡ join_of (some v) (x (b - v.cost))
unfolding join_row one_at
joined_from v x b h = rw (le-leb v.cost b h)

joined_below : (v : Value) (x : Row) (b : ℕ) → b < v.cost → join_row v x b ≡ none
unfolding join_row one_at join_of
joined_below v x b h = rw (lt-leb v.cost b h)

-- together with nothing
pub join_alone : (v : Value) (b : ℕ) → join_row v (λ i. some nothing_worth) b ≡ one_at v b
unfolding join_row one_at join_of
join_alone v b = go (leb v.cost b)
  where
    go : (t : Bool) → join_of (if t then some v else none) (some nothing_worth) ≡ (if t then some v else none)
    go true = ap some (plus_nothing v)
    go false = refl

module _ (v : Value) where
  -- a column depends on the one that the value leaves, and so on the columns up to it
  pub join_at : (x y : Row) (b : ℕ) → x (b - v.cost) ≡ y (b - v.cost) → join_row v x b ≡ join_row v y b
  unfolding join_row
  join_at x y b e = rw e

  pub join_same : {x y : Row} (b : ℕ) → ((i : ℕ) → i ≤ b → x i ≡ y i) → join_row v x b ≡ join_row v y b
  join_same b p = join_at _ _ b (p (b - v.cost) (omega arith))

  pub join_better : (x y : Row) (b : ℕ) → join_row v (better_row x y) b ≡ better_of (join_row v x b) (join_row v y b)
  unfolding join_row
  join_better x y b = join_of_better (one_at v b) _ _

  -- two values, one after the other
  pub join_join : (w : Value) (x : Row) (b : ℕ) → join_row v (join_row w x) b ≡ join_row (plus v w) x b
  join_join w x b = go (leb v.cost b) refl (leb w.cost (b - v.cost)) refl
    where
      go : (s : Bool) → leb v.cost b ≡ s → (t : Bool) → leb w.cost (b - v.cost) ≡ t → join_row v (join_row w x) b ≡ join_row (plus v w) x b
      go true e true d =
          let h = leb-true v.cost b e in
          let k = leb-true w.cost (b - v.cost) d in
          joined_from v _ b h ∙ ap (join_of (some v)) (joined_from w x (b - v.cost) k) ∙ join_of_join v w _
          ∙ ap (λ i. join_of (some (plus v w)) (x i)) (omega arith) ∙ sym (joined_from (plus v w) x b (omega arith))
      go true e false d =
          let h = leb-true v.cost b e in
          let k = leb-false w.cost (b - v.cost) d in
          joined_from v _ b h ∙ ap (join_of (some v)) (joined_below w x (b - v.cost) k) ∙ join_none (some v)
          ∙ sym (joined_below (plus v w) x b (omega arith))
      go false e t d = let h = leb-false v.cost b e in joined_below v _ b h ∙ sym (joined_below (plus v w) x b (omega arith))

  pub join_one : (w : Value) (b : ℕ) → join_row v (one_at w) b ≡ one_at (plus v w) b
  join_one w b = join_same b (λ i l. sym (join_alone w i)) ∙ join_join w (λ i. some nothing_worth) b ∙ join_alone (plus v w) b

-- nothing moves nothing
pub join_nothing : (x : Row) (b : ℕ) → join_row nothing_worth x b ≡ x b
join_nothing x b = joined_from nothing_worth x b (omega arith) ∙ join_of_nothing _ ∙ ap x (omega arith)
