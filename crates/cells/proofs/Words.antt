-- A candidate's two words: which of two is better, two joined, one charged with a branch.
use Rattle.std.specs.Prelude.{if◌then◌else◌}
use Rattle.std.proofs.lemmas.Bool.{cases_eq}
use Prim.Native.Nat.{ℕ, ◌+◌, ◌*◌, ◌-◌, ◌/◌, ◌%◌, ◌<◌, ◌≤◌}
use mathlib.Core.Path.{◌≡◌, refl, sym, ap, ◌∙◌}
use mathlib.Core.Logic.{◌≢◌, inl, inr, ⊎_elim}
use mathlib.Core.Bool.{Bool, true, false, ◌||◌, ◌&&◌}
use native.Mathlib.Omega.{arith}
use native.Mathlib.Nat.{eq-or-lt_of_le}
use lib.Dec.{eqb, ltb}
use borrow.Author.Tests.{lt-ltb, le-ltb, eq-eqb, ne_eqb, eqb-true, eqb-false, ltb-true, ltb-false}
use Rattle.laws.specs.Candidate.{Value, plus, nothing_worth, heading, Cand, none, some, beats, better_of, join_of, charge_of}
use Rattle.laws.proofs.Order.{Beats, more_locked, more, cheaper, earlier, AtLeast, value_path, beats_true, beats_false}
use Rattle.cells.specs.Cells.{unit, lift, word_limit, seen, locked_of, diversity_of, cost_of, code_of, Joinable, Chargeable}

-- the value of a score that isn't 0
abbrev pub value_of : ℕ → ℕ → Value
value_of s m = record { locked = (s - 1) / unit / lift; diversity = (s - 1) / unit % lift; cost = unit - 1 - (s - 1) % unit; code = m }

pub seen_none : (s m : ℕ) → s ≡ 0 → seen s m ≡ none
unfolding seen
seen_none s m e = rw (eq-eqb s 0 e)

seen_some : (s m : ℕ) → (s ≡ 0 → ⊥) → seen s m ≡ some (value_of s m)
unfolding seen
seen_some s m n = rw (ne_eqb s 0 n)

pub none_some : {v : Value} → none ≡ some v → ⊥
none_some e = let z : ◌≡◌ {A = ℕ} 0 1 = cc in omega arith

-- the second of two scores and sets wins
abbrev wins : ℕ → ℕ → ℕ → ℕ → Bool
wins s m t n = ltb s t || (eqb s t && ltb m n)

-- a greater score has more locked taxa, or as many and more diversity, or as much for less
greater_beats : (s m t n : ℕ) → (s ≡ 0 → ⊥) → s < t → Beats (value_of t n) (value_of s m)
greater_beats s m t n h l = go (ltb ((s - 1) / unit / lift) ((t - 1) / unit / lift)) refl (ltb ((s - 1) / unit % lift) ((t - 1) / unit % lift)) refl
  where
    go : (a : Bool) → ltb ((s - 1) / unit / lift) ((t - 1) / unit / lift) ≡ a → (b : Bool) → ltb ((s - 1) / unit % lift) ((t - 1) / unit % lift) ≡ b
        → Beats (value_of t n) (value_of s m)
    go true d b e = more_locked (ltb-true _ _ d)
    go false d true e = let k : (t - 1) / unit / lift ≤ (s - 1) / unit / lift = ltb-false _ _ d in more (omega arith) (ltb-true _ _ e)
    go false d false e =
        let j : (t - 1) / unit / lift ≤ (s - 1) / unit / lift = ltb-false _ _ d in
        let k : (t - 1) / unit % lift ≤ (s - 1) / unit % lift = ltb-false _ _ e in
        cheaper (omega arith) (omega arith) (omega arith)

-- two scores added, each taken 1 less
join_quotient : (p q : ℕ) → (unit - 1 - p % unit) + (unit - 1 - q % unit) < unit → p / unit % lift + q / unit % lift < lift →
    let s = p + q + 2 - unit in
    (s ≡ 0 → ⊥) × ((s - 1) / unit / lift ≡ p / unit / lift + q / unit / lift) × ((s - 1) / unit % lift ≡ p / unit % lift + q / unit % lift) × (unit - 1 - (s - 1) % unit ≡ (unit - 1 - p % unit) + (unit - 1 - q % unit))
join_quotient p q h k = let e : (p + q + 2 - unit - 1) / unit ≡ p / unit + q / unit = omega arith in (λ e. omega arith, omega arith, omega arith, omega arith)

module _ (s m t n : ℕ) where
  second_wins : (s ≡ 0 → ⊥) → (t ≡ 0 → ⊥) → beats (value_of t n) (value_of s m) ≡ wins s m t n
  second_wins h k = go (ltb s t) (eqb s t) (ltb m n) refl refl refl
    where
      same : s ≡ t → n ≤ m → AtLeast (value_of s m) (value_of t n)
      same e l = ⊎_elim (λ (q : n ≡ m). inl (rw (e, q))) (λ (q : n < m). inr (earlier (rw e) (rw e) (rw e) q)) (eq-or-lt_of_le l)

      go : (a b c : Bool) → ltb s t ≡ a → eqb s t ≡ b → ltb m n ≡ c → beats (value_of t n) (value_of s m) ≡ a || (b && c)
      go true b c p q r = beats_true (greater_beats s m t n h (ltb-true _ _ p))
      go false true true p q r = beats_true (earlier (rw (eqb-true s t q)) (rw (eqb-true s t q)) (rw (eqb-true s t q)) (ltb-true _ _ r))
      go false true false p q r = beats_false (same (eqb-true _ _ q) (ltb-false _ _ r))
      go false false c p q r =
          let ne : s ≢ t = eqb-false s t q in
          beats_false (inr (greater_beats t n s m k (omega (arith, ltb-false s t p))))

  -- the better of two, by the test on the words
  better_words : (a b : Bool) → eqb s 0 ≡ a → eqb t 0 ≡ b → (if wins s m t n then seen t n else seen s m) ≡ better_of (seen s m) (seen t n)
  unfolding better_of seen
  better_words true true p q = rw (p, q) (go (wins s m t n))
    where
      go : (w : Bool) → (if w then none else none) ≡ none
      go true = refl
      go false = refl
  better_words true false p q = rw (p, q, lt-ltb s t (omega (arith, eqb-true s 0 p, eqb-false t 0 q)))
  better_words false true p q =
      rw (p, q, le-ltb s t (omega (arith, eqb-true t 0 q)), ne_eqb s t (λ e. eqb-false s 0 p (e ∙ eqb-true t 0 q)))
  better_words false false p q = rw (p, q, second_wins (eqb-false s 0 p) (eqb-false t 0 q))

  second_better : wins s m t n ≡ true → seen t n ≡ better_of (seen s m) (seen t n)
  second_better e = rw e at (better_words _ _ refl refl)

  first_better : wins s m t n ≡ false → seen s m ≡ better_of (seen s m) (seen t n)
  first_better e = rw e at (better_words _ _ refl refl)

  pub greater_set : s ≡ t → m < n → seen t n ≡ better_of (seen s m) (seen t n)
  greater_set e h = second_better (rw (le-ltb s t (omega arith), eq-eqb s t e, lt-ltb m n h))

  pub no_greater_set : s ≡ t → n ≤ m → seen s m ≡ better_of (seen s m) (seen t n)
  no_greater_set e h = first_better (rw (le-ltb s t (omega arith), eq-eqb s t e, le-ltb m n h))

  pub greater_score : s < t → seen t n ≡ better_of (seen s m) (seen t n)
  greater_score h = second_better (rw (lt-ltb s t h))

  pub no_greater_score : s ≢ t → t ≤ s → seen s m ≡ better_of (seen s m) (seen t n)
  no_greater_score d h = first_better (rw (le-ltb s t h, ne_eqb s t d))

  -- two joined
  pub join_second_none : (s ≡ 0 → ⊥) → t ≡ 0 → seen t n ≡ join_of (seen s m) (seen t n)
  unfolding join_of
  join_second_none h e = rw (seen_some s m h, seen_none t n e)

  module _ (h : s ≡ 0 → ⊥) (k : t ≡ 0 → ⊥) (j : Joinable (seen s m) (seen t n)) where
    joinable_words : Joinable (some (value_of s m)) (some (value_of t n))
    joinable_words = rw (seen_some s m h, seen_some t n k) at j

    pub join_bounds : (s + t < word_limit) × (unit ≤ s + t) × (m + n < word_limit)
    unfolding locked_of diversity_of cost_of code_of
    join_bounds = (
      omega (arith, joinable_words.locked_fits, joinable_words.diversity_fits, joinable_words.cost_fits),
      omega (arith, joinable_words.cost_fits),
      joinable_words.code_fits,
    )

    pub join_both : seen (s + t - unit) (m + n) ≡ join_of (seen s m) (seen t n)
    unfolding join_of diversity_of cost_of
    join_both =
        let q = join_quotient (s - 1) (t - 1) joinable_words.cost_fits joinable_words.diversity_fits in
        let e : s + t - unit ≡ (s - 1) + (t - 1) + 2 - unit = omega arith in
        ap (λ x. seen x (m + n)) e ∙ seen_some _ _ q.0 ∙ ap some (value_path q.1 q.2 q.3 refl) ∙ rw (seen_some s m h, seen_some t n k)

-- nothing chosen, in words
pub nothing_words : (s m : ℕ) → seen s m ≡ some nothing_worth → (s ≡ unit) × (m ≡ 0)
unfolding locked_of diversity_of cost_of code_of
nothing_words s m e =
    let there : s ≡ 0 → ⊥ = λ z. none_some (sym (seen_none s m z) ∙ e) in
    let words : some (value_of s m) ≡ some nothing_worth = sym (seen_some s m there) ∙ e in
    let k : (s - 1) / unit / lift ≡ 0 = ap locked_of words in
    let d : (s - 1) / unit % lift ≡ 0 = ap diversity_of words in
    let c : unit - 1 - (s - 1) % unit ≡ 0 = ap cost_of words in
    (omega arith, ap code_of words)

-- one charged
module _ (s m b p : ℕ) where
  pub charge_none : s ≡ 0 → seen s m ≡ charge_of (seen s m) b p
  unfolding join_of
  charge_none e = rw (seen_none s m e)

  module _ (h : s ≡ 0 → ⊥) (j : Chargeable (seen s m) b p) where
    chargeable_words : Chargeable (some (value_of s m)) b p
    chargeable_words = rw (seen_some s m h) at j

    pub charge_bounds : (b < lift) × (s + b * unit < word_limit) × (p ≤ s + b * unit)
    unfolding locked_of diversity_of cost_of
    charge_bounds =
        let d = chargeable_words.diversity_fits in
        let k = chargeable_words.locked_fits in
        let c = chargeable_words.cost_fits in
        (omega arith, omega arith, omega arith)

    pub charge_some : seen (s + b * unit - p) m ≡ charge_of (seen s m) b p
    unfolding join_of locked_of diversity_of cost_of
    charge_some =
        let d = chargeable_words.diversity_fits in
        let c = chargeable_words.cost_fits in
        let q : (s + b * unit - p - 1) / unit ≡ b + (s - 1) / unit = omega arith in
        let v : value_of (s + b * unit - p) m ≡ plus (heading b p) (value_of s m) =
        value_path (rw q (omega arith)) (rw q (omega arith)) (omega arith) (omega arith) in
        seen_some _ _ (λ e. omega arith) ∙ ap some v ∙ rw (seen_some s m h)

-- a set by its worth
pub seen_worth : (k d c m : ℕ) → d < lift → c < unit → seen ((k * lift + d + 1) * unit - c) m ≡ some (record { locked = k; diversity = d; cost = c; code = m })
seen_worth k d c m g l =
    let e : ((k * lift + d + 1) * unit - c - 1) / unit ≡ k * lift + d = omega arith in
    seen_some _ _ (λ e. omega arith) ∙ ap some (value_path (rw e (omega arith)) (rw e (omega arith)) (omega arith) refl)

-- a part of a candidate, by whether its score is 0
pub part_is : {s m r : ℕ} (part : Cand → ℕ) → (s ≡ 0 → r ≡ part none) → (s ≢ 0 → r ≡ part (some (value_of s m))) → r ≡ part (seen s m)
part_is {s} {m} part absent there = ⊎_elim (λ z. rw (seen_none s m z) (absent z)) (λ n. rw (seen_some s m n) (there n)) (cases_eq s 0)
