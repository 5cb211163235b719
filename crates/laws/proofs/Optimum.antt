-- What the exhaustive search ends with, in whatever order it goes through the sets: where the locked taxa fit by themselves, exactly one
-- set, which fits, and every other set that fits is behind it; elsewhere no set fits, and it ends with nothing.
use Rattle.std.specs.Prelude.{if◌then◌else◌}
use Prim.Native.Nat.{ℕ, ◌≤◌, ◌<◌}
use mathlib.Core.Path.{◌≡◌, refl, sym, ap, ◌∙◌}
use mathlib.Core.Logic.{◌⊎◌, inl, inr, ⊎_elim, ◌↔◌}
use mathlib.Core.Bool.{Bool, true, false, ◌&&◌, not, false≢true, and-true, and-false}
use mathlib.Core.List.Memᴰ
use mathlib.Core.List.{List, [], ◌∷◌, foldl, Memᴰ}
use native.Mathlib.Omega.{arith}
use native.Mathlib.Nat.{eq-or-lt_of_le}
use lib.Dec.{eqb, ltb, leb}
use borrow.Author.Tests.{lt-ltb, le-ltb, leb-true, leb-false, eq-eqb, ne_eqb}
use Rattle.outline.specs.Outline.{records}
use Rattle.diversity.specs.Diversity.{diversity, cost, holds_locked}
use Rattle.diversity.specs.Behind.{Fits, IsSet, Behind, less_diversity, more_cost, lacks_first}
use Rattle.diversity.specs.Search.{subsets, better, Incumbent, nothing, holding, fits, turn, exhaustive_search, is_holding, set_of, optimum}
use Rattle.diversity.specs.Search.{none_fits, blank_cost, best_diversity, least_cost}
use Rattle.laws.specs.Candidate.{Value, beats, Cand, none, some, better_of, one_at, this}
use Rattle.laws.specs.Locks.{locks, locks_held, locked_set}
use Rattle.laws.specs.Numbers.{worth}
use Rattle.laws.proofs.Order.{more_locked, more, cheaper, earlier, AtLeast}
use Rattle.laws.proofs.Best.{from_some, covers_none, covers_some, Covers, by, Best, best_unique, best_same, best_none, best_one, best_either}
use Rattle.laws.proofs.Locks.{held_most, held_all, locked_is_set, locked_set_holds, locked_least, fits_exactly, some_fits}
use Rattle.laws.proofs.Marks.{set_marked, subsets_exactly, leads_lacks}
use Rattle.laws.proofs.SetOrder.{better_beats}
use Rattle.laws.proofs.Numbers.{code_leads, worth_inj}

-- v is what some set of taxa is worth
abbrev pub IsWorth : List ℕ → ℕ → Value → Type 0
IsWorth o way v = (t : List ℕ) × IsSet o t × (v ≡ worth o way t)

-- and the set holds every locked taxon
abbrev LockedWorth : List ℕ → ℕ → Value → Type 0
LockedWorth o way v = (t : List ℕ) × IsSet o t × (holds_locked o t ≡ true) × (v ≡ worth o way t)

-- ---- the search
module _ (o : List ℕ) (way b : ℕ) where
  -- the candidate in hand
  worth_of : Incumbent → Cand
  worth_of nothing = none
  worth_of (holding s) = some (worth o way s)

  Holds : Incumbent → Type 0
  Holds nothing = Unit {0}
  Holds (holding s) = IsSet o s × (holds_locked o s ≡ true)

  -- a set, if it fits
  fitting : List ℕ → Cand
  fitting s = if fits o b s then some (worth o way s) else none

  abbrev Alone : List ℕ → Value → Type 0
  Alone s v = (holds_locked o s ≡ true) × (v ≡ worth o way s)

  fitting_best : (s : List ℕ) → Best (Alone s) b (fitting s)
  unfolding fitting fits
  fitting_best s = go (holds_locked o s) refl
    where
      go : (h : Bool) → holds_locked o s ≡ h → Best (Alone s) b (if leb (cost o s) b && h then some (worth o way s) else none)
      go true e = rw (and-true (leb (cost o s) b)) (best_same (λ v p. (e, p)) (λ v p. p.1) (unfold one_at worth in best_one (worth o way s) b))
      go false e = rw (and-false (leb (cost o s) b)) (best_none (λ v p. false≢true (sym e ∙ p.0)))

  fits_held : (s : List ℕ) → fits o b s ≡ true → holds_locked o s ≡ true
  fits_held s e = ((fits_exactly o b s).0 e).locked_held

  -- one turn, by whether the set fits
  turn_worth : (h : Incumbent) (s : List ℕ) → Holds h → IsSet o s → worth_of (turn o way b h s) ≡ better_of (worth_of h) (fitting s)
  unfolding worth_of turn better_of Holds fitting
  turn_worth nothing s p m = go (fits o b s)
    where
      go : (t : Bool) → worth_of (if t then holding s else nothing) ≡ (if t then some (worth o way s) else none)
      go true = refl
      go false = refl
  turn_worth (holding x) s p m = go (fits o b s) refl
    where
      same : fits o b s ≡ true → locks_held o s ≡ locks_held o x
      same e = (held_all o s).0 (fits_held s e) ∙ sym ((held_all o x).0 p.1)

      taken : (k : Bool) → worth_of (if k then holding s else holding x) ≡ (if k then some (worth o way s) else some (worth o way x))
      taken true = refl
      taken false = refl

      go : (t : Bool) → fits o b s ≡ t
          → worth_of (if t && better o way s x then holding s else holding x) ≡ better_of (some (worth o way x)) (if t then some (worth o way s) else none)
      go true e = rw (better_beats o way m p.0 (same e)) (taken (beats (worth o way s) (worth o way x)))
      go false e = refl

  turn_holds : (h : Incumbent) (s : List ℕ) → Holds h → IsSet o s → Holds (turn o way b h s)
  unfolding turn Holds
  turn_holds nothing s p m = go (fits o b s) refl
    where
      go : (t : Bool) → fits o b s ≡ t → Holds (if t then holding s else nothing)
      go true e = (m, fits_held s e)
      go false e = tt
  turn_holds (holding x) s p m = go (fits o b s) (better o way s x) refl
    where
      go : (t k : Bool) → fits o b s ≡ t → Holds (if t && k then holding s else holding x)
      go true true e = (m, fits_held s e)
      go true false e = p
      go false k e = p

  abbrev All : List (List ℕ) → Type 0
  All l = (t : List ℕ) → Memᴰ t l → IsSet o t

  fold_holds : (h : Incumbent) (l : List (List ℕ)) → Holds h → All l → Holds (foldl (turn o way b) h l)
  fold_holds h [] p m = p
  fold_holds h (s ∷ l) p m = fold_holds (turn o way b h s) l (turn_holds h s p (m s (Memᴰ.head refl))) (λ t n. m t (Memᴰ.tail n))

  -- the values of a property P, and of the sets of a list
  abbrev Also : (Value → Type 0) → List (List ℕ) → Value → Type 0
  Also P l v = P v ⊎ ((t : List ℕ) × Memᴰ t l × Alone t v)

  also_cons : (P : Value → Type 0) (s : List ℕ) (l : List (List ℕ)) (v : Value) → Also (λ w. P w ⊎ Alone s w) l v → Also P (s ∷ l) v
  also_cons P s l v (inl (inl p)) = inl p
  also_cons P s l v (inl (inr a)) = inr (s, Memᴰ.head refl, a)
  also_cons P s l v (inr (t, n, a)) = inr (t, Memᴰ.tail n, a)

  cons_also : (P : Value → Type 0) (s : List ℕ) (l : List (List ℕ)) (v : Value) → Also P (s ∷ l) v → Also (λ w. P w ⊎ Alone s w) l v
  cons_also P s l v (inl p) = inl (inl p)
  cons_also P s l v (inr (t, n, a)) = ⊎_elim (λ q. inl (inr (rw q at a))) (λ n. inr (t, n, a)) (Memᴰ.cases_cons n)

  turn_best : (P : Value → Type 0) (h : Incumbent) (s : List ℕ) → Holds h → IsSet o s → Best P b (worth_of h)
      → Best (λ v. P v ⊎ Alone s v) b (worth_of (turn o way b h s))
  turn_best P h s p m w = rw (turn_worth h s p m) (best_either w (fitting_best s))

  fold_best : (P : Value → Type 0) (h : Incumbent) (l : List (List ℕ)) → Holds h → All l → Best P b (worth_of h)
      → Best (Also P l) b (worth_of (foldl (turn o way b) h l))
  fold_best P h [] p m w = best_same (λ v. inl) (λ v. ⊎_elim (λ x. x) (λ (t, n, a). absurd (Memᴰ.not-nil n))) w
  fold_best P h (s ∷ l) p m w =
      best_same (also_cons P s l) (cons_also P s l)
      (fold_best (λ v. P v ⊎ Alone s v) (turn o way b h s) l
      (turn_holds h s p (m s (Memᴰ.head refl))) (λ t n. m t (Memᴰ.tail n))
      (turn_best P h s p (m s (Memᴰ.head refl)) w))

  -- a list that has every set, and nothing else
  abbrev Lists : List (List ℕ) → Type 0
  Lists l = (t : List ℕ) → Memᴰ t l ↔ IsSet o t

  module _ (l : List (List ℕ)) (lists : Lists l) where
    list_holds : Holds (foldl (turn o way b) nothing l)
    unfolding Holds
    list_holds = fold_holds nothing l tt (λ t. (lists t).0)

    list_best : Best (LockedWorth o way) b (worth_of (foldl (turn o way b) nothing l))
    unfolding worth_of Holds
    list_best =
        best_same (λ v. ⊎_elim absurd (λ (t, n, a). (t, (lists t).0 n, a.0, a.1))) (λ v (t, m, h, e). inr (t, (lists t).1 m, (h, e)))
        (fold_best (λ v. ⊥) nothing l tt (λ t. (lists t).0) (best_none (λ v p. p)))

  -- two hands that are the best are one
  one_hand : (h k : Incumbent) → Holds h → Holds k → Best (LockedWorth o way) b (worth_of h) → Best (LockedWorth o way) b (worth_of k) → h ≡ k
  unfolding Holds worth_of
  one_hand nothing nothing p q x y = refl
  one_hand nothing (holding t) p q x y = absurd (covers_none (x.covers (worth o way t) (t, q.0, q.1, refl) (from_some y.is).1))
  one_hand (holding s) nothing p q x y = absurd (covers_none (y.covers (worth o way s) (s, p.0, p.1, refl) (from_some x.is).1))
  one_hand (holding s) (holding t) p q x y = let e = best_unique x y in ap holding (worth_inj p.0 q.0 way (cc))

  ended_holds : Holds (exhaustive_search o way b)
  unfolding exhaustive_search
  ended_holds = list_holds (subsets o (records o)) (subsets_exactly o)

  ended_best : Best (LockedWorth o way) b (worth_of (exhaustive_search o way b))
  unfolding exhaustive_search
  ended_best = list_best (subsets o (records o)) (subsets_exactly o)

  -- the order of the sets doesn't matter: any list of them leads to the same end
  pub any_order : (l : List (List ℕ)) → ((t : List ℕ) → Memᴰ t l ↔ IsSet o t) → foldl (turn o way b) nothing l ≡ exhaustive_search o way b
  any_order l lists = one_hand _ _ (list_holds l lists) ended_holds (list_best l lists) ended_best

-- ---- what the search ends with
module _ (o : List ℕ) (way b : ℕ) where
  -- where the locked taxa don't fit by themselves, nothing
  pub search_fails : b < cost o (locked_set o) → exhaustive_search o way b ≡ nothing
  unfolding Holds worth_of worth
  search_fails short = go (exhaustive_search o way b) (ended_holds o way b) (ended_best o way b)
    where
      go : (h : Incumbent) → Holds o way b h → Best (LockedWorth o way) b (worth_of o way b h) → h ≡ nothing
      go nothing p w = refl
      go (holding s) p w = absurd (omega (arith, locked_least o s p.1, (from_some w.is).1))

  -- and its column shows 0 and 4,294,967,295
  pub blank_diversity : b < cost o (locked_set o) → best_diversity o way b ≡ 0
  unfolding best_diversity is_holding
  blank_diversity short = rw (search_fails short)

  pub blank_cost_lem : b < cost o (locked_set o) → least_cost o way b ≡ blank_cost
  unfolding least_cost is_holding
  blank_cost_lem short = rw (search_fails short)

  module _ (fit : cost o (locked_set o) ≤ b) where
    held : (h : Incumbent) → Holds o way b h → Best (LockedWorth o way) b (worth_of o way b h)
        → (h ≡ holding (set_of h)) × IsSet o (set_of h) × (holds_locked o (set_of h) ≡ true) × Best (LockedWorth o way) b (some (worth o way (set_of h)))
    unfolding Holds worth_of set_of worth
    held nothing p w = absurd (covers_none (w.covers (worth o way (locked_set o)) (locked_set o, locked_is_set o, locked_set_holds o, refl) fit))
    held (holding s) p w = (refl, p.0, p.1, w)

    ended : (exhaustive_search o way b ≡ holding (optimum o way b)) × IsSet o (optimum o way b) × (holds_locked o (optimum o way b) ≡ true)
        × Best (LockedWorth o way) b (some (worth o way (optimum o way b)))
    unfolding optimum
    ended = held (exhaustive_search o way b) (ended_holds o way b) (ended_best o way b)

    -- elsewhere with a set
    pub search_ends : exhaustive_search o way b ≡ holding (optimum o way b)
    search_ends = ended.0

    -- it is a set of taxa
    pub optimum_set : IsSet o (optimum o way b)
    optimum_set = ended.1

    -- it fits
    pub optimum_fits : Fits o b (optimum o way b)
    unfolding worth
    optimum_fits = record { cost_most = (from_some ended.3.is).1; locked_held = ended.2 }

    -- its worth is the best over all sets, those too that lack a locked taxon
    pub optimum_best : Best (IsWorth o way) b (some (worth o way (optimum o way b)))
    unfolding worth
    optimum_best = record {
      is = this (optimum o way b, optimum_set, refl) optimum_fits.cost_most;
      covers = λ w (t, x, e) l. rw e (covered t x (rw e at l) (eq-or-lt_of_le (held_most o t)));
    }
      where
        all : locks_held o (optimum o way b) ≡ locks o
        all = (held_all o (optimum o way b)).0 ended.2

        covered : (t : List ℕ) → IsSet o t → cost o t ≤ b → (locks_held o t ≡ locks o) ⊎ (locks_held o t < locks o)
            → Covers (some (worth o way (optimum o way b))) (worth o way t)
        covered t x l (inl e) = ended.3.covers (worth o way t) (t, x, (held_all o t).1 e, refl) l
        covered t x l (inr h) = by {v = worth o way (optimum o way b)} {w = worth o way t} (inr (more_locked (omega (arith, all))))

    -- and its column shows its two numbers
    pub shown_diversity : best_diversity o way b ≡ diversity o way (optimum o way b)
    unfolding best_diversity is_holding
    shown_diversity = rw search_ends

    pub shown_cost : least_cost o way b ≡ cost o (optimum o way b)
    unfolding least_cost is_holding
    shown_cost = rw search_ends

  -- the condition of refusal 12
  pub search_exactly : is_holding (exhaustive_search o way b) ≡ leb (cost o (locked_set o)) b
  unfolding is_holding
  search_exactly = go (leb (cost o (locked_set o)) b) refl
    where
      go : (t : Bool) → leb (cost o (locked_set o)) b ≡ t → is_holding (exhaustive_search o way b) ≡ t
      go true e = rw (search_ends (leb-true _ _ e))
      go false e = rw (search_fails (leb-false _ _ e))

  pub none_exactly : none_fits o way b ≡ ltb b (cost o (locked_set o))
  unfolding none_fits
  none_exactly = rw search_exactly (go (leb (cost o (locked_set o)) b) refl)
    where
      go : (t : Bool) → leb (cost o (locked_set o)) b ≡ t → not t ≡ ltb b (cost o (locked_set o))
      go true e = sym (le-ltb b (cost o (locked_set o)) (leb-true _ _ e))
      go false e = sym (lt-ltb b (cost o (locked_set o)) (leb-false _ _ e))

  -- a column tells by its cost whether a set was in hand
  pub blank_exactly : b < blank_cost → not (eqb (least_cost o way b) blank_cost) ≡ is_holding (exhaustive_search o way b)
  blank_exactly most = rw search_exactly (go (leb (cost o (locked_set o)) b) refl)
    where
      go : (t : Bool) → leb (cost o (locked_set o)) b ≡ t → not (eqb (least_cost o way b) blank_cost) ≡ t
      go true e =
          let fit : cost o (locked_set o) ≤ b = leb-true _ _ e in
          ap not (ne_eqb (least_cost o way b) blank_cost (λ z. omega (arith, shown_cost fit, (optimum_fits fit).cost_most)))
      go false e = ap not (eq-eqb _ _ (blank_cost_lem (leb-false _ _ e)))

  -- where the locked taxa don't fit, every set whose cost is low enough lacks a locked taxon
  pub locked_lacking : b < cost o (locked_set o) → {v : Value} → IsWorth o way v → v.cost ≤ b → v.locked < locks o
  unfolding worth
  locked_lacking short (t, x, e) l = rw e (go (eq-or-lt_of_le (held_most o t)))
    where
      go : (locks_held o t ≡ locks o) ⊎ (locks_held o t < locks o) → locks_held o t < locks o
      go (inl same) = let m : cost o t ≤ b = rw e at l in absurd (omega (arith, locked_least o t ((held_all o t).1 same)))
      go (inr less) = less

  -- ---- the other sets that fit
  behind : {s t : List ℕ} → IsSet o s → IsSet o t → locks_held o s ≡ locks_held o t → AtLeast (worth o way s) (worth o way t) → (t ≡ s) ⊎ Behind o way s t
  unfolding worth
  behind m n k (inl e) = inl (worth_inj n m way e)
  behind m n k (inr (more_locked l)) = absurd (omega arith)
  behind m n k (inr (more l d)) = inr (less_diversity d)
  behind m n k (inr (cheaper l d c)) = inr (more_cost (sym d) c)
  behind m n k (inr (earlier l d c h)) = inr (lacks_first (sym d) (sym c) (leads_lacks (set_marked m) (set_marked n) (sym (code_leads m n) ∙ lt-ltb _ _ h)))

  module _ (t : List ℕ) (x : IsSet o t) (f : Fits o b t) where
    fit : cost o (locked_set o) ≤ b
    fit = (some_fits o b).0 (t, x, f)

    pub same_or_behind : (t ≡ optimum o way b) ⊎ Behind o way (optimum o way b) t
    unfolding worth
    same_or_behind =
        behind (optimum_set fit) x ((held_all o _).0 (optimum_fits fit).locked_held ∙ sym ((held_all o t).0 f.locked_held))
        (covers_some ((optimum_best fit).covers (worth o way t) (t, x, refl) f.cost_most))

    -- demand 3's last sentence: every other set of taxa that fits is behind it
    pub others_behind : (t ≡ optimum o way b → ⊥) → Behind o way (optimum o way b) t
    others_behind differ = ⊎_elim (λ e. absurd (differ e)) (λ h. h) same_or_behind

    -- the curve's two numbers: the greatest diversity among all sets that fit, and the least quarters among those of that diversity
    pub greatest_diversity : diversity o way t ≤ best_diversity o way b
    greatest_diversity = rw (shown_diversity fit) (go same_or_behind)
      where
        go : (t ≡ optimum o way b) ⊎ Behind o way (optimum o way b) t → diversity o way t ≤ diversity o way (optimum o way b)
        go (inl e) = omega (arith, ap (diversity o way) e)
        go (inr (less_diversity d)) = omega arith
        go (inr (more_cost d c)) = omega arith
        go (inr (lacks_first d c l)) = omega arith

    pub least_cost_lem : diversity o way t ≡ best_diversity o way b → least_cost o way b ≤ cost o t
    least_cost_lem same = rw (shown_cost fit) (go same_or_behind)
      where
        go : (t ≡ optimum o way b) ⊎ Behind o way (optimum o way b) t → cost o (optimum o way b) ≤ cost o t
        go (inl e) = omega (arith, ap (cost o) e)
        go (inr (less_diversity d)) = absurd (omega (arith, shown_diversity fit))
        go (inr (more_cost d c)) = omega arith
        go (inr (lacks_first d c l)) = omega arith
