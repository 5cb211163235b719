-- The non-empty sets of taxa of a forest and what they are worth, by the forest's parts: a clade and the rest of its chain.
use Rattle.std.specs.Prelude.{if◌then◌else◌}
use Prim.Native.Nat.{ℕ, zero, suc, ◌+◌, ◌≤◌, ◌<◌}
use mathlib.Core.Path.{◌≡◌, refl, sym, ap, ap₂, ◌∙◌}
use mathlib.Core.Bool.{Bool, true, false, ◌&&◌, and-true}
use mathlib.Core.List.{List}
use mathlib.Core.Logic.{◌⊎◌, inl, inr, ◌↔◌}
use native.Mathlib.Omega.{arith}
use lib.Dec.{eqb}
use borrow.Author.Tests.{eq-eqb}
use Rattle.lists.specs.Lists.{one, positive}
use Rattle.outline.specs.Outline.{branch, price}
use Rattle.laws.specs.Forest.{Forest, empty, node, sum_in, count_in, is_group}
use Rattle.laws.specs.Candidate.{Value, plus}
use Rattle.laws.proofs.Sums.{one_true, one_false, positive_true}
use Rattle.laws.proofs.Measures.{weight_quiet, within_quiet}
use Rattle.laws.proofs.Order.{value_path}
use Rattle.rows.specs.Rows.{taxon_rooted, taxon_unrooted, heading_rooted, heading_unrooted}
use Rattle.rows.proofs.BestRows.{Plus, Shifted}
use Rattle.laws.specs.Measures.{chosen_in, groups_in, weight_in, lock, within_in, across, unrooted_in}
use Rattle.rows.specs.Worth.{rooted_worth, unrooted_worth}

-- two sets choose alike among the records of a forest
abbrev pub Agree : (ℕ → Bool) → (ℕ → Bool) → Forest → Type 0
Agree p q F = (t : ℕ) → 0 < count_in t F → p t ≡ q t

pub sum_agree : (p q : ℕ → Bool) (w v : ℕ → Forest → ℕ) → ((r : ℕ) (f : Forest) → p r ≡ q r → Agree p q f → w r f ≡ v r f)
    → (F : Forest) → Agree p q F → sum_in w F ≡ sum_in v F
sum_agree p q w v same empty a = refl
sum_agree p q w v same (node r f n) a =
    let below : Agree p q f = λ t h. a t (omega arith) in
    let here = a r (omega (arith, ap one (eq-eqb r r refl))) in
    omega (arith, same r f here below, sum_agree p q w v same f below, sum_agree p q w v same n (λ t h. a t (omega arith)))

module _ (p q : ℕ → Bool) where
  pub chosen_agree : (F : Forest) → Agree p q F → chosen_in p F ≡ chosen_in q F
  chosen_agree = sum_agree p q _ _ (λ r f e a. ap one e)

  pub groups_agree : (F : Forest) → Agree p q F → groups_in p F ≡ groups_in q F
  groups_agree = sum_agree p q _ _ (λ r f e a. ap (λ b. one (b && is_group f)) e)

  pub weight_agree : (w : ℕ → ℕ) (F : Forest) → Agree p q F → weight_in w p F ≡ weight_in w q F
  weight_agree w = sum_agree p q _ _ (λ r f e a. ap (λ b. if b then w r else 0) e)

  pub within_agree : (w : ℕ → ℕ) (F : Forest) → Agree p q F → within_in w p F ≡ within_in w q F
  within_agree w = sum_agree p q _ _ (λ r f e a. ap₂ (λ b k. if positive (one b + k) then w r else 0) e (chosen_agree f a))

  pub unrooted_agree : (o : List ℕ) (F : Forest) → Agree p q F → unrooted_in o p F ≡ unrooted_in o q F
  unrooted_agree o empty a = refl
  unrooted_agree o (node r f n) a =
      let below : Agree p q f = λ t h. a t (omega arith) in
      let rest : Agree p q n = λ t h. a t (omega arith) in
      rw (
        within_agree (branch o) (node r f n) a,
        unrooted_agree o f below,
        unrooted_agree o n rest,
        chosen_agree n rest,
        chosen_agree f below,
        a r (omega (arith, ap one (eq-eqb r r refl))),
      ) refl

-- q among the records of F, and p elsewhere
abbrev pub merged : (ℕ → Bool) → (ℕ → Bool) → Forest → ℕ → Bool
merged p q F t = if positive (count_in t F) then q t else p t

pub merged_in : (p q : ℕ → Bool) (F : Forest) → Agree (merged p q F) q F
merged_in p q F t h = rw (positive_true (count_in t F) h)

pub merged_out : (p q : ℕ → Bool) (F G : Forest) → ((t : ℕ) → count_in t G + count_in t F ≤ 1) → Agree (merged p q F) p G
merged_out p q F G apart t h = let z : count_in t F ≡ 0 = omega (arith, apart t) in rw z

-- a non-empty set of taxa of F, and v what it is worth there
pub record WorthOfSet (worth : (ℕ → Bool) → Forest → Value) (F : Forest) (v : Value) : Type 0 where
  pub set : ℕ → Bool
  pub taxa : groups_in set F ≡ 0
  pub some : 0 < chosen_in set F
  pub is : v ≡ worth set F

pub sets_empty : {worth : (ℕ → Bool) → Forest → Value} {v : Value} → WorthOfSet worth empty v → ⊥
sets_empty x = omega (arith, x.some)

abbrev pub no_record : ℕ → Bool
no_record t = false

pub sum_zero : (F : Forest) → sum_in (λ r f. 0) F ≡ 0
sum_zero empty = refl
sum_zero (node r f n) = omega (arith, sum_zero f, sum_zero n)

-- how `across` counts
across_members : (a b x y z : ℕ) → b ≡ 0 → across a b x y z ≡ y
across_members a b x y z e = rw e

across_rest : (a b x y z : ℕ) → a ≡ 0 → 0 < b → across a b x y z ≡ z
across_rest a zero x y z e h = absurd (omega arith)
across_rest zero (suc b) x y z e h = refl
across_rest (suc a) (suc b) x y z e h = absurd (omega arith)

across_both : (a b x y z : ℕ) → 0 < a → 0 < b → across a b x y z ≡ x
across_both a zero x y z g h = absurd (omega arith)
across_both zero (suc b) x y z g h = absurd (omega arith)
across_both (suc a) (suc b) x y z g h = refl

module _ (o : List ℕ) (weigh : ℕ → ℕ) where
  -- what a set is worth in a chain, by what it is worth in the first clade and in the rest
  pub record Splits (worth : (ℕ → Bool) → Forest → Value) : Type 0 where
    pub agree : (p q : ℕ → Bool) (F : Forest) → Agree p q F → worth p F ≡ worth q F
    pub clade_only : (p : ℕ → Bool) (r : ℕ) (f n : Forest) → chosen_in p n ≡ 0 → worth p (node r f n) ≡ worth p (node r f empty)
    pub rest_only : (p : ℕ → Bool) (r : ℕ) (f n : Forest) → chosen_in p (node r f empty) ≡ 0 → 0 < chosen_in p n
        → worth p (node r f n) ≡ worth p n
    pub both : (p : ℕ → Bool) (r : ℕ) (f n : Forest) → 0 < chosen_in p (node r f empty) → 0 < chosen_in p n
        → worth p (node r f n) ≡ plus (rooted_worth o weigh p (node r f empty)) (rooted_worth o weigh p n)

  pub rooted_splits : Splits (rooted_worth o weigh)
  rooted_splits = record {
    agree = λ p q F a.
        value_path (weight_agree p q (lock o) F a) (within_agree p q (branch o) F a) (within_agree p q (price o) F a) (weight_agree p q weigh F a);
    clade_only = λ p r f n z.
        value_path
        (omega (arith, weight_quiet p (lock o) n z))
        (omega (arith, within_quiet p (branch o) n z))
        (omega (arith, within_quiet p (price o) n z))
        (omega (arith, weight_quiet p weigh n z));
    rest_only = λ p r f n z h. let C = node r f empty in
        value_path
        (omega (arith, weight_quiet p (lock o) C z))
        (omega (arith, within_quiet p (branch o) C z))
        (omega (arith, within_quiet p (price o) C z))
        (omega (arith, weight_quiet p weigh C z));
    both = λ p r f n g h. value_path (omega arith) (omega arith) (omega arith) (omega arith);
  }

  pub unrooted_splits : Splits (unrooted_worth o weigh)
  unrooted_splits = record {
    agree = λ p q F a.
        value_path (weight_agree p q (lock o) F a) (unrooted_agree p q o F a) (within_agree p q (price o) F a) (weight_agree p q weigh F a);
    clade_only = λ p r f n z.
        value_path
        (omega (arith, weight_quiet p (lock o) n z))
        (across_members _ _ _ _ _ z)
        (omega (arith, within_quiet p (price o) n z))
        (omega (arith, weight_quiet p weigh n z));
    rest_only = λ p r f n z h. let C = node r f empty in
        value_path
        (omega (arith, weight_quiet p (lock o) C z))
        (across_rest _ _ _ _ _ (omega arith) h)
        (omega (arith, within_quiet p (price o) C z))
        (omega (arith, weight_quiet p weigh C z));
    both = λ p r f n g h. value_path (omega arith) (across_both _ _ _ _ _ (omega arith) h ∙ omega arith) (omega arith) (omega arith);
  }

  -- the sets of a chain's parts: of the first clade, of the rest, or one of each
  abbrev pub Parts : ((ℕ → Bool) → Forest → Value) → ℕ → Forest → Forest → Value → Type 0
  Parts worth r f n v = (WorthOfSet worth (node r f empty) v ⊎ WorthOfSet worth n v) ⊎ Plus (WorthOfSet (rooted_worth o weigh) (node r f empty)) (WorthOfSet (rooted_worth o weigh) n) v

  module _ {worth : (ℕ → Bool) → Forest → Value} (splits : Splits worth) (r : ℕ) (f n : Forest) where
    -- a set of the chain is one of its parts
    pub sets_parted : (v : Value) → WorthOfSet worth (node r f n) v → Parts worth r f n v
    sets_parted v x = cases (chosen_in x.set (node r f empty)) (chosen_in x.set n) refl refl
      where
        cases : (a b : ℕ) → chosen_in x.set (node r f empty) ≡ a → chosen_in x.set n ≡ b → Parts worth r f n v
        cases a zero ea eb = inl (inl (record { set = x.set; taxa = omega arith; some = omega arith; is = x.is ∙ splits.clade_only x.set r f n eb }))
        cases zero (suc b) ea eb =
            inl (inr (record { set = x.set; taxa = omega arith; some = omega arith; is = x.is ∙ splits.rest_only x.set r f n ea (omega arith) }))
        cases (suc a) (suc b) ea eb =
            inr (
              _,
              _,
              record { set = x.set; taxa = omega arith; some = omega arith; is = refl },
              record { set = x.set; taxa = omega arith; some = omega arith; is = refl },
              x.is ∙ splits.both x.set r f n (omega arith) (omega arith),
            )

    module _ (apart : (t : ℕ) → one (eqb t r) + (count_in t f + count_in t n) ≤ 1) where
      -- the set that is p in the clade and q in the rest
      in_clade : (p q : ℕ → Bool) → Agree (merged p q n) p (node r f empty)
      in_clade p q = merged_out p q n (node r f empty) (λ t. omega (arith, apart t))

      clade_chosen : (p q : ℕ → Bool) → chosen_in (merged p q n) (node r f empty) ≡ chosen_in p (node r f empty)
      clade_chosen p q = chosen_agree (merged p q n) p (node r f empty) (in_clade p q)

      rest_chosen : (p q : ℕ → Bool) → chosen_in (merged p q n) n ≡ chosen_in q n
      rest_chosen p q = chosen_agree (merged p q n) q n (merged_in p q n)

      merge : {v : Value} (p q : ℕ → Bool) → groups_in p (node r f empty) ≡ 0 → groups_in q n ≡ 0 → 0 < chosen_in p (node r f empty) + chosen_in q n
          → v ≡ worth (merged p q n) (node r f n) → WorthOfSet worth (node r f n) v
      merge p q g h k e = record {
        set = merged p q n;
        taxa = omega (arith, groups_agree (merged p q n) p (node r f empty) (in_clade p q), groups_agree (merged p q n) q n (merged_in p q n));
        some = omega (arith, clade_chosen p q, rest_chosen p q);
        is = e;
      }

      -- and these are sets of the chain
      pub sets_joined : (v : Value) → Parts worth r f n v → WorthOfSet worth (node r f n) v
      sets_joined v (inl (inl x)) =
          let p = x.set in
          merge p no_record x.taxa (sum_zero n) (omega arith)
          (x.is ∙ sym (splits.agree _ p (node r f empty) (in_clade p no_record)) ∙ sym (splits.clade_only (merged p no_record n) r f n (rest_chosen p no_record ∙ sum_zero n)))
      sets_joined v (inl (inr x)) =
          let q = x.set in
          let none = sum_zero (node r f empty) in
          merge no_record q none x.taxa (omega arith)
          (x.is ∙ sym (splits.agree _ q n (merged_in no_record q n))
          ∙ sym (splits.rest_only (merged no_record q n) r f n (clade_chosen no_record q ∙ none) (omega (arith, rest_chosen no_record q))))
      sets_joined v (inr (a, b, x, y, e)) =
          let p = x.set in
          let q = y.set in
          merge p q x.taxa y.taxa (omega arith)
          (e
          ∙ ap₂ plus (x.is ∙ sym (rooted_splits.agree _ p (node r f empty) (in_clade p q))) (y.is ∙ sym (rooted_splits.agree _ q n (merged_in p q n)))
          ∙ sym (splits.both (merged p q n) r f n (omega (arith, clade_chosen p q)) (omega (arith, rest_chosen p q))))

  -- a clade that is a taxon has one set
  taxon_chosen : (p : ℕ → Bool) (r : ℕ) → 0 < chosen_in p (node r empty empty) → p r ≡ true
  taxon_chosen p r h = one_true (p r) (omega arith)

  every_record : ℕ → Bool
  every_record t = true

  -- whatever worth it has with the taxon chosen
  taxon_only : {worth : (ℕ → Bool) → Forest → Value} (r : ℕ) (w : Value) → ((p : ℕ → Bool) → p r ≡ true → worth p (node r empty empty) ≡ w)
      → (v : Value) → WorthOfSet worth (node r empty empty) v ↔ (v ≡ w)
  unfolding every_record
  taxon_only r w is v = (
    λ x. x.is ∙ is x.set (taxon_chosen x.set r x.some),
    λ e. record { set = every_record; taxa = refl; some = omega arith; is = e ∙ sym (is every_record refl) },
  )

  pub rooted_taxon : (r : ℕ) (v : Value) → WorthOfSet (rooted_worth o weigh) (node r empty empty) v ↔ (v ≡ taxon_rooted o weigh r)
  rooted_taxon r = taxon_only r (taxon_rooted o weigh r) (λ p e. rw e (value_path (omega arith) (omega arith) (omega arith) (omega arith)))

  pub unrooted_taxon : (r : ℕ) (v : Value) → WorthOfSet (unrooted_worth o weigh) (node r empty empty) v ↔ (v ≡ taxon_unrooted o weigh r)
  unrooted_taxon r = taxon_only r (taxon_unrooted o weigh r) (λ p e. rw e (value_path (omega arith) (omega arith) (omega arith) (omega arith)))

  -- a clade that is a group has the sets of its members, below its heading
  module _ (r : ℕ) (f : Forest) (group : is_group f ≡ true) (apart : count_in r f ≡ 0) where
    unchosen : (p : ℕ → Bool) → groups_in p (node r f empty) ≡ 0 → p r ≡ false
    unchosen p g = one_false (p r) (omega (arith, ap (λ b. one (p r && b)) group, ap one (and-true (p r))))

    -- p among the members, and nothing else
    module _ (p : ℕ → Bool) where
      outside : merged no_record p f r ≡ false
      outside = rw apart

      members_chosen : chosen_in (merged no_record p f) f ≡ chosen_in p f
      members_chosen = chosen_agree (merged no_record p f) p f (merged_in no_record p f)

    -- whatever the heading adds to a worth
    group_sets : {worth : (ℕ → Bool) → Forest → Value} → Splits worth → (h : Value)
        → ((p : ℕ → Bool) → p r ≡ false → 0 < chosen_in p f → worth p (node r f empty) ≡ plus h (worth p f))
        → (v : Value) → WorthOfSet worth (node r f empty) v ↔ Shifted h (WorthOfSet worth f) v
    group_sets {worth} splits h adds v = (down, up)
      where
        down : WorthOfSet worth (node r f empty) v → Shifted h (WorthOfSet worth f) v
        down x =
            let e = unchosen x.set x.taxa in
            let k : 0 < chosen_in x.set f = omega (arith, ap one e) in
            (worth x.set f, record { set = x.set; taxa = omega arith; some = k; is = refl }, x.is ∙ adds x.set e k)

        up : Shifted h (WorthOfSet worth f) v → WorthOfSet worth (node r f empty) v
        up (w, x, e) =
            let p = x.set in
            let q = merged no_record p f in
            let k : 0 < chosen_in q f = omega (arith, members_chosen p) in
            record {
              set = q;
              taxa = omega (arith, groups_agree q p f (merged_in no_record p f), ap (λ b. one (b && is_group f)) (outside p));
              some = omega arith;
              is = e ∙ ap (plus h) (x.is ∙ sym (splits.agree q p f (merged_in no_record p f))) ∙ sym (adds q (outside p) k);
            }

    pub rooted_group : (v : Value) → WorthOfSet (rooted_worth o weigh) (node r f empty) v ↔ Shifted (heading_rooted o weigh r) (WorthOfSet (rooted_worth o weigh) f) v
    rooted_group =
        group_sets rooted_splits (heading_rooted o weigh r)
        (λ p e h. rw (e, positive_true (0 + chosen_in p f) (omega arith)) (value_path (omega arith) (omega arith) (omega arith) (omega arith)))

    pub unrooted_group : (v : Value) → WorthOfSet (unrooted_worth o weigh) (node r f empty) v ↔ Shifted (heading_unrooted o weigh r) (WorthOfSet (unrooted_worth o weigh) f) v
    unrooted_group =
        group_sets unrooted_splits (heading_unrooted o weigh r)
        (λ p e h. rw (e, positive_true (0 + chosen_in p f) (omega arith)) (value_path (omega arith) (omega arith) (omega arith) (omega arith)))
