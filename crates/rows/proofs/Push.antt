-- The pushed rows hold the best sets of a forest.
use Prim.Native.Nat.{ℕ, ◌-◌, ◌≤◌}
use mathlib.Core.Path.{◌≡◌, refl, sym, ap, ◌∙◌}
use mathlib.Core.Bool.{Bool}
use mathlib.Core.List.{List}
use mathlib.Core.Logic.{◌⊎◌, inl, inr}
use native.Mathlib.Omega.{arith}
use borrow.Author.Tests.{eq-eqb}
use Rattle.lists.specs.Lists.{one}
use Rattle.outline.specs.Outline.{price}
use Rattle.laws.specs.Forest.{Forest, empty, node, count_in}
use Rattle.laws.specs.Candidate.{Value, plus, nothing_worth, Cand, better_of}
use Rattle.laws.proofs.Order.{plus_comm, plus_assoc, plus_nothing}
use Rattle.laws.proofs.Best.{Best, best_same, best_unique, best_none, best_nothing, best_one, best_either}
use Rattle.rows.specs.Rows.{Row, is_leaf, taxon_rooted, taxon_unrooted, heading_rooted, heading_unrooted, clade_row, pushed, rooted_row}
use Rattle.rows.specs.Rows.{alone_row, cross_row, inside_row, across_row}
use Rattle.rows.proofs.BestRows.{BestRow, Plus, row_either, best_join_row}
use Rattle.rows.proofs.Sets.{WorthOfSet, Splits, Parts, sets_empty, rooted_splits, unrooted_splits}
use Rattle.rows.specs.Worth.{rooted_worth, unrooted_worth}
use Rattle.rows.proofs.Sets.{sets_parted, sets_joined, rooted_taxon, unrooted_taxon, rooted_group, unrooted_group}

-- each record once
abbrev pub Once : Forest → Type 0
Once F = (t : ℕ) → count_in t F ≤ 1

not_below : (r : ℕ) (f n : Forest) → Once (node r f n) → count_in r f ≡ 0
not_below r f n once = omega (arith, once r, ap one (eq-eqb r r refl))

module _ (o : List ℕ) (weigh : ℕ → ℕ) where
  abbrev pub Rooted : Forest → Value → Type 0
  Rooted F v = WorthOfSet (rooted_worth o weigh) F v

  -- a clade, and what follows it
  clade_best : (r : ℕ) (f : Forest) → count_in r f ≡ 0 → {X : Value → Type 0} {x g : Row} (n : ℕ)
      → BestRow X n x → BestRow (Plus (Rooted f) X) n g → BestRow (Plus (Rooted (node r f empty)) X) n (clade_row o weigh r (is_leaf f) x g)
  unfolding clade_row
  clade_best r empty apart n hx hg b l =
      best_same
      (λ v (q, h, e). (taxon_rooted o weigh r, q, (rooted_taxon o weigh r _).1 refl, h, e))
      (λ v (p, q, h, k, e). (q, k, e ∙ ap (λ p. plus p q) ((rooted_taxon o weigh r p).0 h)))
      (best_join_row (taxon_rooted o weigh r) _ b (hx (b - price o r) (omega arith)))
  clade_best r (node s g m) apart n hx hg b l =
      let group = rooted_group o weigh r (node s g m) refl apart in
      let h = heading_rooted o weigh r in
      best_same
      (λ v (w, (p, q, i, k, d), e). (plus h p, q, (group _).1 (p, i, refl), k, e ∙ ap (plus h) d ∙ sym (plus_assoc h p q)))
      (λ v (p, q, i, k, e).
      let (w, j, d) = (group p).0 i in
      (plus w q, (w, q, j, k, refl), e ∙ ap (λ p. plus p q) d ∙ plus_assoc h w q))
      (best_join_row h _ b (hg (b - price o r) (omega arith)))

  -- a value of the forest together with one of X, by what the forest's first clade and its rest give
  module _ (X : Value → Type 0) (r : ℕ) (f n : Forest) (once : Once (node r f n)) (v : Value) where
    abbrev Pushed : Type 0
    Pushed = Plus (Rooted (node r f empty)) (λ w. X w ⊎ Plus (Rooted n) X w) v ⊎ Plus (Rooted n) X v

    to_pushed : Plus (Rooted (node r f n)) X v → Pushed
    to_pushed (p, q, h, k, e) = go (sets_parted o weigh (rooted_splits o weigh) r f n p h)
      where
        go : Parts o weigh (rooted_worth o weigh) r f n p → Pushed
        go (inl (inl c)) = inl (p, q, c, inl k, e)
        go (inl (inr d)) = inr (p, q, d, k, e)
        go (inr (c, d, i, j, s)) = inl (c, plus d q, i, inr (d, q, j, k, refl), e ∙ ap (λ p. plus p q) s ∙ plus_assoc c d q)

    of_pushed : Pushed → Plus (Rooted (node r f n)) X v
    of_pushed (inl (p, q, h, inl k, e)) = (p, q, sets_joined o weigh (rooted_splits o weigh) r f n once p (inl (inl h)), k, e)
    of_pushed (inl (p, q, h, inr (d, x, j, k, s), e)) =
        (plus p d, x, sets_joined o weigh (rooted_splits o weigh) r f n once _ (inr (p, d, h, j, refl)), k, e ∙ ap (plus p) s ∙ sym (plus_assoc p d x))
    of_pushed (inr (p, q, h, k, e)) = (p, q, sets_joined o weigh (rooted_splits o weigh) r f n once p (inl (inr h)), k, e)

  -- pushing x through a forest gives the best of a set of the forest together with a value of X
  pub pushed_best : (F : Forest) → Once F → {X : Value → Type 0} {x : Row} (n : ℕ) → BestRow X n x
      → BestRow (Plus (Rooted F) X) n (pushed o weigh F x)
  unfolding pushed
  pushed_best empty once n hx b l = best_none (λ v (p, q, h, k, e). sets_empty h)
  pushed_best (node r f m) once {X} n hx b l =
      let y = pushed_best m (λ t. omega (arith, once t)) n hx in
      let follow = row_either n hx y in
      let z = clade_best r f (not_below r f m once) n follow (pushed_best f (λ t. omega (arith, once t)) n follow) in
      best_same (of_pushed X r f m once) (to_pushed X r f m once) (best_either (z b l) (y b l))

  -- with nothing to follow, the best of a set of the forest
  pub rooted_best : (F : Forest) → Once F → (b : ℕ) → Best (Rooted F) b (rooted_row o weigh F b)
  unfolding rooted_row
  rooted_best F once b =
      best_same
      (λ v (p, q, h, k, e). let d : v ≡ p = e ∙ ap (plus p) k ∙ plus_nothing p in rw d h)
      (λ v h. (v, nothing_worth, h, refl, sym (plus_nothing v)))
      (pushed_best F once b (λ i l. best_nothing i) b (omega arith))

  module _ (r : ℕ) (f n : Forest) (once : Once (node r f n)) (b : ℕ) where
    cross_best : Best (Plus (Rooted (node r f empty)) (Rooted n)) b (cross_row o weigh r (is_leaf f) f n b)
    unfolding cross_row
    cross_best =
        let rest : BestRow (Rooted n) b (rooted_row o weigh n) = λ i l. rooted_best n (λ t. omega (arith, once t)) i in
        clade_best r f (not_below r f n once) b rest (pushed_best f (λ t. omega (arith, once t)) b rest) b (omega arith)

    -- a chain, by its first clade, its rest, and both together
    chain_best : {worth : (ℕ → Bool) → Forest → Value} → Splits o weigh worth → {c d : Cand}
        → Best (WorthOfSet worth (node r f empty)) b c → Best (WorthOfSet worth n) b d
        → Best (WorthOfSet worth (node r f n)) b (better_of (better_of c d) (cross_row o weigh r (is_leaf f) f n b))
    chain_best splits p q = best_same (sets_joined o weigh splits r f n once) (sets_parted o weigh splits r f n) (best_either (best_either p q) cross_best)

  alone_best : (r : ℕ) (f : Forest) → count_in r f ≡ 0 → ((b : ℕ) → Best (Rooted f) b (rooted_row o weigh f b))
      → (b : ℕ) → Best (Rooted (node r f empty)) b (alone_row o weigh r (is_leaf f) f b)
  unfolding alone_row
  alone_best r empty apart h b = best_same (λ v. (rooted_taxon o weigh r v).1) (λ v. (rooted_taxon o weigh r v).0) (best_one (taxon_rooted o weigh r) b)
  alone_best r (node s g m) apart h b =
      let group = rooted_group o weigh r (node s g m) refl apart in
      best_same (λ v. (group v).1) (λ v. (group v).0) (best_join_row (heading_rooted o weigh r) _ b (h (b - price o r)))

  -- the rooted row of a chain from its parts
  pub rooted_chain : (r : ℕ) (f n : Forest) → Once (node r f n) → (b : ℕ)
      → rooted_row o weigh (node r f n) b ≡ better_of (better_of (alone_row o weigh r (is_leaf f) f b) (rooted_row o weigh n b)) (cross_row o weigh r (is_leaf f) f n b)
  rooted_chain r f n once b =
      best_unique (rooted_best (node r f n) once b)
      (chain_best r f n once b (rooted_splits o weigh)
      (alone_best r f (not_below r f n once) (rooted_best f (λ t. omega (arith, once t))) b) (rooted_best n (λ t. omega (arith, once t)) b))

  -- a clade with the rest of its chain, either pushed over the other
  pub cross_swapped : (r : ℕ) (f n : Forest) → Once (node r f n) → (b : ℕ)
      → cross_row o weigh r (is_leaf f) f n b ≡ pushed o weigh n (alone_row o weigh r (is_leaf f) f) b
  cross_swapped r f n once b =
      best_unique (cross_best r f n once b)
      (best_same swap swap
      (pushed_best n (λ t. omega (arith, once t)) b
      (λ i l. alone_best r f (not_below r f n once) (rooted_best f (λ t. omega (arith, once t))) i) b (omega arith)))
    where
      swap : {P Q : Value → Type 0} (v : Value) → Plus P Q v → Plus Q P v
      swap v (p, q, h, k, e) = (q, p, k, h, e ∙ plus_comm p q)

  abbrev pub Unrooted : Forest → Value → Type 0
  Unrooted F v = WorthOfSet (unrooted_worth o weigh) F v

  inside_best : (r : ℕ) (f : Forest) → count_in r f ≡ 0 → {g : Row} → ((b : ℕ) → Best (Unrooted f) b (g b))
      → (b : ℕ) → Best (Unrooted (node r f empty)) b (inside_row o weigh r (is_leaf f) g b)
  unfolding inside_row
  inside_best r empty apart h b = best_same (λ v. (unrooted_taxon o weigh r v).1) (λ v. (unrooted_taxon o weigh r v).0) (best_one (taxon_unrooted o weigh r) b)
  inside_best r (node s g m) apart h b =
      let group = unrooted_group o weigh r (node s g m) refl apart in
      best_same (λ v. (group v).1) (λ v. (group v).0) (best_join_row (heading_unrooted o weigh r) _ b (h (b - price o r)))

  -- the unrooted row holds the best of a set of the forest
  pub across_best : (F : Forest) → Once F → (b : ℕ) → Best (Unrooted F) b (across_row o weigh F b)
  unfolding across_row
  across_best empty once b = best_none (λ v. sets_empty)
  across_best (node r f n) once b =
      chain_best r f n once b (unrooted_splits o weigh)
      (inside_best r f (not_below r f n once) (across_best f (λ t. omega (arith, once t))) b) (across_best n (λ t. omega (arith, once t)) b)
