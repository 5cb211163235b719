-- The top row shows in every column what the exhaustive search ends with, whichever way is counted.
use Rattle.std.specs.Prelude.{if◌then◌else◌}
use Prim.Native.Nat.{ℕ, zero, suc, ◌≤◌, ◌<◌}
use mathlib.Core.Path.{◌≡◌, refl, sym, ap, ◌∙◌}
use mathlib.Core.Bool.{Bool, true, false, ◌&&◌, and-true}
use mathlib.Core.List.{List}
use mathlib.Core.Logic.{◌⊎◌, inl, inr}
use native.Mathlib.Omega.{arith}
use lib.Dec.{eqb, leb}
use borrow.Author.Tests.{leb-true, leb-false}
use Rattle.lists.specs.Lists.{one, total}
use Rattle.outline.specs.Outline.{size, first, branch, price, records, is_taxon}
use Rattle.outline.specs.WellFormed.{Linked}
use Rattle.diversity.specs.Diversity.{chosen, diversity, rooted, unrooted, cost}
use Rattle.diversity.specs.Behind.{IsSet}
use Rattle.diversity.specs.Search.{Incumbent, nothing, holding, exhaustive_search, optimum}
use Rattle.laws.specs.Forest.{Forest, tree, is_group}
use Rattle.laws.specs.Candidate.{Value, nothing_worth, Cand, none, some}
use Rattle.laws.specs.Locks.{locks, locks_held, locked_set}
use Rattle.laws.specs.Numbers.{weight, code, worth}
use Rattle.laws.proofs.Sums.{one_false, occurs_range, total_term}
use Rattle.laws.proofs.Forest.{members_cases, sum_all, inside, distinct}
use Rattle.laws.proofs.Measures.{weight_quiet, within_quiet, unrooted_quiet}
use Rattle.laws.proofs.ByTree.{groups_none, rooted_tree, unrooted_tree, cost_tree}
use Rattle.laws.proofs.Order.{value_path}
use Rattle.laws.proofs.Best.{covers_none, from_some, Best, best_same, best_nothing, best_either, best_unique}
use Rattle.laws.proofs.Locks.{held_all}
use Rattle.laws.proofs.Marks.{marks_of, marks_set, marks_chosen}
use Rattle.laws.proofs.Optimum.{IsWorth, search_ends, search_fails, optimum_fits, optimum_best, locked_lacking}
use Rattle.rows.specs.Rows.{rooted_row, across_row, top_row}
use Rattle.rows.proofs.Sets.{Agree, WorthOfSet, Splits, no_record, sum_zero, rooted_splits, unrooted_splits}
use Rattle.rows.specs.Worth.{rooted_worth, unrooted_worth}
use Rattle.rows.proofs.Push.{Once, rooted_best, across_best}
use Rattle.laws.specs.Measures.{chosen_in, groups_in, weight_in, lock}

-- a candidate tells what the search ends with: it is the worth of the set in hand, or, with nothing in hand, lacks a locked taxon
pub data Tells (o : List ℕ) (way : ℕ) : Incumbent → Cand → Type 0 where
  complete : {s : List ℕ} → locks_held o s ≡ locks o → Tells o way (holding s) (some (worth o way s))
  lacking : {v : Value} → v.locked < locks o → Tells o way nothing (some v)

-- ---- rooted where the test holds, else unrooted
module _ (o : List ℕ) where
  abbrev worth_by : Bool → (ℕ → Bool) → Forest → Value
  worth_by true = rooted_worth o (weight o)
  worth_by false = unrooted_worth o (weight o)

  splits_by : (b : Bool) → Splits o (weight o) (worth_by b)
  splits_by true = rooted_splits o (weight o)
  splits_by false = unrooted_splits o (weight o)

  row_by : (b : Bool) (F : Forest) → Once F → (c : ℕ)
      → Best (WorthOfSet (worth_by b) F) c (if b then rooted_row o (weight o) F c else across_row o (weight o) F c)
  row_by true = rooted_best o (weight o)
  row_by false = across_best o (weight o)

  quiet_by : (b : Bool) (p : ℕ → Bool) (F : Forest) → chosen_in p F ≡ 0 → worth_by b p F ≡ nothing_worth
  quiet_by true p F z = value_path (weight_quiet p (lock o) F z) (within_quiet p (branch o) F z) (within_quiet p (price o) F z) (weight_quiet p (weight o) F z)
  quiet_by false p F z = value_path (weight_quiet p (lock o) F z) (unrooted_quiet o p F z) (within_quiet p (price o) F z) (weight_quiet p (weight o) F z)

module _ (o : List ℕ) (linked : Linked o) where
  worth_tree : (way : ℕ) {s : List ℕ} → IsSet o s → worth o way s ≡ worth_by o (eqb way 0) (chosen s) (tree o 1)
  unfolding worth diversity locks_held code
  worth_tree way {s} m = go (eqb way 0)
    where
      weighed : (w : ℕ → ℕ) → total (λ r. if chosen s r then w r else 0) (records o) ≡ weight_in w (chosen s) (tree o 1)
      weighed w = sum_all o linked (λ r f. if chosen s r then w r else 0)

      go : (b : Bool)
          → ◌≡◌ {A = Value} (record { locked = locks_held o s; diversity = if b then rooted o s else unrooted o s; cost = cost o s; code = code o s })
          (worth_by o b (chosen s) (tree o 1))
      go true = value_path (weighed (lock o)) (rooted_tree o linked s) (cost_tree o linked s) (weighed (weight o))
      go false = value_path (weighed (lock o)) (unrooted_tree o linked s m) (cost_tree o linked s) (weighed (weight o))

  -- a set given by a test of record numbers is one that the search lists
  module _ (p : ℕ → Bool) (taxa : groups_in p (tree o 1) ≡ 0) where
    taxa_only : (r : ℕ) → 1 ≤ r → r ≤ size o → is_taxon o r ≡ false → p r ≡ false
    unfolding records
    taxa_only r l u e =
        let group : is_group (tree o (first o r)) ≡ true = rw (members_cases o linked r l u is_group false true refl (λ q g m. refl), e) in
        one_false (p r)
        (omega (
          arith,
          total_term (λ r. one (p r && is_group (tree o (first o r)))) r 1 (size o) l (omega arith),
          sum_all o linked (λ r f. one (p r && is_group f)),
          ap (λ b. one (p r && b)) group,
          ap one (and-true (p r)),
        ))

    marks_in : IsSet o (marks_of p 1 (size o))
    marks_in = marks_set o p taxa_only

    marks_agree : Agree (chosen (marks_of p 1 (size o))) p (tree o 1)
    unfolding records
    marks_agree t h =
        let range = occurs_range t 1 (size o) (omega (arith, inside o linked 1 linked.filled t)) in
        marks_chosen p (size o) t (omega arith) (omega arith)

    marks_worth : (way : ℕ) → worth_by o (eqb way 0) p (tree o 1) ≡ worth o way (marks_of p 1 (size o))
    marks_worth way = sym (worth_tree way marks_in ∙ (splits_by o (eqb way 0)).agree _ p (tree o 1) marks_agree)

  module _ (way : ℕ) (v : Value) where
    to_worths : (v ≡ nothing_worth) ⊎ WorthOfSet (worth_by o (eqb way 0)) (tree o 1) v → IsWorth o way v
    to_worths (inl e) =
        let z = sum_zero (tree o 1) in
        (marks_of no_record 1 (size o), marks_in no_record z, e ∙ sym (quiet_by o (eqb way 0) no_record (tree o 1) z) ∙ marks_worth no_record z way)
    to_worths (inr x) = (marks_of x.set 1 (size o), marks_in x.set x.taxa, x.is ∙ marks_worth x.set x.taxa way)

    of_worths : IsWorth o way v → (v ≡ nothing_worth) ⊎ WorthOfSet (worth_by o (eqb way 0)) (tree o 1) v
    of_worths (s, m, e) = go (chosen_in (chosen s) (tree o 1)) refl
      where
        go : (k : ℕ) → chosen_in (chosen s) (tree o 1) ≡ k → (v ≡ nothing_worth) ⊎ WorthOfSet (worth_by o (eqb way 0)) (tree o 1) v
        go zero z = inl (e ∙ worth_tree way m ∙ quiet_by o (eqb way 0) (chosen s) (tree o 1) z)
        go (suc k) z = inr (record { set = chosen s; taxa = groups_none o linked s m; some = omega arith; is = e ∙ worth_tree way m })

  -- in every column, the top row is the best of all sets that cost at most so much
  top_best : (way b : ℕ) → Best (IsWorth o way) b (top_row o way b)
  unfolding top_row
  top_best way b =
      best_same (to_worths way) (of_worths way)
      (best_either (best_nothing b) (row_by o (eqb way 0) (tree o 1) (distinct o linked 1 linked.filled) b))

  -- it holds every locked taxon exactly if the search ends with a set, and is then what that set is worth
  pub top_row_lem : (way b : ℕ) → Tells o way (exhaustive_search o way b) (top_row o way b)
  top_row_lem way b = go (leb (cost o (locked_set o)) b) refl
    where
      short : b < cost o (locked_set o) → (c : Cand) → Best (IsWorth o way) b c → Tells o way nothing c
      short h none p = absurd (covers_none (p.covers nothing_worth (to_worths way nothing_worth (inl refl)) (omega arith)))
      short h (some v) p = let (is, l) = from_some p.is in lacking (locked_lacking o way b h is l)

      go : (t : Bool) → leb (cost o (locked_set o)) b ≡ t → Tells o way (exhaustive_search o way b) (top_row o way b)
      go true e =
          let fit = leb-true _ _ e in
          rw (search_ends o way b fit, best_unique (top_best way b) (optimum_best o way b fit))
          (complete ((held_all o (optimum o way b)).0 (optimum_fits o way b fit).locked_held))
      go false e = let h = leb-false _ _ e in rw (search_fails o way b h) (short h _ (top_best way b))
