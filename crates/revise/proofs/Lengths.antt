-- Two outlines that differ only in the length of record r: a set's diversity differs by as much if it spans that branch, else not; so the best
-- diversity moves with the length and never by more. Where the best set spans the branch and the length rises, it moves by exactly as much; where
-- it does not and the length falls, not at all; and in both cases that set stays the best.
use Rattle.std.specs.Prelude.{if◌then◌else◌}
use Prim.Native.Nat.{ℕ, ◌+◌, ◌*◌, ◌-◌, ◌≤◌}
use mathlib.Core.Path.{◌≡◌, refl, sym, ap, ap₂, fun_ext, ◌∙◌}
use mathlib.Core.Logic.{◌≢◌}
use mathlib.Core.Bool.{Bool, true, false}
use mathlib.Core.List.{List}
use native.Mathlib.Omega.{arith}
use lib.Dec.{eqb}
use borrow.Author.Tests.{eqb-true, eqb-false}
use Rattle.lists.specs.Lists.{one, from, total}
use Rattle.outline.specs.Outline.{size, records, branch, price, IsRecord}
use Rattle.diversity.specs.Behind.{IsSet, Fits}
use Rattle.diversity.specs.Diversity.{diversity, cost}
use Rattle.diversity.specs.Search.{optimum, best_diversity}
use Rattle.laws.specs.Locks.{locked_set}
use Rattle.laws.proofs.Sums.{total_add, total_ext, total_single}
use Rattle.laws.proofs.Alike.{Alike, alike_back, alike_size, alike_records, alike_within, alike_elsewhere, alike_holds, alike_set, alike_cost}
use Rattle.laws.proofs.Optimum.{shown_diversity}
use Rattle.laws.proofs.Searches.{Passes, passed_fit, best_most, set_stays}
use Rattle.revise.specs.Spans.{spans}
use Rattle.revise.proofs.Spans.{diversity_spans}

-- how far a number moved beside another: as that rises or falls, and never by more
pub record Moves (old new from to : ℕ) : Type 0 where
  pub rises : from ≤ to → (old ≤ new) × (new - old ≤ to - from)
  pub falls : to ≤ from → (new ≤ old) × (old - new ≤ from - to)

-- what the length of each record counts for
abbrev counted : List ℕ → ℕ → List ℕ → (ℕ → ℕ) → ℕ → ℕ
counted o way s w r = if spans o way s r then w r else 0

-- o and p differ only in the length of record r
pub record OneLength (o p : List ℕ) (r : ℕ) : Type 0 where
  pub alike : Alike o p
  pub prices : (q : ℕ) → price p q ≡ price o q
  pub is : IsRecord o r
  pub others : (q : ℕ) → 1 ≤ q → q ≢ r → branch p q ≡ branch o q

pub one_length_back : {o p : List ℕ} {r : ℕ} → OneLength o p r → OneLength p o r
one_length_back d = record {
  alike = alike_back d.alike;
  prices = λ q. sym (d.prices q);
  is = record { low = d.is.low; high = omega (arith, alike_size d.alike, d.is.high) };
  others = λ q l e. sym (d.others q l e);
}

module _ (o p : List ℕ) (r : ℕ) (d : OneLength o p r) where
  -- which branches a set spans does not depend on lengths
  pub same_spans : (way : ℕ) (s : List ℕ) (q : ℕ) → spans p way s q ≡ spans o way s q
  unfolding spans
  same_spans way s q = rw (alike_within d.alike s q, alike_elsewhere d.alike s q)

  pub length_passes : (b : ℕ) → Passes o p b
  length_passes b s x f = (
    alike_set d.alike s x,
    record { cost_most = omega (arith, alike_cost d.alike d.prices s, f.cost_most); locked_held = alike_holds d.alike s ∙ f.locked_held },
  )

  module _ (way : ℕ) (s : List ℕ) where
    -- what the length of record r counts for, and what the other lengths do
    abbrev own : List ℕ → ℕ
    own l = if spans o way s r then branch l r else 0

    abbrev rest : ℕ → ℕ
    rest q = if eqb r q then 0 else counted o way s (branch o) q

    split : (w : ℕ → ℕ) → ((q : ℕ) → 1 ≤ q → q ≢ r → w q ≡ branch o q)
        → total (counted o way s w) (records o) ≡ total rest (records o) + (if spans o way s r then w r else 0)
    unfolding records
    split w others =
        total_ext _ (λ q. rest q + (if spans o way s r then w r else 0) * one (eqb r q)) 1 (size o) (λ q l u. go q (eqb r q) refl (others q l))
        ∙ total_add rest (λ q. (if spans o way s r then w r else 0) * one (eqb r q)) (from 1 (size o))
        ∙ ap (λ n. total rest (from 1 (size o)) + n)
        (total_single (λ q. if spans o way s r then w r else 0) r 1 (size o) (omega (arith, d.is.high)) (λ h. absurd (omega (arith, d.is.low))))
      where
        go : (q : ℕ) (b : Bool) → eqb r q ≡ b → (q ≢ r → w q ≡ branch o q)
            → (if spans o way s q then w q else 0)
            ≡ (if b then 0 else (if spans o way s q then branch o q else 0)) + (if spans o way s r then w r else 0) * one b
        go q true e h = rw (← eqb-true r q e) (omega arith)
        go q false e h = rw (h (λ x. eqb-false r q e (sym x))) (omega arith)

    -- the diversity moves as what the length counts for
    diversity_moves : diversity p way s + own o ≡ diversity o way s + own p
    diversity_moves =
        let a = split (branch o) (λ q l x. refl) in
        let b = split (branch p) d.others in
        let e : total (counted p way s (branch p)) (records p) ≡ total (counted o way s (branch p)) (records o) =
        ap₂ total (fun_ext (λ q. ap (λ b. if b then branch p q else 0) (same_spans way s q))) (alike_records d.alike) in
        omega (arith, diversity_spans o way s, diversity_spans p way s)

    -- by exactly the difference if it spans that branch, else not
    pub spanned_moves : spans o way s r ≡ true → diversity p way s + branch o r ≡ diversity o way s + branch p r
    spanned_moves e = rw e at diversity_moves

    pub unspanned_stays : spans o way s r ≡ false → diversity p way s ≡ diversity o way s
    unspanned_stays e = let h : diversity p way s + 0 ≡ diversity o way s + 0 = rw e at diversity_moves in omega arith

    -- never against the length, and never by more
    pub diversity_rises : branch o r ≤ branch p r
        → (diversity o way s ≤ diversity p way s) × (diversity p way s ≤ diversity o way s + (branch p r - branch o r))
    diversity_rises h = go (spans o way s r) refl
      where
        go : (c : Bool) → spans o way s r ≡ c
            → (diversity o way s ≤ diversity p way s) × (diversity p way s ≤ diversity o way s + (branch p r - branch o r))
        go true e = (omega (arith, spanned_moves e), omega (arith, spanned_moves e))
        go false e = (omega (arith, unspanned_stays e), omega (arith, unspanned_stays e))

module _ (o p : List ℕ) (r : ℕ) (d : OneLength o p r) (b : ℕ) (fit : cost o (locked_set o) ≤ b) where
  back : OneLength p o r
  back = one_length_back d

  there : Passes o p b
  there = length_passes o p r d b

  here : Passes p o b
  here = length_passes p o r back b

  -- the locked taxa fit both
  pub length_fit : cost p (locked_set p) ≤ b
  length_fit = passed_fit o p b there fit

  pub best_moves : (way : ℕ) → Moves (best_diversity o way b) (best_diversity p way b) (branch o r) (branch p r)
  best_moves way = record {
    rises = λ h.
        let up = best_most o p b there fit way 0 (λ s x. omega (arith, diversity_rises o p r d way s h)) in
        let most = best_most p o b here length_fit way (branch p r - branch o r) (λ s x. (diversity_rises o p r d way s h).1) in
        (omega arith, omega arith);
    falls = λ h.
        let down = best_most p o b here length_fit way 0 (λ s x. omega (arith, diversity_rises p o r back way s h)) in
        let most = best_most o p b there fit way (branch o r - branch p r) (λ s x. (diversity_rises p o r back way s h).1) in
        (omega arith, omega arith);
  }

  -- as the length rises, no set gains more than one that spans the branch; as it falls, none gains more than one that does not. So the best set
  -- stays where it is such a one
  module _ (way : ℕ) where
    abbrev old : List ℕ
    old = optimum o way b

    stays : ((t : List ℕ) → IsSet o t → Fits o b t → diversity p way t + diversity o way old ≤ diversity p way old + diversity o way t)
        → (optimum p way b ≡ old) × (best_diversity p way b ≡ diversity p way old)
    stays most =
        let e = set_stays o p b there here fit (alike_cost d.alike d.prices) way most in
        (e, shown_diversity p way b length_fit ∙ ap (diversity p way) e)

    pub spanned_rises : spans o way old r ≡ true → branch o r ≤ branch p r
        → (optimum p way b ≡ old) × (best_diversity p way b + branch o r ≡ best_diversity o way b + branch p r)
    spanned_rises e h =
        let gain = spanned_moves o p r d way old e in
        let (same, best) = stays (λ t x f. omega (arith, gain, (diversity_rises o p r d way t h).1)) in
        (same, omega (arith, gain, best, shown_diversity o way b fit))

    pub unspanned_falls : spans o way old r ≡ false → branch p r ≤ branch o r
        → (optimum p way b ≡ old) × (best_diversity p way b ≡ best_diversity o way b)
    unspanned_falls e h =
        let gain = unspanned_stays o p r d way old e in
        let (same, best) = stays (λ t x f. omega (arith, gain, (diversity_rises p o r back way t h).0)) in
        (same, best ∙ gain ∙ sym (shown_diversity o way b fit))
