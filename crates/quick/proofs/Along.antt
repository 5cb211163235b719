-- What a taxon adds, along the way up from it: each record on it that does not count yet adds its own.
use Rattle.std.specs.Prelude.{if◌then◌else◌}
use Prim.Native.Nat.{ℕ, zero, suc, ◌+◌, ◌*◌, ◌≤◌, ◌<◌}
use mathlib.Core.Path.{◌≡◌, refl, sym, ap, subst, ◌∙◌}
use mathlib.Core.Logic.{◌⊎◌, inl, inr, ◌↔◌}
use mathlib.Core.Bool.{Bool, true, false, ◌||◌, ◌&&◌, not, false≢true, true≢false, and-false, or-true, or-false}
use mathlib.Core.List.{List}
use native.Mathlib.Omega.{arith}
use lib.Dec.{eqb}
use lib.ListN.{get_or}
use borrow.Author.Tests.{eqb-true, eqb-false, eq-eqb}
use Rattle.lists.specs.Lists.{one, total}
use Rattle.outline.specs.Outline.{size, records, IsRecord}
use Rattle.outline.specs.WellFormed.{Linked}
use Rattle.diversity.specs.Diversity.{chosen, within}
use Rattle.diversity.specs.Behind.{IsSet}
use Rattle.diversity.specs.Paths.{Parent, OnWay, itself, parent, IsChosen}
use Rattle.laws.proofs.Paths.{parent_later, way_earlier, rooted_on_way}
use Rattle.laws.proofs.Subtrees.{parent_one}
use Rattle.laws.proofs.Sums.{total_add, total_ext, total_single, total_zero}
use Rattle.quick.specs.Quick.{with_taxon}
use Rattle.quick.specs.Inner.{GainsUpTo}
use Rattle.quick.proofs.Taxon.{with_chosen, newly, new_sum}

-- s' has what s has, and record t
abbrev pub With : List ℕ → List ℕ → ℕ → List ℕ → Type 0
With o s t s' = (q : ℕ) → IsRecord o q → chosen s' q ≡ (chosen s q || eqb q t)

module _ (o : List ℕ) (linked : Linked o) where
  -- the way up from a record is the record, and the way up from its parent
  way_step : {p t r : ℕ} → Parent o p t → OnWay o t r → (r ≡ t) ⊎ OnWay o p r
  way_step x itself = inl refl
  way_step {p} {t} x (parent {p = u} {q = q} w y) = go (way_step x w)
    where
      go : (q ≡ t) ⊎ OnWay o p q → (u ≡ t) ⊎ OnWay o p u
      go (inl e) = inr (subst (OnWay o p) (parent_one o linked x (subst (Parent o u) e y)) itself)
      go (inr v) = inr (parent v y)

  -- a record counts with the taxon exactly if it did before or is on the way up from it
  module _ (s s' : List ℕ) {t : ℕ} (i : IsRecord o t) (more : With o s t s') {r : ℕ} (j : IsRecord o r) where
    pub within_with : within o s' r ≡ true ↔ (within o s r ≡ true) ⊎ OnWay o t r
    within_with = (λ e. found ((rooted_on_way o linked s' r j).0 e), back)
      where
        found : (q : ℕ) × IsChosen o s' q × OnWay o q r → (within o s r ≡ true) ⊎ OnWay o t r
        found (q, c, w) = go (eqb q t) refl
          where
            go : (b : Bool) → eqb q t ≡ b → (within o s r ≡ true) ⊎ OnWay o t r
            go true e = inr (subst (λ k. OnWay o k r) (eqb-true q t e) w)
            go false e = inl ((rooted_on_way o linked s r j).1 (q, (c.0, sym (more q c.0 ∙ ap (λ b. chosen s q || b) e ∙ or-false (chosen s q)) ∙ c.1), w))

        back : (within o s r ≡ true) ⊎ OnWay o t r → within o s' r ≡ true
        back (inl e) =
            let (q, c, w) = (rooted_on_way o linked s r j).0 e in
            (rooted_on_way o linked s' r j).1 (q, (c.0, more q c.0 ∙ rw c.1 refl), w)
        back (inr w) = (rooted_on_way o linked s' r j).1 (t, (i, more t i ∙ rw (eq-eqb t t refl) (or-true (chosen s t))), w)

  -- one way up after another
  way_both : {t q r : ℕ} → OnWay o t q → OnWay o q r → OnWay o t r
  way_both w itself = w
  way_both w (parent v y) = parent (way_both w v) y

  -- above a record that counts each counts
  pub within_above : (s : List ℕ) {t r : ℕ} → IsRecord o t → IsRecord o r → OnWay o t r → within o s t ≡ true → within o s r ≡ true
  within_above s {t} {r} i j w e =
      let (q, c, v) = (rooted_on_way o linked s t i).0 e in
      (rooted_on_way o linked s r j).1 (q, c, way_both v w)

-- of a record: whether the set has a taxon at or below it, whether it newly counts with a taxon, whether it does with the taxon's parent, and
-- whether it is the taxon
data Counts : Bool → Bool → Bool → Bool → Type 0 where
  before : (d : Bool) → Counts true false false d
  handed : Counts false true true false
  own : Counts false true false true
  off_way : Counts false false false false

counts_sum : {a b c d : Bool} → Counts a b c d → (n : ℕ) → (if b then n else 0) ≡ (if c then n else 0) + (if a then 0 else n) * one d
counts_sum (before d) n = omega arith
counts_sum handed n = omega arith
counts_sum own n = omega arith
counts_sum off_way n = omega arith

-- ---- what the way up from a record comes to
module _ (o : List ℕ) (linked : Linked o) (s : List ℕ) (x : IsSet o s) where
  -- record r newly counts with record q; with 0, which is none, it does not
  newly_from : ℕ → ℕ → Bool
  newly_from zero r = false
  newly_from (suc q) r = newly o s (suc q) r

  newly_way : (q r : ℕ) → q ≤ size o → IsRecord o r → newly_from q r ≡ true ↔ (within o s r ≡ false) × OnWay o q r
  unfolding newly_from
  newly_way zero r u j = (λ e. absurd (false≢true e), λ (e, w). absurd (omega (arith, way_earlier o linked w, j.low)))
  newly_way (suc q) r u j = (λ e. go (within o s r) refl (within o (with_taxon s (suc q)) r) refl e, λ (e, w). rw (with_way.1 (inr w), e) refl)
    where
      i : IsRecord o (suc q)
      i = record { low = omega arith; high = u }

      with_way : within o (with_taxon s (suc q)) r ≡ true ↔ (within o s r ≡ true) ⊎ OnWay o (suc q) r
      with_way = within_with o linked s (with_taxon s (suc q)) i (with_chosen o s x i) j

      go : (a : Bool) → within o s r ≡ a → (b : Bool) → within o (with_taxon s (suc q)) r ≡ b → (b && not a) ≡ true
          → (a ≡ false) × OnWay o (suc q) r
      go true e b f h = absurd (false≢true (sym (and-false b) ∙ h))
      go false e false f h = absurd (false≢true h)
      go false e true f h = (refl, on_way (with_way.0 f))
        where
          on_way : (within o s r ≡ true) ⊎ OnWay o (suc q) r → OnWay o (suc q) r
          on_way (inl d) = absurd (true≢false (sym d ∙ e))
          on_way (inr w) = w

  gain_of : (ℕ → ℕ) → ℕ → ℕ
  gain_of w q = total (λ r. if newly_from q r then w r else 0) (records o)

  gain_none : (w : ℕ → ℕ) → gain_of w 0 ≡ 0
  unfolding gain_of newly_from
  gain_none w = total_zero (records o)

  gain_record : (w : ℕ → ℕ) (t : ℕ) → IsRecord o t → gain_of w t ≡ new_sum o s t w
  unfolding gain_of newly_from
  gain_record w zero i = absurd (omega (arith, i.low))
  gain_record w (suc t) i = refl

  module _ {p t : ℕ} (i : IsRecord o t) (y : Parent o p t) where
    counts : (r : ℕ) → IsRecord o r → Counts (within o s r) (newly_from t r) (newly_from p r) (eqb t r)
    counts r j = go _ refl _ refl _ refl _ refl
      where
        later : p < t
        later = (parent_later o linked y).0

        from_taxon : newly_from t r ≡ true ↔ (within o s r ≡ false) × OnWay o t r
        from_taxon = newly_way t r i.high j

        from_parent : newly_from p r ≡ true ↔ (within o s r ≡ false) × OnWay o p r
        from_parent = newly_way p r (omega (arith, later, i.high)) j

        go : (a : Bool) → within o s r ≡ a → (b : Bool) → newly_from t r ≡ b → (c : Bool) → newly_from p r ≡ c → (d : Bool) → eqb t r ≡ d
            → Counts a b c d
        go true ea true eb c ec d ed = absurd (true≢false (sym ea ∙ (from_taxon.0 eb).0))
        go true ea false eb true ec d ed = absurd (true≢false (sym ea ∙ (from_parent.0 ec).0))
        go true ea false eb false ec d ed = before d
        go false ea false eb true ec d ed = absurd (true≢false (sym (from_taxon.1 (ea, way_both o linked (parent itself y) (from_parent.0 ec).1)) ∙ eb))
        go false ea false eb false ec true ed =
            absurd (true≢false (sym (from_taxon.1 (ea, subst (OnWay o t) (eqb-true t r ed) itself)) ∙ eb))
        go false ea false eb false ec false ed = off_way
        go false ea true eb c ec d ed = on_way (way_step o linked y (from_taxon.0 eb).1) c ec d ed
          where
            on_way : (r ≡ t) ⊎ OnWay o p r → (c : Bool) → newly_from p r ≡ c → (d : Bool) → eqb t r ≡ d → Counts false true c d
            on_way (inl e) true ec d ed = absurd (omega (arith, way_earlier o linked (from_parent.0 ec).1, e, later))
            on_way (inl e) false ec true ed = own
            on_way (inl e) false ec false ed = absurd (eqb-false t r ed (sym e))
            on_way (inr w) false ec d ed = absurd (true≢false (sym (from_parent.1 (ea, w)) ∙ ec))
            on_way (inr w) true ec true ed = absurd (omega (arith, way_earlier o linked w, eqb-true t r ed, later))
            on_way (inr w) true ec false ed = handed

    gain_step : (w : ℕ → ℕ) → gain_of w t ≡ gain_of w p + (if within o s t then 0 else w t)
    unfolding gain_of records
    gain_step w =
        total_ext _ (λ r. (if newly_from p r then w r else 0) + (if within o s r then 0 else w r) * one (eqb t r)) 1 (size o)
        (λ r l u. counts_sum (counts r (record { low = l; high = omega arith })) (w r))
        ∙ total_add (λ r. if newly_from p r then w r else 0) (λ r. (if within o s r then 0 else w r) * one (eqb t r)) (records o)
        ∙ ap (λ n. total (λ r. if newly_from p r then w r else 0) (records o) + n)
        (total_single (λ r. if within o s r then 0 else w r) t 1 (size o) (omega (arith, i.high)) (λ h. absurd (omega (arith, i.low))))

  -- ---- a table of what the records before r add
  module _ {gain : ℕ → ℕ} (w : ℕ → ℕ) (gain_is : (t : ℕ) → gain t ≡ new_sum o s t w) where
    -- a record that counts already adds nothing
    pub gain_held : {t : ℕ} → IsRecord o t → within o s t ≡ true → gain t ≡ 0
    gain_held {t} i e = gain_is t ∙ sym (gain_record w t i) ∙ none
      where
        nowhere : (r : ℕ) → IsRecord o r → newly_from t r ≡ false
        nowhere r j = go (newly_from t r) refl
          where
            go : (b : Bool) → newly_from t r ≡ b → b ≡ false
            go true d = let (lacks, w) = (newly_way t r i.high j).0 d in absurd (true≢false (sym (within_above o linked s i j w e) ∙ lacks))
            go false d = refl

        none : gain_of w t ≡ 0
        none = unfold gain_of records in
            total_ext _ (λ r. 0) 1 (size o) (λ r l u. ap (λ b. if b then w r else 0) (nowhere r (record { low = l; high = omega arith })))
            ∙ total_zero (records o)

    module _ {r : ℕ} {table : List ℕ} (g : GainsUpTo gain r table) where
      parent_gain : (p : ℕ) → p < r → p ≤ size o → get_or table p 0 ≡ gain_of w p
      parent_gain zero l u = g.none ∙ sym (gain_none w)
      parent_gain (suc p) l u =
          g.before (suc p) (omega arith) l ∙ gain_is (suc p) ∙ sym (gain_record w (suc p) (record { low = omega arith; high = u }))

      -- what its parent adds and its own are what record r adds
      pub gain_up : {p : ℕ} → IsRecord o r → Parent o p r → within o s r ≡ false → get_or table p 0 + w r ≡ gain r
      gain_up {p} i y e =
          let later = (parent_later o linked y).0 in
          let own : (if within o s r then 0 else w r) ≡ w r = rw e refl in
          omega (arith, parent_gain p later (omega (arith, i.high)), gain_step i y w, own, gain_record w r i, gain_is r)
