-- Sets of taxa as the exhaustive search lists them: a mark for each record, 0, or 1 at a taxon.
use Rattle.std.specs.Prelude.{if◌then◌else◌}
use Prim.Native.Nat.{ℕ, zero, suc, ◌+◌, ◌-◌, ◌≤◌, ◌<◌}
use mathlib.Core.Path.{◌≡◌, refl, sym, ap, subst, ◌∙◌}
use mathlib.Core.Logic.{inl, inr, ⊎_elim, ◌↔◌}
use mathlib.Core.Bool.{Bool, true, false, false≢true}
use mathlib.Core.List.Memᴰ
use mathlib.Core.List.{List, [], ◌∷◌, map, Memᴰ}
use native.Mathlib.Omega.{arith}
use lib.Dec.{eqb}
use lib.ListN.{length, get_or}
use Rattle.lists.specs.Lists.{one, from}
use Rattle.outline.specs.Outline.{size, records, is_taxon}
use Rattle.diversity.specs.Diversity.{chosen}
use Rattle.diversity.specs.Behind.{MarkAt, IsSet, Lacks}
use Rattle.diversity.specs.Search.{subsets, leads}

-- marks over the given records: 0, or 1 at a taxon
pub data Marked (o : List ℕ) : List ℕ → List ℕ → Type 0 where
  done : Marked o [] []
  leave : {r : ℕ} {rs s : List ℕ} → Marked o rs s → Marked o (r ∷ rs) (0 ∷ s)
  choose : {r : ℕ} {rs s : List ℕ} → is_taxon o r ≡ true → Marked o rs s → Marked o (r ∷ rs) (1 ∷ s)

pub marked_in : {o rs s : List ℕ} → Marked o rs s → Memᴰ s (subsets o rs)
unfolding subsets
marked_in done = Memᴰ.head refl
marked_in (leave m) = Memᴰ.append_left _ (Memᴰ.map (λ (s : List ℕ). 0 ∷ s) (marked_in m))
marked_in {o} (choose {rs = rs} e m) =
    rw e (Memᴰ.append_right (map (λ (s : List ℕ). 0 ∷ s) (subsets o rs)) (Memᴰ.map (λ (s : List ℕ). 1 ∷ s) (marked_in m)))

module _ (o : List ℕ) (r : ℕ) (rs s : List ℕ) (below : (t : List ℕ) → Memᴰ t (subsets o rs) → Marked o rs t) where
  marked_zero : (t : List ℕ) × Memᴰ t (subsets o rs) × (0 ∷ t ≡ s) → Marked o (r ∷ rs) s
  marked_zero (t, h, e) = subst (Marked o (r ∷ rs)) e (leave (below t h))

  marked_one : is_taxon o r ≡ true → (t : List ℕ) × Memᴰ t (subsets o rs) × (1 ∷ t ≡ s) → Marked o (r ∷ rs) s
  marked_one f (t, h, e) = subst (Marked o (r ∷ rs)) e (choose f (below t h))

  marked_end : (b : Bool) → is_taxon o r ≡ b → Memᴰ s (if b then map (λ (t : List ℕ). 1 ∷ t) (subsets o rs) else []) → Marked o (r ∷ rs) s
  marked_end true f h = marked_one f (Memᴰ.of_map (λ (t : List ℕ). 1 ∷ t) (subsets o rs) h)
  marked_end false f h = absurd (Memᴰ.not-nil h)

  marked_step : Memᴰ s (subsets o (r ∷ rs)) → Marked o (r ∷ rs) s
  unfolding subsets
  marked_step m =
      ⊎_elim (λ h. marked_zero (Memᴰ.of_map (λ (t : List ℕ). 0 ∷ t) (subsets o rs) h)) (marked_end (is_taxon o r) refl)
      (Memᴰ.append_cases (map (λ (t : List ℕ). 0 ∷ t) (subsets o rs)) m)

pub in_marked : (o rs s : List ℕ) → Memᴰ s (subsets o rs) → Marked o rs s
unfolding subsets
in_marked o [] s m = subst (Marked o []) (sym (Memᴰ.eq_of_singleton m)) done
in_marked o (r ∷ rs) s m = marked_step o r rs s (in_marked o rs) m

-- ---- by places
pub from_length : (k n : ℕ) → length (from k n) ≡ n
unfolding from
from_length k zero = refl
from_length k (suc n) = ap suc (from_length (k + 1) n)

pub from_at : (k n i : ℕ) → i < n → get_or (from k n) i 0 ≡ k + i
unfolding from
from_at k zero i h = omega arith
from_at k (suc n) zero h = omega arith
from_at k (suc n) (suc i) h = from_at (k + 1) n i (omega arith) ∙ omega arith

pub map_at : (f : ℕ → ℕ) (k n i : ℕ) → i < n → get_or (map f (from k n)) i 0 ≡ f (k + i)
unfolding from
map_at f k zero i h = let no : ⊥ = omega arith in absurd no
map_at f k (suc n) zero h = ap f (omega arith)
map_at f k (suc n) (suc i) h = map_at f (k + 1) n i (omega arith) ∙ ap f (omega arith)

-- record r stands at place r - 1
record_at : (o : List ℕ) (r : ℕ) → 1 ≤ r → r ≤ size o → get_or (records o) (r - 1) 0 ≡ r
unfolding records
record_at o r l u = from_at 1 (size o) (r - 1) (omega arith) ∙ omega arith

marked_length : {o rs s : List ℕ} → Marked o rs s → length s ≡ length rs
marked_length done = refl
marked_length (leave m) = ap suc (marked_length m)
marked_length (choose e m) = ap suc (marked_length m)

marked_at : {o rs s : List ℕ} → Marked o rs s → (i : ℕ) → MarkAt o (get_or rs i 0) (get_or s i 0)
marked_at done i = inl refl
marked_at (leave m) zero = inl refl
marked_at (leave m) (suc i) = marked_at m i
marked_at (choose e m) zero = inr (refl, e)
marked_at (choose e m) (suc i) = marked_at m i

pub marked_is_set : {o s : List ℕ} → Marked o (records o) s → IsSet o s
unfolding records
marked_is_set {o} {s} m = record {
  whole = marked_length m ∙ from_length 1 (size o);
  marks = λ r l u. subst (λ (q : ℕ). MarkAt o q (get_or s (r - 1) 0)) (record_at o r l u) (marked_at m (r - 1));
}

marked_cons : (o : List ℕ) (r a : ℕ) {rs s : List ℕ} → MarkAt o r a → Marked o rs s → Marked o (r ∷ rs) (a ∷ s)
marked_cons o r a (inl e) m = rw e (leave m)
marked_cons o r a (inr (e, t)) m = rw e (choose t m)

at_marked : (o s : List ℕ) (k n : ℕ) → length s ≡ n → ((i : ℕ) → i < n → MarkAt o (k + i) (get_or s i 0)) → Marked o (from k n) s
unfolding from
at_marked o [] k zero e h = done
at_marked o [] k (suc n) e h = let no : ⊥ = omega arith in absurd no
at_marked o (a ∷ s) k zero e h = let no : ⊥ = omega arith in absurd no
at_marked o (a ∷ s) k (suc n) e h =
    marked_cons o k a (subst (λ (q : ℕ). MarkAt o q a) (omega arith) (h 0 (omega arith)))
    (at_marked o s (k + 1) n (omega arith) (λ i l. subst (λ (q : ℕ). MarkAt o q (get_or s i 0)) (omega arith) (h (suc i) (omega arith))))

pub set_marked : {o s : List ℕ} → IsSet o s → Marked o (records o) s
unfolding records
set_marked {o} {s} x =
    at_marked o s 1 (size o) x.whole
    (λ i l. subst (λ (j : ℕ). MarkAt o (1 + i) (get_or s j 0)) (omega arith) (x.marks (1 + i) (omega arith) (omega arith)))

-- ---- a test of record numbers, as marks
abbrev pub marks_of : (ℕ → Bool) → ℕ → ℕ → List ℕ
marks_of p a n = map (λ r. one (p r)) (from a n)

marks_marked : (o : List ℕ) (p : ℕ → Bool) (a n : ℕ) → ((r : ℕ) → a ≤ r → r < a + n → is_taxon o r ≡ false → p r ≡ false)
    → Marked o (from a n) (marks_of p a n)
unfolding from
marks_marked o p a zero h = done
marks_marked o p a (suc n) h = go (p a) (is_taxon o a) refl refl (marks_marked o p (a + 1) n (λ r l u. h r (omega arith) (omega arith)))
  where
    go : (b c : Bool) → p a ≡ b → is_taxon o a ≡ c → Marked o (from (a + 1) n) (marks_of p (a + 1) n)
        → Marked o (a ∷ from (a + 1) n) (one (p a) ∷ marks_of p (a + 1) n)
    go false c e t m = rw e (leave m)
    go true true e t m = rw e (choose t m)
    go true false e t m = absurd (false≢true (sym (h a (omega arith) (omega arith) t) ∙ e))

pub marks_set : (o : List ℕ) (p : ℕ → Bool) → ((r : ℕ) → 1 ≤ r → r ≤ size o → is_taxon o r ≡ false → p r ≡ false) → IsSet o (marks_of p 1 (size o))
unfolding records
marks_set o p h = marked_is_set (marks_marked o p 1 (size o) (λ r l u. h r l (omega arith)))

pub marks_chosen : (p : ℕ → Bool) (n r : ℕ) → 1 ≤ r → r ≤ n → chosen (marks_of p 1 n) r ≡ p r
unfolding chosen
marks_chosen p n r l u = ap (λ k. eqb k 1) (map_at (λ r. one (p r)) 1 n (r - 1) (omega arith)) ∙ eqb_one _ ∙ ap p (omega arith)
  where
    eqb_one : (b : Bool) → eqb (one b) 1 ≡ b
    eqb_one true = refl
    eqb_one false = refl

-- the search goes through every set of taxa, and through nothing else
pub subsets_exactly : (o s : List ℕ) → Memᴰ s (subsets o (records o)) ↔ IsSet o s
subsets_exactly o s = (λ n. marked_is_set (in_marked o (records o) s n), λ x. marked_in (set_marked x))

-- no group is chosen
pub group_unchosen : (o s : List ℕ) → IsSet o s → (r : ℕ) → 1 ≤ r → r ≤ size o → is_taxon o r ≡ false → chosen s r ≡ false
unfolding chosen
group_unchosen o s x r l u e = ⊎_elim (λ z. ap (λ (k : ℕ). eqb k 1) z) (λ (z, t). absurd (false≢true (sym e ∙ t))) (x.marks r l u)

-- ---- the first place where two sets differ
record Differ (s t : List ℕ) : Type 0 where
  at : ℕ
  before : (i : ℕ) → i < at → get_or s i 0 ≡ get_or t i 0
  has : get_or s at 0 ≡ 1
  lacks : get_or t at 0 ≡ 0

differ_later : {s t : List ℕ} (a : ℕ) → Differ s t → Differ (a ∷ s) (a ∷ t)
differ_later {s} {t} a d = record { at = suc d.at; before = same; has = d.has; lacks = d.lacks }
  where
    same : (i : ℕ) → i < suc d.at → get_or (a ∷ s) i 0 ≡ get_or (a ∷ t) i 0
    same zero h = refl
    same (suc i) h = d.before i (omega arith)

leads_differ : {o rs s t : List ℕ} → Marked o rs s → Marked o rs t → leads s t ≡ true → Differ s t
unfolding leads
leads_differ done done e = absurd (false≢true e)
leads_differ (leave m) (leave n) e = differ_later 0 (leads_differ m n e)
leads_differ (leave m) (choose t n) e = absurd (false≢true e)
leads_differ (choose t m) (leave n) e = record { at = 0; before = λ i h. absurd (omega arith); has = refl; lacks = refl }
leads_differ (choose t m) (choose u n) e = differ_later 1 (leads_differ m n e)

-- a set that leads another has the first taxon on which they differ
pub leads_lacks : {o rs s t : List ℕ} → Marked o rs s → Marked o rs t → leads s t ≡ true → Lacks s t
unfolding chosen
leads_lacks {s = s} {t} m n e =
    let d = leads_differ m n e in
    let same : suc d.at - 1 ≡ d.at = omega arith in
    record {
      at = suc d.at;
      low = omega arith;
      before = λ r l h. ap (λ (k : ℕ). eqb k 1) (d.before (r - 1) (omega arith));
      has = rw (same, d.has);
      lacks = rw (same, d.lacks);
    }
