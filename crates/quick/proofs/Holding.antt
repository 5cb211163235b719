-- A taxon joins the set: what is on the way up from it is held from now on.
use Prim.Native.Nat.{ℕ, zero, suc, ◌+◌, ◌-◌, ◌≤◌, ◌<◌}
use mathlib.Core.Path.{◌≡◌, refl, sym, ap, subst, fun_ext, ◌∙◌}
use mathlib.Core.Logic.{◌⊎◌, inl, inr, ◌↔◌}
use mathlib.Core.Bool.{Bool, true, false, ◌||◌, ◌&&◌, true≢false, or-true, or-false}
use mathlib.Core.List.{List, [], ◌∷◌}
use native.Mathlib.Omega.{arith}
use lib.Dec.{eqb, ltb}
use lib.ListN.{length, get_or, set, take, replicate, length-set, length-replicate, get_or-replicate}
use lib.Seq.{get_or-set_same, get_or-set_other, take_all}
use borrow.Author.Tests.{eqb-true, eqb-false, ltb-true, ltb-false, lt-ltb, le-ltb}
use Rattle.lists.specs.Lists.{anywhere}
use Rattle.outline.specs.Inner.{numbers}
use Rattle.outline.specs.Outline.{size, IsRecord}
use Rattle.outline.specs.WellFormed.{Linked, WellFormed}
use Rattle.diversity.specs.Diversity.{clade, chosen, within}
use Rattle.diversity.specs.Paths.{OnWay, itself as on_itself, parent}
use Rattle.laws.proofs.Prefixes.{chosen_up_to, step_alike}
use Rattle.quick.specs.Inner.{Parents, Up, itself, onward, HeldIn, Rising, JoinedAt, Joined}
use Rattle.quick.specs.declared.ways.Ways.{Ways}
use Rattle.quick.proofs.Along.{With, within_with, within_above}
use Rattle.quick.proofs.Upwards.{none_up, up_step, up_most, parents_earlier, up_way, way_up}

-- ---- a loop that goes up
-- its invariant: what is on the way up from t is passed and held, or is still to come; from q down nothing has changed
pub record Going (old : Ways) (t q : ℕ) (new : Ways) : Type 0 where
  pub kept : new.parents ≡ old.parents
  pub below : q ≤ t
  pub long : length new.held ≡ length old.held
  pub here : Up old.parents t q
  pub each : (r : ℕ) → 1 ≤ r → JoinedAt old.parents t old.held new.held r (Up old.parents q r)
  pub ahead : (r : ℕ) → r ≤ q → get_or new.held r false ≡ get_or old.held r false

pub going_starts : {t : ℕ} {old : Ways} → Going old t t old
going_starts = record { kept = refl; below = omega arith; long = refl; here = itself; each = λ r l. inr (λ u. u, refl); ahead = λ r u. refl }

module _ {old new : Ways} {t q : ℕ} (p : Rising old t) (g : Going old t q new) where
  goes : 1 ≤ q → Going old t (get_or old.parents q 0) (record { parents = old.parents; held = set new.held q true })
  goes l =
      let up = p.earlier q l g.below in
      record {
        kept = refl;
        below = omega (arith, up, g.below);
        long = length-set new.held q true ∙ g.long;
        here = onward g.here l;
        each = λ r m. go r (eqb r q) refl (g.each r m);
        ahead = λ r h. beside r (λ e. omega (arith, up)) ∙ g.ahead r (omega (arith, up));
      }
    where
      beside : (r : ℕ) → (r ≡ q → ⊥) → get_or (set new.held q true) r false ≡ get_or new.held r false
      beside r d = get_or-set_other new.held q r true false d

      go : (r : ℕ) (b : Bool) → eqb r q ≡ b → JoinedAt old.parents t old.held new.held r (Up old.parents q r)
          → JoinedAt old.parents t old.held (set new.held q true) r (Up old.parents (get_or old.parents q 0) r)
      go r true e s =
          let same : r ≡ q = eqb-true r q e in
          inl (
            subst (Up old.parents t) (sym same) g.here,
            ap (λ k. get_or (set new.held q true) k false) same ∙ get_or-set_same new.held q true false (omega (arith, g.long, p.long, p.small, g.below)),
          )
      go r false e s = by s
        where
          past : (r ≡ q) ⊎ Up old.parents (get_or old.parents q 0) r → Up old.parents (get_or old.parents q 0) r
          past (inl same) = absurd (eqb-false r q e same)
          past (inr v) = v

          by : JoinedAt old.parents t old.held new.held r (Up old.parents q r) → JoinedAt old.parents t old.held (set new.held q true) r (Up old.parents (get_or old.parents q 0) r)
          by (inl (u, z)) = inl (u, beside r (eqb-false r q e) ∙ z)
          by (inr (f, same)) = inr (λ u. past (up_step (f u)), beside r (eqb-false r q e) ∙ same)

  pub going_goes : 1 ≤ q → Going old t (get_or new.parents q 0) (record { parents = new.parents; held = set new.held q true })
  going_goes l = rw g.kept (goes l)

  -- what was still to come was held before
  joined : ((r : ℕ) → 1 ≤ r → Up old.parents q r → get_or old.held r false ≡ true) → Joined old t new
  joined held = record { parents_kept = g.kept; long = g.long; each = λ r l. go r l (g.each r l) }
    where
      go : (r : ℕ) → 1 ≤ r → JoinedAt old.parents t old.held new.held r (Up old.parents q r) → JoinedAt old.parents t old.held new.held r (get_or old.held r false ≡ true)
      go r l (inl x) = inl x
      go r l (inr (f, same)) = inr (λ u. held r l (f u), same)

  -- at the top nothing is
  pub going_ends : q ≡ 0 → Joined old t new
  going_ends z = joined (λ r l u. absurd (omega (arith, none_up (subst (λ k. Up old.parents k r) z u))))

  -- and above a record that is held, all is held
  pub going_stops : 1 ≤ q → get_or new.held q false ≡ true → Joined old t new
  going_stops l e = joined (λ r m u. above u m)
    where
      above : {r : ℕ} → Up old.parents q r → 1 ≤ r → get_or old.held r false ≡ true
      above itself m = sym (g.ahead q (omega arith)) ∙ e
      above (onward {q = k} u m) n = p.closed k m (omega (arith, up_most p.earlier g.below u, g.below)) (above u m) n

-- ---- the records that a set holds
module _ {o : List ℕ} (linked : Linked o) {w : Ways} (ps : Parents o w.parents) {t : ℕ} (i : IsRecord o t) {s : List ℕ} where
  -- a way up from a record can be gone
  pub rising : WellFormed o → HeldIn o s w.held → Rising w t
  rising formed h = record {
    small = omega (arith, i.high, formed.size_most);
    earlier = λ r l u. parents_earlier linked ps r l (omega (arith, u, i.high));
    long = h.long;
    closed = closed;
  }
    where
      closed : (r : ℕ) → 1 ≤ r → r ≤ t → get_or w.held r false ≡ true → 1 ≤ get_or w.parents r 0 → get_or w.held (get_or w.parents r 0) false ≡ true
      closed r l u e m =
          let j : IsRecord o r = record { low = l; high = omega (arith, u, i.high) } in
          let k : IsRecord o (get_or w.parents r 0) = record { low = m; high = omega (arith, parents_earlier linked ps r l j.high, j.high) } in
          let counts = sym (h.at_record r j) ∙ e in
          h.at_record (get_or w.parents r 0) k ∙ within_above o linked s j k (parent on_itself (ps.at_record r j)) counts

  -- once the taxon has joined
  module _ {s' : List ℕ} (more : With o s t s') where
    pub held_joined : {new : Ways} → HeldIn o s w.held → Joined w t new → HeldIn o s' new.held
    held_joined {new} f h = record { long = h.long ∙ f.long; at_record = λ r j. go r j (h.each r j.low) }
      where
        go : (r : ℕ) → IsRecord o r → JoinedAt w.parents t w.held new.held r (get_or w.held r false ≡ true) → get_or new.held r false ≡ within o s' r
        go r j (inl (u, e)) = e ∙ sym ((within_with o linked s s' i more j).1 (inr (up_way linked ps i u j.low)))
        go r j (inr (was, same)) = same ∙ f.at_record r j ∙ alike (within o s r) refl (within o s' r) refl
          where
            ways : within o s' r ≡ true ↔ (within o s r ≡ true) ⊎ OnWay o t r
            ways = within_with o linked s s' i more j

            alike : (a : Bool) → within o s r ≡ a → (b : Bool) → within o s' r ≡ b → a ≡ b
            alike true ea true eb = refl
            alike true ea false eb = absurd (true≢false (sym (ways.1 (inl ea)) ∙ eb))
            alike false ea false eb = refl
            alike false ea true eb = by (ways.0 eb)
              where
                by : (within o s r ≡ true) ⊎ OnWay o t r → false ≡ true
                by (inl d) = absurd (true≢false (sym d ∙ ea))
                by (inr w) = absurd (true≢false (sym (was (way_up linked ps i w)) ∙ f.at_record r j ∙ ea))

-- ---- the first i marks, and the next
module _ (o s : List ℕ) (i : ℕ) where
  as_before : {q : ℕ} → IsRecord o q → (q ≡ suc i → ⊥) → ltb (q - 1) (suc i) ≡ ltb (q - 1) i
  as_before {q} j other = go (ltb (q - 1) i) refl
    where
      go : (b : Bool) → ltb (q - 1) i ≡ b → ltb (q - 1) (suc i) ≡ b
      go true e = let l = ltb-true (q - 1) i e in lt-ltb (q - 1) (suc i) (omega arith)
      go false e =
          let h = ltb-false (q - 1) i e in
          le-ltb (q - 1) (suc i) (omega (arith, by (eqb q (suc i)) refl))
        where
          by : (c : Bool) → eqb q (suc i) ≡ c → suc i < q
          by true d = absurd (other (eqb-true q (suc i) d))
          by false d = let ne = eqb-false q (suc i) d in let h = ltb-false (q - 1) i e in omega (arith, j.low)

  -- it is chosen
  pub prefix_with : chosen s (suc i) ≡ true → With o (take i s) (suc i) (take (suc i) s)
  prefix_with e q j = chosen_up_to s (suc i) q ∙ go (eqb q (suc i)) refl ∙ sym (ap (λ b. b || eqb q (suc i)) (chosen_up_to s i q))
    where
      go : (b : Bool) → eqb q (suc i) ≡ b → (chosen s q && ltb (q - 1) (suc i)) ≡ ((chosen s q && ltb (q - 1) i) || b)
      go true d =
          let same = eqb-true q (suc i) d in
          rw (ap (chosen s) same ∙ e, lt-ltb (q - 1) (suc i) (omega arith)) (sym (or-true _))
      go false d = ap (λ b. chosen s q && b) (as_before j (eqb-false q (suc i) d)) ∙ sym (or-false _)

-- ---- the marks, one after the other
-- a loop's invariant: the marks before record r are held
pub record Gathering (o s : List ℕ) (r : ℕ) (held : List Bool) : Type 0 where
  pub low : 1 ≤ r
  pub held_are : HeldIn o (take (r - 1) s) held

nowhere : (xs : List ℕ) → anywhere (chosen []) xs ≡ false
unfolding anywhere chosen
nowhere [] = refl
nowhere (x ∷ xs) = nowhere xs

module _ {o s : List ℕ} where
  -- without marks none is
  pub gathering_starts : size o < numbers → Gathering o s 1 (replicate numbers false)
  unfolding within
  gathering_starts few = record {
    low = omega arith;
    held_are = record {
      long = length-replicate {A = Bool} numbers false;
      at_record = λ r i. get_or-replicate {A = Bool} numbers r false false (omega (arith, i.high)) ∙ sym (nowhere (clade o r));
    };
  }

  marks_before : (i : ℕ) {held : List Bool} → Gathering o s (suc i) held → HeldIn o (take i s) held
  marks_before i {held} g = let taken : suc i - 1 ≡ i = omega arith in rw taken at g.held_are

  gathered : (i : ℕ) {held : List Bool} → HeldIn o (take (suc i) s) held → Gathering o s (suc i + 1) held
  gathered i {held} h = let taken : suc i + 1 - 1 ≡ suc i = omega arith in record { low = omega arith; held_are = rw taken h }

  pub gathering_passes : (r : ℕ) {held : List Bool} → Gathering o s r held → chosen s r ≡ false → Gathering o s (r + 1) held
  unfolding within
  gathering_passes zero g e = absurd (omega (arith, g.low))
  gathering_passes (suc i) g e =
      let h = marks_before i g in
      gathered i
      (record {
        long = h.long;
        at_record = λ r j. h.at_record r j ∙ ap (λ p. anywhere p (clade o r)) (fun_ext (λ q. sym (step_alike s i e q)));
      })

  module _ (linked : Linked o) {w : Ways} (ps : Parents o w.parents) where
    pub gathering_holds : (r : ℕ) {new : Ways} → Gathering o s r w.held → r ≤ size o → chosen s r ≡ true → Joined w r new
        → Gathering o s (r + 1) new.held
    gathering_holds zero g u e h = absurd (omega (arith, g.low))
    gathering_holds (suc i) g u e h =
        let j : IsRecord o (suc i) = record { low = omega arith; high = u } in
        gathered i (held_joined linked ps j (prefix_with o s i e) (marks_before i g) h)

  pub gathering_ends : {r : ℕ} {held : List Bool} → Gathering o s r held → length s < r → HeldIn o s held
  gathering_ends {r} {held} g h = rw (take_all (r - 1) s (omega arith)) at g.held_are
