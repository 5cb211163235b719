-- The tables of first places: one is filled from the last record on, the other from the root on.
use Prim.Native.Nat.{ℕ, zero, suc, ◌+◌, ◌-◌, ◌≤◌, ◌<◌, min, max}
use mathlib.Core.Path.{◌≡◌, ◌∙◌}
use mathlib.Core.List.{List}
use native.Mathlib.Omega.{arith}
use lib.ListN.{length, get_or, set, replicate, length-set, length-replicate, get_or-replicate}
use Rattle.outline.specs.Inner.{numbers}
use Rattle.outline.specs.Outline.{size, next, first, IsRecord}
use Rattle.outline.specs.WellFormed.{Later, Linked}
use Rattle.laws.proofs.Handing.{stored, Handing, handing_at, handing_goes, handing_ends}
use Rattle.sheet.specs.Inner.{no_place, place_of, Since, price_counts, branch_counts, FirstIn, FirstOut, Outsides, HasFirsts}
use Rattle.sheet.proofs.Places.{first_none, out_members, out_rest, branch_since}

-- ---- the first taxon of each chain: known for the empty chain, and for those that begin after record r
pub record Backwards (o s : List ℕ) (r : ℕ) (firsts : List ℕ) : Type 0 where
  pub most : r ≤ size o
  pub long : length firsts ≡ numbers
  pub none : FirstIn o s 0 (get_or firsts 0 0)
  pub later : (q : ℕ) → r < q → q ≤ size o → FirstIn o s q (get_or firsts q 0)

pub backwards_starts : (o s : List ℕ) → Backwards o s (size o) (replicate numbers no_place)
backwards_starts o s = record {
  most = omega arith;
  long = length-replicate {A = ℕ} numbers no_place;
  none = rw (get_or-replicate {A = ℕ} numbers 0 no_place 0 (omega arith)) (first_none o s);
  later = λ q l u. absurd (omega arith);
}

module _ {o s : List ℕ} {r : ℕ} {firsts : List ℕ} (b : Backwards o s r firsts) where
  -- the chains that the links of record r begin are known
  pub backwards_link : (q : ℕ) → Later o r q → FirstIn o s q (get_or firsts q 0)
  backwards_link zero h = b.none
  backwards_link (suc q) h = b.later (suc q) (h.later (omega arith)) h.most

  pub backwards_goes : {x : ℕ} → 0 < r → r < numbers → FirstIn o s r x → Backwards o s (r - 1) (set firsts r x)
  backwards_goes {x} l small f = record {
    most = omega (arith, b.most);
    long = length-set firsts r x ∙ b.long;
    none = stored (FirstIn o s) firsts r x 0 (omega (arith, b.long)) f (λ d. b.none);
    later = λ q h u. stored (FirstIn o s) firsts r x q (omega (arith, b.long)) f (λ d. b.later q (omega arith) u);
  }

-- the table, at the links of a record
module _ {o s firsts : List ℕ} {r : ℕ} (p : HasFirsts o s firsts) (i : IsRecord o r) where
  members_placed : FirstIn o s (first o r) (get_or firsts (first o r) 0)
  members_placed = p.firsts_are.at_link (first o r) (p.base.formed.linked.first_later r i.low i.high).most

  rest_placed : FirstIn o s (next o r) (get_or firsts (next o r) 0)
  rest_placed = p.firsts_are.at_link (next o r) (p.base.formed.linked.next_later r i.low i.high).most

-- ---- the first taxon outside each chain: known for the root's, and for those that a link of a record before r begins
abbrev pub Onwards : List ℕ → ℕ → List ℕ → ℕ → List ℕ → Type 0
Onwards o way s r outsides = Handing o (FirstOut o way s) r outsides

-- record r hands on what is outside the chain of its members, and outside the rest of its chain
pub onwards_goes : {o : List ℕ} (way : ℕ) {s : List ℕ} {r : ℕ} {outsides : List ℕ} → Onwards o way s r outsides
    → {firsts : List ℕ} {f n place around x y : ℕ} → HasFirsts o s firsts → r ≤ size o → f ≡ first o r → n ≡ next o r → place ≡ place_of s r
    → around ≡ min (get_or outsides r 0) place → x ≡ min around (get_or firsts n 0) → y ≡ min around (get_or firsts f 0)
    → Onwards o way s (r + 1) (set (set outsides f x) n y)
onwards_goes {o} way {s} {r} b p u ef en ep ea ex ey =
    let formed = p.base.formed in
    let i : IsRecord o r = record { low = b.low; high = u } in
    let out = handing_at b formed.linked u in
    handing_goes b formed u ef en (λ l. rw (ex, ea, ep, en, ef) (out_members formed i s way out (rest_placed p i)))
    (λ l. rw (ey, ea, ep, en, ef) (out_rest formed i s way out (members_placed p i)))

pub onwards_ends : {o : List ℕ} (way : ℕ) {s : List ℕ} {r : ℕ} {outsides : List ℕ} → Onwards o way s r outsides → Linked o → size o < r
    → Outsides o way s outsides
onwards_ends way b linked h = record { at_record = handing_ends b linked h }

-- both tables, at a record: the place from which on its branch counts
pub branch_at : {o s firsts outsides : List ℕ} (way : ℕ) {r n x y z : ℕ} → HasFirsts o s firsts → Outsides o way s outsides → IsRecord o r → n ≡ next o r
    → Since x (price_counts o s r) → y ≡ min (get_or outsides r 0) (get_or firsts n 0) → z ≡ max x y → Since z (branch_counts o way s r)
branch_at {s = s} way p out i en a ey ez = rw (ez, ey, en) (branch_since p.base.formed i s way (out.at_record _ i) a (rest_placed p i))
