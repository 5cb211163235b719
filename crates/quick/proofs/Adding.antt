-- What the records would add, one after the other: the sums, and what is told of the record that is looked at.
use Rattle.std.specs.Array.{AllOfLen}
use Rattle.std.proofs.lemmas.List.{ext_get_or}
use Prim.Native.Nat.{ℕ, ◌+◌, ◌≤◌, ◌<◌}
use mathlib.Core.Path.{◌≡◌, refl, sym, ap, ◌∙◌}
use mathlib.Core.Bool.{Bool, true, false, ◌&&◌, not, and-false}
use mathlib.Core.List.{List}
use native.Mathlib.Omega.{arith}
use lib.Dec.{eqb, leb}
use lib.ListN.{get_or, set, replicate, length-set, length-replicate}
use lib.Seq.{get_or-set_same, get_or-set_other}
use borrow.Author.Tests.{eqb-true, eqb-false}
use Rattle.outline.specs.Inner.{numbers}
use Rattle.outline.specs.Outline.{branch, price, is_taxon}
use Rattle.outline.specs.WellFormed.{WellFormed}
use Rattle.diversity.specs.Diversity.{chosen, within}
use Rattle.laws.proofs.Sums.{if_zero}
use Rattle.measures.proofs.Locking.{zeros_at}
use Rattle.quick.specs.Quick.{with_taxon, added, added_cost, can_pick, in_hand}
use Rattle.quick.specs.Inner.{GainsUpTo, SumsUpTo, NoSums, SumsLong, CanAdd, AddedUp, Known, LookAt, ceiling_part}
use Rattle.quick.specs.declared.sums.Sums.{Sums}
use Rattle.quick.specs.declared.ways.Ways.{Ways}
use Rattle.quick.proofs.Along.{gain_held, gain_up}
use Rattle.quick.proofs.Bounds.{added_bound, cost_bound}
use Rattle.quick.proofs.Taxon.{added_sum, added_cost_sum, cost_with}
use Rattle.quick.proofs.Upwards.{parents_earlier}

-- ---- one table
module _ {gain : ℕ → ℕ} where
  gains_start : GainsUpTo gain 1 (replicate numbers 0)
  gains_start = record {
    long = length-replicate {A = ℕ} numbers 0;
    none = zeros_at numbers 0;
    before = λ q l u. absurd (omega arith);
    rest = λ q l. zeros_at numbers q;
  }

  module _ {r : ℕ} {table : List ℕ} (g : GainsUpTo gain r table) where
    -- record r adds nothing
    gains_pass : gain r ≡ 0 → GainsUpTo gain (r + 1) table
    gains_pass z = record { long = g.long; none = g.none; before = λ q l u. go q l u (eqb q r) refl; rest = λ q l. g.rest q (omega arith) }
      where
        go : (q : ℕ) → 1 ≤ q → q < r + 1 → (b : Bool) → eqb q r ≡ b → get_or table q 0 ≡ gain q
        go q l u true e = let same = eqb-true q r e in g.rest q (omega arith) ∙ sym (ap gain same ∙ z)
        go q l u false e = let other = eqb-false q r e in g.before q l (omega arith)

    -- record r adds v
    gains_add : {v : ℕ} → 1 ≤ r → r < numbers → v ≡ gain r → GainsUpTo gain (r + 1) (set table r v)
    gains_add {v} low inside e = record {
      long = length-set table r v ∙ g.long;
      none = beside 0 (λ z. omega arith) ∙ g.none;
      before = λ q l u. go q l u (eqb q r) refl;
      rest = λ q l. beside q (λ z. omega arith) ∙ g.rest q (omega arith);
    }
      where
        beside : (q : ℕ) → (q ≡ r → ⊥) → get_or (set table r v) q 0 ≡ get_or table q 0
        beside q d = get_or-set_other table r q v 0 d

        go : (q : ℕ) → 1 ≤ q → q < r + 1 → (b : Bool) → eqb q r ≡ b → get_or (set table r v) q 0 ≡ gain q
        go q l u true d = rw (eqb-true q r d) (get_or-set_same table r v 0 (omega (arith, g.long)) ∙ e)
        go q l u false d = let other = eqb-false q r d in beside q other ∙ g.before q l (omega arith)

-- ---- both
-- a table as `default` makes it
zeros : {n : ℕ} {table : List ℕ} → AllOfLen (λ k. k ≡ 0) table n → table ≡ replicate n 0
zeros {n} {table} a =
    ext_get_or 0 table (replicate n 0) (a.long ∙ sym (length-replicate {A = ℕ} n 0)) (λ i l. a.at i 0 (omega (arith, a.long)) ∙ sym (zeros_at n i))

pub no_sums : (sums : Sums) → AllOfLen (λ k. k ≡ 0) sums.added numbers × AllOfLen (λ k. k ≡ 0) sums.costs numbers → NoSums sums
no_sums sums (added, costs) = record { added_are = zeros added; costs_are = zeros costs }

pub sums_start : {o s : List ℕ} {sums : Sums} → NoSums sums → SumsUpTo o s 1 sums
sums_start n = record { added_are = rw n.added_are gains_start; costs_are = rw n.costs_are gains_start }

module _ {o s : List ℕ} {r : ℕ} {sums : Sums} (u : SumsUpTo o s r sums) where
  pub sums_long : SumsLong sums
  sums_long = record { added_long = u.added_are.long; costs_long = u.costs_are.long }

  pub known_before : (q : ℕ) → 1 ≤ q → q < r → Known o s sums q
  known_before q l h = (u.added_are.before q l h, u.costs_are.before q l h)

-- ---- the record that is looked at
module _ {o s : List ℕ} {w : Ways} {sums : Sums} {r : ℕ} (l : LookAt o s w sums r) where
  abbrev formed : WellFormed o
  formed = l.ready.base.formed

  -- it is held
  module _ (e : get_or w.held r false ≡ true) where
    counts : within o s r ≡ true
    counts = sym (l.ready.held_are.at_record r l.is_record) ∙ e

    pub adds_nothing : added o s r ≡ 0
    adds_nothing = gain_held o formed.linked s l.ready.base.is_set (branch o) (added_sum o s) l.is_record counts

    costs_nothing : added_cost o s r ≡ 0
    costs_nothing = gain_held o formed.linked s l.ready.base.is_set (price o) (added_cost_sum o s) l.is_record counts

    pub sums_pass : SumsUpTo o s (r + 1) sums
    sums_pass = record { added_are = gains_pass l.sums_are.added_are adds_nothing; costs_are = gains_pass l.sums_are.costs_are costs_nothing }

    -- so it is not picked
    pub held_kept : (b hand : ℕ) → hand ≡ in_hand o b s hand r
    unfolding in_hand can_pick
    held_kept b hand = rw (adds_nothing, and-false, and-false, and-false) refl

    -- and counts for nothing
    pub held_part : (b : ℕ) → 0 ≡ ceiling_part o b s r
    held_part b = rw adds_nothing (sym (if_zero (is_taxon o r && (not (chosen s r) && leb (price o r) b))))

  -- it is not
  module _ (n : get_or w.held r false ≡ false) where
    fresh : within o s r ≡ false
    fresh = sym (l.ready.held_are.at_record r l.is_record) ∙ n

    added_up : get_or sums.added (get_or w.parents r 0) 0 + branch o r ≡ added o s r
    added_up =
        gain_up o formed.linked s l.ready.base.is_set (branch o) (added_sum o s) l.sums_are.added_are l.is_record
        (l.ready.parents_are.at_record r l.is_record) fresh

    cost_up : get_or sums.costs (get_or w.parents r 0) 0 + price o r ≡ added_cost o s r
    cost_up =
        gain_up o formed.linked s l.ready.base.is_set (price o) (added_cost_sum o s) l.sums_are.costs_are l.is_record
        (l.ready.parents_are.at_record r l.is_record) fresh

    pub can_add : CanAdd o w.parents sums r
    can_add = record {
      few = formed.size_most;
      is_record = l.is_record;
      parent_before = parents_earlier formed.linked l.ready.parents_are r l.is_record.low l.is_record.high;
      lengths = sums_long l.sums_are;
      added_fits = omega (arith, added_up, added_bound o formed s r, formed.size_most);
      costs_fit = omega (arith, cost_up, cost_with o s r, cost_bound o formed (with_taxon s r), formed.size_most);
    }

    pub sums_add : {new : Sums} → AddedUp o w.parents r sums new → SumsUpTo o s (r + 1) new
    sums_add a =
        let inside : r < numbers = omega (arith, l.is_record.high, formed.size_most) in
        record {
          added_are = rw a.added_set (gains_add l.sums_are.added_are l.is_record.low inside added_up);
          costs_are = rw a.costs_set (gains_add l.sums_are.costs_are l.is_record.low inside cost_up);
        }
