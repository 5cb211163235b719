-- Outlines that differ in prices only, with no price of the first above that of the second. What fits at the second's prices fits at the first's, with as
-- much diversity, and the best is no less. So for all prices between low and high, the choice at high prices fits, and the best lies
-- between those at high and at low prices.
use Rattle.std.specs.Prelude.{if◌then◌else◌}
use Prim.Native.Nat.{ℕ, ◌+◌, ◌*◌, ◌-◌, ◌%◌, ◌≤◌, ◌<◌}
use mathlib.Core.Path.{◌≡◌, refl, sym, ap₂, ◌∙◌}
use mathlib.Core.Bool.{Bool, true, false}
use mathlib.Core.List.{List}
use native.Mathlib.Omega.{arith}
use lib.ListN.{get_or}
use Rattle.outline.specs.Outline.{size, records, short, long, branch, IsRecord}
use Rattle.outline.specs.WellFormed.{Ranged, WellFormed}
use Rattle.diversity.specs.Behind.{IsSet, Fits}
use Rattle.diversity.specs.Diversity.{within, diversity, cost}
use Rattle.diversity.specs.Search.{optimum, best_diversity}
use Rattle.laws.specs.Locks.{locked_set}
use Rattle.laws.proofs.Accepted.{same_formed}
use Rattle.laws.proofs.Alike.{Alike, alike_back, alike_links, alike_size, alike_taxon, alike_within, alike_holds, alike_set, alike_diversity}
use Rattle.laws.proofs.Optimum.{optimum_set, optimum_fits, shown_diversity}
use Rattle.laws.proofs.Searches.{Passes, passed_fit, best_most}
use Rattle.laws.proofs.Sums.{total_range}
use Rattle.range.specs.Prices.{NoDearer, PricesBetween}
use Rattle.range.proofs.Places.{before_price, past_price}

module _ {o p : List ℕ} (d : NoDearer o p) where
  -- bytes 0 to 7 of a record, and 12 to 15
  early : (i : ℕ) → i % 16 < 8 → get_or p i 0 ≡ get_or o i 0
  early i h = d.others_same i (before_price i h)

  late : (i : ℕ) → 12 ≤ i % 16 → get_or p i 0 ≡ get_or o i 0
  late i h = d.others_same i (past_price i h)

  early_short : (i : ℕ) → (i + 1) % 16 < 8 → i % 16 < 8 → short p i ≡ short o i
  unfolding short
  early_short i h l = ap₂ (λ a b. a + 256 * b) (early i l) (early (i + 1) h)

  pub dearer_alike : Alike o p
  unfolding long short
  dearer_alike = record {
    as_long = d.as_long;
    nexts = λ r. early_short (16 * (r - 1)) (omega arith) (omega arith);
    firsts = λ r. early_short (16 * (r - 1) + 2) (omega arith) (omega arith);
    plate_fields = λ r.
        rw (
          late (16 * (r - 1) + 12) (omega arith),
          late (16 * (r - 1) + 12 + 1) (omega arith),
          late (16 * (r - 1) + 12 + 2) (omega arith),
          late (16 * (r - 1) + 12 + 2 + 1) (omega arith),
        );
  }

  pub dearer_lengths : (r : ℕ) → branch p r ≡ branch o r
  unfolding long
  dearer_lengths r =
      ap₂ (λ a b. a + 65536 * b) (early_short (16 * (r - 1) + 4) (omega arith) (omega arith)) (early_short (16 * (r - 1) + 4 + 2) (omega arith) (omega arith))

  -- a set's diversity is the same, and its cost no less
  pub dearer_diversity : (way : ℕ) (s : List ℕ) → diversity p way s ≡ diversity o way s
  dearer_diversity = alike_diversity dearer_alike dearer_lengths

  pub dearer_cost : (s : List ℕ) → cost o s ≤ cost p s
  unfolding cost records
  dearer_cost s =
      rw (alike_size dearer_alike)
      (total_range _ _ 1 (size o) (λ r l u. rw (alike_within dearer_alike s r) (go (within o s r) (d.no_above r (record { low = l; high = omega arith })))))
    where
      go : {m n : ℕ} (b : Bool) → m ≤ n → (if b then m else 0) ≤ (if b then n else 0)
      go true h = h
      go false h = omega arith

  -- what fits at the higher prices fits at the lower
  pub cheaper_passes : (b : ℕ) → Passes p o b
  cheaper_passes b s x f = (
    alike_set (alike_back dearer_alike) s x,
    record { cost_most = omega (arith, dearer_cost s, f.cost_most); locked_held = sym (alike_holds dearer_alike s) ∙ f.locked_held },
  )

  module _ (b : ℕ) (fit : cost p (locked_set p) ≤ b) where
    pub cheaper_fit : cost o (locked_set o) ≤ b
    cheaper_fit = passed_fit p o b (cheaper_passes b) fit

    -- the best is no less at the lower
    pub cheaper_best : (way : ℕ) → best_diversity p way b ≤ best_diversity o way b
    cheaper_best way =
        let most = best_most p o b (cheaper_passes b) fit way 0 (λ s x. omega (arith, dearer_diversity way s)) in
        omega arith

    -- and the best set at the higher is a set that fits at the lower, with as much diversity
    pub dear_set : (way : ℕ) → IsSet o (optimum p way b) × Fits o b (optimum p way b)
    dear_set way = cheaper_passes b (optimum p way b) (optimum_set p way b fit) (optimum_fits p way b fit)

    pub dear_diversity : (way : ℕ) → diversity o way (optimum p way b) ≡ best_diversity p way b
    dear_diversity way = sym (dearer_diversity way (optimum p way b)) ∙ sym (shown_diversity p way b fit)

  -- the rules that are kept at the higher prices are kept at the lower
  cheaper_ranged : (r : ℕ) → IsRecord p r → Ranged p r → Ranged o r
  cheaper_ranged r is own = record {
    branch_most = rw (← dearer_lengths r) own.branch_most;
    price_most = omega (arith, d.no_above r (record { low = is.low; high = omega (arith, is.high, alike_size dearer_alike) }), own.price_most);
    taxon_plate = λ t. rw ((alike_links (alike_back dearer_alike)).plates r is) (own.taxon_plate (alike_taxon dearer_alike r ∙ t));
    group_plate = λ t. sym (dearer_alike.plate_fields r) ∙ own.group_plate (alike_taxon dearer_alike r ∙ t);
  }

  pub cheaper_formed : WellFormed p → WellFormed o
  cheaper_formed formed =
      same_formed p o (alike_links (alike_back dearer_alike)) formed
      (λ r is. cheaper_ranged r is (formed.ranged r is.low is.high))

-- low and high prices are themselves between
no_dearer_self : (o : List ℕ) → NoDearer o o
no_dearer_self o = record { as_long = refl; others_same = λ i e. refl; no_above = λ r is. omega arith }

pub low_between : {low high : List ℕ} → NoDearer low high → PricesBetween low low high
low_between {low} d = record { from_low = no_dearer_self low; to_high = d }

pub high_between : {low high : List ℕ} → NoDearer low high → PricesBetween low high high
high_between {high = high} d = record { from_low = d; to_high = no_dearer_self high }
