-- The weights of records, from the last to the first: doubled before each taxon, below 2 to the number of all taxa.
use Rattle.std.specs.Prelude.{if◌then◌else◌}
use Prim.Native.Nat.{ℕ, suc, ◌+◌, ◌*◌, ◌-◌, ◌^◌, ◌<◌, ◌≤◌}
use mathlib.Core.Path.{◌≡◌, ap}
use mathlib.Core.Bool.{Bool, true, false}
use mathlib.Core.List.{List}
use native.Mathlib.Omega.{arith}
use native.Mathlib.Nat.{pow-succ'}
use native.Mathlib.Numerals.{one-add}
use lib.Pow.{pow_mono}
use Rattle.lists.specs.Lists.{one, from, total}
use Rattle.outline.specs.Outline.{size, records, is_taxon}
use Rattle.outline.specs.WellFormed.{WellFormed}
use Rattle.laws.specs.Numbers.{weight}
use Rattle.laws.proofs.Sums.{total_term}
use Rattle.laws.proofs.Numbers.{weights_below}
use Rattle.outline.specs.Rules.{taxa_in, most_taxa}

module _ (o : List ℕ) where
  pub weight_last : weight o (size o) ≡ 1
  unfolding weight taxa_in from total
  weight_last =
      let e : size o - size o ≡ 0 = omega arith in
      rw e

  doubled : (t : Bool) (k : ℕ) → 2 ^ (one t + k) ≡ (if t then 2 * 2 ^ k else 2 ^ k)
  doubled true k = rw one-add (pow-succ' 2 k)
  doubled false k = ap (λ j. 2 ^ j) (omega arith)

  weight_after : (p : ℕ) → p < size o → weight o p ≡ (if is_taxon o (p + 1) then 2 * weight o (p + 1) else weight o (p + 1))
  unfolding weight taxa_in from total
  weight_after p h =
      let e : size o - p ≡ suc (size o - (p + 1)) = omega arith in
      rw e (doubled (is_taxon o (p + 1)) _)

  -- the record before q weighs twice as much if q is a taxon
  pub weight_before : (q : ℕ) → 1 ≤ q → q ≤ size o → weight o (q - 1) ≡ (if is_taxon o q then 2 * weight o q else weight o q)
  weight_before q l u =
      let e : q - 1 + 1 ≡ q = omega arith in
      rw e at (weight_after (q - 1) (omega arith))

  -- of an accepted outline, a taxon's weight is a number of 64 bits
  pub weight_limit : WellFormed o → (r : ℕ) → 1 ≤ r → r ≤ size o → is_taxon o r ≡ true → weight o r < 2 ^ most_taxa
  unfolding records
  weight_limit formed r l u t =
      let term : (if is_taxon o r then weight o r else 0) ≤ total (λ q. if is_taxon o q then weight o q else 0) (records o) =
      total_term (λ q. if is_taxon o q then weight o q else 0) r 1 (size o) l (omega arith) in
      let here : (if is_taxon o r then weight o r else 0) ≡ weight o r = rw t in
      omega (arith, term, here, weights_below o, pow_mono formed.taxa_most)
