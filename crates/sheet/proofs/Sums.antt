-- The sheet adds up: what a column sums to, how many rows there are, and where each taxon's row stands.
use Rattle.std.specs.Prelude.{if◌then◌else◌}
use Rattle.std.proofs.lemmas.List.{get_or-append-add}
use Prim.Native.Nat.{ℕ, zero, suc, ◌+◌, ◌*◌, ◌-◌, ◌≤◌, ◌<◌}
use mathlib.Core.Path.{◌≡◌, refl, sym, ap, fun_ext, ◌∙◌}
use mathlib.Core.Bool.{Bool, true, false, ◌&&◌, and-true, and-false}
use mathlib.Core.List.{List, [], ◌∷◌, ◌++◌}
use native.Mathlib.Omega.{arith}
use lib.Dec.{ltb}
use lib.ListN.{length, get_or, take, length-append, get_or-append}
use lib.Seq.{take-length}
use borrow.Author.Tests.{ltb-true, ltb-false}
use Rattle.lists.specs.Lists.{one, from, total, over}
use Rattle.lists.proofs.Buffers.{over_at_lem}
use Rattle.lists.proofs.Walk.{from_both, from_last}
use Rattle.outline.specs.Outline.{size, records, is_taxon}
use Rattle.diversity.specs.Diversity.{chosen, diversity, cost, chosen_taxa}
use Rattle.diversity.specs.Behind.{IsSet}
use Rattle.laws.proofs.Marks.{group_unchosen}
use Rattle.laws.proofs.Prefixes.{taxa_step, cost_step, diversity_step, cost_stays, diversity_stays, cost_nothing, diversity_nothing, taxa_nothing}
use Rattle.laws.proofs.Sums.{total_append, total_scale, total_ext, total_below}
use Rattle.text.specs.Text.{texts}
use Rattle.text.proofs.Texts.{texts_length, texts_both, texts_last}
use Rattle.sheet.specs.Demands.{After}
use Rattle.sheet.specs.Sheet.{added, row_of, rows_of, sum_of}
use Rattle.outline.specs.Rules.{taxa_in, taxa}

-- one number more
total_last : (f : ℕ → ℕ) (n : ℕ) → total f (from 1 (suc n)) ≡ total f (from 1 n) + f (suc n)
unfolding total
total_last f n =
    let last : 1 + n ≡ suc n = omega arith in
    ap (total f) (from_last 1 n) ∙ total_append f (from 1 n) ((1 + n) ∷ []) ∙ omega (arith, ap f last)

-- ---- what a column sums to: a measure that falls at no record and stays where none is chosen
module _ (s : List ℕ) (measure : List ℕ → ℕ) (nothing : measure [] ≡ 0) (grows : (i : ℕ) → measure (take i s) ≤ measure (take (suc i) s))
    (stays : (i : ℕ) → chosen s (suc i) ≡ false → measure (take (suc i) s) ≡ measure (take i s)) where
  telescoped : (i : ℕ) → total (λ r. if chosen s r then added measure s r else 0) (from 1 i) ≡ measure (take i s)
  unfolding total from
  telescoped zero = sym nothing
  telescoped (suc i) = total_last _ i ∙ go (chosen s (suc i)) refl (telescoped i)
    where
      before : measure (take (suc i - 1) s) ≡ measure (take i s)
      before = let e : suc i - 1 ≡ i = omega arith in rw e

      go : (b : Bool) → chosen s (suc i) ≡ b → total (λ r. if chosen s r then added measure s r else 0) (from 1 i) ≡ measure (take i s)
          → total (λ r. if chosen s r then added measure s r else 0) (from 1 i) + (if b then added measure s (suc i) else 0) ≡ measure (take (suc i) s)
      go true e ih = omega (arith, ih, before, grows i)
      go false e ih = omega (arith, ih, stays i e)

module _ (o s : List ℕ) (whole : length s ≡ size o) where
  all : take (size o) s ≡ s
  all = rw (← whole) (take-length s)

  pub quarters_sum : sum_of (cost o) o s ≡ cost o s
  unfolding sum_of records
  quarters_sum = telescoped s (cost o) (cost_nothing o) (λ i. cost_step s i o) (λ i e. cost_stays s i e o) (size o) ∙ ap (cost o) all

  pub diversity_sum : (way : ℕ) → sum_of (diversity o way) o s ≡ diversity o way s
  unfolding sum_of records
  diversity_sum way =
      telescoped s (diversity o way) (diversity_nothing o way) (λ i. diversity_step s i o way) (λ i e. diversity_stays s i e o way) (size o)
      ∙ ap (diversity o way) all

-- ---- where a row stands
-- three numbers for each chosen record
pub threes : (s : List ℕ) (f : ℕ → List ℕ) → ((r : ℕ) → length (f r) ≡ 3 * one (chosen s r)) → (rs : List ℕ)
    → length (texts f rs) ≡ 3 * total (λ r. one (chosen s r)) rs
threes s f each rs =
    texts_length f rs ∙ ap (λ (g : ℕ → ℕ). total g rs) (fun_ext each) ∙ total_scale 3 (λ r. one (chosen s r)) rs

-- the taxa up to a record, counted
count_up_to : (o s : List ℕ) (i : ℕ) → i ≤ size o → chosen_taxa o (take i s) ≡ total (λ r. one (chosen s r)) (from 1 i)
unfolding total from
count_up_to o s zero h = taxa_nothing o
count_up_to o s (suc i) h =
    omega (arith, taxa_step s i o h, count_up_to o s i (omega arith), total_last (λ r. one (chosen s r)) i)

module _ (o : List ℕ) (way : ℕ) (s : List ℕ) where
  -- the row of record r, where it is chosen
  abbrev row_at : ℕ → List ℕ
  row_at r = if chosen s r then row_of o way s r else []

  one_more : (i : ℕ) → texts row_at (from 1 (suc i)) ≡ texts row_at (from 1 i) ++ row_at (suc i)
  one_more i = let last : 1 + i ≡ suc i = omega arith in texts_last row_at 1 i ∙ ap (λ r. texts row_at (from 1 i) ++ row_at r) last

  row_long : (r : ℕ) → length (row_at r) ≡ 3 * one (chosen s r)
  unfolding row_of
  row_long r = go (chosen s r)
    where
      go : (b : Bool) → length (if b then row_of o way s r else []) ≡ 3 * one b
      go true = refl
      go false = refl

  rows_so_far : (i : ℕ) → i ≤ size o → length (texts row_at (from 1 i)) ≡ 3 * chosen_taxa o (take i s)
  rows_so_far i h = threes s row_at row_long (from 1 i) ∙ ap (λ k. 3 * k) (sym (count_up_to o s i h))

  pub rows_long : length (rows_of o way s) ≡ 3 * chosen_taxa o s
  unfolding rows_of chosen_taxa
  rows_long = threes s row_at row_long (records o)

  -- a chosen taxon's row stands behind those of the taxa before it
  module _ (i j : ℕ) (h : i < size o) (e : chosen s (suc i) ≡ true) (l : j < 3) where
    abbrev place : ℕ
    place = 3 * chosen_taxa o (take i s) + j

    in_part : place < length (texts row_at (from 1 (suc i)))
    in_part = omega (arith, rows_so_far (suc i) h, taxa_step s i o h, ap one e)

    parts : rows_of o way s ≡ texts row_at (from 1 (suc i)) ++ texts row_at (from (1 + suc i) (size o - suc i))
    unfolding rows_of records
    parts =
        let n : size o ≡ suc i + (size o - suc i) = omega arith in
        ap (λ k. texts row_at (from 1 k)) n
        ∙ ap (texts row_at) (from_both 1 (suc i) (size o - suc i))
        ∙ texts_both row_at (from 1 (suc i)) (from (1 + suc i) (size o - suc i))

    row_inside : place < length (rows_of o way s)
    row_inside = rw (parts, length-append) (omega (arith, in_part))

    row_stands : get_or (rows_of o way s) place 0 ≡ get_or (row_of o way s (suc i)) j 0
    row_stands =
        let there : place ≡ length (texts row_at (from 1 i)) + j = omega (arith, rows_so_far i (omega arith)) in
        ap (λ xs. get_or xs place 0) parts
        ∙ get_or-append (texts row_at (from 1 (suc i))) _ 0 place in_part
        ∙ ap (λ xs. get_or xs place 0) (one_more i ∙ ap (λ b. texts row_at (from 1 i) ++ (if b then row_of o way s (suc i) else [])) e)
        ∙ ap (λ n. get_or (texts row_at (from 1 i) ++ row_of o way s (suc i)) n 0) there
        ∙ get_or-append-add (texts row_at (from 1 i)) (row_of o way s (suc i)) j 0

    -- and so it does in a sheet that the rows are written over
    pub row_over : (lent : List ℕ) → get_or (over (rows_of o way s) lent) place 0 ≡ get_or (row_of o way s (suc i)) j 0
    row_over lent = over_at_lem (rows_of o way s) lent place row_inside ∙ row_stands

-- a set has at most as many taxa as there are
pub set_few : (o s : List ℕ) → IsSet o s → chosen_taxa o s ≤ taxa o
unfolding chosen_taxa taxa taxa_in records
set_few o s x =
    omega (
      arith,
      total_ext (λ r. one (chosen s r)) (λ r. one (chosen s r && is_taxon o r)) 1 (size o) (λ r l u. ap one (taxon_only r l (omega arith) (is_taxon o r) refl)),
      total_below (λ r. one (chosen s r && is_taxon o r)) (λ r. one (is_taxon o r)) (records o) (λ r. second_least (chosen s r) (is_taxon o r)),
    )
  where
    taxon_only : (r : ℕ) → 1 ≤ r → r ≤ size o → (t : Bool) → is_taxon o r ≡ t → chosen s r ≡ (chosen s r && t)
    taxon_only r l u true e = sym (and-true (chosen s r))
    taxon_only r l u false e = group_unchosen o s x r l u e ∙ sym (and-false (chosen s r))

    second_least : (a b : Bool) → one (a && b) ≤ one b
    second_least true b = omega arith
    second_least false b = omega arith

-- the taxon that has k of the set's taxa before it
pub kth_taxon : (o s : List ℕ) (n k : ℕ) → n ≤ size o → k < chosen_taxa o (take n s) → (t : ℕ) × After o s k t
kth_taxon o s zero k h l = absurd (omega (arith, taxa_nothing o))
kth_taxon o s (suc i) k h l = go (chosen s (suc i)) refl (ltb k (chosen_taxa o (take i s))) refl (kth_taxon o s i k (omega arith))
  where
    go : (b : Bool) → chosen s (suc i) ≡ b → (c : Bool) → ltb k (chosen_taxa o (take i s)) ≡ c
        → (k < chosen_taxa o (take i s) → (t : ℕ) × After o s k t) → (t : ℕ) × After o s k t
    go b e true d earlier = earlier (ltb-true _ _ d)
    go false e false d earlier = earlier (omega (arith, taxa_step s i o h, ap one e))
    go true e false d earlier =
        let last : k ≡ chosen_taxa o (take i s) = omega (arith, taxa_step s i o h, ap one e, ltb-false k (chosen_taxa o (take i s)) d) in
        let place : suc i - 1 ≡ i = omega arith in (
          suc i,
          record {
            is_record = record { low = omega arith; high = omega arith };
            is_chosen = e;
            before = ap (λ j. chosen_taxa o (take j s)) place ∙ sym last;
          },
        )
