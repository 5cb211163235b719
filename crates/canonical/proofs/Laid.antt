-- A forest of an outline's records that is written in text order, read back: fields, links, the order of the records, and how often each
-- number is named.
use Prim.Native.Nat.{ℕ, suc, ◌+◌, ◌*◌, ◌-◌, ◌≤◌}
use mathlib.Core.Path.{◌≡◌, refl, sym, ap, ap₂, ◌∙◌}
use mathlib.Core.List.{List, ◌∷◌, ◌++◌, append_assoc}
use native.Mathlib.Omega.{arith}
use lib.Dec.{eqb}
use lib.ListN.{length, drop, length-append}
use borrow.Author.Tests.{ne_eqb}
use Rattle.lists.specs.Lists.{one, from, total, Bytes}
use Rattle.lists.proofs.Bools.{eqb_comm}
use Rattle.lists.proofs.Pieces.{after_list}
use Rattle.outline.specs.Outline.{size, next, first, branch, price, plate_field, record_bytes}
use Rattle.outline.specs.WellFormed.{Linked, WellFormed}
use Rattle.outline.specs.Rules.{naming}
use Rattle.laws.specs.Forest.{Forest, empty, node, sum_in, records_in, tree}
use Rattle.laws.proofs.Forest.{listed, tree_zero, tree_step}
use Rattle.laws.proofs.Sums.{occurs, total_append}
use Rattle.lists.proofs.Walk.{from_both}
use Rattle.records.proofs.Records.{record_length, Fields, fields_back, long_small}
use Rattle.canonical.specs.House.{link, written}
use Rattle.canonical.proofs.Sorting.{All, all_none, all_more, Full}
use Rattle.canonical.proofs.Places.{At, at_here, at_below, at_rest}

-- sixteen bytes for each record
pub written_length : (o : List ℕ) (k : ℕ) (F : Forest) → length (written o k F) ≡ 16 * records_in F
unfolding written
written_length o k empty = refl
written_length o k (node r f n) =
    let next = link (k + 1 + records_in f) n in
    length-append (record_bytes next (link (k + 1) f) (branch o r) (price o r) (plate_field o r)) _
    ∙ omega (
      arith,
      record_length next (link (k + 1) f) (branch o r) (price o r) (plate_field o r),
      length-append (written o (k + 1) f) (written o (k + 1 + records_in f) n),
      written_length o (k + 1) f,
      written_length o (k + 1 + records_in f) n,
    )

-- record k of h has these links, and the other fields of record r of o
pub record Entry (o h : List ℕ) (k r next' first' : ℕ) : Type 0 where
  pub next_is : next h k ≡ next'
  pub first_is : first h k ≡ first'
  pub branch_is : branch h k ≡ branch o r
  pub price_is : price h k ≡ price o r
  pub field_is : plate_field h k ≡ plate_field o r

-- the records of h from number k on are a forest of records of o in text order
pub data Laid (o h : List ℕ) : ℕ → Forest → Type 0 where
  laid_none : {k : ℕ} → Laid o h k empty
  laid_more : {k r : ℕ} {f n : Forest} → Entry o h k r (link (k + 1 + records_in f) n) (link (k + 1) f)
      → Laid o h (k + 1) f → Laid o h (k + 1 + records_in f) n → Laid o h k (node r f n)

-- a link is 0, or the number of the chain's first record
link_most : (k : ℕ) (F : Forest) → link k F ≤ k
link_most k empty = omega arith
link_most k (node r f n) = omega arith

-- what is written of records whose fields are in their ranges is read back
module _ (o h : List ℕ) (formed : WellFormed o) (small : Bytes o) where
  pub laid : {F : Forest} → All (Full o) F → (k : ℕ) → 1 ≤ k → k + records_in F ≤ 65535 → (rest : List ℕ)
      → drop (16 * (k - 1)) h ≡ written o k F ++ rest → Laid o h k F
  unfolding written
  laid all_none k l u rest e = laid_none
  laid (all_more {r} {f} {n} x b c) k l u rest e =
      laid_more entry (laid b (k + 1) (omega arith) (omega arith) (written o after n ++ rest) below)
      (laid c after (omega arith) (omega arith) rest later)
    where
      after : ℕ
      after = k + 1 + records_in f

      own : List ℕ
      own = record_bytes (link after n) (link (k + 1) f) (branch o r) (price o r) (plate_field o r)

      whole : drop (16 * (k - 1)) h ≡ own ++ (written o (k + 1) f ++ (written o after n ++ rest))
      whole = e ∙ append_assoc own _ rest ∙ ap (λ s. own ++ s) (append_assoc (written o (k + 1) f) (written o after n) rest)

      fields : Fields h k (link after n) (link (k + 1) f) (branch o r) (price o r) (plate_field o r)
      fields = fields_back h k (link after n) (link (k + 1) f) (branch o r) (price o r) (plate_field o r) _ whole

      entry : Entry o h k r (link after n) (link (k + 1) f)
      entry =
          let ranged = formed.ranged r x.is_record.low x.is_record.high in
          record {
            next_is = omega (arith, fields.next_is, link_most after n);
            first_is = omega (arith, fields.first_is, link_most (k + 1) f);
            branch_is = omega (arith, fields.branch_is, ranged.branch_most);
            price_is = omega (arith, fields.price_is, ranged.price_most);
            field_is = omega (arith, fields.field_is, long_small o small (16 * (r - 1) + 12));
          }

      below : drop (16 * (k + 1 - 1)) h ≡ written o (k + 1) f ++ (written o after n ++ rest)
      below =
          let at : 16 * (k + 1 - 1) ≡ 16 * (k - 1) + 16 = omega arith in
          ap (λ i. drop i h) at
          ∙ after_list h (16 * (k - 1)) 16 own _ (record_length (link after n) (link (k + 1) f) (branch o r) (price o r) (plate_field o r)) whole

      later : drop (16 * (after - 1)) h ≡ written o after n ++ rest
      later =
          let at : 16 * (after - 1) ≡ 16 * (k + 1 - 1) + 16 * records_in f = omega arith in
          ap (λ i. drop i h) at ∙ after_list h (16 * (k + 1 - 1)) (16 * records_in f) (written o (k + 1) f) _ (written_length o (k + 1) f) below

-- the entry of a record that gets number j
pub laid_at : {o h : List ℕ} {F g m : Forest} {k j r : ℕ} → Laid o h k F → At F k j r g m
    → Entry o h j r (link (j + 1 + records_in g) m) (link (j + 1) g)
laid_at laid_none a = elim a [ ]
laid_at (laid_more e x y) at_here = e
laid_at (laid_more e x y) (at_below a) = laid_at x a
laid_at (laid_more e x y) (at_rest a) = laid_at y a

-- the numbers of a record, of what is below it, and of the rest of its chain
numbers_node : (k m n : ℕ) → from k (1 + (m + n)) ≡ k ∷ (from (k + 1) m ++ from (k + 1 + m) n)
unfolding from
numbers_node k m n =
    let e : 1 + (m + n) ≡ suc (m + n) = omega arith in
    ap (from k) e ∙ ap (λ (xs : List ℕ). k ∷ xs) (from_both (k + 1) m n)

total_node : (w : ℕ → ℕ) (k m n : ℕ) → total w (from k (1 + (m + n))) ≡ w k + (total w (from (k + 1) m) + total w (from (k + 1 + m) n))
unfolding total
total_node w k m n = ap (total w) (numbers_node k m n) ∙ ap (λ x. w k + x) (total_append w (from (k + 1) m) (from (k + 1 + m) n))

-- each number is named once, but the first
pub laid_named : {o h : List ℕ} (q : ℕ) → 1 ≤ q → {k : ℕ} {F : Forest} → Laid o h k F
    → total (naming h q) (from k (records_in F)) + one (eqb q (link k F)) ≡ occurs q (from k (records_in F))
unfolding total from naming
laid_named q l laid_none = omega (arith, ap one (ne_eqb q 0 (λ e. omega arith)))
laid_named {h = h} q l (laid_more {k} {r} {f} {n} e x y) =
    omega (
      arith,
      total_node (naming h q) k (records_in f) (records_in n),
      total_node (λ j. one (eqb q j)) k (records_in f) (records_in n),
      laid_named q l x,
      laid_named q l y,
      ap (λ j. one (eqb j q)) e.next_is,
      ap (λ j. one (eqb j q)) e.first_is,
      ap one (eqb_comm (link (k + 1 + records_in f) n) q),
      ap one (eqb_comm (link (k + 1) f) q),
    )

-- sums over the numbers are sums over the records that have them
pub laid_total : {o h : List ℕ} (v w : ℕ → ℕ) → {k : ℕ} {F : Forest} → Laid o h k F
    → ((j r : ℕ) (g m : Forest) → At F k j r g m → v j ≡ w r) → total v (from k (records_in F)) ≡ sum_in (λ r f. w r) F
unfolding total from
laid_total v w laid_none same = refl
laid_total v w (laid_more {k} {r} {f} {n} e x y) same =
    omega (
      arith,
      total_node v k (records_in f) (records_in n),
      same k r f n at_here,
      laid_total v w x (λ j q g m a. same j q g m (at_below a)),
      laid_total v w y (λ j q g m a. same j q g m (at_rest a)),
    )

-- its links lead through the numbers as they come
pub laid_listed : {o h : List ℕ} → Linked h → {k : ℕ} {F : Forest} → Laid o h k F → 1 ≤ k → k + records_in F ≤ size h + 1
    → listed (tree h (link k F)) ≡ from k (records_in F)
unfolding from
laid_listed {h = h} linked laid_none l u = ap listed (tree_zero h)
laid_listed {h = h} linked (laid_more {k} {r} {f} {n} e x y) l u =
    ap listed (tree_step h linked k l (omega arith))
    ∙ ap₂ (λ (i : ℕ) (j : ℕ). k ∷ (listed (tree h i) ++ listed (tree h j))) e.first_is e.next_is
    ∙ ap₂ (λ (xs : List ℕ) (ys : List ℕ). k ∷ (xs ++ ys)) (laid_listed linked x (omega arith) (omega arith)) (laid_listed linked y (omega arith) (omega arith))
    ∙ sym (numbers_node k (records_in f) (records_in n))
