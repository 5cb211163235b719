-- An outline whose chains ascend and whose records stand in text order is its own house form.
use Prim.Native.Nat.{ℕ, ◌+◌, ◌*◌, ◌-◌, ◌≤◌, ◌<◌}
use mathlib.Core.Path.{◌≡◌, sym, ap, ap₂, subst, ◌∙◌}
use mathlib.Core.List.{List, [], ◌∷◌, ◌++◌, append_assoc, append-nil}
use native.Mathlib.Omega.{arith}
use lib.ListN.{length, drop, drop_of_length-le}
use Rattle.lists.specs.Lists.{Bytes}
use Rattle.lists.proofs.Numbered.{Numbered, numbered_next, numbered_from, numbered_both}
use Rattle.outline.specs.Outline.{size, records, next, first, branch, price, plate_field, record_bytes, IsRecord}
use Rattle.outline.specs.WellFormed.{WellFormed}
use Rattle.outline.proofs.WellFormed.{accepted_formed}
use Rattle.diversity.specs.Order.{InTextOrder}
use Rattle.laws.specs.Forest.{Forest, node, records_in, tree}
use Rattle.laws.proofs.Chains.{length_total, clade_root, clade_size}
use Rattle.laws.proofs.Forest.{listed, total_listed, chain_listed, tree_zero, tree_step}
use Rattle.laws.proofs.Members.{Root, Split, head, rest, root_none, root_split, grow, chain_later}
use Rattle.records.proofs.Records.{record_split}
use Rattle.canonical.specs.SameTree.{Accepted}
use Rattle.canonical.specs.House.{smallest, link, written, house_form}
use Rattle.canonical.specs.Rules.{Ascending}
use Rattle.canonical.proofs.Sorting.{Ranked, ranked_none, ranked_more, sorted_same}

-- ---- its chains are in order
module _ (o : List ℕ) (formed : WellFormed o) (rule : Ascending o) where
  -- the chain that begins at x ascends, and x has the least
  record Rising (x : ℕ) : Type 0 where
    pub ranked : Ranked (smallest o) (tree o x)
    pub least : (q : ℕ) → Root q (tree o x) → smallest o x ≤ smallest o q

  rising : (x : ℕ) → x ≤ size o → Rising x
  rising = grow o formed.linked Rising (record { ranked = rw tree_zero ranked_none; least = λ q m. absurd (root_none q (rw tree_zero at m)) }) step
    where
      step : (r : ℕ) → IsRecord o r → Rising (first o r) → Rising (next o r) → Rising r
      step r i a b = record {
        ranked = rw (tree_step o formed.linked r i.low i.high) (ranked_more a.ranked b.ranked above);
        least = λ q m. least q (root_split q r (tree o (first o r)) (tree o (next o r)) (rw (tree_step o formed.linked r i.low i.high) at m));
      }
        where
          above : (q : ℕ) → Root q (tree o (next o r)) → smallest o r < smallest o q
          above q m =
              let n = formed.linked.next_later r i.low i.high in
              omega (arith, rule.ascends r i (chain_later o formed.linked (next o r) n.most q m).0, b.least q m)

          least : (q : ℕ) → Split q r (tree o (next o r)) → smallest o r ≤ smallest o q
          least q (head e) = omega (arith, ap (smallest o) e)
          least q (rest d m) = omega (arith, above q m)

-- ---- its bytes are its records as they come
listed_length : (F : Forest) → length (listed F) ≡ records_in F
listed_length F = length_total (listed F) ∙ total_listed (λ r. 1) F

module _ (o : List ℕ) (formed : WellFormed o) (small : Bytes o) where
  -- the bytes from number k on are the chain that begins at x, and what follows
  record Own (k x : ℕ) : Type 0 where
    pub link_is : link k (tree o x) ≡ x
    pub bytes_are : drop (16 * (k - 1)) o ≡ written o k (tree o x) ++ drop (16 * (k - 1 + records_in (tree o x))) o

  own : (x : ℕ) → x ≤ size o → (k : ℕ) → 1 ≤ k → Numbered k (listed (tree o x)) → Own k x
  unfolding written
  own = grow o formed.linked (λ x. (k : ℕ) → 1 ≤ k → Numbered k (listed (tree o x)) → Own k x) nothing step
    where
      nothing : (k : ℕ) → 1 ≤ k → Numbered k (listed (tree o 0)) → Own k 0
      nothing k l h =
          let e : k - 1 + 0 ≡ k - 1 = omega arith in
          record { link_is = ap (link k) (tree_zero o); bytes_are = rw (tree_zero o, e) }

      step : (r : ℕ) → IsRecord o r → ((k : ℕ) → 1 ≤ k → Numbered k (listed (tree o (first o r))) → Own k (first o r))
          → ((k : ℕ) → 1 ≤ k → Numbered k (listed (tree o (next o r))) → Own k (next o r)) → (k : ℕ) → 1 ≤ k → Numbered k (listed (tree o r)) → Own k r
      step r i below later k l h = go (rw (tree_step o formed.linked r i.low i.high) at h)
        where
          f : Forest
          f = tree o (first o r)

          n : Forest
          n = tree o (next o r)

          fields : List ℕ
          fields = record_bytes (next o r) (first o r) (branch o r) (price o r) (plate_field o r)

          after : ℕ
          after = r + 1 + records_in f

          -- the record, its members and the rest of its chain, one after the other
          joined : Own (r + 1) (first o r) → Own after (next o r) → Own r r
          joined a b = record { link_is = rw (tree_step o formed.linked r i.low i.high); bytes_are = rw (tree_step o formed.linked r i.low i.high) whole }
            where
              to_members : 16 * r ≡ 16 * (r + 1 - 1)
              to_members = omega arith

              to_rest : 16 * (r + 1 - 1 + records_in f) ≡ 16 * (after - 1)
              to_rest = omega arith

              to_end : 16 * (after - 1 + records_in n) ≡ 16 * (r - 1 + (1 + (records_in f + records_in n)))
              to_end = omega (arith, i.low)

              end : ℕ
              end = 16 * (r - 1 + (1 + (records_in f + records_in n)))

              members : drop (16 * r) o ≡ written o (r + 1) f ++ (written o after n ++ drop end o)
              members =
                  ap (λ j. drop j o) to_members ∙ a.bytes_are
                  ∙ ap (λ s. written o (r + 1) f ++ s) (ap (λ j. drop j o) to_rest ∙ b.bytes_are ∙ ap (λ j. written o after n ++ drop j o) to_end)

              own_fields : fields ≡ record_bytes (link after n) (link (r + 1) f) (branch o r) (price o r) (plate_field o r)
              own_fields = rw (b.link_is, a.link_is)

              whole : drop (16 * (r - 1)) o ≡ written o r (node r f n) ++ drop end o
              whole =
                  record_split o small r i ∙ ap₂ (λ (s : List ℕ) (t : List ℕ). s ++ t) own_fields members
                  ∙ sym (append_assoc (record_bytes (link after n) (link (r + 1) f) (branch o r) (price o r) (plate_field o r)) _ (drop end o)
                  ∙ ap (λ s. record_bytes (link after n) (link (r + 1) f) (branch o r) (price o r) (plate_field o r) ++ s)
                  (append_assoc (written o (r + 1) f) (written o after n) (drop end o)))

          go : {j : ℕ} → Numbered j (r ∷ (listed f ++ listed n)) → Own j r
          go (numbered_next t) =
              let both = numbered_both (listed f) (listed n) t in
              let there = subst (λ m. Numbered (r + 1 + m) (listed n)) (listed_length f) both.1 in
              joined (below (r + 1) (omega arith) both.0) (later after (omega arith) there)

  -- an outline in text order is its own tree, written
  own_written : InTextOrder o → written o 1 (tree o 1) ≡ o
  unfolding tree records
  own_written order =
      let all = own 1 formed.linked.filled 1 (omega arith) (subst (Numbered 1) (sym (sym (clade_root o formed.linked ∙ chain_listed (size o) o 1) ∙ order)) (numbered_from 1 (size o))) in
      let many : records_in (tree o 1) ≡ size o =
      sym (listed_length (tree o 1)) ∙ sym (ap length (chain_listed (size o) o 1)) ∙ ap length (sym (clade_root o formed.linked)) ∙ clade_size o formed.linked in
      let none : drop (16 * (1 - 1 + records_in (tree o 1))) o ≡ [] =
      drop_of_length-le o {i = 16 * (1 - 1 + records_in (tree o 1))} (omega (arith, many, formed.whole)) in
      sym (all.bytes_are ∙ rw none (append-nil (written o 1 (tree o 1))))

pub own_house : (o : List ℕ) → Accepted o → Ascending o → InTextOrder o → house_form o ≡ o
unfolding house_form
own_house o ac up order =
    let formed = accepted_formed o ac.passes in
    ap (written o 1) (sorted_same (smallest o) (rising o formed up 1 formed.linked.filled).ranked) ∙ own_written o formed ac.bytes order
