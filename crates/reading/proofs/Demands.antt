-- What is promised of every call: what the contract of `read` says of the answer and the outline is what the words ask.
use Rattle.std.specs.Prelude.{Result}
use Prim.Native.Nat.{ℕ, suc, ◌*◌, ◌≤◌}
use mathlib.Core.Path.{◌≡◌, refl, sym, ap, subst, ◌∙◌}
use mathlib.Core.Logic.{◌↔◌}
use mathlib.Core.Bool.{Bool, true, false, false≢true}
use mathlib.Core.List.{List, [], ◌∷◌, ◌++◌}
use native.Mathlib.Omega.{arith}
use lib.Dec.{ltb}
use lib.ListN.{length, take, drop}
use borrow.Author.Tests.{ne_eqb, ltb-true, ltb-false}
use Rattle.lists.specs.Lists.{over}
use Rattle.lists.proofs.Buffers.{over_taken, over_past}
use Rattle.refusals.specs.Refusals.{Ruling, passed, row, row_at}
use Rattle.refusals.specs.declared.refusal.Refusal.{Refusal}
use Rattle.refusals.specs.Reply.{Reply, ruling_of}
use Rattle.refusals.specs.Table.{LowestAt, Row, Decided, lowest_at, FirstRow, here, later, end, fails, Gives, gives_none, gives_first}
use Rattle.refusals.proofs.Refusals.{both_pass, row_fails}
use Rattle.refusals.proofs.Replies.{told_passed, decided, answer_determined}
use Rattle.refusals.proofs.Tests.{Decides, decides_less}
use Rattle.refusals.proofs.Tables.{gives_then, gives_passed, gives_whole, gives_lowest}
use Rattle.outline.specs.Outline.{size, price, plate}
use Rattle.outline.specs.Rules.{most_records, most_taxa, bad_field, bad_link, taxa, is_duplicate}
use Rattle.outline.specs.Answer.{record_rows, checked}
use Rattle.outline.proofs.Demands.{records_give}
use Rattle.diversity.specs.Order.{InTextOrder}
use Rattle.newick.specs.Grammar.{part, Tree, Spells}
use Rattle.newick.specs.Layout.{count, plates, layout}
use Rattle.newick.specs.Pairs.{price_in, bad_pairs}
use Rattle.newick.specs.Trees.{tree_of}
use Rattle.newick.specs.Parsing.{Parsed, unread, tree, parsed}
use Rattle.reading.specs.Answer.{Call, Figures, no_figures, numbers_of, told, rows_for, judged, reply, outline_after, Answered, Numbers}
use Rattle.reading.specs.Demands.{In, Pair, OfTree, lowest_of_tree, text_table, read_table, table_of, parsed_table, ReadOrRefused, ParsedOrRefused, TreeGiven, OwnPrices}
use Rattle.reading.proofs.Answers.{layout_length, layout_size}
use Rattle.reading.proofs.Bounds.{layout_sized}
use Rattle.reading.proofs.Links.{layout_linked}
use Rattle.reading.proofs.Pairing.{decides_pairs, pairs_once, priced}
use Rattle.reading.proofs.Settled.{price_small, layout_settled}
use Rattle.newick.proofs.Ranges.{spells_in_range}
use Rattle.newick.proofs.Spelling.{parsed_sound, parsed_complete, one_tree, unread_none}

-- the numbers told determine the answer
pub told_determined : (a b : Result Figures Refusal) → told a ≡ told b → a ≡ b
told_determined = answer_determined no_figures

-- ---- what a call is judged is what its table gives
module _ (c : Call) where
  -- a condition of the one tree that is spelled
  decides_tree : {condition : Tree part → Type 0} {b : Bool} (t : Tree part) → Spells t c.text → Decides (condition t) b
      → Decides (OfTree c condition) b
  decides_tree {condition} t s d = (λ h. (t, s, d.0 h), λ (u, r, k). d.1 (subst condition (one_tree r s) k))

  -- the lowest record of the one tree that is spelled
  lowest_of_tree_lem : (n : ℕ) (condition : List ℕ → ℕ → Bool) (t : Tree part) → Spells t c.text → Gives (lowest_of_tree c (suc n) condition ∷ [])
      (row_at (suc n) (condition (layout (price_in c.pairs) t)) (size (layout (price_in c.pairs) t)))
  lowest_of_tree_lem n condition t s =
      rw (layout_size (price_in c.pairs) t) (go (gives_lowest n (count t) (condition (layout (price_in c.pairs) t))))
    where
      Lowest : Tree part → ℕ → Type 0
      Lowest u p = LowestAt (count u) (condition (layout (price_in c.pairs) u)) p

      go : {v : Ruling} → Gives (lowest_at (suc n) (count t) (condition (layout (price_in c.pairs) t)) ∷ []) v
          → Gives (lowest_of_tree c (suc n) condition ∷ []) v
      go (gives_none (fails f g)) = gives_none (fails (λ p (u, r, k). f p (subst (λ u. Lowest u p) (one_tree r s) k)) end)
      go (gives_first l (here h) only) =
          gives_first l (here (t, s, h)) (λ m q k. only m q (own k))
        where
          own : {m q : ℕ} → FirstRow (lowest_of_tree c (suc n) condition ∷ []) m q
              → FirstRow (lowest_at (suc n) (count t) (condition (layout (price_in c.pairs) t)) ∷ []) m q
          own {q = q} (here (u, r, k)) = here (subst (λ u. Lowest u q) (one_tree r s) k)
          own (later _ k) = elim k [ ]
      go (gives_first l (later _ h) only) = elim h [ ]

  -- rows 10, 3, 11 and 9, and behind them any that give what the records of the tree that is spelled are judged
  text_gives : {rows : List Row} → ((t : Tree part) → Spells t c.text → Gives rows (record_rows (layout (price_in c.pairs) t)))
      → Gives (text_table c ++ rows) (judged c)
  unfolding judged rows_for
  text_gives {rows} behind = go (parsed c.text) refl
    where
      go : (p : Parsed) → parsed c.text ≡ p → Gives (text_table c ++ rows) (rows_for p c.pairs (length c.outline))
      go unread e = gives_first (omega arith) (here (refl, none)) (λ m q h. only h)
        where
          none : (t : Tree part) → Spells t c.text → ⊥
          none = unread_none c.text e

          only : {m q : ℕ} → FirstRow (text_table c ++ rows) m q → (m ≡ 10) × (q ≡ 0)
          only (here h) = (refl, h.0)
          only (later f k) = absurd (f 0 (refl, none))
      go (tree t) e =
          let s = parsed_sound t c.text e in
          gives_then (gives_whole 9 {b = false} (λ h. absurd (false≢true h), λ n. absurd (n t s)))
          (gives_then (gives_whole 2 (decides_tree t s (decides_less most_records (count t))))
          (gives_then (gives_whole 10 (decides_tree t s (decides_pairs (plates t) c.pairs)))
          (gives_then (gives_whole 8 (decides_tree t s (decides_less (length c.outline) (16 * count t)))) (behind t s))))

  judged_gives : Gives (read_table c) (judged c)
  unfolding record_rows
  judged_gives =
      text_gives (λ t s.
      gives_then (lowest_of_tree_lem 4 bad_field t s)
      (gives_then (lowest_of_tree_lem 5 bad_link t s)
      (gives_then (gives_whole 6 (decides_tree t s (decides_less most_taxa (taxa (layout (price_in c.pairs) t)))))
      (lowest_of_tree_lem 7 is_duplicate t s))))

  parsed_gives : Gives (parsed_table c) (judged c)
  parsed_gives = text_gives (λ t s. rw (parsed_complete t c.text s) (records_give (layout (price_in c.pairs) t)))

  -- rows 5 to 8 of the parsed table are those of the outline of the tree that the text spells
  pub table_spelled : (t : Tree part) → Spells t c.text → parsed_table c ≡ table_of c (tree t)
  table_spelled t s = ap (table_of c) (parsed_complete t c.text s)

-- ---- a tree that is read
ten_not_zero : (pairs : List ℕ) (room : ℕ) → (rows_for unread pairs room).number ≡ 0 → ⊥
unfolding rows_for
ten_not_zero pairs room z = omega arith

-- every row passes
module _ (t : Tree part) (pairs : List ℕ) (room : ℕ) (z : (rows_for (tree t) pairs room).number ≡ 0) where
  rows_pass : (ltb most_records (count t) ≡ false) × (bad_pairs (plates t) pairs ≡ false) × (record_rows (layout (price_in pairs) t) ≡ passed)
  unfolding rows_for
  rows_pass =
      let few = both_pass (row 3 (ltb most_records (count t))) _ z in
      let paired = both_pass (row 11 (bad_pairs (plates t) pairs)) _ few.1 in
      let fits = both_pass (row 9 (ltb room (16 * count t))) _ paired.1 in
      (row_fails 2 _ few.0, row_fails 10 _ paired.0, gives_passed (records_give (layout (price_in pairs) t)) fits.1)

  -- so that the check accepts the outline
  layout_accepted : checked (layout (price_in pairs) t) ≡ passed
  unfolding checked
  layout_accepted = rw (layout_sized (price_in pairs) t (ltb-false most_records (count t) rows_pass.0)) rows_pass.2

passed_given : (c : Call) {r : Reply Figures} {outline : List ℕ} → Answered c r outline → (t : Tree part) → parsed c.text ≡ tree t
    → (rows_for (tree t) c.pairs (length c.outline)).number ≡ 0 → TreeGiven c r outline
unfolding judged reply outline_after
passed_given c {r} {outline} x t e z =
    let o = layout (price_in c.pairs) t in
    let spelled = parsed_sound t c.text e in
    let pass = rows_pass t c.pairs (length c.outline) z in
    let accepted = layout_accepted t c.pairs (length c.outline) z in
    let settled = layout_settled (price_in c.pairs) t (spells_in_range spelled) accepted in
    let its_price : (p : ℕ) → In p (plates t) → Pair p (price_in c.pairs p) c.pairs = λ p i. priced c.pairs p (pairs_once (plates t) c.pairs pass.1 p i) in
    let records_are : r.figures.records ≡ count t = rw (x.told_reply, e, z) in
    let written : outline ≡ over o c.outline = x.outline_written ∙ rw (e, z) in
    let long : length o ≡ 16 * r.figures.records = omega (arith, layout_length (price_in c.pairs) t) in
    let begins : take (16 * r.figures.records) outline ≡ o = ap (take (16 * r.figures.records)) written ∙ over_taken o c.outline (16 * r.figures.records) long in
    record {
      tree = t;
      spelled = spelled;
      only = λ u s. one_tree s spelled;
      records_are = records_are;
      begins = begins;
      rest = ap (drop (16 * r.figures.records)) written ∙ over_past o c.outline (16 * r.figures.records) long;
      accepted = rw begins accepted;
      one_pair = pairs_once (plates t) c.pairs pass.1;
      its_price = its_price;
      in_order = rw begins settled.order;
      tree_is = rw begins settled.tree_is;
    }

-- a pair's price, which is a number of 32 bits, is the taxon's whole
given_priced : (c : Call) {r : Reply Figures} {outline : List ℕ} → TreeGiven c r outline → Numbers c.pairs → OwnPrices c r outline
given_priced c given numbers =
    let o = layout (price_in c.pairs) given.tree in
    let accepted : checked o ≡ passed = rw given.begins at given.accepted in
    let settled = layout_settled (price_in c.pairs) given.tree (spells_in_range given.spelled) accepted in
    rw given.begins (λ q i f.
    let (among, is) = settled.priced q i f in
    let small = price_small c.pairs numbers (plate o q) in
    let same : price_in c.pairs (plate o q) ≡ price o q = omega arith in
    subst (λ p. Pair (plate o q) p c.pairs) same (given.its_price (plate o q) among))

-- ---- the promises
module _ (c : Call) {r : Reply Figures} {outline : List ℕ} (x : Answered c r outline) where
  -- by any table that gives what the call is judged: a tree is read, or exactly one refusal, under its condition only; a refusal changes no
  -- byte of the outline
  decided_by : {rows : List Row} → Gives rows (judged c) → Decided rows (ruling_of r) (numbers_of r.figures) (c.outline ∷ []) (outline ∷ [])
  unfolding reply outline_after
  decided_by gives =
      decided _ _ _ numbers_of refl gives x.told_reply (λ h. rw (x.outline_written, ne_eqb (judged c).number 0 (λ z. omega arith)))

  -- demand 1, by the table in words
  pub demand_1 : ReadOrRefused c r outline
  demand_1 = decided_by (judged_gives c)

  -- the same by the parsed table
  pub demand_1_parsed : ParsedOrRefused c r outline
  demand_1_parsed = decided_by (parsed_gives c)

  -- 10 is given exactly if the text spells no tree
  pub ten_exactly : r.number ≡ 10 ↔ ((t : Tree part) → Spells t c.text → ⊥)
  ten_exactly = (λ e. ten demand_1.given e, λ none. given_ten none demand_1.given)
    where
      first_ten : {n p : ℕ} → FirstRow (read_table c) n p → n ≡ 10 → (t : Tree part) → Spells t c.text → ⊥
      first_ten (here h) e = h.1
      first_ten (later f (here h)) e = absurd (omega arith)
      first_ten (later f (later g (here h))) e = absurd (omega arith)
      first_ten (later f (later g (later i (here h)))) e = absurd (omega arith)
      first_ten (later f (later g (later i (later j (here h))))) e = absurd (omega arith)
      first_ten (later f (later g (later i (later j (later k (here h)))))) e = absurd (omega arith)
      first_ten (later f (later g (later i (later j (later k (later l (here h))))))) e = absurd (omega arith)
      first_ten (later f (later g (later i (later j (later k (later l (later m (here h)))))))) e = absurd (omega arith)
      first_ten (later f (later g (later i (later j (later k (later l (later m (later _ h)))))))) e = elim h [ ]

      ten : {t : Ruling} → Gives (read_table c) t → t.number ≡ 10 → (u : Tree part) → Spells u c.text → ⊥
      ten (gives_none f) e = absurd (omega arith)
      ten (gives_first l f only) e = first_ten f e

      given_ten : ((t : Tree part) → Spells t c.text → ⊥) → {t : Ruling} → Gives (read_table c) t → t.number ≡ 10
      given_ten none (gives_none (fails f rest)) = absurd (f 0 (refl, none))
      given_ten none (gives_first l f only) = sym (only 10 0 (here (refl, none))).0

  -- 6 is never given: the links are made by the reading
  pub never_six : r.number ≡ 6 → ⊥
  never_six e = none demand_1.given e
    where
      six : {n p : ℕ} → FirstRow (read_table c) n p → n ≡ 6 → ⊥
      six (here h) e = omega arith
      six (later f (here h)) e = omega arith
      six (later f (later g (here h))) e = omega arith
      six (later f (later g (later i (here h)))) e = omega arith
      six (later f (later g (later i (later j (here h))))) e = omega arith
      six {p = p} (later f (later g (later i (later j (later k (here (t, s, at))))))) e =
          false≢true (sym (layout_linked (price_in c.pairs) t (spells_in_range s) (few (ltb most_records (count t)) refl) p at.low at.high) ∙ at.here)
        where
          few : (b : Bool) → ltb most_records (count t) ≡ b → count t ≤ most_records
          few true is = absurd (g 0 (refl, (t, s, ltb-true most_records (count t) is)))
          few false is = ltb-false most_records (count t) is
      six (later f (later g (later i (later j (later k (later l (here h))))))) e = omega arith
      six (later f (later g (later i (later j (later k (later l (later m (here h)))))))) e = omega arith
      six (later f (later g (later i (later j (later k (later l (later m (later _ h)))))))) e = elim h [ ]

      none : {t : Ruling} → Gives (read_table c) t → t.number ≡ 6 → ⊥
      none (gives_none f) e = omega arith
      none (gives_first l f only) e = six f e

  -- where number 0 is given, the tree of the text is read
  pub tree_given : r.number ≡ 0 → TreeGiven c r outline
  tree_given z = go (parsed c.text) refl
    where
      passes : (judged c).number ≡ 0
      passes = unfold reply in told_passed _ _ _ (sym (ap (λ (a : Reply Figures). a.number) x.told_reply) ∙ z)

      judged_zero : (p : Parsed) → parsed c.text ≡ p → (rows_for p c.pairs (length c.outline)).number ≡ 0
      judged_zero p e = unfold judged in sym (ap (λ q. (rows_for q c.pairs (length c.outline)).number) e) ∙ passes

      go : (p : Parsed) → parsed c.text ≡ p → TreeGiven c r outline
      go unread e = absurd (ten_not_zero c.pairs (length c.outline) (judged_zero unread e))
      go (tree t) e = passed_given c x t e (judged_zero (tree t) e)

  -- each taxon has its own pair's price
  pub own_priced : Numbers c.pairs → r.number ≡ 0 → OwnPrices c r outline
  own_priced numbers z = given_priced c (tree_given z) numbers

  -- its records stand in the order of the text
  pub read_order : r.number ≡ 0 → InTextOrder (take (16 * r.figures.records) outline)
  read_order z = (tree_given z).in_order

  -- they make the tree that the text spells
  pub read_tree : r.number ≡ 0 → (t : Tree part) → Spells t c.text → tree_of (take (16 * r.figures.records) outline) ≡ t
  read_tree z t s = let given = tree_given z in given.tree_is ∙ sym (given.only t s)
