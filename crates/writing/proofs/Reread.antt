-- The outline that is read from a written text, with its own prices, is accepted, whatever the order of the records that were written.
use Rattle.std.proofs.lemmas.Bool.{and_parts, or_parts}
use Rattle.std.specs.Prelude.{if◌then◌else◌}
use Prim.Native.Nat.{ℕ, ◌+◌, ◌-◌, ◌%◌, ◌≤◌, ◌<◌}
use mathlib.Core.Path.{◌≡◌, refl, sym, ap, subst, ◌∙◌}
use mathlib.Core.Bool.{Bool, true, false, ◌||◌, ◌&&◌, not}
use mathlib.Core.List.{List, [], ◌∷◌}
use native.Mathlib.Omega.{arith}
use lib.Dec.{eqb, ltb}
use lib.ListN.{length}
use borrow.Author.Tests.{eqb-true, eqb-false, eq-eqb, ne_eqb, le-ltb, not-false}
use Rattle.lists.proofs.Bools.{eqb_comm}
use Rattle.lists.specs.Lists.{one, anywhere, total}
use Rattle.lists.proofs.Bools.{second_false}
use Rattle.lists.proofs.Walk.{anywhere_none, none_anywhere, nowhere_both}
use Rattle.refusals.specs.Refusals.{passed, row, row_at}
use Rattle.refusals.proofs.Refusals.{both_passes, row_passes, row_at_passes}
use Rattle.refusals.proofs.Tables.{gives_passed}
use Rattle.outline.specs.Outline.{size, records, next, first, branch, price, plate_field, plate, is_taxon}
use Rattle.outline.specs.Answer.{record_rows}
use Rattle.outline.specs.Rules.{bad_field, stray, naming, named, bad_link, taxa_in, taxa, has_plate, is_duplicate, most_records, most_taxa}
use Rattle.outline.specs.WellFormed.{WellFormed}
use Rattle.outline.proofs.Demands.{records_give}
use Rattle.diversity.specs.Diversity.{clade}
use Rattle.laws.proofs.Chains.{clade_size, total_root}
use Rattle.laws.proofs.Sums.{total_append, total_pair, occurs, occurs_once}
use Rattle.newick.specs.Grammar.{Kind, part, chain, Tree, taxon, group, last, more}
use Rattle.newick.specs.Inner.{plates_in}
use Rattle.newick.specs.Layout.{count, plates, layout}
use Rattle.newick.specs.Pairs.{price_in}
use Rattle.newick.specs.Trees.{tree_of}
use Rattle.newick.proofs.Plain.{Plain, tree_in_range}
use Rattle.newick.proofs.Regrown.{Regrown, amiss, mispriced, layout_regrown, layout_plates}
use Rattle.newick.proofs.Traced.{Traced, taxon_at, group_at, last_at, more_at, tree_traced, traced_count, traced_plates}
use Rattle.reading.specs.Demands.{In}
use Rattle.reading.proofs.Answers.{layout_size}
use Rattle.reading.proofs.Settled.{plate_in}
use Rattle.writing.specs.Text.{outline_pairs}
use Rattle.writing.proofs.Priced.{held_once, own_price, plate_owner}

-- ---- each record of a tree is named once
abbrev beyond : List ℕ → ℕ → Kind → ℕ → ℕ
beyond o q part r = one (eqb (next o r) q)
beyond o q chain r = 0

traced_named : {o : List ℕ} (q : ℕ) → 1 ≤ q → {κ : Kind} {t : Tree κ} {r : ℕ} {rs : List ℕ} → Traced o κ t r rs
    → total (naming o q) rs + one (eqb q r) ≡ occurs q rs + beyond o q κ r
unfolding total naming
traced_named {o} q some (taxon_at {r} i e) =
    let z = eqb-true (first o r) 0 e in
    let none = ap one (ne_eqb (first o r) q (λ f. omega arith)) in
    omega (arith, none)
traced_named {o} q some (group_at {r} {ms} {rs} i e x) =
    omega (arith, traced_named q some x, ap one (eqb_comm q (first o r)))
traced_named {o} q some (last_at {r} e x) =
    let none = ap one (ne_eqb (next o r) q (λ f. omega arith)) in
    omega (arith, traced_named q some x, none)
traced_named {o} q some (more_at {r} {t} {ms} {rs} {qs} e x y) =
    omega (
      arith,
      traced_named q some x,
      traced_named q some y,
      total_append (naming o q) rs qs,
      total_append (λ s. one (eqb q s)) rs qs,
      ap one (eqb_comm q (next o r)),
    )

-- ---- the lengths and the plates of a tree
abbrev Fair : {κ : Kind} → Tree κ → Type 0
Fair (taxon p l) = (1 ≤ p) × (l ≤ 1000000)
Fair (group ms l) = Fair ms × (l ≤ 1000000)
Fair (last t) = Fair t
Fair (more t ms) = Fair t × Fair ms

traced_fair : {o : List ℕ} → WellFormed o → {κ : Kind} {t : Tree κ} {r : ℕ} {rs : List ℕ} → Traced o κ t r rs → Fair t
traced_fair formed (taxon_at {r} i e) = let g = formed.ranged r i.low i.high in (g.taxon_plate e, g.branch_most)
traced_fair formed (group_at {r} i e x) = (traced_fair formed x, (formed.ranged r i.low i.high).branch_most)
traced_fair formed (last_at e x) = traced_fair formed x
traced_fair formed (more_at e x y) = (traced_fair formed x, traced_fair formed y)

unfoldable wrong : List ℕ → ℕ → Bool
wrong o r = ltb 1000000 (branch o r) || (is_taxon o r && eqb (plate o r) 0)

fair_traced : {o : List ℕ} {κ : Kind} {t : Tree κ} {r : ℕ} {rs : List ℕ} → Traced o κ t r rs → Fair t → anywhere (wrong o) rs ≡ false
unfolding anywhere wrong
fair_traced {o} (taxon_at {r} i e) f = rw (le-ltb 1000000 (branch o r) f.1, e, ne_eqb (plate o r) 0 (λ z. omega (arith, f.0)))
fair_traced {o} (group_at {r} i e x) f = rw (le-ltb 1000000 (branch o r) f.1, e) (fair_traced x f.0)
fair_traced (last_at e x) f = fair_traced x f
fair_traced {o} (more_at {r} {t} {ms} {rs} {qs} e x y) f = nowhere_both (wrong o) rs qs (fair_traced x f.0) (fair_traced y f.1)

-- ---- how often a plate stands among those of records, and how many there are
plates_held : (o : List ℕ) (x : ℕ) (rs : List ℕ) → total (λ r. one (has_plate o x r)) rs ≡ occurs x (plates_in o rs)
unfolding total has_plate plates_in
plates_held o x [] = refl
plates_held o x (r ∷ rs) = go (is_taxon o r) (plates_held o x rs)
  where
    go : (b : Bool) → total (λ r. one (has_plate o x r)) rs ≡ occurs x (plates_in o rs)
        → one (b && eqb (plate o r) x) + total (λ r. one (has_plate o x r)) rs ≡ occurs x (if b then plate o r ∷ plates_in o rs else plates_in o rs)
    go true h = omega (arith, h, ap one (eqb_comm x (plate o r)))
    go false h = omega (arith, h)

taxa_plates : (o : List ℕ) (rs : List ℕ) → taxa_in o rs ≡ length (plates_in o rs)
unfolding taxa_in total plates_in
taxa_plates o [] = refl
taxa_plates o (r ∷ rs) = go (is_taxon o r) (taxa_plates o rs)
  where
    go : (b : Bool) → total (λ q. one (is_taxon o q)) rs ≡ length (plates_in o rs)
        → one b + total (λ q. one (is_taxon o q)) rs ≡ length (if b then plate o r ∷ plates_in o rs else plates_in o rs)
    go true h = omega (arith, h)
    go false h = omega (arith, h)

-- ---- the tree's outline, with the prices of the pairs
module _ (o : List ℕ) (plain : Plain o) where
  abbrev cost : ℕ → ℕ
  cost = price_in (outline_pairs o)

  abbrev t : Tree part
  t = tree_of o

  abbrev p : List ℕ
  p = layout cost t

  many : size p ≡ count t
  many = layout_size cost t

  few : count t ≤ most_records
  few = omega (arith, traced_count (tree_traced o plain.formed.linked), clade_size o plain.formed.linked, plain.formed.size_most)

  grown : Regrown cost p part t 1 0
  grown = layout_regrown cost t (tree_in_range plain) few

  same_plates : plates_in p (records p) ≡ plates t
  same_plates = layout_plates cost t (tree_in_range plain) few

  own_plates : plates t ≡ plates_in o (clade o 1)
  own_plates = traced_plates (tree_traced o plain.formed.linked)

  module _ (r : ℕ) (l : 1 ≤ r) (u : r ≤ size p) where
    right : amiss p r ≡ false
    right = anywhere_none (amiss p) (count t) grown.right r l (omega (arith, many))

    fair : wrong p r ≡ false
    fair = anywhere_none (wrong p) (count t) (fair_traced grown.traced (traced_fair plain.formed (tree_traced o plain.formed.linked))) r l (omega (arith, many))

    links : (stray p r (next p r) ≡ false) × (stray p r (first p r) ≡ false)
        × ((not (is_taxon p r) && (not (eqb (price p r) 0) || not (eqb (plate_field p r) 0))) ≡ false)
    unfolding amiss
    links =
        let one_of = or_parts _ _ right in
        let two_of = or_parts _ _ one_of.1 in
        (one_of.0, two_of.0, two_of.1)

    -- a group has neither price nor plate
    group_free : is_taxon p r ≡ false → (price p r ≡ 0) × (plate_field p r ≡ 0)
    group_free e =
        let none = or_parts _ _ (second_false _ _ links.2 (ap not e)) in
        (eqb-true _ _ (not-false _ none.0), eqb-true _ _ (not-false _ none.1))

    among : is_taxon p r ≡ true → In (plate p r) (plates t)
    unfolding records
    among e = subst (In (plate p r)) same_plates (plate_in p (size p) 1 r l (omega arith) e)

    taxon_price : is_taxon p r ≡ true → price p r ≤ 65535
    unfolding mispriced
    taxon_price e =
        let (s, i, f, g) = plate_owner o plain.formed (plate p r) (among e) in
        let own = own_price o plain.formed s i f in
        let same : cost (plate p r) ≡ price o s = ap cost (sym g) ∙ own in
        let wrote = anywhere_none (mispriced cost p) (count t) grown.priced r l (omega (arith, many)) in
        let is = eqb-true (price p r) (cost (plate p r) % 4294967296) (not-false _ (second_false (is_taxon p r) _ wrote e)) in
        let most = (plain.formed.ranged s i.low i.high).price_most in
        omega arith

    good_field : bad_field p r ≡ false
    unfolding bad_field wrong
    good_field = go (is_taxon p r) refl (or_parts _ _ fair).0 (λ e. second_false (is_taxon p r) _ (or_parts _ _ fair).1 e)
      where
        go : (b : Bool) → is_taxon p r ≡ b → ltb 1000000 (branch p r) ≡ false → (is_taxon p r ≡ true → eqb (plate p r) 0 ≡ false)
            → (ltb 1000000 (branch p r) || (ltb 65535 (price p r) || (if b then eqb (plate p r) 0 else not (eqb (plate_field p r) 0)))) ≡ false
        go true e h k = rw (h, le-ltb 65535 (price p r) (taxon_price e), k e)
        go false e h k =
            let free = group_free e in
            let cheap : price p r ≤ 65535 = omega (arith, free.0) in
            rw (h, le-ltb 65535 (price p r) cheap, eq-eqb (plate_field p r) 0 free.1)

    once : (eqb r 1 ≡ false) → named p r ≡ 1
    unfolding named records
    once e =
        let d = eqb-false r 1 e in
        let sum = traced_named r l grown.traced in
        let first_not = ap one e in
        let root = ap one (ne_eqb (next p 1) r (λ f. omega (arith, grown.next_is))) in
        rw many (omega (arith, sum, first_not, root, occurs_once r 1 (count t) l (omega (arith, many))))

    good_link : bad_link p r ≡ false
    unfolding bad_link
    good_link = rw (links.0, links.1) (go (eqb r 1) refl)
      where
        go : (b : Bool) → eqb r 1 ≡ b → (if b then not (eqb (next p r) 0) else not (eqb (named p r) 1)) ≡ false
        go true e = ap not (eq-eqb (next p r) 0 (ap (next p) (eqb-true r 1 e) ∙ grown.next_is))
        go false e = ap not (eq-eqb (named p r) 1 (once e))

  twice : (r : ℕ) → 1 ≤ r → r ≤ size p → (q : ℕ) → 1 ≤ q → q < r → has_plate p (plate p r) q ≡ true → (b : Bool) → is_taxon p r ≡ b → ⊥
  unfolding has_plate wrong records
  twice r l u q lq uq h true e =
      let x = plate p r in
      let (s, i, f, g) = plate_owner o plain.formed x (among r l u e) in
      let held : total (λ q. one (has_plate o x q)) (clade o 1) ≡ 1 = subst (λ x. total (λ q. one (has_plate o x q)) (clade o 1) ≡ 1) g (held_once o plain.formed s i f) in
      let mine = plates_held p x (records p) ∙ ap (occurs x) (same_plates ∙ own_plates) ∙ sym (plates_held o x (clade o 1)) ∙ held in
      let two = total_pair (λ q. one (has_plate p x q)) q r (size p) (λ z. omega arith) lq (omega arith) l u in
      let first_one = ap one h in
      let second_one : one (has_plate p x r) ≡ 1 = rw (e, eq-eqb x x refl) in
      omega (arith, mine, two, first_one, second_one)
  twice r l u q lq uq h false e =
      let both = and_parts (is_taxon p q) (eqb (plate p q) (plate p r)) h in
      let same = eqb-true (plate p q) (plate p r) both.1 in
      let zero_field = (group_free r l u e).1 in
      let some = second_false (is_taxon p q) (eqb (plate p q) 0) (or_parts _ _ (fair q lq (omega arith))).1 both.0 in
      eqb-false (plate p q) 0 some (omega arith)

  good_plate : (r : ℕ) → 1 ≤ r → r ≤ size p → is_duplicate p r ≡ false
  unfolding is_duplicate
  good_plate r l u = none_anywhere (has_plate p (plate p r)) (r - 1) (λ q lq uq. go q lq (omega arith) (has_plate p (plate p r) q) refl)
    where
      go : (q : ℕ) → 1 ≤ q → q < r → (b : Bool) → has_plate p (plate p r) q ≡ b → b ≡ false
      go q lq uq true h = absurd (twice r l u q lq uq h (is_taxon p r) refl)
      go q lq uq false h = refl

  few_taxa : taxa p ≤ most_taxa
  unfolding taxa taxa_in
  few_taxa =
      let mine = taxa_plates p (records p) ∙ ap (λ (ps : List ℕ). length ps) (same_plates ∙ own_plates) ∙ sym (taxa_plates o (clade o 1)) in
      omega (arith, mine, total_root o plain.formed.linked (λ r. one (is_taxon o r)), plain.formed.taxa_most)

  -- no row of the check holds
  pub regrown_passes : record_rows (layout (price_in (outline_pairs o)) (tree_of o)) ≡ passed
  unfolding record_rows
  regrown_passes =
      gives_passed (records_give p)
      (both_passes (row_at 5 (bad_field p) (size p)) _ (row_at_passes 5 (bad_field p) (size p) good_field)
      (both_passes (row_at 6 (bad_link p) (size p)) _ (row_at_passes 6 (bad_link p) (size p) good_link)
      (both_passes (row 7 (ltb most_taxa (taxa p))) (row_at 8 (is_duplicate p) (size p))
      (row_passes 7 (ltb most_taxa (taxa p)) (le-ltb most_taxa (taxa p) few_taxa))
      (row_at_passes 8 (is_duplicate p) (size p) good_plate))))
