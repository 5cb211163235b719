-- The rows of the records, by their links: how each row comes from those of the records that it names.
use Rattle.std.specs.Prelude.{if◌then◌else◌}
use Prim.Native.Nat.{ℕ, ◌+◌, ◌≤◌}
use mathlib.Core.Path.{◌≡◌, refl, ap, ap₂, ◌∙◌}
use mathlib.Core.Bool.{Bool, true, false}
use mathlib.Core.List.{List}
use native.Mathlib.Omega.{arith}
use Rattle.outline.specs.Outline.{size, next, first, price, is_taxon}
use Rattle.outline.specs.WellFormed.{Linked}
use Rattle.laws.specs.Forest.{Forest, empty, node, tree}
use Rattle.laws.specs.Candidate.{plus, heading, none, better_of, one_at}
use Rattle.laws.proofs.Forest.{tree_zero, tree_step, members_cases, disjoint}
use Rattle.rows.specs.Rows.{Row, better_row, join_row, is_leaf, taxon_rooted, taxon_unrooted, heading_rooted, heading_unrooted}
use Rattle.rows.specs.Rows.{clade_row, pushed, rooted_row, alone_row, cross_row, inside_row, across_row, across_under}
use Rattle.rows.proofs.Joins.{join_same, join_better, join_one, join_join, join_nothing}
use Rattle.rows.proofs.Push.{rooted_chain, cross_swapped}

-- a column of a pushed row depends on the columns up to it
module _ (o : List ℕ) (weigh : ℕ → ℕ) where
  pub clade_same : (r : ℕ) (taxon : Bool) {x y g h : Row} (b : ℕ) → ((i : ℕ) → i ≤ b → x i ≡ y i) → ((i : ℕ) → i ≤ b → g i ≡ h i)
      → clade_row o weigh r taxon x g b ≡ clade_row o weigh r taxon y h b
  unfolding clade_row
  clade_same r taxon b p q = rw (join_same (taxon_rooted o weigh r) b p, join_same (heading_rooted o weigh r) b q)

  pub pushed_same : (F : Forest) {x y : Row} (b : ℕ) → ((i : ℕ) → i ≤ b → x i ≡ y i) → pushed o weigh F x b ≡ pushed o weigh F y b
  unfolding pushed
  pushed_same empty b p = refl
  pushed_same (node r f n) {x} {y} b p =
      let rest : (i : ℕ) → i ≤ b → pushed o weigh n x i ≡ pushed o weigh n y i = λ i l. pushed_same n i (λ j k. p j (omega arith)) in
      let follow : (i : ℕ) → i ≤ b → better_row x (pushed o weigh n x) i ≡ better_row y (pushed o weigh n y) i = λ i l. ap₂ better_of (p i l) (rest i l) in
      ap₂ better_of (clade_same r (is_leaf f) b follow (λ i l. pushed_same f i (λ j k. follow j (omega arith)))) (rest b (omega arith))

if_itself : (t : Bool) → (if t then true else false) ≡ t
if_itself true = refl
if_itself false = refl

pub leaf_taxon : (o : List ℕ) → Linked o → (r : ℕ) → 1 ≤ r → r ≤ size o → is_leaf (tree o (first o r)) ≡ is_taxon o r
leaf_taxon o linked r l u = members_cases o linked r l u is_leaf true false refl (λ q g m. refl) ∙ if_itself (is_taxon o r)

module _ (o : List ℕ) (linked : Linked o) (weigh : ℕ → ℕ) where
  -- no record, no set
  pub pushed_zero : (x : Row) (b : ℕ) → pushed o weigh (tree o 0) x b ≡ none
  unfolding pushed
  pushed_zero x b = ap (λ F. pushed o weigh F x b) (tree_zero o)

  module _ (r : ℕ) (l : 1 ≤ r) (u : r ≤ size o) (b : ℕ) where
    pub pushed_step : (x : Row) → pushed o weigh (tree o r) x b
        ≡ better_of
        (clade_row o weigh r (is_taxon o r) (better_row x (pushed o weigh (tree o (next o r)) x))
        (pushed o weigh (tree o (first o r)) (better_row x (pushed o weigh (tree o (next o r)) x))) b)
        (pushed o weigh (tree o (next o r)) x b)
    unfolding pushed
    pushed_step x = ap (λ F. pushed o weigh F x b) (tree_step o linked r l u) ∙ rw (leaf_taxon o linked r l u)

    pub rooted_step : rooted_row o weigh (tree o r) b
        ≡ better_of (better_of (alone_row o weigh r (is_taxon o r) (tree o (first o r)) b) (rooted_row o weigh (tree o (next o r)) b))
        (cross_row o weigh r (is_taxon o r) (tree o (first o r)) (tree o (next o r)) b)
    rooted_step =
        ap (λ F. rooted_row o weigh F b) (tree_step o linked r l u)
        ∙ rooted_chain o weigh r _ _ (disjoint o linked r l u) b ∙ rw (leaf_taxon o linked r l u)

    pub across_step : across_row o weigh (tree o r) b
        ≡ better_of (better_of (inside_row o weigh r (is_taxon o r) (across_row o weigh (tree o (first o r))) b) (across_row o weigh (tree o (next o r)) b))
        (cross_row o weigh r (is_taxon o r) (tree o (first o r)) (tree o (next o r)) b)
    unfolding across_row
    across_step = ap (λ F. across_row o weigh F b) (tree_step o linked r l u) ∙ rw (leaf_taxon o linked r l u)

    -- the crossing row, from either side
    pub cross_step : cross_row o weigh r (is_taxon o r) (tree o (first o r)) (tree o (next o r)) b
        ≡ pushed o weigh (tree o (next o r)) (alone_row o weigh r (is_taxon o r) (tree o (first o r))) b
    cross_step = rw (leaf_taxon o linked r l u) at (cross_swapped o weigh r (tree o (first o r)) (tree o (next o r)) (disjoint o linked r l u) b)

  -- the same below groups that cost `above` together: what is above goes down to the members, and every row moves right by it
  pub under_none : (F : Forest) (b : ℕ) → across_under o weigh 0 F b ≡ across_row o weigh F b
  unfolding across_under
  under_none F b = join_nothing (across_row o weigh F) b

  module _ (above r : ℕ) (l : 1 ≤ r) (u : r ≤ size o) (b : ℕ) where
    inside_under : (taxon : Bool) (F : Forest) → join_row (heading 0 above) (inside_row o weigh r taxon (across_row o weigh F)) b
        ≡ (if taxon then one_at (plus (heading 0 above) (taxon_unrooted o weigh r)) b else across_under o weigh (above + price o r) F b)
    unfolding inside_row across_under
    inside_under true F = join_one (heading 0 above) (taxon_unrooted o weigh r) b
    inside_under false F = join_join (heading 0 above) (heading_unrooted o weigh r) (across_row o weigh F) b

    pub under_step : across_under o weigh above (tree o r) b
        ≡ better_of
        (better_of
        (if is_taxon o r then one_at (plus (heading 0 above) (taxon_unrooted o weigh r)) b else across_under o weigh (above + price o r) (tree o (first o r)) b)
        (across_under o weigh above (tree o (next o r)) b))
        (join_row (heading 0 above) (cross_row o weigh r (is_taxon o r) (tree o (first o r)) (tree o (next o r))) b)
    unfolding across_under
    under_step =
        let h = heading 0 above in
        let rest = join_row h (across_row o weigh (tree o (next o r))) b in
        let cross = join_row h (cross_row o weigh r (is_taxon o r) (tree o (first o r)) (tree o (next o r))) b in
        join_same h b (λ i k. across_step r l u i) ∙ join_better h _ _ b
        ∙ ap (λ c. better_of c cross) (join_better h _ _ b ∙ ap (λ c. better_of c rest) (inside_under (is_taxon o r) (tree o (first o r))))

    -- a taxon with the rest of its chain
    pub cross_under : is_taxon o r ≡ true → join_row (heading 0 above) (cross_row o weigh r (is_taxon o r) (tree o (first o r)) (tree o (next o r))) b
        ≡ join_row (plus (heading 0 above) (taxon_rooted o weigh r)) (rooted_row o weigh (tree o (next o r))) b
    unfolding cross_row clade_row
    cross_under t = rw t (join_join (heading 0 above) (taxon_rooted o weigh r) (rooted_row o weigh (tree o (next o r))) b)
