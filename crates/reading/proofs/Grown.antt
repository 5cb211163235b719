-- The whole tree, from the part at the beginning of a text.
use Rattle.std.specs.Prelude.{if◌then◌else◌}
use Prim.Native.Nat.{ℕ, ◌+◌, ◌*◌}
use mathlib.Core.Path.{◌≡◌, refl, sym, ap, subst, ◌∙◌}
use mathlib.Core.Bool.{Bool, true, false}
use mathlib.Core.List.{List, ◌∷◌}
use native.Mathlib.Omega.{arith}
use lib.ListN.{length}
use Rattle.newick.specs.Grammar.{part, Tree}
use Rattle.newick.specs.Layout.{layout}
use Rattle.newick.specs.Parsing.{tokens_of, ends, Outcome, got, read_in, closed, unread, tree, grown}
use Rattle.outline.specs.Rules.{most_records}
use Rattle.newick.specs.declared.token.Token.{Token}
use Rattle.reading.specs.Inner.{left_of, IfGot, if_failed, if_got, Fresh, Drafted, at_end, no_word, Short, short_failed, short_stuck}
use Rattle.reading.specs.Inner.{Unread, unread_bad, unread_many, PartRead, TreeDrafted, NotDrafted, no_tree, large_tree}
use Rattle.reading.specs.declared.cursor.Cursor.{Cursor}
use Rattle.reading.specs.declared.draft.Draft.{Draft}
use Rattle.reading.specs.declared.draft.Part.{Part}
use Rattle.reading.specs.declared.flaw.Flaw.{Flaw}
use Rattle.reading.proofs.Drafts.{own_drafted}

not_grown : {t : Tree part} {A : Type 0} → unread ≡ tree t → A
not_grown e = let z : ◌≡◌ {A = ℕ} 0 1 = cc in absurd (omega arith)

-- what holds of the part at the beginning holds of the tree
closed_if : {P : Tree part → Type 0} {o : Outcome part} (t : Tree part) → IfGot P o → closed o ≡ tree t → P t
closed_if t if_failed e = not_grown e
closed_if {P} t (if_got {t = u} {ts = ts} q) e = go (ends ts) e
  where
    go : (b : Bool) → (if b then tree u else unread) ≡ tree t → P t
    go true e = let is : u ≡ t = cc in subst P is q
    go false e = not_grown e

-- a part is the tree, if a semicolon ends it
closes : (text : List ℕ) (ts : List Token) (t : Tree part) → read_in (2 * length text + 1) part (tokens_of text) ≡ got t ts → (b : Bool)
    → b ≡ ends ts → grown text ≡ (if b then tree t else unread)
unfolding grown
closes text ts t e b f = ap closed e ∙ ap (λ c. if c then tree t else unread) (sym f)

-- a short part is no tree
closed_short : {o : Outcome part} → Short o → closed o ≡ unread
unfolding ends
closed_short short_failed = refl
closed_short (short_stuck at_end) = refl
closed_short (short_stuck no_word) = refl

module _ {pairs text : List ℕ} {start : Draft} (f : Fresh text pairs start) where
  pub tree_unread : {flaw : Flaw} → Unread part Short start.cursor flaw → NotDrafted text flaw
  unfolding grown
  tree_unread (unread_bad g) =
      no_tree (closed_short (subst (λ s. Short (read_in (2 * length s + 1) part (tokens_of s))) f.left_is (g _ (omega arith))))
  tree_unread (unread_many g) =
      large_tree
      (λ t e. omega (arith, f.none, closed_if t (g _ (omega arith)) (ap (λ s. closed (read_in (2 * length s + 1) part (tokens_of s))) f.left_is ∙ e)))

  module _ {mid : Draft} {p : Part} {token : Token} (o : PartRead start mid p token) where
    abbrev left : List Token
    left = token ∷ tokens_of (left_of mid.cursor)

    closes_by : (b : Bool) → b ≡ ends left → grown text ≡ (if b then tree o.tree else unread)
    closes_by =
        closes text left o.tree
        (subst (λ s. read_in (2 * length s + 1) part (tokens_of s) ≡ got o.tree left) f.left_is (o.read.reads _ (omega arith)))

    -- no semicolon ends it
    pub tree_open : false ≡ ends left → NotDrafted text Flaw.Malformed
    tree_open e = no_tree (closes_by false e)

    pub tree_reads : {d : Draft} → length start.bytes ≡ 16 * most_records → true ≡ ends left → Drafted 0 0 p mid d → TreeDrafted pairs text d
    unfolding layout
    tree_reads {d} long e w =
        record {
          tree_of = o.tree;
          grown_is = closes_by true e;
          counted = omega (arith, ap (λ (c : Cursor). c.records) w.cursor_stays, o.read.counted, f.none);
          drafted = (
            start.bytes,
            long,
            w.written ∙ rw (o.read.pairs_stay, f.pairs_are)
                (own_drafted pairs 0 0 start.bytes o.tree (omega (arith, o.read.counted, mid.cursor.few)) long (rw f.none at o.fields)
                (rw (f.none, f.pairs_are) at o.drafted)),
          );
        }
