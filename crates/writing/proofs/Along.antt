-- The text and the pairs of a chain, along the links.
use Rattle.std.specs.Prelude.{if◌then◌else◌}
use Prim.Native.Nat.{ℕ, ◌≤◌, ◌<◌}
use mathlib.Core.Path.{◌≡◌, sym, ap, subst, ◌∙◌}
use mathlib.Core.Logic.{◌≢◌}
use mathlib.Core.Bool.{Bool, true, false}
use mathlib.Core.List.{List, [], ◌∷◌, ◌++◌, append_assoc, append-nil}
use native.Mathlib.Omega.{arith}
use lib.Dec.{eqb}
use lib.ListN.{length, length-append}
use borrow.Author.Tests.{eq-eqb, ne_eqb}
use Rattle.outline.specs.WellFormed.{Later, WellFormed}
use Rattle.outline.specs.Outline.{size, next, first, branch, plate, is_taxon, IsRecord}
use Rattle.outline.proofs.WellFormed.{accepted_formed, left, left_less}
use Rattle.diversity.specs.Diversity.{chain as chain_from}
use Rattle.laws.proofs.Chains.{chain_none, chain_step, clade_root}
use Rattle.text.specs.Text.{decimal, texts}
use Rattle.text.specs.Written.{LongEnough, Put}
use Rattle.text.specs.declared.Pen.{Pen}
use Rattle.text.proofs.Texts.{texts_both}
use Rattle.text.proofs.Writing.{Left, put_nothing, left_starts}
use Rattle.newick.specs.Grammar.{chain, Tree, taxon, group, last, more}
use Rattle.writing.specs.Text.{spelling, text_of, own_pair, outline_text, outline_pairs}
use Rattle.newick.specs.Trees.{chain_of}
use Rattle.writing.specs.Inner.{chain_text, chain_pairs, head, tail, Along, Writable}
use Rattle.newick.proofs.Traced.{chain_tree}

-- ---- a chain by its two links: whether the record is a taxon, whether it is the last
text_grown : (b c : Bool) (p l : ℕ) (ms ns : Tree chain)
    → spelling (if c then last (if b then taxon p l else group ms l) else more (if b then taxon p l else group ms l) ns)
    ≡ (if b then decimal p else 40 ∷ []) ++ ((if b then [] else spelling ms)
    ++ (((if b then [] else 41 ∷ []) ++ (58 ∷ (decimal l ++ (if c then [] else 44 ∷ [])))) ++ (if c then [] else spelling ns)))
unfolding spelling
text_grown true true p l ms ns = rw (append-nil (decimal l), append-nil (decimal l))
text_grown true false p l ms ns =
    append_assoc (decimal p) (58 ∷ decimal l) (44 ∷ spelling ns)
    ∙ ap (λ s. decimal p ++ (58 ∷ s)) (sym (append_assoc (decimal l) (44 ∷ []) (spelling ns)))
text_grown false true p l ms ns = rw (append-nil (decimal l), append-nil (decimal l))
text_grown false false p l ms ns =
    ap (λ s. 40 ∷ s)
    (append_assoc (spelling ms) (41 ∷ 58 ∷ decimal l) (44 ∷ spelling ns)
    ∙ ap (λ s. spelling ms ++ (41 ∷ 58 ∷ s)) (sym (append_assoc (decimal l) (44 ∷ []) (spelling ns))))

-- no record begins no text and no pairs
pub text_none : (o : List ℕ) (pen : Pen ℕ) {r : ℕ} → r ≡ 0 → Put (chain_text o r) pen pen
text_none o pen z = rw (eq-eqb _ 0 z) (put_nothing pen)

pub pairs_none : (o : List ℕ) (pen : Pen ℕ) {r : ℕ} → r ≡ 0 → Put (chain_pairs o r) pen pen
unfolding texts
pairs_none o pen z = rw (z, chain_none (size o) o) (put_nothing pen)

module _ {o : List ℕ} {r : ℕ} (along : Along o r) (some : r ≢ 0) where
  formed : WellFormed o
  formed = accepted_formed o along.accepted

  pub this : IsRecord o r
  this = record { low = omega arith; high = along.most }

  -- a link of it leads to fewer records
  link_falls : {q : ℕ} → Later o r q → (left o q < left o r) × Along o q
  link_falls {q} later = (left_less o r q this.low this.high later, record { accepted = along.accepted; most = later.most })

  pub first_falls : {q : ℕ} → q ≡ first o r → (left o q < left o r) × Along o q
  first_falls e = link_falls (subst (Later o r) (sym e) (formed.linked.first_later r this.low this.high))

  pub next_falls : {q : ℕ} → q ≡ next o r → (left o q < left o r) × Along o q
  next_falls e = link_falls (subst (Later o r) (sym e) (formed.linked.next_later r this.low this.high))

  -- its own text round that of its members, then the rest of the chain's
  text_step : chain_text o r ≡ head o r ++ (chain_text o (first o r) ++ (tail o r ++ chain_text o (next o r)))
  unfolding head tail
  text_step =
      ap (λ b. if b then [] else spelling (chain_of o r)) (ne_eqb r 0 some) ∙ ap spelling (chain_tree o formed.linked r this.low this.high)
      ∙ text_grown (is_taxon o r) (eqb (next o r) 0) (plate o r) (branch o r) (chain_of o (first o r)) (chain_of o (next o r))

  -- so in four pieces, by the two links
  pub text_left : {f n : ℕ} (pen : Pen ℕ) → f ≡ first o r → n ≡ next o r → LongEnough (chain_text o r) pen
      → Left (chain_text o r) pen (head o r ++ (chain_text o f ++ (tail o r ++ chain_text o n))) pen
  text_left pen e d fits =
      subst (λ rest. Left (chain_text o r) pen rest pen) (text_step ∙ rw (e, d)) (left_starts fits)

  -- its own pair, its members', those of the rest of the chain
  pairs_step : chain_pairs o r ≡ own_pair o r ++ (chain_pairs o (first o r) ++ chain_pairs o (next o r))
  unfolding texts
  pairs_step =
      ap (texts (own_pair o)) (chain_step o formed.linked r this.low this.high)
      ∙ ap (λ s. own_pair o r ++ s) (texts_both (own_pair o) (chain_from (size o) o (first o r)) (chain_from (size o) o (next o r)))

  pub pairs_left : {f n : ℕ} (pen : Pen ℕ) → f ≡ first o r → n ≡ next o r → LongEnough (chain_pairs o r) pen
      → Left (chain_pairs o r) pen (own_pair o r ++ (chain_pairs o f ++ chain_pairs o n)) pen
  pairs_left pen e d fits =
      subst (λ rest. Left (chain_pairs o r) pen rest pen) (pairs_step ∙ rw (e, d)) (left_starts fits)

-- ---- what stands after a record's members: the bracket of a group; then the colon and the length, and the comma before another
abbrev pub comma : List ℕ → ℕ → List ℕ
comma o r = if eqb (next o r) 0 then [] else 44 ∷ []

abbrev pub after_bracket : List ℕ → ℕ → List ℕ
after_bracket o r = (58 ∷ []) ++ (decimal (branch o r) ++ comma o r)

pub tail_left : (o : List ℕ) (r : ℕ) (b : Bool) (pen : Pen ℕ) → b ≡ is_taxon o r → LongEnough (tail o r) pen
    → Left (tail o r) pen ((if b then [] else 41 ∷ []) ++ after_bracket o r) pen
unfolding tail
tail_left o r b pen e fits = rw e (left_starts fits)

-- ---- the whole outline: the chain of record 1
text_whole : (o : List ℕ) → WellFormed o → outline_text o ≡ chain_text o 1 ++ (59 ∷ [])
unfolding text_of spelling
text_whole o k =
    let alone = rw (eq-eqb (next o 1) 0 k.linked.root_alone) at (chain_tree o k.linked 1 (omega arith) k.linked.filled) in
    rw alone

pairs_whole : (o : List ℕ) → WellFormed o → outline_pairs o ≡ chain_pairs o 1
unfolding outline_pairs
pairs_whole o k = ap (texts (own_pair o)) (clade_root o k.linked)

module _ {o text pairs : List ℕ} (w : Writable o text pairs) where
  all_kept : WellFormed o
  all_kept = accepted_formed o w.accepted

  pub root_along : Along o 1
  root_along = record { accepted = w.accepted; most = all_kept.linked.filled }

  -- its text, then the semicolon
  pub root_left : (pen : Pen ℕ) → pen.at ≡ 0 → pen.buffer.now ≡ text → Left (outline_text o) pen (chain_text o 1 ++ (59 ∷ [])) pen
  root_left pen z e =
      subst (λ s. Left (outline_text o) pen s pen) (text_whole o all_kept) (left_starts (omega (arith, w.text_room, z, ap length e)))

  pub root_fits : length (chain_text o 1) ≤ length text
  root_fits = omega (arith, w.text_room, simp length-append at (ap length (text_whole o all_kept)))

  -- its pairs
  pub pairs_fit : length (chain_pairs o 1) ≤ length pairs
  pairs_fit = rw (← pairs_whole o all_kept) w.pairs_room

  pub pairs_alike : chain_pairs o 1 ≡ outline_pairs o
  pairs_alike = sym (pairs_whole o all_kept)
