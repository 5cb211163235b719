-- The records of a tree, in a draft.
use Prim.Native.Nat.{ℕ, ◌+◌, ◌*◌, ◌≤◌}
use mathlib.Core.Path.{◌≡◌, sym, ap, ◌∙◌}
use mathlib.Core.List.{List, ◌++◌, append-nil}
use native.Mathlib.Omega.{arith}
use lib.ListN.{length}
use borrow.Author.Tests.{ne_eqb}
use Rattle.lists.specs.Lists.{over_at}
use Rattle.lists.proofs.Pieces.{over_both, over_before}
use Rattle.outline.specs.Outline.{record_bytes}
use Rattle.records.proofs.Records.{record_length}
use Rattle.newick.specs.Grammar.{part, chain, Tree, taxon, group, last, more}
use Rattle.newick.specs.Layout.{count, rows}
use Rattle.newick.specs.Pairs.{price_in}
use Rattle.newick.proofs.Layouts.{count_some, rows_length}
use Rattle.reading.specs.Inner.{record_of, fields_of, below}
use Rattle.reading.specs.declared.draft.Part.{Part}
use Rattle.outline.specs.Rules.{most_records}

-- a part's own record and those below it
rows_own : (pairs : List ℕ) (k next : ℕ) (t : Tree part)
    → rows (price_in pairs) t (k + 1) next ≡ record_of pairs next (fields_of k t) ++ below pairs k t
unfolding rows
rows_own pairs k next (taxon p l) = sym (append-nil (record_bytes next 0 l (price_in pairs p) p))
rows_own pairs k next (group ms l) =
    let second : k + 1 + 1 ≡ k + 2 = omega arith in
    rw (second, ne_eqb (k + 2) 0 (λ e. omega arith))

-- a part's record is drafted after those below it
pub own_drafted : (pairs : List ℕ) (k next : ℕ) {p : Part} (draft : List ℕ) {mid : List ℕ} (t : Tree part)
    → k + count t ≤ most_records → length draft ≡ 16 * most_records → p ≡ fields_of k t → mid ≡ over_at (16 * (k + 1)) (below pairs k t) draft
    → over_at (16 * k) (record_of pairs next p) mid ≡ over_at (16 * k) (rows (price_in pairs) t (k + 1) next) draft
own_drafted pairs k next {p} draft {mid} t u l e m =
    let own = record_of pairs next (fields_of k t) in
    let some = count_some t in
    let long : length own ≡ 16 = record_length next _ _ _ _ in
    rw (e, m, rows_own pairs k next t)
    (over_before (16 * k) (16 * (k + 1)) own (below pairs k t) draft (omega arith) (omega arith))

-- a list of one member has its records
pub last_drafted : (price : ℕ → ℕ) (k : ℕ) (draft : List ℕ) {after : List ℕ} (t : Tree part)
    → after ≡ over_at (16 * k) (rows price t (k + 1) 0) draft → after ≡ over_at (16 * k) (rows price (last t) (k + 1) 0) draft
unfolding rows
last_drafted price k draft t e = e

-- a list's records are drafted after those of its first member
pub list_drafted : (pairs : List ℕ) (k to : ℕ) (draft : List ℕ) {mid after : List ℕ} (t : Tree part) (ms : Tree chain)
    → k + count t ≤ most_records → length draft ≡ 16 * most_records → to ≡ k + count t
    → mid ≡ over_at (16 * k) (rows (price_in pairs) t (k + 1) (to + 1)) draft → after ≡ over_at (16 * to) (rows (price_in pairs) ms (to + 1) 0) mid
    → after ≡ over_at (16 * k) (rows (price_in pairs) (more t ms) (k + 1) 0) draft
unfolding rows
list_drafted pairs k to draft {mid} {after} t ms u l e m d =
    let s = rows (price_in pairs) t (k + 1) (to + 1) in
    let r = rows (price_in pairs) ms (to + 1) 0 in
    let n : to + 1 ≡ k + 1 + count t = omega arith in
    d ∙ ap (over_at (16 * to) r) m
    ∙ over_both (16 * k) (16 * to) s r draft (omega arith) (omega (arith, rows_length (price_in pairs) t (k + 1) (to + 1)))
    ∙ ap (λ j. over_at (16 * k) (rows (price_in pairs) t (k + 1) j ++ rows (price_in pairs) ms j 0) draft) n
