-- How many bytes a text has: those that are the records' own, together.
use Rattle.std.specs.Prelude.{if◌then◌else◌}
use Prim.Native.Nat.{ℕ, zero, suc, ◌+◌, ◌*◌, ◌^◌, ◌≤◌, ◌<◌}
use mathlib.Core.Path.{◌≡◌, refl, ap, ◌∙◌}
use mathlib.Core.Bool.{Bool, true, false, not}
use mathlib.Core.List.{List, [], ◌∷◌}
use native.Mathlib.Omega.{arith}
use lib.Dec.{eqb}
use lib.ListN.{length, length-append}
use mir.Val.{bool_byte}
use borrow.Author.Tests.{ne_eqb}
use Rattle.lists.specs.Lists.{one, from, total}
use Rattle.outline.specs.WellFormed.{Linked}
use Rattle.outline.specs.Outline.{size, records, next, branch, plate, is_taxon, IsRecord}
use Rattle.laws.proofs.Chains.{total_root, clade_size}
use Rattle.laws.proofs.Sums.{total_append}
use Rattle.text.specs.Text.{decimal, digits_in}
use Rattle.text.proofs.Decimal.{decimal_is, decimal_most}
use Rattle.std.specs.Fmt.{decimal as std_decimal}
use Rattle.std.proofs.lemmas.List.Sums.{sum_by_from}
use Rattle.std.specs.List.{sum_by, range_with_len}
use Rattle.std.specs.Prelude.{Option, Some, None, IfNone, IfSome, unwrap_or}
use mathlib.Core.Logic.{⊎_elim}
use Rattle.std.proofs.lemmas.Bool.{cases_lt}
use Rattle.std.proofs.lemmas.Fmt.{decimal_is_IsNumeral, length-decimal-le}
use Rattle.std.proofs.lemmas.Int.Digits.{digits_value-lt}
use native.Mathlib.Nat.{pow-succ'}
use Rattle.std.proofs.Math.Nat.{pow-le-pow_right}
use Rattle.newick.specs.Grammar.{Kind, part, chain, Tree, most_bytes}
use Rattle.writing.specs.Text.{spelling, text_of, outline_text}
use Rattle.newick.specs.Trees.{tree_of}
use Rattle.writing.specs.Inner.{head, tail, own_bytes}
use Rattle.newick.proofs.Plain.{Plain, plate_small}
use Rattle.newick.proofs.Traced.{Traced, taxon_at, group_at, last_at, more_at, tree_traced}
use Rattle.outline.specs.Rules.{most_records, most_taxa, taxa_in, taxa}

-- a comma, where another record follows
abbrev comma : ℕ → List ℕ
comma next = if eqb next 0 then [] else 44 ∷ []

-- after a chain there is none
abbrev trailing : Kind → List ℕ → ℕ → List ℕ
trailing part o r = comma (next o r)
trailing chain o r = []

-- a plate or two brackets, the colon, the length, a comma
own_length : (o : List ℕ) (r : ℕ) (b : Bool) → is_taxon o r ≡ b
    → own_bytes o r ≡ (if b then length (decimal (plate o r)) else 2) + (1 + length (decimal (branch o r)) + length (comma (next o r)))
unfolding head tail
own_length o r true e = rw e (omega (arith, length-append (decimal (branch o r)) (comma (next o r))))
own_length o r false e = rw e (omega (arith, length-append (decimal (branch o r)) (comma (next o r))))

-- ---- as the code counts them
digits_counted : (n k : ℕ) → n < 4294967296 → 10 ^ k ≤ n → n < 10 * 10 ^ k → k + 1 ≡ length (decimal n)
digits_counted n k small low high =
    let wide : n < 2 ^ 64 = omega arith in
    let most : n < 10 ^ suc k = rw (pow-succ' 10 k) high in
    let few : length (std_decimal n) ≤ suc k = length-decimal-le (suc k) n (omega arith) most wide in
    let told = decimal_is_IsNumeral n wide in
    let value : n < 10 ^ length (std_decimal n) = rw told.1 at (digits_value-lt 10 (std_decimal n) told.0.1) in
    rw (decimal_is n wide) (⊎_elim (λ (h : k < length (std_decimal n)). omega arith)
    (λ (h : length (std_decimal n) ≤ k). absurd (omega (arith, value, low, pow-le-pow_right {n = 10} (omega arith) h))) (cases_lt k (length (std_decimal n))))

pub digits_told : (n : ℕ) (log : Option ℕ) → n < 4294967296 → IfNone log (n ≡ 0) → IfSome log (λ k. 10 ^ k ≤ n) → IfSome log (λ k. n < 10 * 10 ^ k)
    → unwrap_or log 0 + 1 ≡ length (decimal n)
unfolding decimal digits_in
digits_told n None small none low high = rw none refl
digits_told n (Some k) small none low high = digits_counted n k small low high

pub digits_few : (n : ℕ) → n < 4294967296 → length (decimal n) ≤ 10
digits_few n h = decimal_most 9 n (omega arith)

-- a sum over a range is one over the numbers from its first on
pub summed : (f : ℕ → ℕ) (k n : ℕ) → sum_by f (range_with_len k n) ≡ total f (from k n)
unfolding total from
summed f k zero = refl
summed f k (suc n) = sum_by_from f (0 + f k) (range_with_len (k + 1) n) ∙ omega (arith, summed f (k + 1) n)

comma_counted : (next : ℕ) → bool_byte (not (eqb next 0)) ≡ length (comma next)
comma_counted next = go (eqb next 0)
  where
    go : (b : Bool) → bool_byte (not b) ≡ length {A = ℕ} (if b then [] else 44 ∷ [])
    go true = refl
    go false = refl

module _ (o : List ℕ) (r : ℕ) where
  pub own_taxon : {p l n j k : ℕ} → is_taxon o r ≡ true → p ≡ plate o r → j ≡ length (decimal p) → l ≡ branch o r → k ≡ length (decimal l)
      → n ≡ next o r → j + (k + 1 + bool_byte (not (eqb n 0))) ≡ own_bytes o r
  own_taxon e f g h i m = rw (g, f, i, h, m) (omega (arith, own_length o r true e, comma_counted (next o r)))

  pub own_group : {l n k : ℕ} → is_taxon o r ≡ false → l ≡ branch o r → k ≡ length (decimal l) → n ≡ next o r
      → 2 + (k + 1 + bool_byte (not (eqb n 0))) ≡ own_bytes o r
  own_group e h i m = rw (i, h, m) (omega (arith, own_length o r false e, comma_counted (next o r)))

-- ---- a tree's bytes, with the comma after it
traced_bytes : {o : List ℕ} {κ : Kind} {t : Tree κ} {r : ℕ} {rs : List ℕ} → Traced o κ t r rs
    → length (spelling t) + length (trailing κ o r) ≡ total (own_bytes o) rs
unfolding spelling total
traced_bytes {o} {r = r} (taxon_at i e) =
    omega (arith, own_length o r true e, length-append (decimal (plate o r)) (58 ∷ decimal (branch o r)))
traced_bytes {o} {r = r} (group_at {ms = ms} i e x) =
    omega (arith, own_length o r false e, traced_bytes x, length-append (spelling ms) (41 ∷ 58 ∷ decimal (branch o r)))
traced_bytes (last_at e x) = let own = rw e at (traced_bytes x) in omega (arith, own)
traced_bytes {o} {r = r} (more_at {t = t} {ms = ms} {rs = rs} {qs = qs} e x y) =
    let own = rw (ne_eqb (next o r) 0 (λ z. omega arith)) at (traced_bytes x) in
    rw (total_append (own_bytes o) rs qs) (omega (arith, own, traced_bytes y, length-append (spelling t) (44 ∷ spelling ms)))

-- the text is as long as all records' bytes, with the semicolon
pub text_length : (o : List ℕ) → Linked o → length (outline_text o) ≡ total (own_bytes o) (records o) + 1
unfolding text_of
text_length o linked =
    let all = rw linked.root_alone at (traced_bytes (tree_traced o linked)) in
    omega (arith, all, total_root o linked (own_bytes o), length-append (spelling (tree_of o)) (59 ∷ []))

-- a length has at most seven digits
length_digits : {o : List ℕ} → Plain o → (r : ℕ) → IsRecord o r → length (decimal (branch o r)) ≤ 7
length_digits {o} plain r i =
    let most = (plain.formed.ranged r i.low i.high).branch_most in
    decimal_most 6 (branch o r) (omega arith)

-- ---- at most 18 bytes for a taxon and 10 for a group: a comma, a bracket or the semicolon follows each
traced_most : {o : List ℕ} → Plain o → {κ : Kind} {t : Tree κ} {r : ℕ} {rs : List ℕ} → Traced o κ t r rs
    → length (spelling t) + 1 ≤ 10 * length rs + 8 * taxa_in o rs
unfolding spelling total taxa_in
traced_most {o} plain {r = r} (taxon_at i e) =
    let digits : length (decimal (plate o r)) ≤ 9 = let most = plate_small plain r i in decimal_most 8 (plate o r) (omega arith) in
    omega (arith, ap one e, digits, length_digits plain r i, length-append (decimal (plate o r)) (58 ∷ decimal (branch o r)))
traced_most {o} plain {r = r} (group_at {ms = ms} i e x) =
    omega (arith, ap one e, length_digits plain r i, traced_most plain x, length-append (spelling ms) (41 ∷ 58 ∷ decimal (branch o r)))
traced_most plain (last_at e x) = traced_most plain x
traced_most {o} plain (more_at {t = t} {ms = ms} {rs = rs} {qs = qs} e x y) =
    omega (
      arith,
      traced_most plain x,
      traced_most plain y,
      length-append (spelling t) (44 ∷ spelling ms),
      length-append rs qs,
      total_append (λ q. one (is_taxon o q)) rs qs,
    )

pub text_most : {o : List ℕ} → Plain o → length (outline_text o) ≤ 10 * size o + 8 * taxa o
unfolding text_of taxa taxa_in
text_most {o} plain =
    let linked = plain.formed.linked in
    omega (
      arith,
      traced_most plain (tree_traced o linked),
      clade_size o linked,
      total_root o linked (λ q. one (is_taxon o q)),
      length-append (spelling (tree_of o)) (59 ∷ []),
    )

-- so at most so many, for the largest outline
abbrev pub most_written : ℕ
most_written = 10 * most_records + 8 * most_taxa

pub text_few : {o : List ℕ} → Plain o → length (outline_text o) ≤ most_written
text_few {o} plain = omega (arith, text_most plain, plain.formed.size_most, plain.formed.taxa_most)

-- far fewer than a text may have
pub text_short : {o : List ℕ} → Plain o → length (outline_text o) ≤ most_bytes
text_short plain = omega (arith, text_few plain)
