-- Sets of taxa as numbers: their order is the tie rule, and a number determines its set, for any number of taxa.
use Rattle.std.specs.Prelude.{if◌then◌else◌}
use Prim.Native.Nat.{ℕ, zero, suc, ◌+◌, ◌*◌, ◌-◌, ◌/◌, ◌%◌, ◌^◌, ◌≤◌, ◌<◌}
use mathlib.Core.Path.{◌≡◌, refl, sym, ap, ap₂, ◌∙◌}
use mathlib.Core.Bool.{Bool, true, false}
use mathlib.Core.List.{List, [], ◌∷◌, map}
use native.Mathlib.Omega.{arith}
use native.Mathlib.Nat.{add_comm, two-pow-succ}
use native.Mathlib.Numerals.{add-one}
use lib.Dec.{eqb, ltb}
use lib.ListN.{get_or}
use lib.Pow.{high, pow_pos, pow_mono}
use borrow.Author.Tests.{lt-ltb, le-ltb, ltb-true, ltb-false}
use Rattle.lists.specs.Lists.{from, total}
use Rattle.outline.specs.Outline.{size, records, is_taxon}
use Rattle.diversity.specs.Diversity.{chosen}
use Rattle.diversity.specs.Behind.{IsSet}
use Rattle.diversity.specs.Search.{leads}
use Rattle.laws.specs.Candidate.{Value}
use Rattle.laws.specs.Numbers.{weight, code, decode, worth}
use Rattle.laws.proofs.Marks.{Marked, done, leave, choose, set_marked}
use Rattle.outline.specs.Rules.{taxa_in, taxa}

-- one record more: twice as many codes at a taxon, as many at a group
taxa_taxon : (o : List ℕ) (r : ℕ) (rs : List ℕ) → is_taxon o r ≡ true → 2 ^ taxa_in o (r ∷ rs) ≡ 2 ^ taxa_in o rs + 2 ^ taxa_in o rs
unfolding taxa_in total
taxa_taxon o r rs e = rw (e, add_comm 1, add-one, two-pow-succ)

taxa_group : (o : List ℕ) (r : ℕ) (rs : List ℕ) → is_taxon o r ≡ false → taxa_in o (r ∷ rs) ≡ taxa_in o rs
unfolding taxa_in total
taxa_group o r rs e = rw e (omega arith)

taxa_more : (o : List ℕ) (r : ℕ) (rs : List ℕ) → 2 ^ taxa_in o rs ≤ 2 ^ taxa_in o (r ∷ rs)
unfolding taxa_in total
taxa_more o r rs = pow_mono (omega arith)

-- ---- the number of the marks of the records rs, record by record
code_from : List ℕ → List ℕ → List ℕ → ℕ
code_from o [] s = 0
code_from o (r ∷ rs) [] = 0
code_from o (r ∷ rs) (a ∷ s) = a * 2 ^ taxa_in o rs + code_from o rs s

code_from_below : {o rs s : List ℕ} → Marked o rs s → code_from o rs s < 2 ^ taxa_in o rs
unfolding code_from
code_from_below {o} done = pow_pos (taxa_in o [])
code_from_below {o} (leave {r} {rs} m) = omega (arith, code_from_below m, taxa_more o r rs)
code_from_below {o} (choose {r} {rs} e m) = rw (taxa_taxon o r rs e) (omega (arith, code_from_below m))

ltb_shift : (k a b : ℕ) → ltb (k + a) (k + b) ≡ ltb a b
ltb_shift k a b = go (ltb a b) refl
  where
    go : (t : Bool) → ltb a b ≡ t → ltb (k + a) (k + b) ≡ t
    go true e = lt-ltb (k + a) (k + b) (omega (arith, ltb-true))
    go false e = le-ltb (k + a) (k + b) (omega (arith, ltb-false))

ltb_digit : (k x y : ℕ) → x < k → ltb (0 * k + x) (1 * k + y) ≡ true
ltb_digit k x y h = lt-ltb (0 * k + x) (1 * k + y) (omega arith)

ltb_no_digit : (k x y : ℕ) → x < k → ltb (1 * k + y) (0 * k + x) ≡ false
ltb_no_digit k x y h = le-ltb (1 * k + y) (0 * k + x) (omega arith)

-- codes order the sets as the first mark on which they differ does
code_from_leads : {o rs s t : List ℕ} → Marked o rs s → Marked o rs t → ltb (code_from o rs t) (code_from o rs s) ≡ leads s t
unfolding leads code_from
code_from_leads done done = refl
code_from_leads {o} (leave {rs = rs} m) (leave n) = ltb_shift (0 * 2 ^ taxa_in o rs) _ _ ∙ code_from_leads m n
code_from_leads (leave m) (choose e n) = ltb_no_digit _ _ _ (code_from_below m)
code_from_leads (choose d m) (leave n) = ltb_digit _ _ _ (code_from_below n)
code_from_leads {o} (choose {rs = rs} d m) (choose e n) = ltb_shift (1 * 2 ^ taxa_in o rs) _ _ ∙ code_from_leads m n

code_from_inj : {o rs s t : List ℕ} → Marked o rs s → Marked o rs t → code_from o rs s ≡ code_from o rs t → s ≡ t
unfolding code_from
code_from_inj done done h = refl
code_from_inj (leave m) (leave n) h = ap (λ (s : List ℕ). 0 ∷ s) (code_from_inj m n (omega arith))
code_from_inj (leave m) (choose e n) h = let no : ⊥ = omega (arith, code_from_below m) in absurd no
code_from_inj (choose d m) (leave n) h = let no : ⊥ = omega (arith, code_from_below n) in absurd no
code_from_inj (choose d m) (choose e n) h = ap (λ (s : List ℕ). 1 ∷ s) (code_from_inj m n (omega arith))

-- ---- the marks again
marks_from : List ℕ → List ℕ → ℕ → List ℕ
marks_from o [] c = []
marks_from o (r ∷ rs) c = (if is_taxon o r then c / 2 ^ taxa_in o rs % 2 else 0) ∷ marks_from o rs c

-- m stands for the digits of earlier records
module _ (o : List ℕ) (r : ℕ) (rs s : List ℕ) (m c : ℕ) (x<k : code_from o rs s < 2 ^ taxa_in o rs)
    (below : (m : ℕ) → c ≡ m * 2 ^ taxa_in o rs + code_from o rs s → marks_from o rs c ≡ s) where
  marks_from_taxon : (a : ℕ) → a < 2 → is_taxon o r ≡ true → c ≡ m * 2 ^ taxa_in o (r ∷ rs) + (a * 2 ^ taxa_in o rs + code_from o rs s)
      → marks_from o (r ∷ rs) c ≡ a ∷ s
  unfolding marks_from
  marks_from_taxon a h t e =
      let d : c ≡ m * (2 ^ taxa_in o rs + 2 ^ taxa_in o rs) + (a * 2 ^ taxa_in o rs + code_from o rs s) = rw (taxa_taxon o r rs t) at e in
      let f : c ≡ (2 * m + a) * 2 ^ taxa_in o rs + code_from o rs s = omega arith in
      let q : c / 2 ^ taxa_in o rs ≡ 2 * m + a = rw f (high (2 * m + a) (taxa_in o rs) x<k) in
      rw t (ap₂ ◌∷◌ (rw q (omega arith)) (below (2 * m + a) f))

  marks_from_group : is_taxon o r ≡ false → c ≡ m * 2 ^ taxa_in o (r ∷ rs) + (0 * 2 ^ taxa_in o rs + code_from o rs s)
      → marks_from o (r ∷ rs) c ≡ 0 ∷ s
  unfolding marks_from
  marks_from_group t e =
      let d : c ≡ m * 2 ^ taxa_in o rs + (0 * 2 ^ taxa_in o rs + code_from o rs s) = rw (taxa_group o r rs t) at e in
      rw t (ap (◌∷◌ 0) (below m (omega arith)))

  marks_from_zero : (b : Bool) → is_taxon o r ≡ b → c ≡ m * 2 ^ taxa_in o (r ∷ rs) + (0 * 2 ^ taxa_in o rs + code_from o rs s)
      → marks_from o (r ∷ rs) c ≡ 0 ∷ s
  marks_from_zero true = marks_from_taxon 0 (omega arith)
  marks_from_zero false = marks_from_group

marks_from_code : {o rs s : List ℕ} → Marked o rs s → (m c : ℕ) → c ≡ m * 2 ^ taxa_in o rs + code_from o rs s → marks_from o rs c ≡ s
unfolding code_from marks_from
marks_from_code done m c e = refl
marks_from_code {o} (leave {r} {rs} {s} h) m c e =
    marks_from_zero o r rs s m c (code_from_below h) (λ n. marks_from_code h n c) (is_taxon o r) refl e
marks_from_code {o} (choose {r} {rs} {s} t h) m c e =
    marks_from_taxon o r rs s m c (code_from_below h) (λ n. marks_from_code h n c) 1 (omega arith) t e

-- ---- the same by weights, over all records
weight_from : (o : List ℕ) (k n : ℕ) → k + n ≡ size o → weight o k ≡ 2 ^ taxa_in o (from (k + 1) n)
unfolding weight
weight_from o k n e = let f : size o - k ≡ n = omega arith in rw f

-- all weights together are below the next power of 2
weights_from : (o : List ℕ) (k n : ℕ) → k + n ≡ size o
    → total (λ r. if is_taxon o r then weight o r else 0) (from (k + 1) n) < 2 ^ taxa_in o (from (k + 1) n)
unfolding total from
weights_from o k zero e = pow_pos (taxa_in o [])
weights_from o k (suc n) e = go (is_taxon o (k + 1)) refl (weights_from o (k + 1) n (omega arith)) (weight_from o (k + 1) n (omega arith))
  where
    rest : List ℕ
    rest = from (k + 1 + 1) n

    go : {s : ℕ} (b : Bool) → is_taxon o (k + 1) ≡ b → s < 2 ^ taxa_in o rest → weight o (k + 1) ≡ 2 ^ taxa_in o rest
        → (if is_taxon o (k + 1) then weight o (k + 1) else 0) + s < 2 ^ taxa_in o ((k + 1) ∷ rest)
    go true t h w = rw (taxa_taxon o (k + 1) rest t, t) (omega arith)
    go false t h w = rw (taxa_group o (k + 1) rest t, t) (omega arith)

pub weights_below : (o : List ℕ) → total (λ r. if is_taxon o r then weight o r else 0) (records o) < 2 ^ taxa o
unfolding records taxa
weights_below o = weights_from o 0 (size o) (omega arith)

decode_from : (o : List ℕ) (c k n : ℕ) → k + n ≡ size o
    → map (λ r. if is_taxon o r then c / weight o r % 2 else 0) (from (k + 1) n) ≡ marks_from o (from (k + 1) n) c
unfolding marks_from from
decode_from o c k zero e = refl
decode_from o c k (suc n) e = rw (weight_from o (k + 1) n (omega arith), decode_from o c (k + 1) n (omega arith))

-- t is s from its mark k on
From-mark : List ℕ → ℕ → List ℕ → Type 0
From-mark s k t = (i : ℕ) → get_or s (k + i) 0 ≡ get_or t i 0

chosen_first : (s : List ℕ) (k a : ℕ) (t : List ℕ) → From-mark s k (a ∷ t) → chosen s (k + 1) ≡ eqb a 1
unfolding From-mark chosen
chosen_first s k a t g = ap (λ (x : ℕ). eqb x 1) (ap (λ (j : ℕ). get_or s j 0) (omega arith) ∙ g 0)

from_next : (s : List ℕ) (k a : ℕ) (t : List ℕ) → From-mark s k (a ∷ t) → From-mark s (k + 1) t
unfolding From-mark
from_next s k a t g i = ap (λ (j : ℕ). get_or s j 0) (omega arith) ∙ g (suc i)

code_from_lem : (o s : List ℕ) {t : List ℕ} (k n : ℕ) → From-mark s k t → k + n ≡ size o → Marked o (from (k + 1) n) t
    → total (λ r. if chosen s r then weight o r else 0) (from (k + 1) n) ≡ code_from o (from (k + 1) n) t
unfolding code_from from total
code_from_lem o s k zero g e done = refl
code_from_lem o s k (suc n) g e (leave {s = t} m) =
    rw (chosen_first s k 0 t g, code_from_lem o s (k + 1) n (from_next s k 0 t g) (omega arith) m) (omega arith)
code_from_lem o s k (suc n) g e (choose {s = t} h m) =
    rw (chosen_first s k 1 t g, weight_from o (k + 1) n (omega arith), code_from_lem o s (k + 1) n (from_next s k 1 t g) (omega arith) m) (omega arith)

code_whole : {o s : List ℕ} → Marked o (records o) s → code o s ≡ code_from o (records o) s
unfolding code records From-mark
code_whole {o} {s} m = code_from_lem o s 0 (size o) (λ i. ap (λ (j : ℕ). get_or s j 0) (omega arith)) (omega arith) m

-- ---- of sets of taxa
module _ {o s t : List ℕ} (x : IsSet o s) (y : IsSet o t) where
  -- the order of numbers is the tie rule
  pub code_leads : ltb (code o t) (code o s) ≡ leads s t
  code_leads = let m = set_marked x in let n = set_marked y in rw (code_whole m, code_whole n, code_from_leads m n)

  -- a number determines its set
  pub code_inj : code o s ≡ code o t → s ≡ t
  code_inj e = let m = set_marked x in let n = set_marked y in code_from_inj m n (sym (code_whole m) ∙ e ∙ code_whole n)

  -- sets of one worth are one set
  pub worth_inj : (way : ℕ) → worth o way s ≡ worth o way t → s ≡ t
  unfolding worth
  worth_inj way e = code_inj (ap (λ (v : Value). v.code) e)

-- the marks can be read off the number
pub decode_code : {o s : List ℕ} → IsSet o s → decode o (code o s) ≡ s
unfolding decode records
decode_code {o} {s} x =
    let m = set_marked x in
    decode_from o (code o s) 0 (size o) (omega arith) ∙ marks_from_code m 0 (code o s) (omega (arith, code_whole m))

-- it has as many binary digits as the outline has taxa
pub code_below : {o s : List ℕ} → IsSet o s → code o s < 2 ^ taxa o
unfolding taxa
code_below x = let m = set_marked x in rw (code_whole m) (code_from_below m)
