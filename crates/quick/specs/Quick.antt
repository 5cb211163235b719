-- The quick choice: taxa picked one by one, and a ceiling that the best diversity is never above. Document 02, §8; rooted only.
use Rattle.std.specs.Prelude.{if◌then◌else◌, ℕ, zero, suc, ◌+◌, ◌-◌, Bool, ◌||◌, ◌&&◌, not, set, eqb, ltb, leb}
use mathlib.Core.List.{List, foldl}
use Rattle.lists.specs.Lists.{total}
use Rattle.outline.specs.Outline.{records, price, is_taxon}
use Rattle.diversity.specs.Diversity.{chosen, diversity, cost}
use Rattle.laws.specs.Locks.{locked_set}

-- set s with taxon t too
unfoldable pub with_taxon : List ℕ → ℕ → List ℕ
with_taxon s t = set s (t - 1) 1

-- what taxon t would add by itself to set s: diversity, and quarters with the headings that it opens
unfoldable pub added : List ℕ → List ℕ → ℕ → ℕ
added o s t = diversity o 0 (with_taxon s t) - diversity o 0 s

unfoldable pub added_cost : List ℕ → List ℕ → ℕ → ℕ
added_cost o s t = cost o (with_taxon s t) - cost o s

-- t is a taxon that is not in s, still fits page count b with its headings, and adds more than 0
unfoldable pub can_pick : List ℕ → ℕ → List ℕ → ℕ → Bool
can_pick o b s t = is_taxon o t && (not (chosen s t) && (leb (cost o (with_taxon s t)) b && ltb 0 (added o s t)))

-- t is picked rather than u: the greater added diversity, then the fewer added quarters, then the lower record
unfoldable pub rather : List ℕ → List ℕ → ℕ → ℕ → Bool
rather o s t u =
    ltb (added o s u) (added o s t)
    || (eqb (added o s t) (added o s u)
    && (ltb (added_cost o s t) (added_cost o s u) || (eqb (added_cost o s t) (added_cost o s u) && ltb t u)))

-- of the records one after the other, one that can be picked is taken in hand if none is there, or if it is picked rather than the one there
unfoldable pub in_hand : List ℕ → ℕ → List ℕ → ℕ → ℕ → ℕ
in_hand o b s hand t = if can_pick o b s t && (eqb hand 0 || rather o s t hand) then t else hand

-- the next pick; 0 if there is none
unfoldable pub picked : List ℕ → ℕ → List ℕ → ℕ
picked o b s = foldl (in_hand o b s) 0 (records o)

-- set s after at most k picks: picking ends where there is none
unfoldable pub after_picks : List ℕ → ℕ → ℕ → List ℕ → List ℕ
after_picks o b zero s = s
after_picks o b (suc k) s =
    let t = picked o b s in
    let more = after_picks o b k (with_taxon s t) in
    if eqb t 0 then s else more

-- the quick choice starts from the locked taxa
unfoldable pub quick : List ℕ → ℕ → ℕ → List ℕ
quick o b k = after_picks o b k (locked_set o)

-- the ceiling: the set's diversity, and the sum of what each taxon that is not in it and has a price of at most b would add by itself
unfoldable pub ceiling : List ℕ → ℕ → List ℕ → ℕ
ceiling o b s =
    diversity o 0 s + total (λ t. if is_taxon o t && (not (chosen s t) && leb (price o t) b) then added o s t else 0) (records o)
