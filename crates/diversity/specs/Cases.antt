-- A case: a call, what the definitions give for it, and what other sets that it speaks of are worth.
use Rattle.std.specs.Prelude.{ℕ, List, map}
use Rattle.refusals.specs.Refusals.{Ruling, passed}
use Rattle.outline.specs.Answer.{checked}
use Rattle.diversity.specs.Diversity.{diversity, cost, chosen_taxa}
use Rattle.diversity.specs.Search.{optimum, best_diversity, least_cost, spare}

-- what choosing gives: what the check tells of the outline, the marks, and the four numbers
pub record Choice : Type 0 where
  pub check : Ruling
  pub marks : List ℕ
  pub diversity : ℕ
  pub cost : ℕ
  pub taxa : ℕ
  pub spare : ℕ

-- another set that a case speaks of, and what it is worth
pub record Rival : Type 0 where
  pub marks : List ℕ
  pub diversity : ℕ
  pub cost : ℕ

pub record Case : Type 0 where
  pub outline : List ℕ
  pub way : ℕ
  pub count : ℕ
  pub gives : Choice
  pub rivals : List Rival

-- a case with what the definitions give in place of what it says
abbrev pub computed : Case → Case
computed c =
    let o = c.outline in
    let best = optimum o c.way c.count in
    record {
      outline = o;
      way = c.way;
      count = c.count;
      gives = record {
        check = checked o;
        marks = best;
        diversity = best_diversity o c.way c.count;
        cost = least_cost o c.way c.count;
        taxa = chosen_taxa o best;
        spare = spare o c.way c.count;
      };
      rivals = map (λ (v : Rival). record { marks = v.marks; diversity = diversity o c.way v.marks; cost = cost o v.marks }) c.rivals;
    }

-- a selection of an accepted outline: marks, diversity, cost, number of taxa, spare
abbrev pub selects : List ℕ → ℕ → ℕ → ℕ → ℕ → Choice
selects marks diversity cost taxa spare = record { check = passed; marks = marks; diversity = diversity; cost = cost; taxa = taxa; spare = spare }

abbrev pub rival : List ℕ → ℕ → ℕ → Rival
rival marks diversity cost = record { marks = marks; diversity = diversity; cost = cost }

-- an outline, a way and a page count; the selection; other sets
abbrev pub given : List ℕ → ℕ → ℕ → Choice → List Rival → Case
given outline way count gives rivals = record { outline = outline; way = way; count = count; gives = gives; rivals = rivals }
