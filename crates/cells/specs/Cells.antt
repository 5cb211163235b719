-- Candidates in two words each, and a list of numbers as candidates, cell by cell.
use Rattle.std.specs.Prelude.{if◌then◌else◌, ℕ, ◌+◌, ◌*◌, ◌-◌, ◌/◌, ◌%◌, ◌^◌, ◌<◌, List, eqb, get_or}
use Rattle.laws.specs.Candidate.{Cand, none, some}
use Rattle.cells.specs.declared.candidate.Candidate.{Candidate}

-- a score takes a diversity times this, less the cost; costs are below it, so that scores compare by diversity first and then
-- by cost
abbrev pub unit : ℕ
unit = 65536

-- times this, a number of locked taxa leaves room for a diversity below it
abbrev pub lift : ℕ
lift = 4294967296

-- a set's code is a number of one word, below this
abbrev pub word_limit : ℕ
word_limit = 2 ^ 64

-- the candidate of a score and a set; the score is (locked times the lift, and diversity + 1) times the unit, less the cost, or 0 for none
unfoldable pub seen : ℕ → ℕ → Cand
seen score set =
    if eqb score 0 then none else some (record { locked = (score - 1) / unit / lift; diversity = (score - 1) / unit % lift; cost = unit - 1 - (score - 1) % unit; code = set })

-- the candidate of two words
unfoldable pub view : Candidate → Cand
view c = seen c.score c.set

-- its parts, 0 for none
unfoldable pub locked_of : Cand → ℕ
locked_of none = 0
locked_of (some v) = v.locked

unfoldable pub diversity_of : Cand → ℕ
diversity_of none = 0
diversity_of (some v) = v.diversity

unfoldable pub cost_of : Cand → ℕ
cost_of none = 0
cost_of (some v) = v.cost

unfoldable pub code_of : Cand → ℕ
code_of none = 0
code_of (some v) = v.code

-- the sums of two candidates keep to their words
pub record Joinable (c d : Cand) : Type 0 where
  pub locked_fits : locked_of c + locked_of d < unit - 1
  pub diversity_fits : diversity_of c + diversity_of d < lift
  pub cost_fits : cost_of c + cost_of d < unit
  pub code_fits : code_of c + code_of d < word_limit

-- a candidate charged with a heading keeps to its words
pub record Chargeable (c : Cand) (branch price : ℕ) : Type 0 where
  pub locked_fits : locked_of c < unit - 1
  pub diversity_fits : branch + diversity_of c < lift
  pub cost_fits : price + cost_of c < unit

-- the candidate at a cell, which is two numbers of a list
unfoldable pub cell : List ℕ → ℕ → Cand
cell l k = seen (get_or l (2 * k) 0) (get_or l (2 * k + 1) 0)
