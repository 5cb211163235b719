-- What the listing program prints for what it reads, in ASCII. Document 01, "Printed by the listing program", line by line, with the
-- three columns and the total of document 02, §6.
use Rattle.std.specs.Prelude.{if◌then◌else◌, ℕ, ◌+◌, List, [], ◌∷◌, ◌++◌, length, take, drop, replicate, ltb}
use Rattle.lists.specs.Lists.{from}
use Rattle.refusals.specs.Refusals.{Ruling}
use Rattle.outline.specs.Outline.{short, records}
use Rattle.diversity.specs.Diversity.{chosen, diversity, cost}
use Rattle.diversity.specs.Search.{best_diversity, least_cost}
use Rattle.choice.specs.Answer.{Call, judged, is_selected, best_set, figures}
use Rattle.sheet.specs.Sheet.{row_of, sum_of}
use Rattle.text.specs.Text.{line, labelled, texts}

-- the program lends 127 marks, 1,024 curve numbers and 6,528 work numbers
unfoldable pub call_with : List ℕ → ℕ → ℕ → Call
call_with o count way =
    record { outline = o; count = count; way = way; marks = replicate 127 0; curve = replicate 1024 0; work = replicate 6528 0 }

-- page count (2 bytes), way (2 bytes), both low byte first, then the outline
unfoldable pub call_of : List ℕ → Call
call_of bytes = call_with (drop 4 bytes) (short bytes 0) (short bytes 2)

-- a refusal prints `refused`, number, place
unfoldable pub refusal_text : Ruling → List ℕ
refusal_text t = labelled (114 ∷ 101 ∷ 102 ∷ 117 ∷ 115 ∷ 101 ∷ 100 ∷ []) (t.number ∷ t.place ∷ [])

-- a selection prints one line with page count, way, diversity, cost, number of taxa
unfoldable pub first_line : Call → List ℕ
first_line c = line (c.count ∷ c.way ∷ (figures c).diversity ∷ (figures c).cost ∷ (figures c).taxa ∷ [])

-- then a line per column with b, diversity, cost
unfoldable pub column_line : Call → ℕ → List ℕ
column_line c b = line (b ∷ best_diversity c.outline c.way b ∷ least_cost c.outline c.way b ∷ [])

-- then the sheet of the chosen set: a line per chosen taxon in record order with plate, quarters added and diversity added, which is
-- the taxon's row
unfoldable pub taxon_line : List ℕ → ℕ → List ℕ → ℕ → List ℕ
taxon_line o way s r = if chosen s r then line (row_of o way s r) else []

-- and `total`, quarters, diversity: the sums over the rows
abbrev pub total_word : List ℕ
total_word = 116 ∷ 111 ∷ 116 ∷ 97 ∷ 108 ∷ []

unfoldable pub total_line : List ℕ → ℕ → List ℕ → List ℕ
total_line o way s = labelled total_word (sum_of (cost o) o s ∷ sum_of (diversity o way) o s ∷ [])

unfoldable pub sheet_text : List ℕ → ℕ → List ℕ → List ℕ
sheet_text o way s = texts (taxon_line o way s) (records o) ++ total_line o way s

unfoldable pub selection_text : Call → List ℕ
selection_text c = first_line c ++ (texts (column_line c) (from 0 (c.count + 1)) ++ sheet_text c.outline c.way (best_set c))

-- what a call prints
unfoldable pub answer_text : Call → List ℕ
answer_text c = if is_selected c then selection_text c else refusal_text (judged c)

-- what an input prints: the program judges the first 2,052 bytes at most; fewer than 4 bytes count as refusal 2
unfoldable pub printed : List ℕ → List ℕ
printed input = if ltb (length input) 4 then refusal_text (record { number = 2; place = 0 }) else answer_text (call_of (take 2052 input))
