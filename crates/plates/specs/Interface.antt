-- What the C interface gives: the numbers that are returned and written, and what is left in the memory that was lent.
use Rattle.std.specs.Prelude.{ℕ, ℤ, pos, negsuc, ◌≡◌, List, length, get_or}
use Rattle.std.specs.Ordering.{int_cmp}
use Rattle.std.specs.declared.cmp.Ordering.{Ordering}
use Rattle.std.specs.declared.cmp.Ordering.TheVariants.{Less, Equal, Greater}
use Rattle.choice.specs.Answer as choose
use Rattle.choice.specs.declared.answer.Figures.{Figures as ChoiceFigures}
use Rattle.quick.specs.Answer as quick
use Rattle.quick.specs.declared.answer.Figures.{Figures as QuickFigures}
use Rattle.revise.specs.Answer as revise
use Rattle.revise.specs.declared.answer.Figures.{Figures as RevisedFigures}
use Rattle.range.specs.Answer as range
use Rattle.range.specs.declared.answer.Figures.{Figures as RangeFigures}
use Rattle.reading.specs.Answer as read
use Rattle.reading.specs.declared.answer.Figures.{Figures as ReadingFigures}
use Rattle.writing.specs.Answer as write
use Rattle.writing.specs.declared.answer.Figures.{Figures as WritingFigures}
use Rattle.refusals.specs.Refusals.{Ruling, ruling}
use Rattle.refusals.specs.Reply.{Reply}
use Rattle.house.specs.Answer as house
use Rattle.house.specs.Compared as compare
use Rattle.sheet.specs.Answer as sheet
use Rattle.sheet.specs.declared.answer.Figures.{Figures as SheetFigures}
use Rattle.view.specs.Answer as view

-- what a function gives with its `answer`: that has so many numbers and no more, the first of them is given, and they answer the
-- call
pub record Given {Told : Type 0} (many : ℕ) (told_in : List ℕ → Told) (Answered : Told → Type 0) (number : ℕ) (answer : List ℕ) : Type 0 where
  pub answer_long : length answer ≡ many
  pub number_given : number ≡ get_or answer 0 0
  pub answered : Answered (told_in answer)

-- a reply in an answer: number and place are its first two numbers, the figures those that follow
abbrev pub reply_in : {Figures : Type 0} → List ℕ → Figures → Reply Figures
reply_in answer figures = record { number = get_or answer 0 0; place = get_or answer 1 0; figures = figures }

-- the six numbers of choosing
abbrev pub chosen_in : List ℕ → Reply ChoiceFigures
chosen_in answer =
    reply_in answer
    (record { diversity = get_or answer 2 0; cost = get_or answer 3 0; taxa = get_or answer 4 0; spare = get_or answer 5 0 })

-- a call is answered by them as `choose` answers it
abbrev pub Chosen : choose.Call → ℕ → List ℕ → List ℕ → List ℕ → List ℕ → Type 0
Chosen c number answer marks curve work = Given 6 chosen_in (λ r. choose.Answered c r marks curve work) number answer

-- the five numbers of a quick choice, with the ceiling that is written beside them
abbrev pub quickly_chosen_in : ℕ → List ℕ → Reply QuickFigures
quickly_chosen_in ceiling answer = reply_in answer (quick.reported (get_or answer 2 0) (get_or answer 3 0) (get_or answer 4 0) ceiling)

-- a call is answered by them as `quick` answers it
abbrev pub QuicklyChosen : quick.Call → ℕ → List ℕ → ℕ → List ℕ → Type 0
QuicklyChosen c number answer ceiling marks = Given 5 (quickly_chosen_in ceiling) (λ r. quick.Answered c r marks) number answer

-- the six numbers of a choice on a revised outline, with the two movements that are written beside them
abbrev pub revised_in : List ℤ → List ℕ → Reply RevisedFigures
revised_in moved answer =
    reply_in answer (revise.remade (chosen_in answer).figures (revise.movements (get_or moved 0 (pos 0)) (get_or moved 1 (pos 0))))

-- a call is answered by them as `revise` answers it, and there are two movements and no more
pub record LengthRevised (c : revise.Call) (number : ℕ) (answer : List ℕ) (moved : List ℤ) (marks curve work : List ℕ) : Type 0 where
  pub given : Given 6 (revised_in moved) (λ r. revise.Answered c r marks curve work) number answer
  pub moved_long : length moved ≡ 2

-- the six numbers of a choice at high prices, with the roof that is written beside them
abbrev pub surely_chosen_in : ℕ → List ℕ → Reply RangeFigures
surely_chosen_in roof answer = reply_in answer (range.with_roof (chosen_in answer).figures roof)

-- a call is answered by them as `range` answers it
abbrev pub SurelyChosen : range.Call → ℕ → List ℕ → ℕ → List ℕ → List ℕ → List ℕ → Type 0
SurelyChosen c number answer roof marks curve work = Given 6 (surely_chosen_in roof) (λ r. range.Answered c r marks curve work) number answer

-- the five numbers of a sheet
abbrev pub listed_in : List ℕ → Reply SheetFigures
listed_in answer = reply_in answer (sheet.sums (get_or answer 2 0) (get_or answer 3 0) (get_or answer 4 0))

-- a call is answered by them as `sheet` answers it
abbrev pub SheetListed : sheet.Call → ℕ → List ℕ → List ℕ → Type 0
SheetListed c number answer lent = Given 5 listed_in (λ r. sheet.Answered c r lent) number answer

-- the three numbers of reading
abbrev pub read_in : List ℕ → Reply ReadingFigures
read_in answer = reply_in answer (read.counted (get_or answer 2 0))

-- a call is answered by them as `read` answers it
abbrev pub TextRead : read.Call → ℕ → List ℕ → List ℕ → Type 0
TextRead c number answer outline = Given 3 read_in (λ r. read.Answered c r outline) number answer

-- the four numbers of writing
abbrev pub written_in : List ℕ → Reply WritingFigures
written_in answer = reply_in answer (write.counts (get_or answer 2 0) (get_or answer 3 0))

-- a call is answered by them as `write` answers it
abbrev pub TextWritten : write.Call → ℕ → List ℕ → List ℕ → List ℕ → Type 0
TextWritten c number answer text pairs = Given 4 written_in (λ r. write.Answered c r text pairs) number answer

-- the two numbers of a view
abbrev pub ruling_in : List ℕ → Ruling
ruling_in answer = ruling (get_or answer 0 0) (get_or answer 1 0)

-- a call is answered by them as `view_house` answers it, where what is shown is `house_view`, and as `view_buyer`, where it is `buyer_view`
abbrev pub Viewed : (List ℕ → List ℕ) → view.Call → ℕ → List ℕ → List ℕ → Type 0
Viewed shown c number answer lent = Given 2 ruling_in (λ t. view.Answered shown c t lent) number answer

-- a call is answered by the two numbers of a house form as `house_form` answers it
abbrev pub Formed : house.Call → ℕ → List ℕ → List ℕ → Type 0
Formed c number answer form = Given 2 ruling_in (λ t. house.Answered c t form) number answer

-- the number of an order: -1 before, 0 the same, 1 after
abbrev pub order_number : Ordering → ℤ
order_number Less = negsuc 0
order_number Equal = pos 0
order_number Greater = pos 1

-- the two numbers of comparing, with the order that is written beside them: it goes by the sign
abbrev pub compared_in : ℤ → List ℕ → Reply Ordering
compared_in order answer = reply_in answer (int_cmp order (pos 0))

-- a call is answered by them as `compare` answers it, and the order is a number of one
pub record TreesCompared (c : compare.Call) (number : ℕ) (answer : List ℕ) (order : ℤ) (first_form second_form : List ℕ) : Type 0 where
  pub given : Given 2 (compared_in order) (λ r. compare.Answered c r first_form second_form) number answer
  pub order_given : order ≡ order_number (int_cmp order (pos 0))
