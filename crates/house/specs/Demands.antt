-- The words of what is promised of a call of `house_form` or of `compare`, and of several calls.
use Rattle.std.specs.Prelude.{ℕ, ◌*◌, ◌≤◌, ◌<◌, ◌≡◌, ◌⊎◌, List, [], ◌∷◌, ◌++◌, length, take, drop}
use Rattle.std.specs.declared.cmp.Ordering.{Ordering}
use Rattle.std.specs.declared.cmp.Ordering.TheVariants.{Less, Equal}
use Rattle.refusals.specs.Refusals.{Ruling, passed}
use Rattle.refusals.specs.Reply.{Reply, ruling_of}
use Rattle.refusals.specs.Table.{Row, whole, Decided}
use Rattle.outline.specs.Outline.{size}
use Rattle.outline.specs.Answer.{checked}
use Rattle.outline.specs.Demands.{check_table}
use Rattle.diversity.specs.Order.{InTextOrder}
use Rattle.canonical.specs.SameTree.{SameTree}
use Rattle.canonical.specs.House.{house_form}
use Rattle.canonical.specs.Rules.{Ascending}
use Rattle.writing.specs.Answer as write
use Rattle.house.specs.Answer.{Call, form_taken}
use Rattle.house.specs.Compared as compare

-- ---- one call of `house_form`
-- the table of a call, in the order in which it is judged: the check's rows, 9
abbrev pub form_table : Call → List Row
form_table c = check_table c.outline ++ (whole 9 (length c.form < form_taken c) ∷ [])

-- demand 1: no refusal, and no row of the table holds (what is then written: `FormGiven`); or exactly one refusal of the table, under its
-- condition only, and then the form is unchanged. There are no other numbers
abbrev pub FormedOrRefused : Call → Ruling → List ℕ → Type 1
FormedOrRefused c t form = Decided (form_table c) t [] (c.form ∷ []) (form ∷ [])

-- the bytes of the house form, and those past them
abbrev pub form_bytes : Call → List ℕ → List ℕ
form_bytes c form = take (form_taken c) form

abbrev pub bytes_past : Call → List ℕ → List ℕ
bytes_past c form = drop (form_taken c) form

-- what is written is an accepted outline, the same tree as the one handed over, and keeps both rules: each chain is ordered by the smallest
-- plate at or below its members, and the records stand in text order. What is past it is unchanged
pub record FormGiven (c : Call) (form : List ℕ) : Type 0 where
  pub accepted : checked c.outline ≡ passed
  pub bytes_are : form_bytes c form ≡ house_form c.outline
  pub also_accepted : checked (form_bytes c form) ≡ passed
  pub same_tree : SameTree c.outline (form_bytes c form)
  pub ascends : Ascending (form_bytes c form)
  pub in_order : InTextOrder (form_bytes c form)
  pub past_same : bytes_past c form ≡ bytes_past c c.form

-- a call's form has the bytes that it needs
abbrev pub FormSuffices : Call → Type 0
FormSuffices c = form_taken c ≤ length c.form

-- a call is handed the bytes that another call wrote
abbrev pub HandedForm : Call → List ℕ → Call → Type 0
HandedForm c form d = d.outline ≡ form_bytes c form

-- a call of `write` is handed them
abbrev pub HandedToWrite : Call → List ℕ → write.Call → Type 0
HandedToWrite c form d = d.outline ≡ form_bytes c form

-- ---- calls of `compare`
-- the table of a call: the first outline's check, the second's, 9 for either form
abbrev pub compare_table : compare.Call → List Row
compare_table c =
    check_table c.first
    ++ (check_table c.second
    ++ (whole 9 ((length c.first_form < 16 * size c.first) ⊎ (length c.second_form < 16 * size c.second)) ∷ []))

-- demand 1: an order, and no row of the table holds; or exactly one refusal of the table, under its condition only, and then the order is
-- told as 0, and neither form is changed
abbrev pub ComparedOrRefused : compare.Call → Reply Ordering → List ℕ → List ℕ → Type 1
ComparedOrRefused c r first_form second_form =
    Decided
    (compare_table c) (ruling_of r) (compare.numbers_of r.figures)
    (c.first_form ∷ c.second_form ∷ [])
    (first_form ∷ second_form ∷ [])

-- both house forms are written, each as a call of `house_form` writes it, and what is past them is unchanged
pub record FormsGiven (c : compare.Call) (first_form second_form : List ℕ) : Type 0 where
  pub first_accepted : checked c.first ≡ passed
  pub second_accepted : checked c.second ≡ passed
  pub first_is : take (16 * size c.first) first_form ≡ house_form c.first
  pub second_is : take (16 * size c.second) second_form ≡ house_form c.second
  pub first_past : drop (16 * size c.first) first_form ≡ drop (16 * size c.first) c.first_form
  pub second_past : drop (16 * size c.second) second_form ≡ drop (16 * size c.second) c.second_form

-- an order is before or the same
abbrev pub NotAfter : Ordering → Type 0
NotAfter order = (order ≡ Less) ⊎ (order ≡ Equal)

-- a call compares the two outlines of another the other way round
pub record TurnedRound (c d : compare.Call) : Type 0 where
  pub first_is : d.first ≡ c.second
  pub second_is : d.second ≡ c.first

-- three calls compare a first outline with a second, the second with a third, and the first with the third
pub record InTurn (c d e : compare.Call) : Type 0 where
  pub middle : d.first ≡ c.second
  pub from_first : e.first ≡ c.first
  pub to_third : e.second ≡ d.second
