-- The demands of calls of the C functions, and what is promised of several of them, `plates_write` and `plates_read`, `plates_choose` and
-- `plates_quick`, `plates_sheet`, `plates_revise` or `plates_range`, `plates_choose`, `plates_quick`, `plates_view_buyer` and `plates_house_form` twice,
-- `plates_compare` up to three times: what is promised of the functions behind them, of the numbers that stand in `answer`.
use Prim.Native.Nat.{ℕ, ◌≤◌}
use mathlib.Core.Path.{◌≡◌, refl, sym, ap, ◌∙◌}
use mathlib.Core.Logic.{◌≢◌, ◌⊎◌, ◌↔◌}
use mathlib.Core.Bool.{true}
use mathlib.Core.List.{List}
use Rattle.std.specs.Prelude.{ℤ, pos, neg_ℤ}
use Rattle.std.specs.Ordering.{int_cmp, ordering_reverse}
use Rattle.std.specs.declared.cmp.Ordering.{Ordering}
use Rattle.std.specs.declared.cmp.Ordering.TheVariants.{Less, Equal, Greater}
use lib.ListN.{length, get_or}
use Rattle.outline.specs.Answer.{is_accepted}
use Rattle.diversity.specs.Order.{InTextOrder}
use Rattle.reading.specs.Answer as read
use Rattle.writing.specs.Answer as write
use Rattle.writing.specs.Demands.{WrittenOrRefused, Handed, Returned, GivenBack, HasRoom, WroteAlike}
use Rattle.writing.proofs.RoundTrip.{same_bytes, second_writing}
use Rattle.choice.specs.Answer as choose
use Rattle.choice.specs.Demands as choices
use Rattle.choice.proofs.Demands.{demand_1, demand_2, demand_3}
use Rattle.reading.specs.Demands.{ReadOrRefused}
use Rattle.reading.proofs.Demands.{demand_1 as reading_decided}
use Rattle.writing.proofs.Demands.{demand_1 as writing_decided}
use Rattle.sheet.specs.Answer as sheet
use Rattle.sheet.specs.Demands as sheets
use Rattle.sheet.proofs.Demands.{demand_1 as sheet_decided, choice_listed}
use Rattle.quick.specs.Answer as quick
use Rattle.quick.specs.Demands as quicks
use Rattle.quick.proofs.Demands.{demand_1 as quick_decided, true_choice, picks_made, best_between, more_picks}
use Rattle.revise.specs.Answer as revise
use Rattle.revise.specs.Demands as revisions
use Rattle.revise.specs.Moved.{MovesWith}
use Rattle.revise.proofs.Demands.{demand_1 as revise_decided, outline_revised, outline_accepted, sets_same, chosen, old_chosen, movements_true}
use Rattle.revise.proofs.Exactly.{exactly_as_much}
use Rattle.range.specs.Answer as range
use Rattle.range.specs.Demands as ranges
use Rattle.range.specs.Prices.{NoDearer, PricesBetween}
use Rattle.range.proofs.Demands.{cheaper_chosen, cheaper_told, demand_1 as range_decided, never_17, granted_if, prices_only, chosen as chosen_at_high, left_as_long, ends_between, sure_at, as_long_suffice, between_chosen, between_told, column_told, roof_told, floor_told, floor_to_roof}
use Rattle.canonical.specs.SameTree.{SameTree}
use Rattle.house.specs.Answer as house
use Rattle.house.specs.Compared as compare
use Rattle.house.specs.Demands as houses
use Rattle.house.proofs.Demands.{demand_1 as form_decided, form_given, forms_equal, form_again, compare_demand_1, forms_given, told_same, order_turned, one_not_after, same_if_neither_after, order_onward}
use Rattle.house.proofs.Texts.{form_read_back, one_text, text_tells}
use Rattle.refusals.specs.Refusals.{Ruling}
use Rattle.refusals.specs.Reply.{granted}
use Rattle.view.specs.Answer as view
use Rattle.view.specs.Demands.{ShownOrRefused, BuyersCalls, ViewSuffices, SameBytes}
use Rattle.view.specs.View.{buyer_view}
use Rattle.view.proofs.Demands.{demand_1 as view_decided, buyers_alike, buyers_alike_whole}
use Rattle.plates.specs.Interface.{chosen_in, Chosen, quickly_chosen_in, QuicklyChosen, revised_in, LengthRevised, surely_chosen_in, SurelyChosen, listed_in, SheetListed, read_in, TextRead, written_in, TextWritten, ruling_in, Viewed, Formed, order_number, compared_in, TreesCompared}

-- the number of an order that is turned round
negated : (o : Ordering) → order_number (ordering_reverse o) ≡ neg_ℤ (order_number o)
negated Less = refl
negated Equal = refl
negated Greater = refl

-- each call is given what its table gives, and choosing is true of the marks and finds what the exhaustive search finds
module _ {c : choose.Call} {n : ℕ} {answer marks curve work : List ℕ} (x : Chosen c n answer marks curve work) where
  pub chosen_decided : choices.SelectedOrRefused c (chosen_in answer) marks curve work
  chosen_decided = demand_1 c x.answered

  pub chosen_true : n ≡ 0 → choices.TrueOfMarks c (chosen_in answer) marks
  chosen_true z = demand_2 c x.answered (sym x.number_given ∙ z)

  pub chosen_found : n ≡ 0 → choices.FoundBySearch c (chosen_in answer) marks curve
  chosen_found z = demand_3 c x.answered (sym x.number_given ∙ z)

-- so it is with choosing quickly: its marks are a set that fits, with its own numbers; its picks are made; the best diversity, as a call of
-- `plates_choose` is told it, lies from its diversity to its ceiling; and more picks never lower its diversity
module _ {c : quick.Call} {n : ℕ} {answer : List ℕ} {ceiling : ℕ} {marks : List ℕ} (x : QuicklyChosen c n answer ceiling marks) where
  pub quickly_decided : quicks.ChosenOrRefused c (quickly_chosen_in ceiling answer) marks
  quickly_decided = quick_decided c x.answered

  module _ (z : n ≡ 0) where
    pub quickly_true : quicks.TrueChoice c (quickly_chosen_in ceiling answer) marks
    quickly_true = true_choice c x.answered (sym x.number_given ∙ z)

    pub quickly_picked : quicks.PicksMade c (quickly_chosen_in ceiling answer) marks
    quickly_picked = picks_made c x.answered (sym x.number_given ∙ z)

    pub quickly_between : {d : choose.Call} → choices.CallAt c.outline c.count 0 d → {m : ℕ} {answer' marks' curve work : List ℕ}
        → Chosen d m answer' marks' curve work → m ≡ 0 → quicks.BestBetween (quickly_chosen_in ceiling answer) (chosen_in answer')
    quickly_between at y e = best_between c x.answered (sym x.number_given ∙ z) at y.answered (sym y.number_given ∙ e)

    pub quickly_more : {d : quick.Call} → quicks.MorePicks c d → {m : ℕ} {answer' : List ℕ} {ceiling' : ℕ} {marks' : List ℕ}
        → QuicklyChosen d m answer' ceiling' marks' → m ≡ 0
        → (quickly_chosen_in ceiling answer).figures.diversity ≤ (quickly_chosen_in ceiling' answer').figures.diversity
    quickly_more {d} more y e = more_picks c d more x.answered (sym x.number_given ∙ z) y.answered (sym y.number_given ∙ e)

-- so it is with revising a length: the best diversity moves with the length; the revised outline is the given one with that length, and
-- accepted, and the same sets fit it; what is given and left is what `plates_choose` on it, lent the same buffers, gives and leaves; on the given
-- outline that is not refused either, and the best diversity moved from what any such call is told there
module _ {c : revise.Call} {n : ℕ} {answer : List ℕ} {moved : List ℤ} {marks curve work : List ℕ} (x : LengthRevised c n answer moved marks curve work) where
  pub revised_decided : revisions.RevisedOrRefused c (revised_in moved answer) marks curve work
  revised_decided = revise_decided c x.given.answered

  pub revised_moves : MovesWith (get_or moved 0 (pos 0)) (get_or moved 1 (pos 0))
  revised_moves = x.given.answered.moves_with

  module _ (z : n ≡ 0) where
    told_0 : (revised_in moved answer).number ≡ 0
    told_0 = sym x.given.number_given ∙ z

    pub revised_outline : revisions.LengthReplaced c.outline (revise.new_outline c) c.changed c.to
    revised_outline = outline_revised c x.given.answered told_0

    pub revised_accepted : is_accepted (revise.new_outline c) ≡ true
    revised_accepted = outline_accepted c x.given.answered told_0

    pub revised_sets : revisions.SameSetsFit c.outline (revise.new_outline c)
    revised_sets = sets_same c x.given.answered told_0

    pub revised_chosen : Chosen (revise.new_choice c) n answer marks curve work
    revised_chosen = record {
      answer_long = x.given.answer_long;
      number_given = x.given.number_given;
      answered = chosen c x.given.answered told_0;
    }

    pub revised_true : choices.TrueOfMarks (revise.new_choice c) (chosen_in answer) marks
    revised_true = chosen_true revised_chosen z

    pub revised_found : choices.FoundBySearch (revise.new_choice c) (chosen_in answer) marks curve
    revised_found = chosen_found revised_chosen z

    pub revised_from : {k : ℕ} {answer' marks' curve' work' : List ℕ} → Chosen (revise.old_choice c) k answer' marks' curve' work' → k ≡ 0
    revised_from y = y.number_given ∙ old_chosen c x.given.answered told_0 y.answered

    pub revised_movements : {d : choose.Call} → choices.CallAt c.outline c.count c.way d → {k : ℕ} {answer' marks' curve' work' : List ℕ}
        → Chosen d k answer' marks' curve' work' → k ≡ 0 → revisions.MovementsTrue c (revised_in moved answer) (chosen_in answer')
    revised_movements at y f = movements_true c x.given.answered told_0 at y.answered (sym y.number_given ∙ f)

    -- beside any such call at the same count and by the same way, say the one before, in the same buffers: where the set that it marked spans the
    -- branch and the length rises, the best rises by exactly as much; where it does not and the length falls, the best stays; and that set
    -- stays marked. A call of `plates_revise` at that count and way, whose revised outline this is, counts as such a call, by `revised_chosen`
    pub revised_exactly : {d : choose.Call} → choices.CallAt c.outline c.count c.way d → {k : ℕ} {answer' before curve' work' : List ℕ}
        → Chosen d k answer' before curve' work' → k ≡ 0
        → revisions.ExactlyAsMuch c (revised_in moved answer) marks (chosen_in answer') before
    revised_exactly at y f = exactly_as_much c x.given.answered told_0 at y.answered (sym y.number_given ∙ f)

-- of two calls of `plates_choose` at the same count and by the same way, on outlines that differ in prices only: where the one at the dearer prices is
-- not refused, the one at the cheaper is not either, if its buffers are long enough, and is told no less diversity
module _ {o p : List ℕ} (d : NoDearer o p) {count way : ℕ} {dear : choose.Call} (there : choices.CallAt p count way dear) {n : ℕ}
    {answer marks curve work : List ℕ} (y : Chosen dear n answer marks curve work) (z : n ≡ 0) {cheap : choose.Call}
    (here : choices.CallAt o count way cheap) {k : ℕ} {answer' m w v : List ℕ} (x : Chosen cheap k answer' m w v) where
  pub cheaply_chosen : (choices.TooShort cheap → ⊥) → k ≡ 0
  cheaply_chosen long = x.number_given ∙ cheaper_chosen d there y.answered (sym y.number_given ∙ z) here x.answered long

  pub cheaply_told : k ≡ 0 → get_or answer 2 0 ≤ get_or answer' 2 0
  cheaply_told f = cheaper_told d there y.answered (sym y.number_given ∙ z) here x.answered (sym x.number_given ∙ f)

-- so it is with a range of prices: outlines that differ in prices only, with no low price above its high, never get 17, and no refusal where
-- `plates_choose` at high prices does not refuse and the buffers are long enough. Where there is no refusal they are such outlines, and what is given
-- and left is what `plates_choose` at high prices, lent the same buffers, gives and leaves
module _ {c : range.Call} {n : ℕ} {answer : List ℕ} {roof : ℕ} {marks curve work : List ℕ} (x : SurelyChosen c n answer roof marks curve work) where
  pub surely_decided : ranges.RangedOrRefused c (surely_chosen_in roof answer) marks curve work
  surely_decided = range_decided c x.answered

  pub surely_never_17 : NoDearer c.low c.high → n ≢ 17
  surely_never_17 d e = never_17 c x.answered d (sym x.number_given ∙ e)

  pub surely_granted : NoDearer c.low c.high → {d : choose.Call} → choices.CallAt c.high c.count c.way d → {k : ℕ} {answer' m w v : List ℕ}
      → Chosen d k answer' m w v → k ≡ 0 → (choices.TooShort (range.high_choice c) → ⊥) → n ≡ 0
  surely_granted prices at y f long =
      x.number_given ∙ granted_if c x.answered prices at y.answered (sym y.number_given ∙ f) long

  module _ (z : n ≡ 0) where
    surely_0 : (surely_chosen_in roof answer).number ≡ 0
    surely_0 = sym x.number_given ∙ z

    pub surely_prices_only : NoDearer c.low c.high
    surely_prices_only = prices_only c x.answered surely_0

    pub surely_chosen : Chosen (range.high_choice c) n answer marks curve work
    surely_chosen = record { answer_long = x.answer_long; number_given = x.number_given; answered = chosen_at_high c x.answered surely_0 }

    pub surely_true : choices.TrueOfMarks (range.high_choice c) (chosen_in answer) marks
    surely_true = chosen_true surely_chosen z

    pub surely_found : choices.FoundBySearch (range.high_choice c) (chosen_in answer) marks curve
    surely_found = chosen_found surely_chosen z

    -- for all prices between, those at both ends too: the marked set fits, with the floor as its diversity, and the best lies from floor to roof. A
    -- call of `plates_choose` there, at the same count and by the same way, is not refused if its buffers are long enough, as these are, and is told a
    -- diversity from floor to roof; one for a smaller count, if it is not refused, no less than the curve has for it
    pub surely_ends : PricesBetween c.low c.low c.high × PricesBetween c.low c.high c.high
    surely_ends = ends_between c x.answered surely_0

    pub surely_as_long : ranges.AsLong c marks curve work
    surely_as_long = left_as_long c x.answered surely_0

    module _ {mid : List ℕ} (at : PricesBetween c.low mid c.high) where
      pub surely_at : ranges.SureAt c (surely_chosen_in roof answer) marks mid
      surely_at = sure_at c x.answered surely_0 at

      pub surely_suffice : {m w v : List ℕ} → ranges.AsLong c m w v → choices.TooShort (choose.call mid c.count c.way m w v) → ⊥
      surely_suffice = as_long_suffice c x.answered surely_0 at

      module _ {d : choose.Call} (here : choices.CallAt mid c.count c.way d) {k : ℕ} {answer' m w v : List ℕ} (y : Chosen d k answer' m w v) where
        pub surely_not_refused : (choices.TooShort d → ⊥) → k ≡ 0
        surely_not_refused long = y.number_given ∙ between_chosen c x.answered surely_0 at here y.answered long

        pub surely_between : k ≡ 0 → ranges.FromFloorToRoof (surely_chosen_in roof answer) (get_or answer' 2 0)
        surely_between f = between_told c x.answered surely_0 at here y.answered (sym y.number_given ∙ f)

      pub surely_column : {b : ℕ} → b ≤ c.count → {d : choose.Call} → choices.CallAt mid b c.way d → {k : ℕ} {answer' m w v : List ℕ}
          → Chosen d k answer' m w v → k ≡ 0 → choose.diversity_at curve b ≤ get_or answer' 2 0
      surely_column h here y f = column_told c x.answered surely_0 at h here y.answered (sym y.number_given ∙ f)

    -- the roof is what such a call at low prices is told, and the floor what one at high prices is told; no floor is above its roof
    pub surely_roof : {d : choose.Call} → choices.CallAt c.low c.count c.way d → {k : ℕ} {answer' m w v : List ℕ} → Chosen d k answer' m w v
        → k ≡ 0 → roof ≡ get_or answer' 2 0
    surely_roof here y f = roof_told c x.answered surely_0 here y.answered (sym y.number_given ∙ f)

    pub surely_floor : {d : choose.Call} → choices.CallAt c.high c.count c.way d → {k : ℕ} {answer' m w v : List ℕ} → Chosen d k answer' m w v
        → k ≡ 0 → get_or answer 2 0 ≡ get_or answer' 2 0
    surely_floor here y f = floor_told c x.answered surely_0 here y.answered (sym y.number_given ∙ f)

    pub surely_floor_to_roof : get_or answer 2 0 ≤ roof
    surely_floor_to_roof = floor_to_roof c x.answered surely_0

pub listed_decided : {c : sheet.Call} {n : ℕ} {answer lent : List ℕ} → SheetListed c n answer lent
    → sheets.ListedOrRefused c (listed_in answer) lent
listed_decided {c} x = sheet_decided c x.answered

pub read_decided : {c : read.Call} {n : ℕ} {answer outline : List ℕ} → TextRead c n answer outline
    → ReadOrRefused c (read_in answer) outline
read_decided {c} x = reading_decided c x.answered

pub written_decided : {c : write.Call} {n : ℕ} {answer text pairs : List ℕ} → TextWritten c n answer text pairs
    → WrittenOrRefused c (written_in answer) text pairs
written_decided {c} x = writing_decided c x.answered

pub viewed_decided : {shown : List ℕ → List ℕ} {c : view.Call} {n : ℕ} {answer lent : List ℕ} → Viewed shown c n answer lent
    → ShownOrRefused c (ruling_in answer) lent
viewed_decided {c = c} x = view_decided c x.answered

-- where the records stand in text order, reading what was written gives back the same bytes
pub written_read : {c : write.Call} {d : read.Call} {n m : ℕ} {answer text pairs answer' outline : List ℕ}
    → TextWritten c n answer text pairs → n ≡ 0 → InTextOrder c.outline
    → Handed (written_in answer) text pairs d → length c.outline ≤ length d.outline → TextRead d m answer' outline
    → GivenBack c.outline d (read_in answer') outline
written_read x z order h long y = same_bytes x.answered (sym x.number_given ∙ z) order h long y.answered

-- from any accepted text, a second writing equals the first
pub written_again : {c d : read.Call} {w v : write.Call} {n m k l : ℕ} {first one second two outline again text pairs text' pairs' : List ℕ}
    → TextRead c n first outline → n ≡ 0
    → Returned (read_in first) outline w → TextWritten w m one text pairs → m ≡ 0
    → Handed (written_in one) text pairs d → length w.outline ≤ length d.outline → TextRead d k second again
    → Returned (read_in second) again v → HasRoom (written_in one).figures.bytes (written_in one).figures.pairs v → TextWritten v l two text' pairs'
    → WroteAlike (written_in one) text pairs (written_in two) text' pairs'
written_again x z ret y e h long p ret' room y' =
    second_writing x.answered (sym x.number_given ∙ z) ret y.answered (sym y.number_given ∙ e) h long p.answered ret' room
    y'.answered

-- a choice's marks are accepted as they are, and the sums are the choice's cost and diversity
pub chosen_listed : {c : choose.Call} {d : sheet.Call} {n m : ℕ} {answer marks curve work answer' lent : List ℕ}
    → Chosen c n answer marks curve work → n ≡ 0 → sheets.HandedMarks c (chosen_in answer) marks d → SheetListed d m answer' lent
    → listed_in answer'
    ≡ granted (sheet.sums (chosen_in answer).figures.taxa (chosen_in answer).figures.cost (chosen_in answer).figures.diversity)
chosen_listed {c} {d} x z h y = choice_listed c x.answered (sym x.number_given ∙ z) d h y.answered

-- two buyers' readers of accepted outlines that agree except in prices and locks get identical bytes: from any two views that suffice, and
-- from views alike the whole
module _ {c d : view.Call} {n m : ℕ} {answer answer' lent lent' : List ℕ} (both : BuyersCalls c d) (x : Viewed buyer_view c n answer lent)
    (y : Viewed buyer_view d m answer' lent') where
  pub buyers_shown : ViewSuffices c → ViewSuffices d → (n ≡ 0) × (m ≡ 0) × SameBytes c d (ruling_in answer) (ruling_in answer') lent lent'
  buyers_shown h k =
      let same = buyers_alike both x.answered y.answered h k in (
        x.number_given ∙ ap (λ (t : Ruling). t.number) same.told_passed,
        y.number_given ∙ ap (λ (t : Ruling). t.number) same.also_passed,
        same,
      )

  pub buyers_shown_whole : c.view ≡ d.view → (n ≡ m) × (ruling_in answer ≡ ruling_in answer') × (lent ≡ lent')
  buyers_shown_whole e =
      let same = buyers_alike_whole both x.answered y.answered e in
      (x.number_given ∙ ap (λ (t : Ruling). t.number) same.0 ∙ sym y.number_given, same.0, same.1)

-- what `plates_house_form` writes is accepted, the same tree, and keeps both rules
module _ {c : house.Call} {n : ℕ} {answer form : List ℕ} (x : Formed c n answer form) where
  pub formed_decided : houses.FormedOrRefused c (ruling_in answer) form
  formed_decided = form_decided c x.answered

  module _ (z : n ≡ 0) where
    told : (ruling_in answer).number ≡ 0
    told = sym x.number_given ∙ z

    pub formed_given : houses.FormGiven c form
    formed_given = form_given c x.answered told

    -- a second call on it leaves the same bytes
    pub formed_again : {d : house.Call} {m : ℕ} {answer' form' : List ℕ} → houses.HandedForm c form d → houses.FormSuffices d
        → Formed d m answer' form' → (m ≡ 0) × (houses.form_bytes d form' ≡ houses.form_bytes c form)
    formed_again h long y =
        let (told, same) = form_again x.answered told h long y.answered in
        (y.number_given ∙ ap (λ (t : Ruling). t.number) told, same)

    -- what `plates_write` writes of it, read back by `plates_read`, is it again
    pub formed_read : {w : write.Call} {d : read.Call} {m k : ℕ} {answer' text pairs answer'' outline : List ℕ} → houses.HandedToWrite c form w
        → TextWritten w m answer' text pairs → m ≡ 0 → Handed (written_in answer') text pairs d → length w.outline ≤ length d.outline
        → TextRead d k answer'' outline → GivenBack (houses.form_bytes c form) d (read_in answer'') outline
    formed_read h y e k long p = form_read_back x.answered told h y.answered (sym y.number_given ∙ e) k long p.answered

    -- two calls leave equal bytes exactly if their outlines are the same tree
    module _ {d : house.Call} {m : ℕ} {answer' form' : List ℕ} (y : Formed d m answer' form') (e : m ≡ 0) where
      pub formed_equal : SameTree c.outline d.outline ↔ (houses.form_bytes c form ≡ houses.form_bytes d form')
      formed_equal = forms_equal x.answered told y.answered (sym y.number_given ∙ e)

      -- and of one tree one text is written
      pub formed_text : SameTree c.outline d.outline → {v w : write.Call} {k l : ℕ} {one two text pairs text' pairs' : List ℕ}
          → houses.HandedToWrite c form v → TextWritten v k one text pairs → k ≡ 0
          → houses.HandedToWrite d form' w → TextWritten w l two text' pairs' → l ≡ 0
          → WroteAlike (written_in one) text pairs (written_in two) text' pairs'
      formed_text tree h p i g q j =
          one_text x.answered told y.answered (sym y.number_given ∙ e) tree h p.answered (sym p.number_given ∙ i) g q.answered
          (sym q.number_given ∙ j)

      -- and one text is that of one tree: a call of `plates_read` with room for either tells so
      pub formed_tells : {v w : write.Call} {k l : ℕ} {one two text pairs text' pairs' : List ℕ}
          → houses.HandedToWrite c form v → TextWritten v k one text pairs → k ≡ 0
          → houses.HandedToWrite d form' w → TextWritten w l two text' pairs' → l ≡ 0
          → WroteAlike (written_in one) text pairs (written_in two) text' pairs'
          → {b : read.Call} {i : ℕ} {answer'' outline : List ℕ} → Handed (written_in one) text pairs b → length v.outline ≤ length b.outline
          → length w.outline ≤ length b.outline → TextRead b i answer'' outline → SameTree c.outline d.outline
      formed_tells h p i g q j alike given long also r =
          text_tells x.answered told y.answered (sym y.number_given ∙ e) h p.answered (sym p.number_given ∙ i) g q.answered
          (sym q.number_given ∙ j) alike given long also r.answered

-- `plates_compare`: the order is 0 exactly of the same tree, is turned round where the outlines are, and is a total order
module _ {c : compare.Call} {n : ℕ} {answer : List ℕ} {order : ℤ} {a b : List ℕ} (x : TreesCompared c n answer order a b) where
  pub compared_decided : houses.ComparedOrRefused c (compared_in order answer) a b
  compared_decided = compare_demand_1 c x.given.answered

  module _ (z : n ≡ 0) where
    compare_told : (compared_in order answer).number ≡ 0
    compare_told = sym x.given.number_given ∙ z

    pub compared_given : houses.FormsGiven c a b
    compared_given = forms_given c x.given.answered compare_told

    pub compared_same : SameTree c.first c.second ↔ (order ≡ pos 0)
    compared_same =
        let exactly = told_same c x.given.answered compare_told in (
          λ s. x.order_given ∙ ap order_number (exactly.0 s),
          λ e. exactly.1 (ap (λ (k : ℤ). int_cmp k (pos 0)) e),
        )

    module _ {d : compare.Call} {m : ℕ} {answer' : List ℕ} {order' : ℤ} {a' b' : List ℕ} (y : TreesCompared d m answer' order' a' b') (e : m ≡ 0) where
      pub compared_turned : houses.TurnedRound c d → order' ≡ neg_ℤ order
      compared_turned turned =
          let back = order_turned turned x.given.answered compare_told y.given.answered (sym y.given.number_given ∙ e) in
          y.order_given ∙ ap order_number back ∙ negated (int_cmp order (pos 0)) ∙ ap neg_ℤ (sym x.order_given)

      -- one of the two is not after the other, and if neither is, they are the same
      pub compared_either : houses.TurnedRound c d → houses.NotAfter (int_cmp order (pos 0)) ⊎ houses.NotAfter (int_cmp order' (pos 0))
      compared_either turned = one_not_after turned x.given.answered compare_told y.given.answered (sym y.given.number_given ∙ e)

      pub compared_neither : houses.TurnedRound c d → houses.NotAfter (int_cmp order (pos 0)) → houses.NotAfter (int_cmp order' (pos 0))
          → SameTree c.first c.second
      compared_neither turned =
          same_if_neither_after turned x.given.answered compare_told y.given.answered (sym y.given.number_given ∙ e)

      -- what is not after what is not after a third is not after the third
      pub compared_onward : {f : compare.Call} {k : ℕ} {answer'' : List ℕ} {order'' : ℤ} {a'' b'' : List ℕ} → houses.InTurn c d f
          → TreesCompared f k answer'' order'' a'' b'' → k ≡ 0
          → houses.NotAfter (int_cmp order (pos 0)) → houses.NotAfter (int_cmp order' (pos 0)) → houses.NotAfter (int_cmp order'' (pos 0))
      compared_onward turn v i h k =
          order_onward turn x.given.answered compare_told y.given.answered (sym y.given.number_given ∙ e) v.given.answered
          (sym v.given.number_given ∙ i) h k
