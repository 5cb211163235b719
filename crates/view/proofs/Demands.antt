-- What is promised of every call of `view_house` and of `view_buyer`: what their contract says of the answer and the view is what the words
-- ask; and what is promised of two buyers' calls.
use Prim.Native.Nat.{ℕ}
use mathlib.Core.Path.{◌≡◌, refl, sym, ap, ap₂, subst, ◌∙◌}
use mathlib.Core.List.{List}
use native.Mathlib.Omega.{arith}
use lib.ListN.{length, take, drop}
use borrow.Author.Tests.{eqb-true, ne_eqb, le-ltb}
use Rattle.lists.specs.Lists.{over}
use Rattle.lists.proofs.Buffers.{over_taken, over_past}
use Rattle.refusals.specs.Refusals.{Ruling, passed, after}
use Rattle.refusals.specs.Table.{Gives}
use Rattle.refusals.proofs.Tables.{gives_then, gives_passed, gives_whole}
use Rattle.refusals.proofs.Tests.{decides_less}
use Rattle.outline.specs.Outline.{size}
use Rattle.outline.specs.Answer.{checked}
use Rattle.outline.proofs.Demands.{checked_gives}
use Rattle.view.specs.Answer.{Call, view_taken, judged, view_after, Answered}
use Rattle.view.specs.Demands.{view_table, ShownOrRefused, HouseGiven, Cleared, BuyerGiven, BuyersCalls, ViewSuffices, SameBytes}
use Rattle.view.specs.View.{house_view, buyer_view}
use Rattle.view.proofs.Answers.{outline_accepted, outline_formed}
use Rattle.view.proofs.Cleared.{buyer_length, buyer_alike, buyer_cleared, buyer_accepted}

-- what a call is judged is what its table gives
judged_gives : (c : Call) → Gives (view_table c) (judged c)
unfolding judged
judged_gives c = gives_then (checked_gives c.outline) (gives_whole 8 (decides_less (length c.view) (view_taken c)))

-- no row holds where the outline is accepted and the view suffices
suffices_passed : (c : Call) → checked c.outline ≡ passed → ViewSuffices c → judged c ≡ passed
unfolding judged
suffices_passed c a h = rw (a, le-ltb _ _ h)

module _ {shown : List ℕ → List ℕ} (c : Call) {t : Ruling} {view : List ℕ} (x : Answered shown c t view) where
  number_is : t.number ≡ (judged c).number
  number_is = ap (λ (u : Ruling). u.number) x.told_judged

  -- demand 1: no refusal, or exactly one of the table, under its condition only; a refusal leaves the view
  pub demand_1 : ShownOrRefused c t view
  unfolding view_after
  demand_1 = record {
    given = rw x.told_judged (judged_gives c);
    others_zero = λ h. refl;
    unchanged = λ h. rw (x.view_written, ne_eqb (judged c).number 0 (λ z. omega (arith, number_is)));
  }

  -- an accepted outline is shown where the view suffices: nothing else stops it
  pub view_shown : checked c.outline ≡ passed → ViewSuffices c → t ≡ passed
  view_shown a h = x.told_judged ∙ suffices_passed c a h

  -- the number told is 0
  module _ (z : t.number ≡ 0) where
    no_row : (judged c).number ≡ 0
    no_row = sym number_is ∙ z

    view_is : view ≡ over (shown c.outline) c.view
    unfolding view_after
    view_is = x.view_written ∙ rw no_row

    call_accepted : checked c.outline ≡ passed
    call_accepted = gives_passed (checked_gives c.outline) (outline_accepted c no_row)

-- a house reader gets the outline's bytes
pub house_given : (c : Call) {t : Ruling} {view : List ℕ} → Answered house_view c t view → t.number ≡ 0 → HouseGiven c view
house_given c x z =
    let whole = (outline_formed c (no_row c x z)).whole in
    record {
      accepted = call_accepted c x z;
      bytes_are = ap (take (view_taken c)) (view_is c x z) ∙ over_taken c.outline c.view (view_taken c) whole;
      past_same = ap (drop (view_taken c)) (view_is c x z) ∙ over_past c.outline c.view (view_taken c) whole;
    }

-- a buyer's reader gets an outline that the check accepts, each record cleared
buyer_bytes : (c : Call) {t : Ruling} {view : List ℕ} → Answered buyer_view c t view → t.number ≡ 0 → take (view_taken c) view ≡ buyer_view c.outline
buyer_bytes c x z =
    ap (take (view_taken c)) (view_is c x z) ∙ over_taken (buyer_view c.outline) c.view (view_taken c) (buyer_length c.outline)

pub buyer_given : (c : Call) {t : Ruling} {view : List ℕ} → Answered buyer_view c t view → t.number ≡ 0 → BuyerGiven c view
buyer_given c x z =
    let o = c.outline in
    let formed = outline_formed c (no_row c x z) in
    let bytes = buyer_bytes c x z in
    record {
      accepted = call_accepted c x z;
      also_accepted = ap checked bytes ∙ gives_passed (checked_gives (buyer_view o)) (eqb-true _ _ (buyer_accepted o formed));
      size_same = ap size bytes ∙ omega (arith, buyer_length o);
      cleared = λ r i. subst (λ s. Cleared o s r) (sym bytes) (buyer_cleared o formed r i);
      past_same = ap (drop (view_taken c)) (view_is c x z) ∙ over_past (buyer_view o) c.view (view_taken c) (buyer_length o);
    }

-- ---- two calls on accepted outlines that agree except in prices and locks
module _ {c d : Call} (both : BuyersCalls c d) {t u : Ruling} {view view' : List ℕ} (x : Answered buyer_view c t view) (y : Answered buyer_view d u view') where
  -- from any two views that suffice the readers get identical bytes
  pub buyers_alike : ViewSuffices c → ViewSuffices d → SameBytes c d t u view view'
  buyers_alike h k =
      let told = view_shown c x both.accepted h in
      let also = view_shown d y both.also_accepted k in
      record {
        told_passed = told;
        also_passed = also;
        identical =
            buyer_bytes c x (ap (λ (s : Ruling). s.number) told)
            ∙ buyer_alike c.outline d.outline both.agree
            ∙ sym (buyer_bytes d y (ap (λ (s : Ruling). s.number) also));
      }

  -- from views alike, whether they suffice or not, both are told the same and find the same in the whole view
  pub buyers_alike_whole : c.view ≡ d.view → (t ≡ u) × (view ≡ view')
  unfolding judged view_after
  buyers_alike_whole same =
      let judged_alike : judged c ≡ judged d = rw (both.accepted, both.also_accepted, both.agree.sizes, same) in
      let text = buyer_alike c.outline d.outline both.agree in (
        x.told_judged ∙ judged_alike ∙ sym y.told_judged,
        x.view_written ∙ ap₂ (λ j s. after j s c.view) judged_alike text ∙ ap (after (judged d) (buyer_view d.outline)) same ∙ sym y.view_written,
      )
