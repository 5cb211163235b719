-- What is promised of every call of `house_form` and of `compare`, and of several calls: from what their contracts say.
use Prim.Native.Nat.{ℕ, ◌*◌, ◌≤◌}
use mathlib.Core.Path.{◌≡◌, refl, sym, ap, subst, ◌∙◌}
use mathlib.Core.Logic.{◌⊎◌, inl, inr, ◌↔◌}
use mathlib.Core.List.{List}
use native.Mathlib.Omega.{arith}
use Rattle.std.specs.Prelude.{Result}
use Rattle.std.specs.Ordering.{ordering_reverse}
use Rattle.std.specs.declared.cmp.Ordering.{Ordering}
use Rattle.std.specs.declared.cmp.Ordering.TheVariants.{Equal}
use lib.ListN.{length, take, drop}
use borrow.Author.Tests.{eq-eqb, eqb-true, ne_eqb, le-ltb}
use Rattle.lists.specs.Lists.{over}
use Rattle.lists.proofs.Buffers.{over_taken, over_past}
use Rattle.refusals.specs.Refusals.{Ruling, passed}
use Rattle.refusals.specs.declared.refusal.Refusal.{Refusal}
use Rattle.refusals.specs.Reply.{Reply, ruling_of, granted}
use Rattle.refusals.specs.Table.{Gives}
use Rattle.refusals.proofs.Refusals.{both_pass}
use Rattle.refusals.proofs.Replies.{ruling_told, decided, answer_determined}
use Rattle.refusals.proofs.Tables.{gives_then, gives_passed, gives_whole}
use Rattle.refusals.proofs.Tests.{decides_less, decides_either}
use Rattle.outline.specs.Outline.{size}
use Rattle.outline.specs.Answer.{checked}
use Rattle.outline.proofs.Demands.{checked_gives}
use Rattle.outline.proofs.WellFormed.{accepted_formed}
use Rattle.diversity.specs.Order.{InTextOrder}
use Rattle.canonical.specs.SameTree.{Accepted, SameTree}
use Rattle.canonical.specs.House.{house_form}
use Rattle.canonical.specs.Rules.{Ascending}
use Rattle.canonical.specs.Compare.{compared}
use Rattle.canonical.proofs.Canonical.{tree_turned, same_exactly, house_of_house, house_rules, house_only, compared_same, compared_turned, order_reflexive, order_antisymmetric, order_transitive, order_total}
use Rattle.canonical.proofs.HouseForm.{house_accepted, house_tree, house_length}
use Rattle.house.specs.Answer.{Call, form_taken, judged, form_after, Answered}
use Rattle.house.specs.Compared as compare
use Rattle.house.specs.Demands.{form_table, FormedOrRefused, form_bytes, FormGiven, FormSuffices, HandedForm, compare_table, ComparedOrRefused, FormsGiven, NotAfter, TurnedRound, InTurn}

-- what a call is judged is what its table gives
judged_gives : (c : Call) → Gives (form_table c) (judged c)
unfolding judged
judged_gives c = gives_then (checked_gives c.outline) (gives_whole 8 (decides_less (length c.form) (form_taken c)))

module _ (c : Call) {t : Ruling} {form : List ℕ} (x : Answered c t form) where
  number_is : t.number ≡ (judged c).number
  number_is = ap (λ (u : Ruling). u.number) x.told_judged

  -- demand 1: no refusal, or exactly one of the table, under its condition only; a refusal leaves the form
  pub demand_1 : FormedOrRefused c t form
  unfolding form_after
  demand_1 = record {
    given = rw x.told_judged (judged_gives c);
    others_zero = λ h. refl;
    unchanged = λ h. rw (x.form_written, ne_eqb (judged c).number 0 (λ z. omega (arith, number_is)));
  }

  -- an accepted outline is written where the form suffices: nothing else stops it
  pub form_written : checked c.outline ≡ passed → FormSuffices c → t ≡ passed
  unfolding judged
  form_written a h = x.told_judged ∙ rw (a, le-ltb _ _ h)

  -- the number told is 0
  module _ (z : t.number ≡ 0) where
    none : (judged c).number ≡ 0
    none = sym number_is ∙ z

    pub outline_accepted : Accepted c.outline
    unfolding judged
    outline_accepted = record { bytes = x.outline_bytes; passes = eq-eqb _ _ (both_pass (checked c.outline) _ none).0 }

    form_is : form ≡ over (house_form c.outline) c.form
    unfolding form_after
    form_is = x.form_written ∙ rw none

    long : length (house_form c.outline) ≡ form_taken c
    long = house_length c.outline (accepted_formed c.outline outline_accepted.passes)

    pub bytes_are : form_bytes c form ≡ house_form c.outline
    bytes_are = ap (take (form_taken c)) form_is ∙ over_taken (house_form c.outline) c.form (form_taken c) long

    -- what is written is accepted, the same tree, and keeps both rules
    pub form_given : FormGiven c form
    form_given =
        let o = c.outline in
        let a = outline_accepted in
        let rules = house_rules a in
        record {
          accepted = gives_passed (checked_gives o) (eqb-true _ _ a.passes);
          bytes_are = bytes_are;
          also_accepted = ap checked bytes_are ∙ gives_passed (checked_gives (house_form o)) (eqb-true _ _ (house_accepted o a).passes);
          same_tree = subst (SameTree o) (sym bytes_are) (tree_turned (house_accepted o a) a (house_tree o a));
          ascends = subst Ascending (sym bytes_are) rules.0;
          in_order = subst InTextOrder (sym bytes_are) rules.1;
          past_same = ap (drop (form_taken c)) form_is ∙ over_past (house_form o) c.form (form_taken c) long;
        }

-- ---- two calls of `house_form`
-- their forms are equal bytes exactly if their outlines are the same tree
pub forms_equal : {c d : Call} {t u : Ruling} {form form' : List ℕ} → Answered c t form → t.number ≡ 0 → Answered d u form' → u.number ≡ 0
    → SameTree c.outline d.outline ↔ (form_bytes c form ≡ form_bytes d form')
forms_equal {c} {d} x z y e =
    let exactly = same_exactly (outline_accepted c x z) (outline_accepted d y e) in (
      λ s. bytes_are c x z ∙ exactly.0 s ∙ sym (bytes_are d y e),
      λ same. exactly.1 (sym (bytes_are c x z) ∙ same ∙ bytes_are d y e),
    )

-- a second call, on what a first one wrote, is not refused where there is room, and writes the same bytes
pub form_again : {c d : Call} {t u : Ruling} {form form' : List ℕ} → Answered c t form → t.number ≡ 0 → HandedForm c form d → FormSuffices d
    → Answered d u form' → (u ≡ passed) × (form_bytes d form' ≡ form_bytes c form)
form_again {c} {d} x z h long y =
    let first = form_given c x z in
    let told = form_written d y (ap checked h ∙ first.also_accepted) long in
    let same : house_form d.outline ≡ house_form c.outline = ap house_form (h ∙ first.bytes_are) ∙ house_of_house (outline_accepted c x z) in
    (told, bytes_are d y (ap (λ (t : Ruling). t.number) told) ∙ same ∙ sym first.bytes_are)

-- what is written is the one outline of its tree that keeps both rules
pub form_only : {c : Call} {t : Ruling} {form : List ℕ} → Answered c t form → t.number ≡ 0 → {p : List ℕ} → Accepted p → SameTree c.outline p
    → Ascending p → InTextOrder p → p ≡ form_bytes c form
form_only {c} x z b s up order = house_only (outline_accepted c x z) b s up order ∙ sym (bytes_are c x z)

-- ---- a call of `compare`
compare_gives : (c : compare.Call) → Gives (compare_table c) (compare.judged c)
unfolding compare.judged compare.too_short
compare_gives c =
    gives_then (checked_gives c.first)
    (gives_then (checked_gives c.second) (gives_whole 8 (decides_either (decides_less _ _) (decides_less _ _))))

-- the numbers told determine the answer
pub told_determined : (a b : Result Ordering Refusal) → compare.told a ≡ compare.told b → a ≡ b
told_determined = answer_determined Equal

module _ (c : compare.Call) {r : Reply Ordering} {first_form second_form : List ℕ} (x : compare.Answered c r first_form second_form) where
  ruling_is : ruling_of r ≡ compare.judged c
  unfolding compare.reply
  ruling_is = ap ruling_of x.told_reply ∙ ruling_told _ _ _ (compare_gives c)

  pub compare_demand_1 : ComparedOrRefused c r first_form second_form
  unfolding compare.reply compare.first_after compare.second_after
  compare_demand_1 =
      decided _ _ _ compare.numbers_of refl (compare_gives c) x.told_reply
      (λ h. rw (x.first_written, x.second_written, ne_eqb (compare.judged c).number 0 (λ z. omega arith)))

  -- two accepted outlines are compared where both forms suffice
  pub order_told : checked c.first ≡ passed → checked c.second ≡ passed → 16 * size c.first ≤ length c.first_form
      → 16 * size c.second ≤ length c.second_form → r ≡ granted (compared c.first c.second)
  unfolding compare.reply compare.judged compare.too_short
  order_told a b h k = x.told_reply ∙ rw (a, b, le-ltb _ _ h, le-ltb _ _ k)

  -- the number told is 0
  module _ (z : r.number ≡ 0) where
    passes : (compare.judged c).number ≡ 0
    passes = sym (ap (λ (t : Ruling). t.number) ruling_is) ∙ z

    pub first_accepted : Accepted c.first
    unfolding compare.judged
    first_accepted = record { bytes = x.first_bytes; passes = eq-eqb _ _ (both_pass (checked c.first) _ passes).0 }

    pub second_accepted : Accepted c.second
    unfolding compare.judged
    second_accepted = record {
      bytes = x.second_bytes;
      passes = eq-eqb _ _ (both_pass (checked c.second) _ (both_pass (checked c.first) _ passes).1).0;
    }

    pub order_is : r.figures ≡ compared c.first c.second
    unfolding compare.reply
    order_is = ap (λ (a : Reply Ordering). a.figures) x.told_reply ∙ rw passes

    pub forms_given : FormsGiven c first_form second_form
    unfolding compare.first_after compare.second_after
    forms_given =
        let a = house_length c.first (accepted_formed c.first first_accepted.passes) in
        let b = house_length c.second (accepted_formed c.second second_accepted.passes) in
        let first : first_form ≡ over (house_form c.first) c.first_form = x.first_written ∙ rw passes in
        let second : second_form ≡ over (house_form c.second) c.second_form = x.second_written ∙ rw passes in
        record {
          first_accepted = gives_passed (checked_gives c.first) (eqb-true _ _ first_accepted.passes);
          second_accepted = gives_passed (checked_gives c.second) (eqb-true _ _ second_accepted.passes);
          first_is = ap (take (16 * size c.first)) first ∙ over_taken (house_form c.first) c.first_form _ a;
          second_is = ap (take (16 * size c.second)) second ∙ over_taken (house_form c.second) c.second_form _ b;
          first_past = ap (drop (16 * size c.first)) first ∙ over_past (house_form c.first) c.first_form _ a;
          second_past = ap (drop (16 * size c.second)) second ∙ over_past (house_form c.second) c.second_form _ b;
        }

    -- it is told the same exactly of the same tree
    pub told_same : SameTree c.first c.second ↔ (r.figures ≡ Equal)
    told_same =
        let exactly = compared_same first_accepted second_accepted in
        (λ s. order_is ∙ exactly.0 s, λ e. exactly.1 (sym order_is ∙ e))

    not_after : NotAfter r.figures → NotAfter (compared c.first c.second)
    not_after h = subst NotAfter order_is h

    -- before or the same: of the same tree
    pub order_of_same : SameTree c.first c.second → NotAfter r.figures
    order_of_same s = subst NotAfter (sym order_is) (order_reflexive first_accepted second_accepted s)

-- ---- a total order of trees
-- turned round, the order is turned round
module _ {c d : compare.Call} (turned : TurnedRound c d) {r s : Reply Ordering} {first_form second_form first_form' second_form' : List ℕ}
    (x : compare.Answered c r first_form second_form) (z : r.number ≡ 0) (y : compare.Answered d s first_form' second_form') (e : s.number ≡ 0) where
  there : compared d.first d.second ≡ compared c.second c.first
  there = rw (turned.first_is, turned.second_is) refl

  pub order_turned : s.figures ≡ ordering_reverse r.figures
  order_turned = order_is d y e ∙ there ∙ compared_turned c.first c.second ∙ ap ordering_reverse (sym (order_is c x z))

  -- one of the two is before the other, or they are the same; and they are the same if each is not after the other
  pub one_not_after : NotAfter r.figures ⊎ NotAfter s.figures
  one_not_after = go (order_total c.first c.second)
    where
      go : NotAfter (compared c.first c.second) ⊎ NotAfter (compared c.second c.first) → NotAfter r.figures ⊎ NotAfter s.figures
      go (inl h) = inl (subst NotAfter (sym (order_is c x z)) h)
      go (inr h) = inr (subst NotAfter (sym (order_is d y e ∙ there)) h)

  pub same_if_neither_after : NotAfter r.figures → NotAfter s.figures → SameTree c.first c.second
  same_if_neither_after h k =
      order_antisymmetric (first_accepted c x z) (second_accepted c x z) (not_after c x z h) (subst NotAfter there (not_after d y e k))

-- what is not after what is not after a third is not after the third
pub order_onward : {c d e : compare.Call} → InTurn c d e → {r s t : Reply Ordering} {a b a' b' a'' b'' : List ℕ}
    → compare.Answered c r a b → r.number ≡ 0 → compare.Answered d s a' b' → s.number ≡ 0 → compare.Answered e t a'' b'' → t.number ≡ 0
    → NotAfter r.figures → NotAfter s.figures → NotAfter t.figures
order_onward {c} {d} {e} turn x z y w v q h k =
    let first = not_after c x z h in
    let second : NotAfter (compared c.second d.second) = subst (λ o. NotAfter (compared o d.second)) turn.middle (not_after d y w k) in
    let both = order_transitive (first_accepted c x z) (second_accepted c x z) (second_accepted d y w) first second in
    let third : compared e.first e.second ≡ compared c.first d.second = rw (turn.from_first, turn.to_third) refl in
    subst NotAfter (sym (order_is e v q ∙ third)) both
