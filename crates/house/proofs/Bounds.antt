-- How large the place is that a call of `house_form` or of `compare` is told.
use Prim.Native.Nat.{ℕ, ◌≤◌}
use mathlib.Core.List.{List}
use native.Mathlib.Omega.{arith}
use lib.Dec.{ltb}
use lib.ListN.{length}
use Rattle.refusals.specs.Refusals.{Ruling}
use Rattle.refusals.proofs.Placed.{Placed, row_placed, then_placed}
use Rattle.refusals.proofs.Replies.{told_place}
use Rattle.outline.specs.Answer.{checked}
use Rattle.outline.specs.Rules.{most_records}
use Rattle.outline.proofs.Placed.{checked_placed}
use Rattle.house.specs.Answer.{Call, form_taken, judged, Answered}
use Rattle.house.specs.Compared as compare

pub judged_placed : (c : Call) → Placed 9 most_records (judged c)
unfolding judged
judged_placed c =
    let short = ltb (length c.form) (form_taken c) in
    then_placed 9 most_records (checked c.outline) _ (checked_placed 9 (omega arith) c.outline) (λ _. row_placed 9 most_records 9 short (omega arith))

pub place_most : (c : Call) {t : Ruling} {form : List ℕ} → Answered c t form → t.place ≤ most_records
place_most c x = rw x.told_judged (judged_placed c).place_most

pub compare_placed : (c : compare.Call) → Placed 9 most_records (compare.judged c)
unfolding compare.judged
compare_placed c =
    then_placed 9 most_records (checked c.first) _ (checked_placed 9 (omega arith) c.first)
    (λ _. then_placed 9 most_records (checked c.second) _ (checked_placed 9 (omega arith) c.second)
    (λ _. row_placed 9 most_records 9 (compare.too_short c) (omega arith)))

pub reply_place_most : (c : compare.Call) → (compare.reply c).place ≤ most_records
unfolding compare.reply
reply_place_most c = told_place _ _ _ (compare_placed c).place_most
