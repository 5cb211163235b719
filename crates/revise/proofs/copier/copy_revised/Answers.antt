-- `revise::copier::copy_revised` meets its contract: the three pieces of the revised outline are put one after the other.
use Rattle.std.proofs.Common.{ℕ, ◌+◌, ◌-◌, ◌≤◌, ◌≡◌, List, length, take, drop, length-drop, ◌∙◌, refl, rules, arith}
use lib.Seq.{take_all}
use Rattle.text.proofs.Writing.{put_over, left_starts, left_goes}
use Rattle.records.proofs.Records.{four_bytes}
use Rattle.revise.specs.Revised.{revised}
use Rattle.revise.proofs.Bytes.{revised_length}
use Rattle.revise.proofs.copier.copy_revised.Goals as goal

-- what follows the length, to the end
rest_whole : (o : List ℕ) (k : ℕ) → take (length o - k) (drop k o) ≡ drop k o
rest_whole o k = take_all (length o - k) (drop k o) (omega (arith, length-drop k o))

pub returns : goal.returns
unfolding revised
returns c =
    let o = c.args.o.now in
    let new = rw (c.to_le_bytes.ensures ∙ four_bytes c.args.to) at c.put-2.ensures in
    let rest = rw rest_whole at c.put-3.ensures in
    let fits : 0 + length (revised o c.args.changed c.args.to) ≤ length c.args.draft.now =
    omega (arith, revised_length o c.args.changed c.args.to c.requires.0, c.requires.1) in
    put_over ((left_goes _ _ (left_goes _ _ (left_starts fits) c.put.ensures) new).completes rest) refl (search rules)
