-- `writing::chains::put_tail` meets its contract: four pieces, one after the other.
use Rattle.std.proofs.Common.{true, false, [], ◌∷◌, sym, ◌∙◌, eq-eqb, ne_eqb}
use Rattle.text.proofs.Writing.{Left, left_fits, left_goes, left_ends}
use Rattle.writing.specs.Inner.{tail}
use Rattle.writing.proofs.Along.{comma, after_bracket, tail_left}
use Rattle.writing.proofs.chains.put_tail.Goals as goal
use Rattle.writing.proofs.chains.put_tail.Goals.{After-put_number, Joined-not-is_taxon, then-not-is_taxon, else-not-is_taxon}

-- the bracket of a group is put, and the rest left
closed : (c : Joined-not-is_taxon)
    → Left (tail c.args.o.now c.args.r) c.args.pen.now (after_bracket c.args.o.now c.args.r) c.if-not-is_taxon.pen
closed c = elim c.if-not-is_taxon.branch [
  | then-not-is_taxon w ↦
      let group = tail_left _ _ false c.args.pen.now (sym w.if-not-is_taxon.true ∙ c.is_taxon.ensures) c.requires.long_enough in
      rw w.pen-is (left_goes (41 ∷ []) _ group w.put.ensures)
  | else-not-is_taxon w ↦
      rw w.pen-is (tail_left _ _ true _ (sym w.if-not-is_taxon.false ∙ c.is_taxon.ensures) c.requires.long_enough)
]

-- so are the colon and the length
measured : (c : After-put_number)
    → Left (tail c.args.o.now c.args.r) c.args.pen.now (after_bracket c.args.o.now c.args.r) c.if-not-is_taxon.pen
    → Left (tail c.args.o.now c.args.r) c.args.pen.now (comma c.args.o.now c.args.r) c.put_number.new.self
measured c rest = left_goes _ _ (left_goes (58 ∷ []) _ rest c.put-2.ensures) (rw c.branch_of.ensures at c.put_number.ensures)

pub put-requires : goal.put-requires
put-requires c =
    let group = tail_left _ _ false c.args.pen.now (sym c.if-not-is_taxon.true ∙ c.is_taxon.ensures) c.requires.long_enough in
    left_fits (41 ∷ []) _ group

pub put-requires-2 : goal.put-requires-2
put-requires-2 c = left_fits (58 ∷ []) _ (closed (goal.at.put-requires-2 c).Joined-not-is_taxon)

pub put_number-requires : goal.put_number-requires
put_number-requires c =
    let rest = closed (goal.at.put_number-requires c).Joined-not-is_taxon in
    rw c.branch_of.ensures (left_fits _ _ (left_goes (58 ∷ []) _ rest c.put-2.ensures))

pub put-requires-then-next_of-ne0 : goal.put-requires-then-next_of-ne0
put-requires-then-next_of-ne0 c =
    let at = goal.at.put-requires-then-next_of-ne0 c in
    let rest = measured at.After-put_number (closed at.Joined-not-is_taxon) in
    (rw (← c.next_of.ensures, ne_eqb _ _ c.if-next_of-ne0.true) at rest).fits

pub returns-then-next_of-ne0 : goal.returns-then-next_of-ne0
returns-then-next_of-ne0 c =
    let at = goal.at.returns-then-next_of-ne0 c in
    let rest = measured at.After-put_number (closed at.Joined-not-is_taxon) in
    (rw (← c.next_of.ensures, ne_eqb _ _ c.if-next_of-ne0.true) at rest).completes c.put-then-next_of-ne0.ensures

pub returns-else-next_of-ne0 : goal.returns-else-next_of-ne0
returns-else-next_of-ne0 c =
    let at = goal.at.returns-else-next_of-ne0 c in
    let rest = measured at.After-put_number (closed at.Joined-not-is_taxon) in
    left_ends (rw (← c.next_of.ensures, eq-eqb _ _ c.if-next_of-ne0.false) at rest)
