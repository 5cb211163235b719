-- What an outline gives now is what it gave in an earlier edition: the check, the finder and choosing, refused outlines included.
use Rattle.std.specs.Prelude.{ℕ, ◌≤◌, ◌≡◌, true, List}
use Rattle.outline.specs.Outline.{plate_field, is_taxon, IsRecord}
use Rattle.outline.specs.Answer.{checked, found_at, found}
use Rattle.choice.specs.Answer.{Call, reply, marks_after, curve_after, work_after}
use Rattle.earlier.specs.Earlier as earlier

-- no taxon's plate field is above 2,147,483,647: none has bit 31, the lock
abbrev pub Unlocked : List ℕ → Type 0
Unlocked o = (r : ℕ) → IsRecord o r → is_taxon o r ≡ true → plate_field o r ≤ 2147483647

-- a call of `choose` is told what it was told, and leaves in each buffer what it left
pub record ChoosesAsBefore (e : earlier.Edition) (c : Call) : Type 0 where
  pub told : reply c ≡ earlier.reply e c
  pub marks : marks_after c ≡ earlier.marks_after e c
  pub curve : curve_after c ≡ earlier.curve_after e c
  pub work : work_after c ≡ earlier.work_after e c

-- whatever is asked of the outline
pub record AsBefore (e : earlier.Edition) (o : List ℕ) : Type 0 where
  pub check : checked o ≡ earlier.checked e o
  pub find_record : (plate : ℕ) → found_at o plate ≡ earlier.found_at e o plate
  pub find : (plate : ℕ) → found o plate ≡ earlier.found e o plate
  pub choose : (c : Call) → c.outline ≡ o → ChoosesAsBefore e c
