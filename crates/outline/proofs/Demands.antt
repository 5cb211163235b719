-- The check gives what its table says, and the mission's first demand holds of it.
use Prim.Native.Nat.{ℕ, ◌%◌}
use mathlib.Core.Path.{◌≡◌, refl}
use mathlib.Core.List.{List, []}
use lib.ListN.{length}
use Rattle.refusals.specs.Refusals.{Ruling}
use Rattle.refusals.specs.Table.{Gives, Decided}
use Rattle.refusals.proofs.Tests.{decides_less, decides_equal, decides_not, decides_either}
use Rattle.refusals.proofs.Tables.{gives_then, gives_whole, gives_lowest}
use Rattle.outline.specs.Outline.{size}
use Rattle.outline.specs.Answer.{size_rows, record_rows, checked}
use Rattle.outline.specs.Demands.{size_table, record_table, check_table}
use Rattle.outline.specs.Rules.{bad_field, bad_link, taxa, is_duplicate, most_records, most_taxa}

module _ (o : List ℕ) where
  pub sizes_give : Gives (size_table o) (size_rows o)
  unfolding size_rows
  sizes_give =
      gives_then (gives_whole 1 (decides_either (decides_equal (length o) 0) (decides_not (decides_equal (length o % 16) 0))))
      (gives_whole 2 (decides_less most_records (size o)))

  pub records_give : Gives (record_table o) (record_rows o)
  unfolding record_rows
  records_give =
      gives_then (gives_lowest 4 (size o) (bad_field o))
      (gives_then (gives_lowest 5 (size o) (bad_link o))
      (gives_then (gives_whole 6 (decides_less most_taxa (taxa o))) (gives_lowest 7 (size o) (is_duplicate o))))

  pub checked_gives : Gives (check_table o) (checked o)
  unfolding checked
  checked_gives = gives_then sizes_give records_give

  -- demand 1 of the check, whether it answers a verdict or two numbers
  pub demand_1 : {t : Ruling} → t ≡ checked o → Decided (check_table o) t [] [] []
  demand_1 e = record { given = rw e checked_gives; others_zero = λ _. refl; unchanged = λ _. refl }
