-- `writing::sizes::own_bytes` meets its contract.
use Rattle.std.proofs.Common.{sym}
use Rattle.writing.proofs.OwnBytes.{own_taxon, own_group}
use Rattle.writing.proofs.sizes.own_bytes.Goals as goal

pub returns-then-is_taxon-clause-value : goal.returns-then-is_taxon-clause-value
returns-then-is_taxon-clause-value c =
    own_taxon _ _ (sym c.if-is_taxon.ensures) c.plate_of.ensures c.digits_of-then-is_taxon.ensures.value c.branch_of.ensures
    c.digits_of.ensures.value c.next_of.ensures

pub returns-else-is_taxon-clause-value : goal.returns-else-is_taxon-clause-value
returns-else-is_taxon-clause-value c =
    own_group _ _ (sym c.if-is_taxon.ensures) c.branch_of.ensures c.digits_of.ensures.value c.next_of.ensures
