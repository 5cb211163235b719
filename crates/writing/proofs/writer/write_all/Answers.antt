-- `writing::writer::write_all` meets its contract: the chain of record 1, the semicolon, the pairs.
use Rattle.std.proofs.Common.{arith, refl, rules}
use Rattle.text.proofs.Writing.{left_goes, put_over}
use Rattle.writing.proofs.Along.{root_along, root_left, root_fits, pairs_fit, pairs_alike}
use Rattle.writing.proofs.writer.write_all.Goals as goal

pub put_chain-requires : goal.put_chain-requires
put_chain-requires c = record { along = root_along c.requires; long_enough = omega (arith, root_fits c.requires) }

pub put-requires : goal.put-requires
put-requires c = (left_goes _ _ (root_left c.requires _ refl refl) c.put_chain.ensures).fits

pub put_pairs-requires : goal.put_pairs-requires
put_pairs-requires c = record { along = root_along c.requires; long_enough = omega (arith, pairs_fit c.requires) }

pub returns : goal.returns
returns c =
    let text = (left_goes _ _ (root_left c.requires _ refl refl) c.put_chain.ensures).completes c.put.ensures in
    let pairs = rw (pairs_alike c.requires) at c.put_pairs.ensures in
    record { text_after = put_over text refl (search rules); pairs_after = put_over pairs refl (search rules) }
