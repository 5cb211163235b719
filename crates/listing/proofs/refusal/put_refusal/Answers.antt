-- `listing::refusal::put_refusal` meets its contract: the word, then the number and the place.
use Rattle.listing.specs.Printed.{refusal_text}
use Rattle.listing.proofs.refusal.put_refusal.Goals as goal

pub put_labelled-requires : goal.put_labelled-requires
unfolding refusal_text
put_labelled-requires c = rw (c.number-number.ensures, c.place-place.ensures) c.requires

pub returns : goal.returns
unfolding refusal_text
returns c = rw (c.number-number.ensures, c.place-place.ensures) at c.put_labelled.ensures
