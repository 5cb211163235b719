-- `text::Pen::put_number` meets its contract: what is put is the library's text of the number.
use Rattle.std.proofs.Common.{◌≡◌, sym, ◌∙◌}
use Rattle.text.specs.Text.{decimal}
use Rattle.text.proofs.Decimal.{decimal_is}
use Rattle.text.proofs.Pen+u8.put_number.Goals as goal

pub put-requires : goal.put-requires
put-requires c =
    let digits : c.as_bytes-digits.result.now ≡ decimal c.args.n =
    c.as_bytes-digits.ensures.value ∙ c.format.ensures.text ∙ sym (decimal_is c.args.n c.ranges.n.fits) in
    rw digits c.requires

pub returns : goal.returns
returns c =
    let digits : c.as_bytes-digits.result.now ≡ decimal c.args.n =
    c.as_bytes-digits.ensures.value ∙ c.format.ensures.text ∙ sym (decimal_is c.args.n c.ranges.n.fits) in
    rw digits at c.put.ensures
