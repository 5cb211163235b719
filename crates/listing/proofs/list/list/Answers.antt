-- `listing::list::list` meets its contract: by the length of the input, and what is printed fits.
use Rattle.std.proofs.Common.{◌≡◌, ◌+◌, ◌≤◌, ◌<◌, List, ℕ, length, take, drop, min, ap, ◌∙◌, sym, arith, length-take}
use Rattle.std.proofs.lemmas.List.{take_min}
use Rattle.outline.specs.Outline.{short}
use Rattle.listing.specs.Printed.{answer_text, call_with, call_of, printed}
use Rattle.listing.proofs.Answers.{call_made}
use Rattle.listing.proofs.Fits.{printed_short, printed_judged, printed_fits}
use Rattle.listing.proofs.list.list.Goals as goal

-- fewer than 4 bytes are read where fewer are judged
few : (input : List ℕ) {n : ℕ} → length (take n input) < 4 → min 2052 (length input) ≤ n → length input < 4
few input h e = let s = rw length-take at h in omega (arith, s, e)

pub put_refusal-requires : goal.put_refusal-requires
put_refusal-requires c =
    let input = c.args.input.now in
    let short = few input c.in_default.ensures.cases (omega (arith, c.min.ensures)) in
    omega (arith, rw (printed_short input short) at (printed_fits input))

pub returns-in_default : goal.returns-in_default
returns-in_default c =
    let input = c.args.input.now in
    rw (printed_short input (few input c.in_default.ensures.cases (omega (arith, c.min.ensures)))) c.put_refusal.ensures.written

-- what is printed where the bytes that are judged are split
module _ (input : List ℕ) {n count way : ℕ} {numbers o : List ℕ} where
  split-printed : (numbers ≡ take 4 (take n input)) × (o ≡ drop 4 (take n input)) × (length o + 4 ≡ length (take n input))
      → n ≡ min 2052 (length input) → count ≡ short numbers 0 → way ≡ short numbers 2
      → answer_text (call_with o count way) ≡ printed input
  split-printed s e a b =
      let long = rw (length-take, e) at s.2 in
      let judged : take n input ≡ take 2052 input = ap (λ k. take k input) e ∙ take_min 2052 input in
      ap answer_text (call_made (take n input) s.0 s.1 a b) ∙ ap (λ l. answer_text (call_of l)) judged
      ∙ sym (printed_judged input (omega (arith, long)))

pub list_outline-requires : goal.list_outline-requires
list_outline-requires c =
    let input = c.args.input.now in
    let same = split-printed input c.in-Some.ensures.cases (omega (arith, c.min.ensures)) c.short_at-count.ensures c.short_at-way.ensures in
    rw same (omega (arith, printed_fits input))

pub returns : goal.returns
returns c =
    let input = c.args.input.now in
    let same = split-printed input c.in-Some.ensures.cases (omega (arith, c.min.ensures)) c.short_at-count.ensures c.short_at-way.ensures in
    rw same at c.list_outline.ensures.written
