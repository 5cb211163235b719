-- Text and house form meet: a house form that is written as text is read back as it was, and house forms have one text exactly if they are
-- one tree.
use Prim.Native.Nat.{ℕ, ◌*◌, ◌≤◌}
use mathlib.Core.Path.{◌≡◌, sym, ap, subst, ◌∙◌}
use mathlib.Core.List.{List}
use lib.Dec.{eqb}
use lib.ListN.{length, take}
use Rattle.lists.specs.Lists.{over}
use Rattle.lists.proofs.Buffers.{over_taken}
use Rattle.refusals.specs.Refusals.{Ruling}
use Rattle.refusals.specs.Reply.{Reply}
use Rattle.outline.specs.Outline.{size}
use Rattle.outline.proofs.WellFormed.{accepted_formed}
use Rattle.diversity.specs.Order.{InTextOrder}
use Rattle.reading.specs.Answer as read
use Rattle.reading.specs.declared.answer.Figures.{Figures as ReadingFigures}
use Rattle.writing.specs.Answer as write
use Rattle.writing.specs.declared.answer.Figures.{Figures as WritingFigures}
use Rattle.writing.specs.Demands.{Handed, GivenBack, WroteAlike}
use Rattle.writing.proofs.Demands.{told_counts, text_given}
use Rattle.writing.proofs.RoundTrip.{same_bytes}
use Rattle.canonical.specs.SameTree.{SameTree}
use Rattle.house.specs.Answer.{Call, Answered}
use Rattle.house.specs.Demands.{form_bytes, HandedToWrite}
use Rattle.house.proofs.Demands.{form_given, forms_equal}

-- what `write` writes of a house form, read back, is that house form
pub form_read_back : {c : Call} {t : Ruling} {form : List ℕ} → Answered c t form → t.number ≡ 0
    → {w : write.Call} {r : Reply WritingFigures} {text pairs : List ℕ} → HandedToWrite c form w → write.Answered w r text pairs → r.number ≡ 0
    → {d : read.Call} {s : Reply ReadingFigures} {outline : List ℕ} → Handed r text pairs d → length w.outline ≤ length d.outline
    → read.Answered d s outline → GivenBack (form_bytes c form) d s outline
form_read_back {c} x z {w} h y e {d} {s} {outline} k long p =
    let order : InTextOrder w.outline = subst InTextOrder (sym h) (form_given c x z).in_order in
    subst (λ o. GivenBack o d s outline) h (same_bytes y e order k long p)

-- of one tree, however its records are numbered and its members shuffled, one text is written, with one list of pairs
pub one_text : {c d : Call} {t u : Ruling} {form form' : List ℕ} → Answered c t form → t.number ≡ 0 → Answered d u form' → u.number ≡ 0
    → SameTree c.outline d.outline
    → {v w : write.Call} {r s : Reply WritingFigures} {text pairs text' pairs' : List ℕ}
    → HandedToWrite c form v → write.Answered v r text pairs → r.number ≡ 0
    → HandedToWrite d form' w → write.Answered w s text' pairs' → s.number ≡ 0 → WroteAlike r text pairs s text' pairs'
one_text x z y e tree {v} {w} h p k i q l =
    let same : w.outline ≡ v.outline = i ∙ sym ((forms_equal x z y e).0 tree) ∙ sym h in
    let first = text_given v p k in
    let second = text_given w q l in
    record {
      told_alike = told_counts w q l ∙ rw same (sym (told_counts v p k));
      same_text = second.text_is ∙ rw same (sym first.text_is);
      same_pairs = second.pairs_are ∙ rw same (sym first.pairs_are);
    }

-- and where one text is written, with one list of pairs, it is one tree: a call of `read` with room for either tells so
pub text_tells : {c d : Call} {t u : Ruling} {form form' : List ℕ} → Answered c t form → t.number ≡ 0 → Answered d u form' → u.number ≡ 0
    → {v w : write.Call} {r s : Reply WritingFigures} {text pairs text' pairs' : List ℕ}
    → HandedToWrite c form v → write.Answered v r text pairs → r.number ≡ 0
    → HandedToWrite d form' w → write.Answered w s text' pairs' → s.number ≡ 0 → WroteAlike r text pairs s text' pairs'
    → {k : read.Call} {q : Reply ReadingFigures} {outline : List ℕ} → Handed r text pairs k
    → length v.outline ≤ length k.outline → length w.outline ≤ length k.outline → read.Answered k q outline → SameTree c.outline d.outline
text_tells {c} {d} {form = form} {form' = form'} x z y e {s = s} {text' = text'} {pairs' = pairs'} h p i j m l alike {k} {q} {outline} given long also n =
    let one = form_read_back x z h p i given long n in
    let handed : Handed s text' pairs' k = record { text_is = given.text_is ∙ sym alike.same_text; pairs_are = given.pairs_are ∙ sym alike.same_pairs } in
    let two = form_read_back y e j m l handed also n in
    let sizes : size (form_bytes c form) ≡ size (form_bytes d form') =
    ap (λ (a : Reply ReadingFigures). a.figures.records) (sym one.told_size ∙ two.told_size) in
    let first = form_given c x z in
    let second = form_given d y e in
    let a : length (form_bytes c form) ≡ 16 * size (form_bytes c form) = (accepted_formed _ (ap (λ (t : Ruling). eqb t.number 0) first.also_accepted)).whole in
    let b : length (form_bytes d form') ≡ 16 * size (form_bytes c form) =
    (accepted_formed _ (ap (λ (t : Ruling). eqb t.number 0) second.also_accepted)).whole ∙ ap (λ n. 16 * n) (sym sizes) in
    let whole : over (form_bytes c form) k.outline ≡ over (form_bytes d form') k.outline = sym one.same_bytes ∙ two.same_bytes in
    (forms_equal x z y e).1
    (sym (over_taken (form_bytes c form) k.outline _ a) ∙ ap (take (16 * size (form_bytes c form))) whole ∙ over_taken (form_bytes d form') k.outline _ b)
