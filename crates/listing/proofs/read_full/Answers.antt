use Rattle.std.proofs.Common.{◌≡◌, ℕ, ◌+◌, ◌≤◌, List, ◌++◌, rules, length, take, length-take-le}
use Rattle.std.proofs.lemmas.List.{take-append-le}
use Rattle.std.proofs.Math.Seq.{take-append-add}
use Rattle.std.proofs.KnownBytes.{Consumes-trans}
use borrow.Rule.Slice.PartMut.{put_mid, post_of}
use Rattle.listing.proofs.read_full.Goals as goal

-- what a read has put behind the first m bytes
take-more : (m k n : ℕ) (before part : List ℕ) → m ≤ length before → n ≤ length part
    → take (m + n) (put_mid m k before part) ≡ take m before ++ take n part
take-more m k n before part h f =
    let after = post_of m k before in
    rw (length-take-le m before h, take-append-le n part after f) at (take-append-add (take m before) (part ++ after) n)

pub loop-preserved : goal.loop-preserved
loop-preserved g c = record {
  bounded = search rules;
  moving = search rules;
  joined = rw (take-more _ _ _ _ _ c.loop.invariant.bounded c.in_ok-read.ensures.bound.0)
      (Consumes-trans _ _ _ _ _ c.loop.invariant.joined c.in_ok-read.ensures.bytes.0);
}
