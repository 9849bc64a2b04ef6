-- Where a definition of the rules takes another way than its sentence, the two come to the same: what `rules` states in its file `Sentences`.
-- Assumes nothing.
-- Key: `next_is_remainder`, `prev_is_remainder`, `same_bucket`.
use Rattle.std.proofs.Common.{ap, ap₂}
use Rattle.rules.specs.Weld.{bucket}
use Rattle.rules.specs.Sentences.{NextIsRemainder, PrevIsRemainder, SameBucket}
use Rattle.rules.specs.declared.Point.{Point}
use Rattle.laws.proofs.Ring as Ring
use Rattle.laws.proofs.Weld.{same_place}

pub next_is_remainder : NextIsRemainder
next_is_remainder = Ring.next_remainder

pub prev_is_remainder : PrevIsRemainder
prev_is_remainder = Ring.prev_remainder

pub same_bucket : SameBucket
same_bucket height v w e =
    let p = same_place height v w e in
    ap₂ bucket (ap (λ (q : Point). q.x) p) (ap (λ (q : Point). q.z) p)
