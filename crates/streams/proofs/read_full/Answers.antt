-- What a read gives follows what was read before, and nothing before it is written.
use Rattle.std.proofs.Common.{◌≡◌, ℕ, ◌+◌, ◌≤◌, List, ◌++◌, rules, arith, length, take, sym, ap, ◌∙◌, subst, le_refl, drop_at, length-take-le}
use Rattle.std.proofs.lemmas.Slice.{take-put_mid_below}
use Rattle.std.specs.Io.KnownBytes.{Consumes}
use Rattle.std.proofs.KnownBytes.{Consumes-nil, Consumes-trans}
use borrow.Rule.Slice.PartMut.{put_mid, post_of}
use lib.Seq.{take-add, take-append-le}
use Rattle.streams.proofs.read_full.Goals as goal

-- n bytes of ys behind the first a, as they stand once ys is put there
take_put : (a k n : ℕ) (xs ys : List ℕ) → a ≤ length xs → n ≤ length ys → take a xs ++ take n ys ≡ take (a + n) (put_mid a k xs ys)
take_put a k n xs ys within fits =
    let new = put_mid a k xs ys in
    let front : take a new ≡ take a xs = take-put_mid_below _ _ _ _ _ (le_refl _) within in
    let behind = drop_at (take a xs) (ys ++ post_of a k xs) a (length-take-le a xs within) in
    ap (λ l. l ++ take n ys) (sym front) ∙ ap (λ l. take a new ++ l) (sym (ap (take n) behind ∙ take-append-le n ys (post_of a k xs) fits)) ∙ sym (take-add a n new)

-- and where n is 0
take_none : (a k n : ℕ) (xs ys : List ℕ) → a ≤ length xs → n ≤ length ys → n ≡ 0 → take a xs ++ take n ys ≡ take a (put_mid a k xs ys)
take_none a k n xs ys within fits none =
    let same : a + n ≡ a = omega arith in
    take_put a k n xs ys within fits ∙ ap (λ m. take m (put_mid a k xs ys)) same

pub loop-done-init : goal.loop-done-init
loop-done-init g c = (search rules, Consumes-nil _)

pub loop-done-preserved : goal.loop-done-preserved
loop-done-preserved g c =
    let read = c.in_ok-n.ensures in
    let put = take_put c.loop-done.done _ c.in_ok-n.n c.loop-done.buf c.read.new.buf c.loop-done.invariant.0 read.bound.0 in
    (search rules, subst (Consumes _ _) put (Consumes-trans _ _ _ _ _ c.loop-done.invariant.1 read.bytes.0))

pub returns-after-loop-done-clause-within : goal.returns-after-loop-done-clause-within
returns-after-loop-done-clause-within g c = (c.loop-done.invariant.0, sym (length-take-le _ _ c.loop-done.invariant.0))

pub returns-after-loop-done-clause-bytes : goal.returns-after-loop-done-clause-bytes
returns-after-loop-done-clause-bytes g c = c.loop-done.invariant.1

pub returns-then-n-eq0-clause-bytes : goal.returns-then-n-eq0-clause-bytes
returns-then-n-eq0-clause-bytes g c =
    let read = c.in_ok-n.ensures in
    let put = take_none c.loop-done.done _ c.in_ok-n.n c.loop-done.buf c.read.new.buf c.loop-done.invariant.0 read.bound.0 c.if-n-eq0.true in
    subst (Consumes _ _) put (Consumes-trans _ _ _ _ _ c.loop-done.invariant.1 read.bytes.0)
