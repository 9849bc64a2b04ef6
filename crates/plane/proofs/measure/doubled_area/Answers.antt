use Rattle.std.proofs.Common.{◌≡◌, ℕ, ◌+◌, List, sym, arith, w32, w64, to_z, of_z}
use Rattle.ints.specs.Machine.{Reads, reads_of}
use Rattle.rules.specs.Plane.{D}
use Rattle.plane.specs.Points.{point_of, GridWords}
use Rattle.plane.proofs.Areas.{Summed, area_few, summed_none, summed_all, add_needs, summed_more}
use Rattle.plane.proofs.measure.doubled_area.Goals as goal

-- a turn: the words, the place, what is known there, and what is added
abbrev words : goal.After-from-sum → List ℕ
words c = c.args.pts.now

abbrev place : goal.After-from-sum → ℕ
place c = c.loop-k.k

given : (c : goal.After-from-sum) → GridWords (words c)
given c = c.requires

so_far : (c : goal.After-from-sum) → Summed (words c) (to_z w64 c.loop-k.sum-bits) (place c)
so_far c = c.loop-k.invariant

bits : (c : goal.After-from-sum) → Reads w32 (of_z w32 c.area2.result) c.area2.result
bits c = reads_of (record { sfits = c.area2.type_inv })

added : (c : goal.After-from-sum)
    → c.area2.result ≡ D (point_of (words c) 0) (point_of (words c) (place c)) (point_of (words c) (place c + 1))
added c =
    rw (← c.point_at-first.ensures.0, ← c.point_at.ensures.0, ← c.point_at-in-loop-k.ensures.0)
    c.area2.ensures

pub returns-then-n-lt3 : goal.returns-then-n-lt3
returns-then-n-lt3 c = sym (area_few c.args.pts.now c.if-n-lt3.true)

pub loop-k-init : goal.loop-k-init
loop-k-init c = summed_none c.args.pts.now c.if-n-lt3.false

pub overflow_add-sum : goal.overflow_add-sum
overflow_add-sum c = rw c.from-sum.ensures (add_needs c.loop-k.sum-bits (given c) (so_far c) (bits c) (added c))

pub loop-k-preserved : goal.loop-k-preserved
loop-k-preserved c = rw c.from-sum.ensures (summed_more c.loop-k.sum-bits (given c) (so_far c) (bits c) (added c) (omega arith))

pub returns : goal.returns
returns c = summed_all c.loop-k.invariant (omega (arith, c.loop-k-test.false))
