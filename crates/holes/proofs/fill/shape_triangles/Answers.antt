use native.Mathlib.Omega.{arith}
use mathlib.Core.Path.{refl}
use Rattle.mem.specs.Packed.{laid_none}
use Rattle.holes.proofs.Fills.{first_within, second_within, third_within, shape_more, shape_fits, shape_all}
use Rattle.holes.proofs.fill.shape_triangles.Goals as goal

-- src/fill.rt:78:5
pub loop-i-init : goal.loop-i-init
loop-i-init c = laid_none _ _ _ _

-- src/fill.rt:84:13
pub overflow_cast-work : goal.overflow_cast-work
overflow_cast-work c = record { fits = omega (arith, first_within c.requires c.loop-i.invariant c.loop-i-test.true, c.ranges.m.fits) }

-- src/fill.rt:85:13
pub overflow_cast-work-in-loop-i : goal.overflow_cast-work-in-loop-i
overflow_cast-work-in-loop-i c = record { fits = omega (arith, second_within c.requires c.loop-i.invariant c.loop-i-test.true, c.ranges.m.fits) }

-- src/fill.rt:86:13
pub overflow_cast-work-in-loop-i-2 : goal.overflow_cast-work-in-loop-i-2
overflow_cast-work-in-loop-i-2 c = record { fits = omega (arith, third_within c.requires c.loop-i.invariant c.loop-i-test.true, c.ranges.m.fits) }

-- src/fill.rt:80:13
pub hole_triangle-p-requires : goal.hole_triangle-p-requires
hole_triangle-p-requires c =
    let v = c.loop-i.invariant in
    let h = c.loop-i-test.true in
    (shape_fits c.requires v, first_within c.requires v h, second_within c.requires v h, third_within c.requires v h)

-- src/fill.rt:78:5
pub loop-i-preserved : goal.loop-i-preserved
loop-i-preserved c = shape_more c.requires c.loop-i.invariant c.loop-i-test.true refl refl refl c.hole_triangle-p.ensures c.store_poly.ensures

-- src/fill.rt:73:1
pub returns : goal.returns
returns c = shape_all c.requires c.loop-i.invariant c.loop-i-test.false
