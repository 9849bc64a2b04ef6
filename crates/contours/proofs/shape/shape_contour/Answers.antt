use native.Mathlib.Omega.{arith}
use mathlib.Core.Path.{refl}
use Rattle.mem.specs.Packed.{laid_none}
use Rattle.contours.proofs.Shapes.{first_within, second_within, third_within, shape_more, shape_fits, shape_all}
use Rattle.contours.proofs.shape.shape_contour.Goals as goal

pub loop-i-init : goal.loop-i-init
loop-i-init c = laid_none _ _ _ _

pub overflow_cast-work : goal.overflow_cast-work
overflow_cast-work c = record { fits = omega (arith, first_within c.requires c.args.region c.args.code c.loop-i.invariant c.loop-i-test.true, c.ranges.n.fits) }

pub overflow_cast-work-in-loop-i : goal.overflow_cast-work-in-loop-i
overflow_cast-work-in-loop-i c =
    record { fits = omega (arith, second_within c.requires c.args.region c.args.code c.loop-i.invariant c.loop-i-test.true, c.ranges.n.fits) }

pub overflow_cast-work-in-loop-i-2 : goal.overflow_cast-work-in-loop-i-2
overflow_cast-work-in-loop-i-2 c =
    record { fits = omega (arith, third_within c.requires c.args.region c.args.code c.loop-i.invariant c.loop-i-test.true, c.ranges.n.fits) }

pub contour_triangle-p-requires : goal.contour_triangle-p-requires
contour_triangle-p-requires c =
    let v = c.loop-i.invariant in
    let h = c.loop-i-test.true in
    let region = c.args.region in
    let code = c.args.code in (
      shape_fits c.requires region code v,
      first_within c.requires region code v h,
      second_within c.requires region code v h,
      third_within c.requires
          region code v h,
    )

pub loop-i-preserved : goal.loop-i-preserved
loop-i-preserved c = shape_more c.requires c.args.region c.args.code c.loop-i.invariant c.loop-i-test.true refl refl refl c.contour_triangle-p.ensures
    c.store_poly.ensures

pub returns : goal.returns
returns c = shape_all c.requires c.args.region c.args.code c.loop-i.invariant c.loop-i-test.false
