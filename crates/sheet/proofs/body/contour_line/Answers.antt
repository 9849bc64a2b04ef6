-- `sheet::body::contour_line` meets its contract, by the line's numbers and by the test for too many. Assumes nothing.
use mathlib.Core.Path.{refl}
use native.Mathlib.Omega.{arith}
use Rattle.rules.specs.Sheet.{contour_name}
use Rattle.rules.specs.Lines.{ascii}
use Rattle.lines.specs.Exits.{found_or, refused_or}
use Rattle.lines.specs.Taken.{good_read, bad_read}
use Rattle.sheet.specs.Reading.{is_over}
use Rattle.sheet.proofs.BodyLines.{ContourGood, contour_most, not_over, contour_bad, contour_over, contour_put}
use Rattle.sheet.proofs.body.contour_line.Goals as goal

pub returns-in_err-contour : goal.returns-in_err-contour
unfolding contour_name ascii
returns-in_err-contour c =
    let a = c.args in
    let none = refused_or _ _ _ c.ok_or.ensures.value c.in_err-contour.was c.from_residual.ensures.1 in
    rw none.1 (contour_bad a.text.now a.p a.lengths.now a.regions.now a.codes.now (bad_read _ _ _ _ _ (c.read_line.ensures.whole refl) none.0))

pub overflow_add-p : goal.overflow_add-p
unfolding contour_name ascii
overflow_add-p c =
    let good_line : ContourGood c.args.text.now c.args.p.at c.in_ok-contour.contour =
    good_read _ _ _ _ _ (c.read_line.ensures.whole refl) (found_or _ _ c.ok_or.ensures.value c.in_ok-contour.was) in
    record { fits = omega (arith, contour_most good_line, c.requires.within.room) }

pub returns-then-full-p : goal.returns-then-full-p
unfolding is_over contour_name ascii
returns-then-full-p c =
    let good_line : ContourGood c.args.text.now c.args.p.at c.in_ok-contour.contour =
    good_read _ _ _ _ _ (c.read_line.ensures.whole refl) (found_or _ _ c.ok_or.ensures.value c.in_ok-contour.was) in
    let a = c.args in
    contour_over a.text.now a.p a.lengths.now a.regions.now a.codes.now good_line c.if-full-p.true

pub overflow_cast-lengths : goal.overflow_cast-lengths
unfolding contour_name ascii
overflow_cast-lengths c =
    let good_line : ContourGood c.args.text.now c.args.p.at c.in_ok-contour.contour =
    good_read _ _ _ _ _ (c.read_line.ensures.whole refl) (found_or _ _ c.ok_or.ensures.value c.in_ok-contour.was) in
    record { fits = omega (arith, contour_most good_line) }

pub bounds-lengths-k : goal.bounds-lengths-k
unfolding is_over
bounds-lengths-k c = omega (arith, not_over c.args.p _ c.if-full-p.false, c.requires.lengths)

pub overflow_cast-regions : goal.overflow_cast-regions
unfolding contour_name ascii
overflow_cast-regions c =
    let good_line : ContourGood c.args.text.now c.args.p.at c.in_ok-contour.contour =
    good_read _ _ _ _ _ (c.read_line.ensures.whole refl) (found_or _ _ c.ok_or.ensures.value c.in_ok-contour.was) in
    record { fits = omega (arith, contour_most good_line) }

pub bounds-regions-k : goal.bounds-regions-k
unfolding is_over
bounds-regions-k c = omega (arith, not_over c.args.p _ c.if-full-p.false, c.requires.regions)

pub overflow_cast-codes : goal.overflow_cast-codes
unfolding contour_name ascii
overflow_cast-codes c =
    let good_line : ContourGood c.args.text.now c.args.p.at c.in_ok-contour.contour =
    good_read _ _ _ _ _ (c.read_line.ensures.whole refl) (found_or _ _ c.ok_or.ensures.value c.in_ok-contour.was) in
    record { fits = omega (arith, contour_most good_line) }

pub bounds-codes-k : goal.bounds-codes-k
unfolding is_over
bounds-codes-k c = omega (arith, not_over c.args.p _ c.if-full-p.false, c.requires.codes)

pub overflow_add-result : goal.overflow_add-result
overflow_add-result c = record { fits = omega (arith, c.requires.within.small, c.requires.within.inside, c.requires.within.short) }

pub overflow_add-result-2 : goal.overflow_add-result-2
overflow_add-result-2 c = record { fits = omega (arith, c.requires.within.few) }

pub returns : goal.returns
unfolding is_over contour_name ascii
returns c =
    let good_line : ContourGood c.args.text.now c.args.p.at c.in_ok-contour.contour =
    good_read _ _ _ _ _ (c.read_line.ensures.whole refl) (found_or _ _ c.ok_or.ensures.value c.in_ok-contour.was) in
    let a = c.args in
    contour_put a.text.now a.p a.lengths.now a.regions.now a.codes.now good_line c.if-full-p.false
