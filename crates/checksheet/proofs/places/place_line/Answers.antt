-- `checksheet::places::place_line` meets its contract, by the line's numbers: three words set one by one are the three numbers. Assumes nothing.
use mathlib.Core.Path.{refl}
use native.Mathlib.Omega.{arith}
use lib.ListN.{length-set}
use Rattle.rules.specs.Lines.{ascii}
use Rattle.rules.specs.Sheet.{v_name}
use Rattle.lines.specs.Exits.{found_or, refused_or}
use Rattle.lines.specs.Taken.{good_read, bad_read}
use Rattle.checksheet.proofs.PlaceLines.{PlaceGood, place_most, place_bad, place_put}
use Rattle.checksheet.proofs.places.place_line.Goals as goal

pub returns-in_err-place : goal.returns-in_err-place
unfolding v_name ascii
returns-in_err-place c =
    let none = refused_or _ _ _ c.ok_or.ensures.value c.in_err-place.was c.from_residual.ensures.1 in
    rw none.1 (place_bad c.requires (bad_read _ _ _ _ _ (c.read_line.ensures.whole refl) none.0))

pub overflow_cast-vertices : goal.overflow_cast-vertices
unfolding v_name ascii
overflow_cast-vertices c =
    let good_line : PlaceGood c.args.text.now c.args.p.at c.in_ok-place.place =
    good_read _ _ _ _ _ (c.read_line.ensures.whole refl) (found_or _ _ c.ok_or.ensures.value c.in_ok-place.was) in
    record { fits = omega (arith, place_most good_line) }

pub overflow_cast-vertices-2 : goal.overflow_cast-vertices-2
unfolding v_name ascii
overflow_cast-vertices-2 c =
    let good_line : PlaceGood c.args.text.now c.args.p.at c.in_ok-place.place =
    good_read _ _ _ _ _ (c.read_line.ensures.whole refl) (found_or _ _ c.ok_or.ensures.value c.in_ok-place.was) in
    record { fits = omega (arith, place_most good_line) }

pub bounds-vertices-k-2 : goal.bounds-vertices-k-2
bounds-vertices-k-2 c = simp length-set (omega (arith, c.requires.room))

pub overflow_cast-vertices-3 : goal.overflow_cast-vertices-3
unfolding v_name ascii
overflow_cast-vertices-3 c =
    let good_line : PlaceGood c.args.text.now c.args.p.at c.in_ok-place.place =
    good_read _ _ _ _ _ (c.read_line.ensures.whole refl) (found_or _ _ c.ok_or.ensures.value c.in_ok-place.was) in
    record { fits = omega (arith, place_most good_line) }

pub bounds-vertices-k-3 : goal.bounds-vertices-k-3
bounds-vertices-k-3 c = simp length-set (omega (arith, c.requires.room))

pub returns : goal.returns
unfolding v_name ascii
returns c =
    let good_line : PlaceGood c.args.text.now c.args.p.at c.in_ok-place.place =
    good_read _ _ _ _ _ (c.read_line.ensures.whole refl) (found_or _ _ c.ok_or.ensures.value c.in_ok-place.was) in
    place_put c.requires good_line
