-- `sheet::body::vertex_line` meets its contract, by the line's numbers: four words set one by one are the four numbers. Assumes nothing.
use mathlib.Core.Path.{refl}
use native.Mathlib.Omega.{arith}
use lib.ListN.{length-set}
use Rattle.rules.specs.Sheet.{v_name}
use Rattle.rules.specs.Lines.{ascii}
use Rattle.lines.specs.Exits.{found_or, refused_or}
use Rattle.lines.specs.Taken.{good_read, bad_read}
use Rattle.sheet.proofs.BodyLines.{VertexGood, vertex_most, vertex_bad, vertex_put}
use Rattle.sheet.proofs.body.vertex_line.Goals as goal

pub returns-in_err-vertex : goal.returns-in_err-vertex
unfolding v_name ascii
returns-in_err-vertex c =
    let a = c.args in
    let none = refused_or _ _ _ c.ok_or.ensures.value c.in_err-vertex.was c.from_residual.ensures.1 in
    rw none.1 (vertex_bad a.text.now a.p a.numbers.now (bad_read _ _ _ _ _ (c.read_line.ensures.whole refl) none.0))

pub overflow_cast-numbers : goal.overflow_cast-numbers
unfolding v_name ascii
overflow_cast-numbers c =
    let good_line : VertexGood c.args.text.now c.args.p.at c.in_ok-vertex.vertex =
    good_read _ _ _ _ _ (c.read_line.ensures.whole refl) (found_or _ _ c.ok_or.ensures.value c.in_ok-vertex.was) in
    record { fits = omega (arith, vertex_most good_line) }

pub overflow_cast-numbers-2 : goal.overflow_cast-numbers-2
unfolding v_name ascii
overflow_cast-numbers-2 c =
    let good_line : VertexGood c.args.text.now c.args.p.at c.in_ok-vertex.vertex =
    good_read _ _ _ _ _ (c.read_line.ensures.whole refl) (found_or _ _ c.ok_or.ensures.value c.in_ok-vertex.was) in
    record { fits = omega (arith, vertex_most good_line) }

pub bounds-numbers-k-2 : goal.bounds-numbers-k-2
bounds-numbers-k-2 c = simp length-set (omega (arith, c.requires.within.room, c.requires.due, c.requires.numbers))

pub overflow_cast-numbers-3 : goal.overflow_cast-numbers-3
unfolding v_name ascii
overflow_cast-numbers-3 c =
    let good_line : VertexGood c.args.text.now c.args.p.at c.in_ok-vertex.vertex =
    good_read _ _ _ _ _ (c.read_line.ensures.whole refl) (found_or _ _ c.ok_or.ensures.value c.in_ok-vertex.was) in
    record { fits = omega (arith, vertex_most good_line) }

pub bounds-numbers-k-3 : goal.bounds-numbers-k-3
bounds-numbers-k-3 c = simp length-set (omega (arith, c.requires.within.room, c.requires.due, c.requires.numbers))

pub overflow_cast-numbers-4 : goal.overflow_cast-numbers-4
unfolding v_name ascii
overflow_cast-numbers-4 c =
    let good_line : VertexGood c.args.text.now c.args.p.at c.in_ok-vertex.vertex =
    good_read _ _ _ _ _ (c.read_line.ensures.whole refl) (found_or _ _ c.ok_or.ensures.value c.in_ok-vertex.was) in
    record { fits = omega (arith, vertex_most good_line) }

pub bounds-numbers-k-4 : goal.bounds-numbers-k-4
bounds-numbers-k-4 c = simp length-set (omega (arith, c.requires.within.room, c.requires.due, c.requires.numbers))

pub overflow_add-result : goal.overflow_add-result
overflow_add-result c = record { fits = omega (arith, c.requires.within.small, c.requires.within.inside, c.requires.within.short) }

pub overflow_sub-result : goal.overflow_sub-result
overflow_sub-result c = omega (arith, c.requires.due)

pub overflow_add-result-2 : goal.overflow_add-result-2
overflow_add-result-2 c = record { fits = omega (arith, c.requires.within.room) }

pub returns : goal.returns
unfolding v_name ascii
returns c =
    let good_line : VertexGood c.args.text.now c.args.p.at c.in_ok-vertex.vertex =
    good_read _ _ _ _ _ (c.read_line.ensures.whole refl) (found_or _ _ c.ok_or.ensures.value c.in_ok-vertex.was) in
    let a = c.args in vertex_put a.text.now a.p a.numbers.now good_line
