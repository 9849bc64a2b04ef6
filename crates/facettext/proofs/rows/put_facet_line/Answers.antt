-- `facettext::rows::put_facet_line` meets its contract: a coordinate, the others and the LF are printed one behind the other. Assumes nothing.
use mathlib.Core.List.{List}
use Prim.Native.Nat.{ℕ}
use native.Mathlib.Omega.{arith}
use lib.ListN.{drop}
use Rattle.rules.specs.StlText.{facet_line}
use Rattle.lines.specs.Pieces.{Going, going_begin, going_room, going_more, going_place, going_byte, going_end}
use Rattle.lines.specs.Printing.{printed_same_length}
use Rattle.facettext.proofs.Facets.{line_texts, line_texts_lem, others_lent}
use Rattle.facettext.proofs.rows.put_facet_line.Goals as goal

-- i texts are printed
abbrev Done : List ℕ → List ℕ → ℕ → ℕ → List ℕ → ℕ → Type 0
Done f out at i w to = Going (facet_line f) out at (drop i (line_texts f)) w to

pub put_coordinate-a-requires : goal.put_coordinate-a-requires
put_coordinate-a-requires c =
    let begun : Done c.args.f.now c.args.out.now c.args.at 0 c.args.out.now c.args.at = going_begin _ _ _ (line_texts_lem c.args.f.now) c.requires.room in
    going_room begun

pub put_others-e-requires : goal.put_others-e-requires
put_others-e-requires c =
    let begun : Done c.args.f.now c.args.out.now c.args.at 0 c.args.out.now c.args.at = going_begin _ _ _ (line_texts_lem c.args.f.now) c.requires.room in
    let first : Done c.args.f.now c.args.out.now c.args.at 1 c.put_coordinate-a.new.out c.put_coordinate-a.result =
    going_more begun c.put_coordinate-a.ensures in
    rw (others_lent c.args.f.now) (going_room first)

pub bounds-out-e : goal.bounds-out-e
bounds-out-e c =
    let begun : Done c.args.f.now c.args.out.now c.args.at 0 c.args.out.now c.args.at = going_begin _ _ _ (line_texts_lem c.args.f.now) c.requires.room in
    let first : Done c.args.f.now c.args.out.now c.args.at 1 c.put_coordinate-a.new.out c.put_coordinate-a.result =
    going_more begun c.put_coordinate-a.ensures in
    let all : Done c.args.f.now c.args.out.now c.args.at 2 c.put_others-e.new.out c.put_others-e.result =
    going_more first (rw (others_lent c.args.f.now) at c.put_others-e.ensures) in
    going_place all

pub overflow_add-result : goal.overflow_add-result
overflow_add-result c =
    let begun : Done c.args.f.now c.args.out.now c.args.at 0 c.args.out.now c.args.at = going_begin _ _ _ (line_texts_lem c.args.f.now) c.requires.room in
    let first : Done c.args.f.now c.args.out.now c.args.at 1 c.put_coordinate-a.new.out c.put_coordinate-a.result =
    going_more begun c.put_coordinate-a.ensures in
    let all : Done c.args.f.now c.args.out.now c.args.at 2 c.put_others-e.new.out c.put_others-e.result =
    going_more first (rw (others_lent c.args.f.now) at c.put_others-e.ensures) in
    omega (arith, going_place all)

pub returns : goal.returns
returns c =
    let begun : Done c.args.f.now c.args.out.now c.args.at 0 c.args.out.now c.args.at = going_begin _ _ _ (line_texts_lem c.args.f.now) c.requires.room in
    let first : Done c.args.f.now c.args.out.now c.args.at 1 c.put_coordinate-a.new.out c.put_coordinate-a.result =
    going_more begun c.put_coordinate-a.ensures in
    let all : Done c.args.f.now c.args.out.now c.args.at 2 c.put_others-e.new.out c.put_others-e.result =
    going_more first (rw (others_lent c.args.f.now) at c.put_others-e.ensures) in
    going_end (going_byte all)

pub shape_of-out : goal.shape_of-out
shape_of-out c = printed_same_length (returns c)
