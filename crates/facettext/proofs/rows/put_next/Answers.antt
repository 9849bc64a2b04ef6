-- `facettext::rows::put_next` meets its contract: the tab, and the coordinate behind it. Assumes nothing.
use native.Mathlib.Omega.{arith}
use Rattle.rules.specs.StlText.{coordinate_text}
use Rattle.lines.specs.Printing.{printed_one, printed_then, printed_same_length, room_then}
use Rattle.facettext.proofs.rows.put_next.Goals as goal

pub bounds-out-at : goal.bounds-out-at
bounds-out-at c = omega arith

pub put_coordinate-requires : goal.put_coordinate-requires
put_coordinate-requires c =
    room_then (printed_one c.args.out.now _ 9) (coordinate_text c.args.p) c.requires

pub returns : goal.returns
returns c = printed_then (printed_one _ _ 9) c.put_coordinate.ensures

pub shape_of-out : goal.shape_of-out
shape_of-out c = printed_same_length (returns c)
