use mathlib.Core.Path.{◌≡◌}
use Prim.Native.Nat.{◌+◌, ◌-◌, ◌*◌}
use native.Mathlib.Omega.{arith}
use Rattle.rules.specs.Lines.{ascii}
use Rattle.rules.specs.Sheet.{v_name}
use Rattle.lines.specs.Pieces.{pieces_none, pieces_room, pieces_more, pieces_all}
use Rattle.lines.specs.Printing.{room_as, printed_as}
use Rattle.sheet.specs.Rows.{line_of_numbers}
use Rattle.sheet.proofs.RowLoops.{vertices_over}
use Rattle.sheet.proofs.rows.put_vertices.Goals as goal

pub loop-i-init : goal.loop-i-init
loop-i-init c = pieces_none _ _ (vertices_over c.args.vertices.now c.args.k c.requires.there) c.requires.room

pub put_line-to-requires : goal.put_line-to-requires
unfolding v_name ascii
put_line-to-requires c = let e : c.loop-i.i * 3 + 3 - c.loop-i.i * 3 ≡ 3 = omega arith in rw e (room_as _ _ (line_of_numbers v_name _) (pieces_room c.loop-i.invariant c.loop-i-test.true))

pub loop-i-preserved : goal.loop-i-preserved
unfolding v_name ascii
loop-i-preserved c = let e : c.loop-i.i * 3 + 3 - c.loop-i.i * 3 ≡ 3 = omega arith in pieces_more c.loop-i.invariant c.loop-i-test.true (printed_as (rw e at c.put_line-to.ensures) (line_of_numbers v_name _))

pub returns : goal.returns
returns c = pieces_all c.loop-i.invariant c.loop-i-test.false
