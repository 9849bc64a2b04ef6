-- `sheet::body::one_line` meets its contract: whichever line it is, the rest comes to what the whole comes to. Assumes nothing.
use native.Mathlib.Omega.{arith}
use Rattle.sheet.proofs.Bodies.{contour_ready, vertex_ready, contour_stepped, vertex_stepped}
use Rattle.sheet.proofs.body.one_line.Goals as goal

pub contour_line-requires : goal.contour_line-requires
contour_line-requires c = contour_ready c.requires

pub returns-then-p-eq0 : goal.returns-then-p-eq0
returns-then-p-eq0 c = contour_stepped c.requires (omega arith) c.contour_line.ensures

pub vertex_line-requires : goal.vertex_line-requires
vertex_line-requires c = vertex_ready c.requires (omega arith)

pub returns : goal.returns
returns c = vertex_stepped c.requires (omega arith) c.vertex_line.ensures
