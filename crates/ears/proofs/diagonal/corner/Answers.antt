-- `ears::diagonal::corner` meets its contract: the ring's word names a point, and that point is the one of the list. Assumes nothing.
use mathlib.Core.Path.{sym, ◌∙◌, ap}
use Rattle.plane.specs.Points.{point_of}
use Rattle.ears.proofs.Rings.{corner_is, corner_room}
use Rattle.ears.proofs.diagonal.corner.Goals as goal

pub point_at-requires : goal.point_at-requires
point_at-requires c =
    (c.requires.0.grid, rw c.index_of-v.ensures (corner_room c.requires.0 c.args.k c.requires.1))

pub returns : goal.returns
returns c = (
  c.point_at.ensures.0 ∙ ap (point_of c.args.pts.now) c.index_of-v.ensures ∙ sym (corner_is c.requires.0 c.args.k c.requires.1),
  c.point_at.ensures.1,
)
