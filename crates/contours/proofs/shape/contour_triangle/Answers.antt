-- `contours::shape::contour_triangle` meets its contract: its corners are the numbers of the three vertices. Assumes nothing.
use Rattle.contours.proofs.Shapes.{triangle_made}
use Rattle.contours.proofs.shape.contour_triangle.Goals as goal

pub returns : goal.returns
returns c = triangle_made c.args.work.now c.args.ko c.args.n c.args.i c.args.j c.args.k c.args.region c.args.code c.requires.1 c.requires.2 c.requires.3
