-- `stl::points::put_point` meets its contract: three numbers one behind the other are the bytes of the point. Assumes nothing.
use Rattle.rules.specs.Stl.{coordinate, point_of}
use Rattle.laws.proofs.StlWords.{point_written}
use Rattle.stl.proofs.points.put_point.Goals as goal

pub returns : goal.returns
unfolding point_of
returns c =
    let a = c.args in
    point_written a.out.now a.at (coordinate a.lengths.size a.v.x) (coordinate a.lengths.height a.v.y) (coordinate a.lengths.size a.v.z)
    c.put_f32.ensures c.put_f32-2.ensures c.put_f32-3.ensures
