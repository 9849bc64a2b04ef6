-- `ears::diagonal::is_clear` meets its contract: the loop's invariant is `Left`, that the answer of all sides is that of the rest, and that c is the point
-- at place k; the measure is what is left of the sides. Assumes nothing.
use mathlib.Core.Path.{◌≡◌}
use mathlib.Core.Bool.{false, not, ◌||◌}
use Prim.Native.Nat.{◌-◌, ◌<◌}
use lib.ListN.{length}
use Rattle.mem.specs.Loops.{Left}
use Rattle.rules.specs.Plane.{InGrid}
use Rattle.rules.specs.Diagonal.{stops, is_blocked}
use Rattle.rules.specs.Ears.{point_at}
use Rattle.plane.specs.Points.{points_in}
use Rattle.ears.proofs.diagonal.is_clear.Given as goal

abbrev pub invariant-loop-k : goal.invariant-loop-k
invariant-loop-k l = let p = point_at (points_in l.pts) l.ix in
    Left false ◌||◌ (stops l.kind p (length l.ix) l.i l.j) not (not (is_blocked l.kind p (length l.ix) l.i l.j)) (length l.ix) l.k × (l.k < length l.ix → l.c ≡ p l.k) × InGrid l.c

abbrev pub decreases-loop-k : goal.decreases-loop-k
decreases-loop-k l = length l.ix - l.k
