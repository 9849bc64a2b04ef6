-- `stored::area::put_places` meets its contract. The loop's invariant is `Placed`: the words of the places so far are written. The measure is what is left of
-- the corners. Assumes nothing.
use Rattle.stored.proofs.Places.{Placed}
use Rattle.stored.proofs.area.put_places.Given as goal

abbrev pub invariant-loop-c : goal.invariant-loop-c
invariant-loop-c l = Placed l.vertices l.corners l.initial.pts l.pts l.c
