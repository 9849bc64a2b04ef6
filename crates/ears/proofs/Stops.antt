-- A side that stops a diagonal, place by place and point by point; one that is apart from the diagonal's box, which doesn't; and rings in which no side can.
-- Assumes nothing.
use mathlib.Core.Path.{◌≡◌, refl, sym, ◌∙◌, ap}
use mathlib.Core.Bool.{Bool, true, false, not, ◌&&◌}
use mathlib.Core.List.{List}
use Prim.Native.Nat.{ℕ, ◌<◌}
use borrow.Author.Tests.{ltb-true, eqb-true}
use lib.Dec.{ltb, eqb}
use lib.ListN.{length}
use Rattle.ints.specs.Bools.{and_left, and_right}
use Rattle.rules.specs.declared.Point.{Point}
use Rattle.rules.specs.declared.Kind.{Kind}
use Rattle.rules.specs.Lists.{next}
use Rattle.rules.specs.Plane.{InGrid}
use Rattle.rules.specs.Diagonal.{at_ends, shares_end, stops, is_blocked}
use Rattle.rules.specs.Ears.{point_at}
use Rattle.laws.proofs.Boxes.{apart_passes}
use Rattle.laws.proofs.Diagonals.{few_clear}
use Rattle.plane.specs.declared.bounds.Bounds.{Bounds}
use Rattle.plane.specs.Points.{points_in}
use Rattle.plane.specs.Boxes.{bounds_of, is_apart, apart_is_apart}
use Rattle.ears.specs.Ring.{Ends, side_stops}

none : (s t : Bool) → false ≡ (s && (t && false))
none true true = refl
none true false = refl
none false t = refl

-- the code's test s is that of the box, and it holds
pub passed_by : {t : Bounds} {s : Bool} (kind : Kind) (i j : ℕ) (a b : Point) (k l : ℕ) (c d : Point)
    → t ≡ bounds_of a b → InGrid c → s ≡ is_apart t c d → s ≡ true → false ≡ side_stops kind i j a b k l c d
unfolding side_stops
passed_by kind i j a b k l c d e g f h =
    rw (apart_passes kind a b c d (sym (apart_is_apart a b c d g) ∙ ap (λ (u : Bounds). is_apart u c d) (sym e) ∙ sym f ∙ h))
    (none (not (at_ends i j k l)) (not (shares_end a b c d)))

-- what stands at the places
pub side_at : {pts ix : List ℕ} {i j : ℕ} {a b : Point} (kind : Kind) (k : ℕ) {l : ℕ} {c d : Point} → Ends pts ix i j a b → l ≡ next k (length ix)
    → c ≡ point_at (points_in pts) ix k → d ≡ point_at (points_in pts) ix l
    → side_stops kind i j a b k l c d ≡ stops kind (point_at (points_in pts) ix) (length ix) i j k
unfolding side_stops stops
side_at kind k e p q r = rw (e.is_a, e.is_b, q, r, p)

-- the code's test s is that every side is at an end, and it holds
pub no_side_lem : {s : Bool} (kind : Kind) (p : ℕ → Point) (n i j : ℕ) → i < n → s ≡ (ltb n 5 && eqb j (next (next i n) n)) → s ≡ true
    → true ≡ not (is_blocked kind p n i j)
no_side_lem kind p n i j h f t =
    let few = ltb-true n 5 (and_left (ltb n 5) (eqb j (next (next i n) n)) (sym f ∙ t)) in
    let two-on = eqb-true j (next (next i n) n) (and_right (ltb n 5) (eqb j (next (next i n) n)) (sym f ∙ t)) in
    rw (two-on, few_clear kind p n i h few)
