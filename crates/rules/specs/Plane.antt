-- Points on the plane: D, the doubled area of a list, and the tests of R1 on two segments. Definitions only.
use Rattle.std.specs.Prelude.{Bool, false, not, ◌&&◌, ◌||◌, cond, List, [], ◌∷◌, ℕ, ◌+◌, ◌*◌, ◌≤◌, leb, eqb, ℤ, pos, negsuc, ◌+ℤ◌, ◌-ℤ◌, ◌*ℤ◌}
use Rattle.std.specs.Bool.{beq}
use Rattle.std.specs.Int.Signed.{lt_z, le_z}
use Rattle.rules.specs.Lists.{apart}
use Rattle.rules.specs.declared.Point.{Point}
use Rattle.rules.specs.declared.Vertex.{Vertex}

abbrev pub origin : Point
origin = record { x = 0; z = 0 }

-- where a vertex stands on the plane
abbrev pub on_plane : Vertex → Point
on_plane v = record { x = v.x; z = v.z }

-- the points of a job that is not refused: "x or z above 32,767" is reply 3
pub record InGrid (p : Point) : Type 0 where
  pub x_small : p.x ≤ 32767
  pub z_small : p.z ≤ 32767

-- "D(a,b,c) = (b.x−a.x)(c.z−a.z) − (c.x−a.x)(b.z−a.z)"
unfoldable pub D : Point → Point → Point → ℤ
D a b c =
    (pos b.x -ℤ pos a.x) *ℤ (pos c.z -ℤ pos a.z)
    -ℤ (pos c.x -ℤ pos a.x) *ℤ (pos b.z -ℤ pos a.z)

-- "The doubled signed area of a list is the sum of D(p0,pk,pk+1) for k from 1 to length minus 2, and 0 below three points."
-- `fan p q l`: that sum, where p is p0, q is pk, and l are the points that follow it
unfoldable pub fan : Point → Point → List Point → ℤ
fan p q [] = pos 0
fan p q (r ∷ l) = D p q r +ℤ fan p r l

unfoldable pub area : List Point → ℤ
area [] = pos 0
area (p ∷ []) = pos 0
area (p ∷ (q ∷ l)) = fan p q l

-- "its sign counts, and left means below zero"
unfoldable pub is_left : Point → Point → Point → Bool
is_left a b c = lt_z (D a b c) (pos 0)

-- D(a,b,c) ≤ 0
unfoldable pub is_left_on : Point → Point → Point → Bool
is_left_on a b c = le_z (D a b c) (pos 0)

abbrev pub is_zero : ℤ → Bool
is_zero (pos n) = eqb n 0
is_zero (negsuc n) = false

-- D(a,b,c) = 0
unfoldable pub collinear : Point → Point → Point → Bool
collinear a b c = is_zero (D a b c)

-- "equal .. in x and z"
unfoldable pub vequal : Point → Point → Bool
vequal a b = eqb a.x b.x && eqb a.z b.z

-- "the squared x,z distance"
unfoldable pub squared : Point → Point → ℕ
squared a b = apart a.x b.x * apart a.x b.x + apart a.z b.z * apart a.z b.z

-- "Crossing: four nonzero D, the signs unlike on both.": the segments a b and c d
unfoldable pub intersect_prop : Point → Point → Point → Point → Bool
intersect_prop a b c d =
    not (collinear a b c || collinear a b d || collinear c d a || collinear c d b)
    && (not (beq (is_left a b c) (is_left a b d)) && not (beq (is_left c d a) (is_left c d b)))

-- c lies between a and b, in either order, the ends included
unfoldable pub within : ℕ → ℕ → ℕ → Bool
within a b c = (leb a c && leb c b) || (leb c a && leb b c)

-- "Touching: for an end c of one and the ends a, b of the other, D(a,b,c) = 0 and c.x lies between a.x and b.x, or c.z between a.z and b.z if a.x = b.x.
-- So a segment of no length is touched by any point of equal z."
unfoldable pub between : Point → Point → Point → Bool
between a b c = collinear a b c && cond (eqb a.x b.x) (within a.z b.z c.z) (within a.x b.x c.x)

-- the segments a b and c d cross or touch: each end of the one is tried on the other
unfoldable pub intersect : Point → Point → Point → Point → Bool
intersect a b c d = intersect_prop a b c d || (between a b c || between a b d || between c d a || between c d b)
