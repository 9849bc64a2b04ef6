-- R1: strict and loose diagonals of a ring of n places, `p k` being the point at place k. Definitions only.
use Rattle.std.specs.Prelude.{Bool, false, not, ◌&&◌, ◌||◌, cond, ℕ, eqb}
use Rattle.mem.specs.Loops.{over}
use Rattle.rules.specs.Lists.{next, prev}
use Rattle.rules.specs.Plane.{is_left, is_left_on, vequal, intersect_prop, intersect}
use Rattle.rules.specs.declared.Point.{Point}
use Rattle.rules.specs.declared.Kind.{Kind}
use Rattle.rules.specs.declared.Kind.TheVariants.{Strict, Loose}

-- D < 0 in the strict cone; "The loose diagonal uses ≤ 0 throughout"
unfoldable pub left_by : Kind → Point → Point → Point → Bool
left_by Strict a b c = is_left a b c
left_by Loose a b c = is_left_on a b c

-- "From i to j, p before i and q after it. Strict cone: if D(p,i,q) ≤ 0, then D(i,j,p) < 0 and D(j,i,q) < 0; otherwise not both D(i,j,q) ≤ 0 and D(j,i,p) ≤ 0."
unfoldable pub in_cone : Kind → Point → Point → Point → Point → Bool
in_cone kind p i q j =
    cond (is_left_on p i q)
    (left_by kind i j p && left_by kind j i q)
    (not (is_left_on i j q && is_left_on j i p))

-- "Sides at position i or j are passed over": the side from place k to place l
unfoldable pub at_ends : ℕ → ℕ → ℕ → ℕ → Bool
at_ends i j k l = eqb k i || eqb l i || eqb k j || eqb l j

-- "also sides with an end equal to i or j in x and z": the diagonal a b, the side c d
unfoldable pub shares_end : Point → Point → Point → Point → Bool
shares_end a b c d = vequal a c || vequal b c || vequal a d || vequal b d

-- a side "that crosses or touches the diagonal"; the loose one "lets touching pass"
unfoldable pub hits : Kind → Point → Point → Point → Point → Bool
hits Strict a b c d = intersect a b c d
hits Loose a b c d = intersect_prop a b c d

-- the side at place k stops the search
unfoldable pub stops : Kind → (ℕ → Point) → ℕ → ℕ → ℕ → ℕ → Bool
stops kind p n i j k =
    let l = next k n in
    not (at_ends i j k l) && (not (shares_end (p i) (p j) (p k) (p l)) && hits kind (p i) (p j) (p k) (p l))

-- "Of the others, the search stops at the first side that crosses or touches the diagonal.": whether there is one
unfoldable pub is_blocked : Kind → (ℕ → Point) → ℕ → ℕ → ℕ → Bool
is_blocked kind p n i j = over false ◌||◌ (stops kind p n i j) 0 n

-- "Diagonal. From i to j": in the cone, and no side stops it
unfoldable pub is_diagonal : Kind → (ℕ → Point) → ℕ → ℕ → ℕ → Bool
is_diagonal kind p n i j = in_cone kind (p (prev i n)) (p i) (p (next i n)) (p j) && not (is_blocked kind p n i j)
