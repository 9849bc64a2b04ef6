-- R2: ears are cut off a contour or a hole, a list of points. Definitions only.
use Rattle.std.specs.Prelude.{Bool, true, ◌&&◌, cond, List, [], ◌∷◌, ◌++◌, ℕ, zero, suc, ◌+◌, ◌-◌, ◌%◌, ◌^◌, leb, ltb, length, get_or, set, Option, Some, None}
use Rattle.mem.specs.Loops.{each}
use Rattle.mem.specs.Tab.{tab}
use Rattle.rules.specs.Lists.{next, prev, without}
use Rattle.rules.specs.Plane.{origin, squared}
use Rattle.rules.specs.Diagonal.{is_diagonal}
use Rattle.rules.specs.declared.Point.{Point}
use Rattle.rules.specs.declared.Ear.{Ear}
use Rattle.rules.specs.declared.Kind.{Kind}
use Rattle.rules.specs.declared.Kind.TheVariants.{Strict, Loose}

-- ---- index words

-- "the low 28 bits are the index"
unfoldable pub index_of : ℕ → ℕ
index_of w = w % 2 ^ 28

-- "The top bit of a 32-bit index word marks a cuttable vertex"
unfoldable pub is_marked : ℕ → Bool
is_marked w = leb (2 ^ 31) w

-- the word with its mark set or cleared
unfoldable pub with_mark : Bool → ℕ → ℕ
with_mark on w = cond on (index_of w + 2 ^ 31) (index_of w)

-- the words at the start: 0, 1, .., n - 1
unfoldable pub indices : ℕ → List ℕ
indices n = tab (λ k. k) n

-- the point whose index stands in the word at place k
unfoldable pub point_at : List Point → List ℕ → ℕ → Point
point_at ps ws k = get_or ps (index_of (get_or ws k 0)) origin

-- ---- marking

-- place k is marked if place i to place j is a strict diagonal, and else unmarked
unfoldable pub remark : List Point → ℕ → ℕ → ℕ → List ℕ → List ℕ
remark ps i j k ws = set ws k (with_mark (is_diagonal Strict (point_at ps ws) (length ws) i j) (get_or ws k 0))

-- "At the start i+1 is marked if i to i+2 is a strict diagonal.": for each i of n
unfoldable pub mark_from : List Point → ℕ → ℕ → List ℕ → List ℕ
mark_from ps n i ws = remark ps i (next (next i n) n) (next i n) ws

unfoldable pub mark_all : List Point → List ℕ → List ℕ
mark_all ps ws = each (mark_from ps (length ws)) 0 (length ws) ws

-- ---- the search for an ear

-- "The key is the low 16 bits of the squared x,z distance"
unfoldable pub key_of : Point → Point → ℕ
key_of a b = squared a b % 2 ^ 16

-- i+1 may be cut: it is marked; where "the loose diagonals are tried", i to i+2 is one
unfoldable pub is_cuttable : Kind → List Point → List ℕ → ℕ → Bool
is_cuttable Strict ps ws i = is_marked (get_or ws (next i (length ws)) 0)
is_cuttable Loose ps ws i = is_diagonal Loose (point_at ps ws) (length ws) i (next (next i (length ws)) (length ws))

-- the key's two places: "from i to i+2", and for the loose ones "with the key from i to i+3"
unfoldable pub key_end : Kind → ℕ → ℕ → ℕ
key_end Strict n i = next (next i n) n
key_end Loose n i = next (next (next i n) n) n

unfoldable pub key_from : Kind → List Point → List ℕ → ℕ → ℕ
key_from kind ps ws i = key_of (point_at ps ws i) (point_at ps ws (key_end kind (length ws) i))

-- whether key k is below that of the best so far, or there is none so far
unfoldable pub beats : ℕ → Option Ear → Bool
beats k (Some e) = ltb k e.key
beats k None = true

-- "with the least key .., the lowest i on ties": i with key k, where it may be cut, against the best so far, if there is one, whose i is lower
unfoldable pub better : Bool → ℕ → ℕ → Option Ear → Option Ear
better ok k i e = cond (ok && beats k e) (Some (record { key = k; at = i })) e

unfoldable pub try_ear : Kind → List Point → List ℕ → ℕ → Option Ear → Option Ear
try_ear kind ps ws i e = better (is_cuttable kind ps ws i) (key_from kind ps ws i) i e

unfoldable pub least_ear : Kind → List Point → List ℕ → Option Ear
least_ear kind ps ws = each (try_ear kind ps ws) 0 (length ws) None

-- "the marked vertex with the least key is cut .. If none is marked, the loose diagonals are tried"
unfoldable pub find_ear : List Point → List ℕ → Option Ear
find_ear ps ws = elim (least_ear Strict ps ws) [ Some e ↦ Some e | None ↦ least_ear Loose ps ws ]

-- ---- the cut

-- "Triangle: i, i+1, i+2."
unfoldable pub triangle_at : List ℕ → ℕ → List ℕ
triangle_at ws i =
    let i1 = next i (length ws) in
    let i2 = next i1 (length ws) in
    index_of (get_or ws i 0) ∷ index_of (get_or ws i1 0) ∷ index_of (get_or ws i2 0) ∷ []

-- "After a cut only the two vertices beside the gap are marked or unmarked afresh": first the one before it, at i, then the one after it, at i1
unfoldable pub remark_gap : List Point → ℕ → ℕ → List ℕ → List ℕ
remark_gap ps i i1 ws =
    let n = length ws in
    remark ps i (next i1 n) i1 (remark ps (prev i n) i1 i ws)

-- the words once i+1 is cut: what followed it stands at its place, or at 0 if it was last
unfoldable pub cut_ear : List Point → ℕ → List ℕ → List ℕ
cut_ear ps i ws =
    let k = next i (length ws) in
    let vs = without ws k in
    let i1 = cond (ltb k (length vs)) k 0 in
    remark_gap ps (prev i1 (length vs)) i1 vs

-- ---- the whole

-- the triangles, each as three numbers of points; or no ear to cut, after so many triangles
pub data Ears : Type 0 where
  done : List (List ℕ) → Ears
  stuck : ℕ → Ears

-- "While more than 3 remain": f + 3 remain (`Fuel`), and the triangles of `out` are cut already. "The last three are a triangle whatever their shape."
unfoldable pub cut_all : ℕ → List Point → List ℕ → List (List ℕ) → Ears
cut_all zero ps ws out = done (out ++ (triangle_at ws 0 ∷ []))
cut_all (suc f) ps ws out =
    elim (find_ear ps ws) [
      | Some e ↦ cut_all f ps (cut_ear ps e.at ws) (out ++ (triangle_at ws e.at ∷ []))
      | None ↦ stuck (length out)
    ]

-- Rust's `triangulate`, of three or more points (contours of fewer are skipped, and a hole has at least three)
unfoldable pub triangulate : List Point → Ears
triangulate ps = cut_all (length ps - 3) ps (mark_all ps (indices (length ps))) []
