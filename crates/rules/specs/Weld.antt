-- R3: the vertices of a contour are welded to those of the mesh. Definitions only.
use Rattle.std.specs.Prelude.{Bool, ◌&&◌, cond, List, [], ◌∷◌, ◌++◌, ℕ, ◌+◌, ◌*◌, ◌%◌, ◌^◌, eqb, leb, length, get_or, set, Option, Some, None}
use Rattle.mem.specs.Loops.{each}
use Rattle.rules.specs.Lists.{apart, when, or_else, down}
use Rattle.rules.specs.declared.Vertex.{Vertex}

abbrev pub no_vertex : Vertex
no_vertex = record { x = 0; y = 0; z = 0 }

-- "with equal x and z and y differing by at most 2": the 2 is `height` here, and `Build` alone says that it is 2
unfoldable pub is_same : ℕ → Vertex → Vertex → Bool
is_same height v w = eqb v.x w.x && (leb (apart v.y w.y) height && eqb v.z w.z)

-- "the highest-numbered one" that is the same as v, of those below n
unfoldable pub highest_below : ℕ → List Vertex → Vertex → ℕ → Option ℕ
highest_below height vs v n = down None or_else (λ k. when (is_same height (get_or vs k no_vertex) v) k) n

-- "A vertex takes the highest-numbered one .., else a new number.": the mesh's vertices are vs, and the next new number is how many there are
unfoldable pub number_or : ℕ → Option ℕ → ℕ
number_or new (Some k) = k
number_or new None = new

unfoldable pub number_of : ℕ → List Vertex → Vertex → ℕ
number_of height vs v = number_or (length vs) (highest_below height vs v (length vs))

-- the vertices so far, and for each whether it is marked: 1 or 0; and the numbers that the contour's vertices took so far
pub record Welded : Type 0 where
  pub vertices : List Vertex
  pub marks : List ℕ
  pub numbers : List ℕ

-- "Any set flag marks the welded vertex."
unfoldable pub flagged : ℕ → ℕ → List ℕ → List ℕ
flagged flag k marks = cond (eqb flag 1) (set marks k 1) marks

-- one more vertex, with its flag: Rust's `add_vertex`
unfoldable pub add_vertex : ℕ → Vertex → ℕ → Welded → Welded
add_vertex height v flag s =
    let k = number_of height s.vertices v in
    let new = eqb k (length s.vertices) in
    record {
      vertices = cond new (s.vertices ++ (v ∷ [])) s.vertices;
      marks = flagged flag k (cond new (s.marks ++ (0 ∷ [])) s.marks);
      numbers = s.numbers ++ (k ∷ []);
    }

-- a contour's vertices vs, with their flags, one after the other
unfoldable pub weld_one : ℕ → List Vertex → List ℕ → ℕ → Welded → Welded
weld_one height vs flags i s = add_vertex height (get_or vs i no_vertex) (get_or flags i 0) s

unfoldable pub weld_all : ℕ → List Vertex → List ℕ → Welded → Welded
weld_all height vs flags s = each (weld_one height vs flags) 0 (length vs) s

-- "The Rust's 4,096 buckets stay: the bucket is 0x8da6b343·x + 0xcb1ab31f·z, low 12 bits; its products and sums drop every bit above 32."
-- Nothing above depends on it: vertices that are the same have equal x and z, and so one bucket, and looking through that bucket finds the same
-- number as looking through all. How vertices are found is the code's own affair, and it finds them by this number.
unfoldable pub bucket : ℕ → ℕ → ℕ
bucket x z = ((0x8da6_b343 * x) % 2 ^ 32 + (0xcb1a_b31f * z) % 2 ^ 32) % 2 ^ 32 % 2 ^ 12
