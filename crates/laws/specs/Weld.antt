-- R3: the number that a vertex takes, what one more vertex does, and what all of a contour's vertices do. Definitions only.
use Prim.Native.Nat.{ℕ, ◌≤◌, ◌<◌}
use Rattle.std.specs.Prelude.{◌≡◌, List, [], ◌∷◌, ◌++◌, length, get_or}
use Rattle.rules.specs.declared.Vertex.{Vertex}
use Rattle.rules.specs.Plane.{on_plane}
use Rattle.rules.specs.Weld.{no_vertex, Welded}
use Rattle.rules.specs.Mesh.{place_of}
use Rattle.laws.specs.Lists.{All}

-- number n of the vertices vs stands where v stands
pub record Took (vs : List Vertex) (n : ℕ) (v : Vertex) : Type 0 where
  pub below : n < length vs
  pub place : place_of vs n ≡ on_plane v

-- what adding a vertex does: at most one is new, and that is v
pub record Added (v : Vertex) (s t : Welded) : Type 0 where
  pub more : List Vertex
  pub grown : t.vertices ≡ s.vertices ++ more
  pub few : length more ≤ 1
  pub fresh : All (λ u. u ≡ v) more
  pub number : ℕ
  pub took : Took t.vertices number v
  pub listed : t.numbers ≡ s.numbers ++ (number ∷ [])
  pub marked : length s.marks ≡ length s.vertices → length t.marks ≡ length t.vertices

-- u is one of the first i of vs
pub record OneOf (vs : List Vertex) (i : ℕ) (u : Vertex) : Type 0 where
  pub place : ℕ
  pub below : place < i
  pub is : u ≡ get_or vs place no_vertex

-- i vertices of vs are welded to the old ones, and s is what there is now
pub record Welds (old : List Vertex) (vs : List Vertex) (i : ℕ) (s : Welded) : Type 0 where
  pub more : List Vertex
  pub grown : s.vertices ≡ old ++ more
  pub few : length more ≤ i
  pub fresh : All (OneOf vs i) more
  pub listed : length s.numbers ≡ i
  pub took : (k : ℕ) → k < i → Took s.vertices (get_or s.numbers k 0) (get_or vs k no_vertex)
  pub marked : length s.marks ≡ length s.vertices
