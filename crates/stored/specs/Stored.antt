-- A stored mesh in lent buffers, as those who measure or print it read it. Definitions only.
use Rattle.std.specs.Prelude.{List, [], ◌∷◌, map, ℕ, ◌+◌, ◌*◌, ◌≤◌, ◌<◌, length, get_or}
use Rattle.mem.specs.Slice.{view}
use Rattle.mem.specs.Tab.{tab}
use Rattle.rules.specs.Checks.{Lent, vertex_stride}
use Rattle.rules.specs.Exits.{Stored, vertex_of, up_to_none, decoded}
use Rattle.rules.specs.declared.Vertex.{Vertex}
use Rattle.rules.specs.declared.Point.{Point}

-- buffers that hold a mesh, as the rules' decoder takes them
unfoldable pub lent_of : List ℕ → List ℕ → List ℕ → List ℕ → List ℕ → Lent
lent_of vs ps ls rs cs = record { vertices = vs; polygons = ps; neighbours = ls; regions = rs; codes = cs; flags = []; work = [] }

-- the mesh of n polygons and k vertices in the buffers of vertices and of polygons; area has no need of the others
unfoldable pub stored_in : ℕ → ℕ → ℕ → List ℕ → List ℕ → Stored
stored_in nvp n k vs ps = decoded nvp n k (lent_of vs ps [] [] [])

-- the k vertices in a buffer of vertices
unfoldable pub stored_vertices : List ℕ → ℕ → List Vertex
stored_vertices vs k = tab (λ i. vertex_of (view vs (i * vertex_stride) vertex_stride)) k

-- vertex k of a buffer of vertices, by its words
unfoldable pub vertex_in : List ℕ → ℕ → Vertex
vertex_in vs k = record { x = get_or vs (k * vertex_stride) 0; y = get_or vs (k * vertex_stride + 1) 0; z = get_or vs (k * vertex_stride + 2) 0 }

-- the place of vertex c in a buffer of vertices, and the places of these corners
unfoldable pub place_in : List ℕ → ℕ → Point
place_in vs c = record { x = get_or vs (c * vertex_stride) 0; z = get_or vs (c * vertex_stride + 2) 0 }

unfoldable pub places_of : List ℕ → List ℕ → List Point
places_of vs cs = map (place_in vs) cs

-- the words of a place
unfoldable pub place_words : Point → List ℕ
place_words p = p.x ∷ p.z ∷ []

-- each corner is a vertex of the buffer, and there is room for two words of each
pub record PlacesReady (vs cs pts : List ℕ) : Type 0 where
  pub room : length cs * 2 ≤ length pts
  pub inside : (i : ℕ) → i < length cs → get_or cs i 0 * vertex_stride + 2 < length vs

-- at most 12 corners, each a vertex of the buffer, and all on the grid
pub record PolygonReady (vs cs : List ℕ) : Type 0 where
  pub few : length cs ≤ 12
  pub inside : (i : ℕ) → i < length cs → get_or cs i 0 * vertex_stride + 2 < length vs
  pub grid : (i : ℕ) → i < length cs → (get_or vs (get_or cs i 0 * vertex_stride) 0 ≤ 32767) × (get_or vs (get_or cs i 0 * vertex_stride + 2) 0 ≤ 32767)

-- n polygons of nvp words, whose corners are vertices below k, all on the grid
pub record MeshReady (nvp n k : ℕ) (vs ps : List ℕ) : Type 0 where
  pub most : nvp ≤ 12
  pub few : n ≤ 65535
  pub polygons : n * nvp ≤ length ps
  pub vertices : k * vertex_stride ≤ length vs
  pub corners : (i c : ℕ) → i < n → c < length (up_to_none (view ps (i * nvp) nvp)) → get_or (up_to_none (view ps (i * nvp) nvp)) c 0 < k
  pub x : (v : ℕ) → v < k → get_or vs (v * vertex_stride) 0 ≤ 32767
  pub z : (v : ℕ) → v < k → get_or vs (v * vertex_stride + 2) 0 ≤ 32767
