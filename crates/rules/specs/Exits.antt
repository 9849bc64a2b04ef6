-- What the lent buffers hold at the end, for every reply; and the mesh read back from them. Definitions only.
use Rattle.std.specs.Prelude.{◌≡◌, cond, List, [], ◌∷◌, ◌++◌, map, ℕ, ◌-◌, ◌*◌, eqb, length, get_or, replicate}
use Rattle.mem.specs.Slice.{view, splice}
use Rattle.mem.specs.Tab.{tab}
use Rattle.mem.specs.Packed.{packed}
use Rattle.rules.specs.Mesh.{Polygon, Mesh}
use Rattle.rules.specs.Removal.{Removal}
use Rattle.rules.specs.Links.{none}
use Rattle.rules.specs.Job.{Job}
use Rattle.rules.specs.Checks.{Lent, vertex_stride, work_words}
use Rattle.rules.specs.Replies.{writes_nothing}
use Rattle.rules.specs.Build.{Outcome, refused, built, outcome}
use Rattle.rules.specs.declared.Vertex.{Vertex}

-- ---- what is written

-- "the work buffer's first 4,096 + 128·V words are zero, the others untouched"
unfoldable pub wiped : Job → List ℕ → List ℕ
wiped j work = splice work 0 (replicate (work_words j) 0)

-- "Replies 7 and 8 leave the first six unchanged."
unfoldable pub only_wiped : Job → Lent → Lent
only_wiped j b = record {
  vertices = b.vertices;
  polygons = b.polygons;
  neighbours = b.neighbours;
  regions = b.regions;
  codes = b.codes;
  flags = b.flags;
  work = wiped j b.work;
}

-- the words of a vertex
unfoldable pub vertex_words : Vertex → List ℕ
vertex_words v = v.x ∷ v.y ∷ v.z ∷ []

-- "Unused corners and their links are 65,535.": the n words of a polygon's corners, or of its links
unfoldable pub padded : ℕ → List ℕ → List ℕ
padded n cs = cs ++ replicate (n - length cs) none

unfoldable pub corner_words : ℕ → Polygon → List ℕ
corner_words nvp p = padded nvp p.corners

-- "After 0 the outputs hold the mesh (flags all 0), and what lies past it is unchanged." So unused corners and flags are written for stored polygons
-- alone. `packed f l`: the words f of each of l, one after the other; `splice b 0 ws`: the buffer b with ws written from its beginning on
unfoldable pub filled : Job → Lent → Mesh → List (List ℕ) → Lent
filled j b m ls = record {
  vertices = splice b.vertices 0 (packed vertex_words m.vertices);
  polygons = splice b.polygons 0 (packed (corner_words j.nvp) m.polygons);
  neighbours = splice b.neighbours 0 (packed (padded j.nvp) ls);
  regions = splice b.regions 0 (map (λ p. p.region) m.polygons);
  codes = splice b.codes 0 (map (λ p. p.code) m.polygons);
  flags = splice b.flags 0 (replicate (length m.polygons) 0);
  work = wiped j b.work;
}

-- "Replies 1 to 6 write nothing. Replies 7 and 8 leave the first six unchanged. After 0, 7 or 8 the work buffer's first 4,096 + 128·V words are zero"
unfoldable pub exit_of : Job → Lent → Outcome → Lent
exit_of j b (refused r) = cond (writes_nothing r) b (only_wiped j b)
exit_of j b (built m ls log) = filled j b m ls

-- what the buffers hold at the end, given what they held at the start
unfoldable pub exits : Job → Lent → Lent
exits j b = exit_of j b (outcome j b)

-- ---- what is read back

-- a mesh as it is stored: its vertices, its polygons, and the links of their sides
pub record Stored : Type 0 where
  pub vertices : List Vertex
  pub polygons : List Polygon
  pub links : List (List ℕ)

-- the vertex that some words are
unfoldable pub vertex_of : List ℕ → Vertex
vertex_of ws = record { x = get_or ws 0 0; y = get_or ws 1 0; z = get_or ws 2 0 }

-- the corners, up to the first 65,535
unfoldable pub up_to_none : List ℕ → List ℕ
up_to_none [] = []
up_to_none (c ∷ cs) = cond (eqb c none) [] (c ∷ up_to_none cs)

-- polygon i, of nvp words a polygon: its corners up to the first 65,535; and a link for each of its sides
unfoldable pub stored_polygon : ℕ → Lent → ℕ → Polygon
stored_polygon nvp b i = record { corners = up_to_none (view b.polygons (i * nvp) nvp); region = get_or b.regions i 0; code = get_or b.codes i 0 }

unfoldable pub stored_links : ℕ → Lent → ℕ → List ℕ
stored_links nvp b i = view b.neighbours (i * nvp) (length (stored_polygon nvp b i).corners)

-- the mesh of n polygons and k vertices that the buffers hold
unfoldable pub decoded : ℕ → ℕ → ℕ → Lent → Stored
decoded nvp n k b = record {
  vertices = tab (λ i. vertex_of (view b.vertices (i * vertex_stride) vertex_stride)) k;
  polygons = tab (stored_polygon nvp b) n;
  links = tab (stored_links nvp b) n;
}

-- proved in crate `laws`: what a build wrote reads back as its mesh
abbrev pub ReadsBack : Type 0
ReadsBack = (j : Job) (b : Lent) (m : Mesh) (ls : List (List ℕ)) (log : List Removal) → outcome j b ≡ built m ls log
    → decoded j.nvp (length m.polygons) (length m.vertices) (exits j b) ≡ record { vertices = m.vertices; polygons = m.polygons; links = ls }
