-- What the copying of the mesh asks for: it stands in the work buffer w, there is room for it in the lent buffers, and its numbers fit their words. And what
-- it leaves. Definitions only.
use Rattle.std.specs.Prelude.{◌≡◌, List, map, ℕ, ◌+◌, ◌*◌, ◌^◌, ◌≤◌, ◌<◌, length, get_or, replicate}
use Rattle.mem.specs.Slice.{splice}
use Rattle.mem.specs.Packed.{packed}
use Rattle.rules.specs.Weld.{no_vertex}
use Rattle.rules.specs.Mesh.{Polygon, polygon_at}
use Rattle.rules.specs.Links.{none}
use Rattle.rules.specs.Checks.{Lent, vertex_stride}
use Rattle.rules.specs.Exits.{vertex_words, padded, corner_words}
use Rattle.laws.specs.Lists.{All}
use Rattle.records.specs.Layout.{vertex_size, vertices_at, polygon_size, most_corners, polygons_at, link_size}
use Rattle.records.specs.declared.polygon.Poly.{Poly}
use Rattle.records.specs.Values.{to_poly, polygon_of}
use Rattle.links.specs.Ready.{link_records, links_at}
use Rattle.outputs.specs.declared.store.Places.{Places}

-- a polygon of at most nvp corners
abbrev pub UpTo : ℕ → Polygon → Type 0
UpTo nvp p = length p.corners ≤ nvp

-- nv vertices of 16-bit numbers stand at vo
pub record VerticesReady (w : List ℕ) (vo nv : ℕ) (out : List ℕ) : Type 0 where
  pub stand : vo + nv * vertex_size ≤ length w
  pub room : nv * vertex_stride ≤ length out
  pub x : (k : ℕ) → (get_or (vertices_at w vo nv) k no_vertex).x < 2 ^ 16
  pub y : (k : ℕ) → (get_or (vertices_at w vo nv) k no_vertex).y < 2 ^ 16
  pub z : (k : ℕ) → (get_or (vertices_at w vo nv) k no_vertex).z < 2 ^ 16

-- a row of n words for p, whose places without a corner are 65,535, goes to `to`
pub record RowReady (out : List ℕ) (to : ℕ) (p : Poly) (n : ℕ) : Type 0 where
  pub room : to + n ≤ length out
  pub short : p.n ≤ n
  pub most : n ≤ most_corners
  pub tidy : p ≡ to_poly (polygon_of p)
  pub narrow : (k : ℕ) → get_or p.corners k 0 < 2 ^ 16

-- np polygons stand at o, each of at most nvp corners, and each corner is below 65,535
pub record CornersReady (w : List ℕ) (o np nvp : ℕ) (out : List ℕ) : Type 0 where
  pub stand : o + np * polygon_size ≤ length w
  pub room : np * nvp ≤ length out
  pub most : nvp ≤ most_corners
  pub short : All (UpTo nvp) (polygons_at w o np)
  pub corners : (i k : ℕ) → get_or (polygon_at (polygons_at w o np) i).corners k 0 < none

-- their links stand at lo, with 65,535 behind the last of each
pub record LinksReady (w : List ℕ) (o np lo nvp : ℕ) (out : List ℕ) : Type 0 where
  pub stand : lo + np * link_size ≤ length w
  pub room : np * nvp ≤ length out
  pub most : nvp ≤ most_corners
  pub short : All (UpTo nvp) (polygons_at w o np)
  pub is : w ≡ splice w lo (link_records (links_at w lo (polygons_at w o np)))

-- np polygons stand at o, each with a region of 16 bits
pub record RegionsReady (w : List ℕ) (o np : ℕ) (out : List ℕ) : Type 0 where
  pub stand : o + np * polygon_size ≤ length w
  pub room : np ≤ length out
  pub regions : (i : ℕ) → (polygon_at (polygons_at w o np) i).region < 2 ^ 16

-- np polygons stand at o, each with an area code of 8 bits
pub record CodesReady (w : List ℕ) (o np : ℕ) (out : List ℕ) : Type 0 where
  pub stand : o + np * polygon_size ≤ length w
  pub room : np ≤ length out
  pub codes : (i : ℕ) → (polygon_at (polygons_at w o np) i).code < 2 ^ 8

-- the lent buffers, in their order
abbrev pub buffers : List ℕ → List ℕ → List ℕ → List ℕ → List ℕ → List ℕ → List ℕ → Lent
buffers vertices polygons neighbours regions codes flags work = record {
  vertices = vertices;
  polygons = polygons;
  neighbours = neighbours;
  regions = regions;
  codes = codes;
  flags = flags;
  work = work;
}

-- all of it: the mesh stands in b's work buffer, and there is room in the others
pub record StoreReady (at : Places) (nvp : ℕ) (b : Lent) : Type 0 where
  pub vertices : VerticesReady b.work at.vertices.at at.vertices.n b.vertices
  pub polygons : CornersReady b.work at.polygons.at at.polygons.n nvp b.polygons
  pub neighbours : LinksReady b.work at.polygons.at at.polygons.n at.links nvp b.neighbours
  pub regions : RegionsReady b.work at.polygons.at at.polygons.n b.regions
  pub codes : CodesReady b.work at.polygons.at at.polygons.n b.codes
  pub flags : at.polygons.n ≤ length b.flags

-- the mesh that stands in b's work buffer went into the six others, which became those of u: what the rules' `filled` says of them
pub record StoredTo (at : Places) (nvp : ℕ) (b u : Lent) : Type 0 where
  pub vertices : u.vertices ≡ splice b.vertices 0 (packed vertex_words (vertices_at b.work at.vertices.at at.vertices.n))
  pub polygons : u.polygons ≡ splice b.polygons 0 (packed (corner_words nvp) (polygons_at b.work at.polygons.at at.polygons.n))
  pub neighbours : u.neighbours ≡ splice b.neighbours 0 (packed (padded nvp) (links_at b.work at.links (polygons_at b.work at.polygons.at at.polygons.n)))
  pub regions : u.regions ≡ splice b.regions 0 (map (λ p. p.region) (polygons_at b.work at.polygons.at at.polygons.n))
  pub codes : u.codes ≡ splice b.codes 0 (map (λ p. p.code) (polygons_at b.work at.polygons.at at.polygons.n))
  pub flags : u.flags ≡ splice b.flags 0 (replicate at.polygons.n 0)
