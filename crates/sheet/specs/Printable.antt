-- A stored mesh that is ready to be printed, and its text, part by part. Assumes nothing.
-- Key: `mesh_parts`: the text is the mesh line, the vertices' lines and the polygons'.
use Rattle.std.specs.Prelude.{◌≡◌, List, ◌++◌, ℕ, ◌*◌, ◌≤◌, length}
use Rattle.std.proofs.Math.Path.{refl}
use Rattle.mem.specs.Slice.{view}
use Rattle.mem.specs.Tab.{length_tab}
use Rattle.rules.specs.Checks.{vertex_stride}
use Rattle.rules.specs.Exits.{vertex_of, stored_polygon, stored_links, decoded}
use Rattle.rules.specs.Areas.{stored_area}
use Rattle.rules.specs.Sheet.{mesh_line, vertices_text, polygons_text, mesh_text}
use Rattle.lines.specs.Print.{Room}
use Rattle.stored.specs.Stored.{lent_of, stored_in, stored_vertices, MeshReady}
use Rattle.stored.specs.Areas.{area_stored}
use Rattle.sheet.specs.Rows.{mesh_line_of, vertex_rows, polygon_rows}

-- the mesh can be measured, and its links, regions and codes are there
pub record MeshStands (nvp n k : ℕ) (vs ps ls rs cs : List ℕ) : Type 0 where
  pub ready : MeshReady nvp n k vs ps
  pub links : n * nvp ≤ length ls
  pub regions : n ≤ length rs
  pub codes : n ≤ length cs

-- it stands there, and there is room for its text
pub record Printable (out : List ℕ) (at nvp n k : ℕ) (vs ps ls rs cs : List ℕ) : Type 0 where
  pub stands : MeshStands nvp n k vs ps ls rs cs
  pub room : Room out (mesh_text (decoded nvp n k (lent_of vs ps ls rs cs))) at

module _ (nvp n k : ℕ) (vs ps ls rs cs : List ℕ) where
  vertices_counted : length (decoded nvp n k (lent_of vs ps ls rs cs)).vertices ≡ k
  unfolding decoded lent_of
  vertices_counted = length_tab (λ i. vertex_of (view vs (i * vertex_stride) vertex_stride)) k

  polygons_counted : length (decoded nvp n k (lent_of vs ps ls rs cs)).polygons ≡ n
  unfolding decoded
  polygons_counted = length_tab (stored_polygon nvp (lent_of vs ps ls rs cs)) n

  area_measured : stored_area (decoded nvp n k (lent_of vs ps ls rs cs)) ≡ stored_area (stored_in nvp n k vs ps)
  unfolding lent_of
  area_measured = area_stored nvp n k (lent_of vs ps ls rs cs)

  line_is : mesh_line (decoded nvp n k (lent_of vs ps ls rs cs)) ≡ mesh_line_of k n (stored_area (stored_in nvp n k vs ps))
  unfolding mesh_line mesh_line_of
  line_is = rw (vertices_counted, polygons_counted, area_measured) refl

  vertices_are : vertices_text (decoded nvp n k (lent_of vs ps ls rs cs)).vertices ≡ vertex_rows vs k
  unfolding decoded lent_of vertex_rows stored_vertices
  vertices_are = refl

  polygons_are : polygons_text (decoded nvp n k (lent_of vs ps ls rs cs)).polygons (decoded nvp n k (lent_of vs ps ls rs cs)).links ≡ polygon_rows nvp n ps ls rs cs
  unfolding decoded lent_of polygon_rows stored_polygon stored_links
  polygons_are = refl

  pub mesh_parts : mesh_text (decoded nvp n k (lent_of vs ps ls rs cs)) ≡ mesh_line_of k n (stored_area (stored_in nvp n k vs ps)) ++ (vertex_rows vs k ++ polygon_rows nvp n ps ls rs cs)
  unfolding mesh_text
  mesh_parts = rw (line_is, vertices_are, polygons_are) refl
