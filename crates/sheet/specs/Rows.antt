-- The lines of a mesh as they are printed, by numbers and by words of the lent buffers. Assumes nothing.
use Rattle.std.specs.Prelude.{Bool, List, [], ◌∷◌, ◌++◌, ℕ, ◌*◌, ◌≤◌, ℤ, ◌≡◌, refl, length}
use Rattle.mem.specs.Packed.{packed}
use Rattle.mem.specs.Tab.{tab}
use Rattle.rules.specs.Lines.{lf, cell, signed_cell, number_line}
use Rattle.rules.specs.Checks.{vertex_stride}
use Rattle.rules.specs.Exits.{stored_polygon, stored_links}
use Rattle.rules.specs.Sheet.{mesh_name, unit_line, cell_name, polygon_lines, vertices_text, polygons_text}
use Rattle.lines.specs.Print.{Room}
use Rattle.stored.specs.Stored.{lent_of, stored_vertices}

-- the line of a name and of values, each of which says a number
abbrev pub line_of_values : {B : Type 0} → (B → ℕ) → List ℕ → List B → List ℕ
line_of_values says name bs = name ++ (packed (λ b. cell (says b)) bs ++ (lf ∷ []))

-- it is that of their numbers
pub line_of_numbers : (name ns : List ℕ) → line_of_values (λ n. n) name ns ≡ number_line name ns
unfolding number_line
line_of_numbers name ns = refl

-- the two lines above a mesh: the unit and the cell, as they were read
unfoldable pub top_text : Bool → ℕ → ℕ → List ℕ
top_text inches size height = unit_line inches ++ number_line cell_name (size ∷ height ∷ [])

-- the line of k vertices, n polygons and a doubled area
unfoldable pub mesh_line_of : ℕ → ℕ → ℤ → List ℕ
mesh_line_of k n area = mesh_name ++ (cell k ++ (cell n ++ (signed_cell area ++ (lf ∷ []))))

-- the two lines of a polygon
unfoldable pub polygon_text : ℕ → ℕ → List ℕ → List ℕ → List ℕ
polygon_text region code corners links = polygon_lines (record { corners = corners; region = region; code = code }) links

-- the lines of the k vertices in a buffer
unfoldable pub vertex_rows : List ℕ → ℕ → List ℕ
vertex_rows vs k = vertices_text (stored_vertices vs k)

-- the lines of the n polygons in these buffers, of nvp words each
unfoldable pub polygon_rows : ℕ → ℕ → List ℕ → List ℕ → List ℕ → List ℕ → List ℕ
polygon_rows nvp n ps ls rs cs = let b = lent_of [] ps ls rs cs in polygons_text (tab (stored_polygon nvp b) n) (tab (stored_links nvp b) n)

-- k vertices stand in the buffer, and there is room for their lines
pub record VerticesReady (out : List ℕ) (at k : ℕ) (vs : List ℕ) : Type 0 where
  pub there : k * vertex_stride ≤ length vs
  pub room : Room out (vertex_rows vs k) at

-- n polygons of nvp words stand in the buffers, and there is room for their lines
pub record PolygonsReady (out : List ℕ) (at nvp n : ℕ) (ps ls rs cs : List ℕ) : Type 0 where
  pub polygons : n * nvp ≤ length ps
  pub links : n * nvp ≤ length ls
  pub regions : n ≤ length rs
  pub codes : n ≤ length cs
  pub room : Room out (polygon_rows nvp n ps ls rs cs) at
