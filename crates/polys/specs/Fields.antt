-- What stands in the places of a `Field`, and what the functions of the merge ask of them. Definitions only.
use Rattle.std.specs.Prelude.{List, ℕ}
use Rattle.rules.specs.Mesh.{Polygon}
use Rattle.rules.specs.declared.Vertex.{Vertex}
use Rattle.records.specs.Layout.{vertices_at, polygons_at}
use Rattle.polys.specs.declared.field.Field.{Field}
use Rattle.polys.specs.Ready.{Ready}

abbrev pub vertices_in : List ℕ → Field → List Vertex
vertices_in w f = vertices_at w f.vertices.at f.vertices.n

abbrev pub polygons_in : List ℕ → Field → List Polygon
polygons_in w f = polygons_at w f.polygons.at f.polygons.n

-- the same places, with the first n polygons
abbrev pub first : Field → ℕ → Field
first f n = record { vertices = f.vertices; polygons = record { at = f.polygons.at; n = n }; nvp = f.nvp; rows = f.rows }

abbrev pub ReadyIn : List ℕ → Field → Type 0
ReadyIn w f = Ready w f.vertices.at f.vertices.n f.polygons.at f.polygons.n f.nvp
