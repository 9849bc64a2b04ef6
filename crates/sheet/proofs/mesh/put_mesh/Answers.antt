-- `sheet::mesh::put_mesh` meets its contract: the mesh line, with the area that was measured, the vertices and the polygons. Assumes nothing.
use mathlib.Core.List.{[], ◌∷◌}
use mir.Syntax.{w64}
use mir.Val.{to_z, of_z}
use Rattle.rules.specs.Exits.{decoded}
use Rattle.rules.specs.Sheet.{mesh_text}
use Rattle.lines.specs.Pieces.{Going, going_room, going_more, going_end}
use Rattle.lines.specs.Printing.{printed_same_length}
use Rattle.stored.specs.Stored.{lent_of}
use Rattle.sheet.specs.Rows.{mesh_line_of, vertex_rows, polygon_rows}
use Rattle.sheet.proofs.Meshes.{area_bits, mesh_going}
use Rattle.sheet.proofs.mesh.put_mesh.Goals as goal

pub put_mesh_line-a-requires : goal.put_mesh_line-a-requires
put_mesh_line-a-requires c =
    let begun : Going (mesh_text (decoded c.args.nvp c.args.n c.args.k (lent_of c.args.vertices.now c.args.polygons.now c.args.neighbours.now c.args.regions.now c.args.codes.now)))
    c.args.out.now c.args.at
    (mesh_line_of c.args.k c.args.n (to_z w64 (of_z w64 c.mesh_area-area.result)) ∷ (vertex_rows c.args.vertices.now c.args.k ∷ (polygon_rows c.args.nvp c.args.n c.args.polygons.now c.args.neighbours.now c.args.regions.now c.args.codes.now ∷ [])))
    c.args.out.now c.args.at = mesh_going c.requires (to_z w64 (of_z w64 c.mesh_area-area.result)) (area_bits (record { sfits = c.mesh_area-area.type_inv }) c.mesh_area-area.ensures) in
    going_room (begun)

pub put_vertices-b-requires : goal.put_vertices-b-requires
put_vertices-b-requires c =
    let begun : Going (mesh_text (decoded c.args.nvp c.args.n c.args.k (lent_of c.args.vertices.now c.args.polygons.now c.args.neighbours.now c.args.regions.now c.args.codes.now)))
    c.args.out.now c.args.at
    (mesh_line_of c.args.k c.args.n (to_z w64 (of_z w64 c.mesh_area-area.result)) ∷ (vertex_rows c.args.vertices.now c.args.k ∷ (polygon_rows c.args.nvp c.args.n c.args.polygons.now c.args.neighbours.now c.args.regions.now c.args.codes.now ∷ [])))
    c.args.out.now c.args.at = mesh_going c.requires (to_z w64 (of_z w64 c.mesh_area-area.result)) (area_bits (record { sfits = c.mesh_area-area.type_inv }) c.mesh_area-area.ensures) in
    record { there = c.requires.stands.ready.vertices; room = going_room (going_more (begun) c.put_mesh_line-a.ensures) }

pub put_polygons-requires : goal.put_polygons-requires
put_polygons-requires c =
    let begun : Going (mesh_text (decoded c.args.nvp c.args.n c.args.k (lent_of c.args.vertices.now c.args.polygons.now c.args.neighbours.now c.args.regions.now c.args.codes.now)))
    c.args.out.now c.args.at
    (mesh_line_of c.args.k c.args.n (to_z w64 (of_z w64 c.mesh_area-area.result)) ∷ (vertex_rows c.args.vertices.now c.args.k ∷ (polygon_rows c.args.nvp c.args.n c.args.polygons.now c.args.neighbours.now c.args.regions.now c.args.codes.now ∷ [])))
    c.args.out.now c.args.at = mesh_going c.requires (to_z w64 (of_z w64 c.mesh_area-area.result)) (area_bits (record { sfits = c.mesh_area-area.type_inv }) c.mesh_area-area.ensures) in
    record {
      polygons = c.requires.stands.ready.polygons;
      links = c.requires.stands.links;
      regions = c.requires.stands.regions;
      codes = c.requires.stands.codes;
      room = going_room (going_more (going_more (begun) c.put_mesh_line-a.ensures) c.put_vertices-b.ensures);
    }

pub returns : goal.returns
returns c =
    let begun : Going (mesh_text (decoded c.args.nvp c.args.n c.args.k (lent_of c.args.vertices.now c.args.polygons.now c.args.neighbours.now c.args.regions.now c.args.codes.now)))
    c.args.out.now c.args.at
    (mesh_line_of c.args.k c.args.n (to_z w64 (of_z w64 c.mesh_area-area.result)) ∷ (vertex_rows c.args.vertices.now c.args.k ∷ (polygon_rows c.args.nvp c.args.n c.args.polygons.now c.args.neighbours.now c.args.regions.now c.args.codes.now ∷ [])))
    c.args.out.now c.args.at = mesh_going c.requires (to_z w64 (of_z w64 c.mesh_area-area.result)) (area_bits (record { sfits = c.mesh_area-area.type_inv }) c.mesh_area-area.ensures) in
    going_end (going_more (going_more (going_more (begun) c.put_mesh_line-a.ensures) c.put_vertices-b.ensures) c.put_polygons.ensures)

pub shape_of-out : goal.shape_of-out
shape_of-out c = printed_same_length (returns c)
