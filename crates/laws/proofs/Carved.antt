-- A mesh that is built, handed on as it lies in the lent buffers, becomes the mesh's own file: what `rules` states in its file `StlText`. Assumes nothing.
-- Key: `built_is_carved`.
use Rattle.std.specs.Prelude.{ℕ, ◌+◌, ◌-◌, ◌≡◌, List, [], ◌++◌, map, Float, length, Ok}
use Rattle.std.proofs.Math.Path.{ap}
use Rattle.std.proofs.Common.{◌∙◌}
use Rattle.std.proofs.lemmas.List.{length-map}
use Rattle.mem.specs.Loops.{over_cong}
use Rattle.rules.specs.declared.Vertex.{Vertex}
use Rattle.rules.specs.Mesh.{Mesh, Polygon, polygon_at}
use Rattle.rules.specs.Removal.{Removal}
use Rattle.rules.specs.Job.{Job}
use Rattle.rules.specs.Checks.{Lent}
use Rattle.rules.specs.Build.{built, outcome}
use Rattle.rules.specs.Exits.{exits}
use Rattle.rules.specs.Handed.{Handed, soundness}
use Rattle.rules.specs.Checker.{handed_on}
use Rattle.rules.specs.Stl.{Scale, size_of, height_of, fan_of, facets_of, facet_count, file_of}
use Rattle.rules.specs.StlCall.{mesh_facets, mesh_count, mesh_file}
use Rattle.rules.specs.StlText.{carved, BuiltIsCarved}
use Rattle.laws.proofs.Handed.{sound_exactly}
use Rattle.laws.proofs.Exits.{exits_built}
use Rattle.laws.specs.Written.{bare, Meets}
use Rattle.laws.proofs.Written.{bare_corners, written, claimed, polygons_are, vertices_are, meets_acceptable}
use Rattle.laws.proofs.Own.{meets, handed_is}

-- ---- facets go by the corners alone

pub facets_bare : (size height : Float) (vs : List Vertex) (ps : List Polygon) → facets_of size height vs (map bare ps) ≡ facets_of size height vs ps
unfolding facets_of
facets_bare size height vs ps =
    rw (length-map ps bare)
    (over_cong [] ◌++◌ (λ i. fan_of size height vs (polygon_at (map bare ps) i).corners) (λ i. fan_of size height vs (polygon_at ps i).corners) 0 (length ps)
    (λ i a h. ap (fan_of size height vs) (bare_corners ps i)))

pub count_bare : (ps : List Polygon) → facet_count (map bare ps) ≡ facet_count ps
unfolding facet_count
count_bare ps =
    rw (length-map ps bare)
    (over_cong 0 ◌+◌ (λ i. length (polygon_at (map bare ps) i).corners - 2) (λ i. length (polygon_at ps i).corners - 2) 0 (length ps)
    (λ i a h. ap (λ (cs : List ℕ). length cs - 2) (bare_corners ps i)))

-- ---- a mesh that is written one thing after the other

module _ (nvp w h border : ℕ) (vs : List Vertex) (ps : List Polygon) (ls : List (List ℕ)) (x : Meets nvp w h border vs ps ls) where
  written_sound : soundness (written nvp w h border vs ps ls x) ≡ (Ok tt)
  unfolding claimed
  written_sound = (sound_exactly (written nvp w h border vs ps ls x)).1 (meets_acceptable nvp w h border vs ps ls x).consistent

  written_count : mesh_count (written nvp w h border vs ps ls x) ≡ facet_count ps
  unfolding mesh_count
  written_count = ap facet_count (polygons_are nvp w h border vs ps ls x) ∙ count_bare ps

  written_file : (s : Scale) → mesh_file (written nvp w h border vs ps ls x) s ≡ file_of (facets_of (size_of s) (height_of s) vs ps)
  unfolding mesh_file mesh_facets
  written_file s =
      rw (polygons_are nvp w h border vs ps ls x, vertices_are nvp w h border vs ps ls x) (ap file_of (facets_bare (size_of s) (height_of s) vs ps))

-- ---- a mesh that is built

module _ (j : Job) (b : Lent) (m : Mesh) (ls : List (List ℕ)) (log : List Removal) (e : outcome j b ≡ built m ls log) where
  abbrev own : Handed
  own = written j.nvp j.w j.h j.border m.vertices m.polygons ls (meets j b m ls log e)

  handed_own : handed_on j.nvp (exits j b) (length m.polygons) (length m.vertices) ≡ own
  handed_own = rw (exits_built j b m ls log e) (handed_is j b m ls log e)

pub built_is_carved : BuiltIsCarved
unfolding carved
built_is_carved j b m ls log s e =
    let x = meets j b m ls log e in
    rw (handed_own j b m ls log e) (
      written_sound j.nvp j.w j.h j.border m.vertices m.polygons ls x,
      written_count j.nvp j.w j.h j.border m.vertices m.polygons ls x,
      written_file j.nvp j.w j.h j.border m.vertices m.polygons ls x s,
    )
