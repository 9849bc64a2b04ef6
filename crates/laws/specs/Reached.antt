-- A mesh with one contour more. Definitions only.
use Prim.Native.Nat.{ℕ}
use mathlib.Core.List.{List}
use Rattle.std.proofs.Math.ListN.{get_or}
use Rattle.rules.specs.Mesh.{Mesh}
use Rattle.rules.specs.Job.{Job, contour_vertices, contour_flags}
use Rattle.rules.specs.Build.{weld_height, add_contour}

-- the mesh m with contour c of the job, which begins at the vertex `first`
abbrev pub with_contour : Job → ℕ → ℕ → List (List ℕ) → Mesh → Mesh
with_contour j c first ts m =
    add_contour weld_height j.nvp (get_or j.regions c 0) (get_or j.codes c 0) (contour_vertices j.numbers first (get_or j.lengths c 0))
    (contour_flags j.numbers first (get_or j.lengths c 0)) ts m
