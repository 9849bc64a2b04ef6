-- What one contour adds to a mesh, and what all from one on do. Definitions only.
use Rattle.std.specs.Prelude.{ℕ, ◌+◌, ◌≤◌, ◌≡◌, length, drop, ℤ, ◌+ℤ◌}
use Rattle.mem.specs.Loops.{over}
use Rattle.rules.specs.Mesh.{Mesh}
use Rattle.rules.specs.Job.{Job}
use Rattle.rules.specs.Areas.{mesh_area, contour_areas}
use Rattle.laws.specs.Measures.{spares_in}
use Rattle.laws.specs.Checks.{points_in, triangles_in}
use Rattle.laws.specs.Removal.{Sound}

-- from the mesh m to the mesh t, which has the area z more, k spare corners more, and at most v vertices more
pub record Grown (nvp : ℕ) (z : ℤ) (k v : ℕ) (m t : Mesh) : Type 0 where
  pub areas : mesh_area t ≡ mesh_area m +ℤ z
  pub spares : spares_in t.polygons ≡ spares_in m.polygons + k
  pub vertices : length t.vertices ≤ length m.vertices + v
  pub sound : Sound nvp t

-- the sum over the contours from c on
abbrev pub left : (ℕ → ℕ) → Job → ℕ → ℕ
left f j c = over 0 ◌+◌ f c (length j.lengths)

-- the contours from c on, the first of which begins at the vertex `first`, take the mesh m to the mesh t
abbrev pub Grows : Job → ℕ → ℕ → Mesh → Mesh → Type 0
Grows j c first m t = Grown j.nvp (contour_areas j.numbers first (drop c j.lengths)) (left (triangles_in j.lengths) j c) (left (points_in j.lengths) j c) m t
