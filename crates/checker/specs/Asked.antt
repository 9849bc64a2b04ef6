-- What the checker is asked, of the numbers that are handed in. Definitions only.
use Rattle.std.specs.Prelude.{List, [], ℕ, ℤ, pos}
use Rattle.rules.specs.Handed.{Handed}
use Rattle.rules.specs.Checker.{Claim}
use Rattle.checker.specs.declared.mesh.Mesh.{Mesh}
use Rattle.rules.specs.declared.Grid.{Grid}

-- the mesh of these numbers
abbrev pub handed_in : ℕ → List ℕ → List ℕ → List ℕ → Handed
handed_in nvp vs ps ls = record { nvp = nvp; vertices = vs; polygons = ps; links = ls }

-- its polygons and links alone: 42 has no need of a vertex
abbrev pub links_in : ℕ → List ℕ → List ℕ → Handed
links_in nvp ps ls = handed_in nvp [] ps ls

-- the mesh, its grid, and what is claimed of its area
abbrev pub claim_in : ℕ → ℕ → ℕ → ℕ → ℤ → List ℕ → List ℕ → List ℕ → Claim
claim_in nvp w h border total vs ps ls = record { mesh = handed_in nvp vs ps ls; w = w; h = h; border = border; total = total }

-- the mesh and its grid with nothing claimed: 43 has no need of it
abbrev pub unclaimed_in : ℕ → ℕ → ℕ → ℕ → List ℕ → List ℕ → List ℕ → Claim
unclaimed_in nvp w h border vs ps ls = claim_in nvp w h border (pos 0) vs ps ls

-- the same of a mesh and a grid as the steps hand them on
abbrev pub handed : Mesh → Handed
handed m = handed_in m.nvp m.vertices.now m.polygons.now m.links.now

abbrev pub linked : Mesh → Handed
linked m = links_in m.nvp m.polygons.now m.links.now

abbrev pub claimed : Mesh → Grid → ℤ → Claim
claimed m g total = claim_in m.nvp g.w g.h g.border total m.vertices.now m.polygons.now m.links.now

abbrev pub unclaimed : Mesh → Grid → Claim
unclaimed m g = unclaimed_in m.nvp g.w g.h g.border m.vertices.now m.polygons.now m.links.now
