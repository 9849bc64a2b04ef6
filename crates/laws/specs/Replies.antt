-- What a reply says of what the build came to. Definitions only.
use Rattle.std.specs.Prelude.{◌≡◌, List, ℕ, length}
use Rattle.rules.specs.Mesh.{Mesh}
use Rattle.rules.specs.Removal.{Removal}
use Rattle.rules.specs.Build.{Outcome, built}

-- the mesh of an outcome whose reply counts n polygons and k vertices
pub record WasBuilt (o : Outcome) (n k : ℕ) : Type 0 where
  pub mesh : Mesh
  pub links : List (List ℕ)
  pub log : List Removal
  pub is : o ≡ built mesh links log
  pub polygons : n ≡ length mesh.polygons
  pub vertices : k ≡ length mesh.vertices
