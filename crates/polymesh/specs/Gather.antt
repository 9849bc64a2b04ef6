-- R2 to R5 in the work buffer: what the contours and the removals leave. Definitions only.
use Rattle.std.specs.Prelude.{◌≡◌, List, ℕ, length}
use Rattle.rules.specs.Mesh.{Mesh}
use Rattle.rules.specs.Removal.{Removal}
use Rattle.rules.specs.Job.{Job, count_v, count_t}
use Rattle.rules.specs.Build.{Outcome, built, cleared, add_all, reply_of}
use Rattle.rules.specs.Replies.{Reply}
use Rattle.laws.specs.Checks.{Passed}
use Rattle.removals.specs.Site.{mesh_at, Stands}
use Rattle.removals.specs.Removing.{counts_of}
use Rattle.polymesh.specs.Layout.{used_of, site_of}

-- a job that passed the checks, with V and T
pub record Admitted (v t : ℕ) (j : Job) : Type 0 where
  pub ls : List ℕ
  pub passed : Passed j ls
  pub vertices : v ≡ count_v j
  pub triangles : t ≡ count_t j

-- and as many words as a build of it uses
pub record Ready (u : List ℕ) (v t : ℕ) (j : Job) : Type 0 where
  pub size : length u ≡ used_of v t
  pub job : Admitted v t j

-- the mesh m stands there, and nothing else
pub record Meshed (u : List ℕ) (v t nvp : ℕ) (m : Mesh) : Type 0 where
  pub stands : Stands u (site_of v t) (counts_of m) nvp
  pub read : mesh_at u (site_of v t) (counts_of m) ≡ m

-- what a build of the job comes to once the checks are passed
abbrev pub comes_to : Job → Outcome
comes_to j = cleared j (add_all j)

-- contours and removals are done: r is the build's reply, and if there is a mesh, it stands there
pub record MeshedTo (u : List ℕ) (v t : ℕ) (j : Job) (r : Reply) : Type 0 where
  pub answer : r ≡ reply_of (comes_to j)
  pub size : length u ≡ used_of v t
  pub mesh : (m : Mesh) (links : List (List ℕ)) (log : List Removal) → comes_to j ≡ built m links log → Meshed u v t j.nvp m
