-- Demand 3, of the numbers in the lent buffers: for every call that replies 0, the polygons as they are stored, their corners up to the first 65,535, over the
-- stored vertices, have the contours' area, less what open removals took. It is a corollary of the contract of `into_polygon_mesh` alone: r and u are what that
-- contract says of the answer and of the buffers at exit. Assumes nothing.
-- Key: `ground_kept`.
use Rattle.std.specs.Prelude.{◌≡◌, refl, List, ℕ, length, ◌-ℤ◌, Ok}
use Rattle.std.proofs.Common.{sym, ap, ap₂, ◌∙◌}
use Rattle.rules.specs.Mesh.{Mesh}
use Rattle.rules.specs.Removal.{Removal}
use Rattle.rules.specs.Job.{Job}
use Rattle.rules.specs.Checks.{Lent}
use Rattle.rules.specs.Replies.{as_built}
use Rattle.rules.specs.Build.{built, outcome, answer}
use Rattle.rules.specs.Exits.{exits, decoded}
use Rattle.rules.specs.Areas.{sum_of, mesh_area, stored_area, job_area, area_taken}
use Rattle.rules.specs.declared.Header.{Header}
use Rattle.rules.specs.declared.Answer.{Answer}
use Rattle.laws.specs.Replies.{WasBuilt}
use Rattle.laws.proofs.Replies.{was_built}
use Rattle.laws.proofs.Laws.{area_law}
use Rattle.laws.proofs.Exits.{reads_back}

-- the mesh and the log of the removals that the job comes to, and the area of what stands in u, read as n polygons and k vertices
pub record GroundKept (j : Job) (b u : Lent) (n k : ℕ) : Type 0 where
  pub mesh : Mesh
  pub links : List (List ℕ)
  pub log : List Removal
  pub comes : outcome j b ≡ built mesh links log
  pub area : stored_area (decoded j.nvp n k u) ≡ job_area j -ℤ sum_of area_taken log

area_of : (m : Mesh) (ls : List (List ℕ)) → stored_area (record { vertices = m.vertices; polygons = m.polygons; links = ls }) ≡ mesh_area m
unfolding mesh_area stored_area
area_of m ls = refl

from_mesh : (j : Job) (b u : Lent) (n k : ℕ) → WasBuilt (outcome j b) n k → u ≡ exits j b → GroundKept j b u n k
from_mesh j b u n k a d =
    let m = a.mesh in
    record {
      mesh = m;
      links = a.links;
      log = a.log;
      comes = a.is;
      area = ap stored_area (ap₂ (λ (x y : ℕ). decoded j.nvp x y u) a.polygons a.vertices ∙ ap (decoded j.nvp (length m.polygons) (length m.vertices)) d
          ∙ reads_back j b m a.links a.log a.is) ∙ area_of m a.links ∙ area_law j b m a.links a.log a.is;
    }

pub ground_kept : (h : Header) (j : Job) (b : Lent) (r : Answer) (u : Lent) → r ≡ answer h j b → u ≡ exits j b
    → (n k : ℕ) → r.reply ≡ Ok (as_built n k) → GroundKept j b u n k
unfolding answer
ground_kept h j b r u e d n k q = from_mesh j b u n k (was_built (outcome j b) n k (sym q ∙ ap (λ (a : Answer). a.reply) e)) d
