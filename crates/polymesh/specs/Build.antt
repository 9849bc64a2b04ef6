-- A job that has passed the checks is built: what that asks for, and what it leaves. Definitions only.
use Rattle.std.specs.Prelude.{◌≡◌, List, ℕ, ◌*◌, ◌≤◌, length}
use Rattle.rules.specs.Mesh.{Mesh}
use Rattle.rules.specs.Removal.{Removal}
use Rattle.rules.specs.Job.{Job}
use Rattle.rules.specs.Checks.{Lent, vertex_stride}
use Rattle.rules.specs.Build.{built, reply_of}
use Rattle.rules.specs.Exits.{wiped, exit_of}
use Rattle.rules.specs.Widths.{Fits}
use Rattle.rules.specs.Replies.{Reply}
use Rattle.outputs.specs.Ready.{buffers}
use Rattle.polymesh.specs.Gather.{Admitted, comes_to}

-- there is room for v vertices and t polygons in the six buffers
pub record Room (v t nvp : ℕ) (b : Lent) : Type 0 where
  pub vertices : v * vertex_stride ≤ length b.vertices
  pub polygons : t * nvp ≤ length b.polygons
  pub neighbours : t * nvp ≤ length b.neighbours
  pub regions : t ≤ length b.regions
  pub codes : t ≤ length b.codes
  pub flags : t ≤ length b.flags

-- the job j passed the checks, its numbers fit their words, and b's work buffer has just n words: those that are lent for a build of it, or those that it uses
pub record BuildReady (n v t : ℕ) (j : Job) (b : Lent) : Type 0 where
  pub size : length b.work ≡ n
  pub job : Admitted v t j
  pub room : Room v t j.nvp b
  pub fits : (m : Mesh) (links : List (List ℕ)) (log : List Removal) → comes_to j ≡ built m links log → Fits m links

-- the buffers b, of which another work buffer is lent
abbrev pub lending : Lent → List ℕ → Lent
lending b x = buffers b.vertices b.polygons b.neighbours b.regions b.codes b.flags x

-- r is the build's reply, and the six other buffers of b became those of u, what the rules say that they hold at the end; the work buffer is to be wiped
pub record MadeTo (j : Job) (b u : Lent) (r : Reply) : Type 0 where
  pub answer : r ≡ reply_of (comes_to j)
  pub exit : (w : List ℕ) → lending u (wiped j w) ≡ exit_of j (lending b w) (comes_to j)

-- r is the build's reply, and the buffers b became u, what the rules say that they hold at the end
pub record BuiltTo (j : Job) (b u : Lent) (r : Reply) : Type 0 where
  pub answer : r ≡ reply_of (comes_to j)
  pub exit : u ≡ exit_of j b (comes_to j)
