-- What is printed for a reply of the build, and for a job; and what that asks for. Definitions only.
use Rattle.std.specs.Prelude.{List, ◌++◌, ℕ, ◌≤◌, length, Ok, Err}
use Prim.{Unit}
use Rattle.rules.specs.Job.{sum_over}
use Rattle.rules.specs.Replies.{Reply, refusal_number, refusal_second}
use Rattle.rules.specs.Exits.{decoded}
use Rattle.rules.specs.Sheet.{declared_most, outcome_of, refused_text, mesh_text, built_text}
use Rattle.lines.specs.Print.{Room}
use Rattle.stored.specs.Stored.{lent_of}
use Rattle.sheet.specs.declared.heading.Heading.{Heading}
use Rattle.sheet.specs.Rows.{top_text}
use Rattle.sheet.specs.Printable.{MeshStands}
use Rattle.sheet.specs.Reading.{sheet_of, with_lists}
use Rattle.sheet.specs.Room.{out_most}

-- ---- a reply, with the buffers that hold the mesh

unfoldable pub reply_text : Heading → Reply → List ℕ → List ℕ → List ℕ → List ℕ → List ℕ → List ℕ
reply_text x (Err r) vs ps ls rs cs = refused_text (refusal_number r) (refusal_second r)
reply_text x (Ok b) vs ps ls rs cs = top_text x.inches x.size x.height ++ mesh_text (decoded x.nvp b.polygons b.vertices (lent_of vs ps ls rs cs))

-- with reply 0 the mesh stands in the buffers
unfoldable pub StandsFor : Heading → Reply → List ℕ → List ℕ → List ℕ → List ℕ → List ℕ → Type 0
StandsFor x (Err r) vs ps ls rs cs = Unit {0}
StandsFor x (Ok b) vs ps ls rs cs = MeshStands x.nvp b.polygons b.vertices vs ps ls rs cs

pub record ReplyReady (x : Heading) (reply : Reply) (vs ps ls rs cs out : List ℕ) : Type 0 where
  pub stands : StandsFor x reply vs ps ls rs cs
  pub room : Room out (reply_text x reply vs ps ls rs cs) 0

-- ---- a job

-- at most 96 vertices are declared, and there is room for the text
pub record JobReady (ls out : List ℕ) : Type 0 where
  pub few : sum_over (λ n. n) ls ≤ declared_most
  pub room : out_most ≤ length out

-- what is printed for a heading and the contours behind it
unfoldable pub job_text : Heading → List ℕ → List ℕ → List ℕ → List ℕ → List ℕ
job_text x ls rs cs ns = let s = with_lists (sheet_of x) ls rs cs ns in built_text s (outcome_of s.job)
