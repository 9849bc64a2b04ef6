-- What is written for a stored mesh, for a reply of the build and for a job; and what that asks for. Definitions only.
use Rattle.std.specs.Prelude.{◌≡◌, List, ℕ, ◌*◌, ◌≤◌, length, take, Result, Ok, Err}
use Prim.{Unit}
use Rattle.rules.specs.Checks.{vertex_stride}
use Rattle.rules.specs.Replies.{Reply, refusal_number, refusal_second}
use Rattle.rules.specs.Job.{sum_over}
use Rattle.rules.specs.Sheet.{declared_most, outcome_of, refused_text}
use Rattle.rules.specs.StlCall.{mesh_file, stl_reply, stl_refusal_number, stl_refusal_second}
use Rattle.rules.specs.StlText.{scale_of, carved_text}
use Rattle.rules.specs.declared.StlRefusal.{StlRefusal}
use Rattle.checker.specs.Asked.{handed_in}
use Rattle.sheet.specs.declared.heading.Heading.{Heading}
use Rattle.sheet.specs.Reading.{sheet_of, with_lists}
use Rattle.sheet.specs.Room.{out_most}

-- the file, or the refusal's line
unfoldable pub written_text : List ℕ → Result ℕ StlRefusal → List ℕ
written_text file (Ok n) = file
written_text file (Err r) = refused_text (stl_refusal_number r) (stl_refusal_second r)

-- for the mesh of n polygons and k vertices in some buffers, with this many bytes lent
unfoldable pub carved_in : Heading → ℕ → ℕ → List ℕ → List ℕ → List ℕ → ℕ → List ℕ
carved_in x n k vs ps ls room =
    let m = handed_in x.nvp (take (k * vertex_stride) vs) (take (n * x.nvp) ps) (take (n * x.nvp) ls) in
    let s = scale_of x.inches x.size x.height in
    written_text (mesh_file m s) (stl_reply m s room)

pub record CarveReady (x : Heading) (n k : ℕ) (vs ps ls out : List ℕ) : Type 0 where
  pub vertices : k * vertex_stride ≤ length vs
  pub polygons : n * x.nvp ≤ length ps
  pub links : n * x.nvp ≤ length ls
  pub room : length out ≡ out_most

-- for a reply of the build
unfoldable pub reply_file : Heading → Reply → List ℕ → List ℕ → List ℕ → List ℕ
reply_file x (Err r) vs ps ls = refused_text (refusal_number r) (refusal_second r)
reply_file x (Ok b) vs ps ls = carved_in x b.polygons b.vertices vs ps ls out_most

unfoldable pub StandsFor : Heading → Reply → List ℕ → List ℕ → List ℕ → List ℕ → Type 0
StandsFor x (Err r) vs ps ls out = Unit {0}
StandsFor x (Ok b) vs ps ls out = CarveReady x b.polygons b.vertices vs ps ls out

pub record ReplyReady (x : Heading) (reply : Reply) (vs ps ls out : List ℕ) : Type 0 where
  pub stands : StandsFor x reply vs ps ls out
  pub room : length out ≡ out_most

-- at most 96 vertices are declared, and the output has its length
pub record CarveJobReady (ls out : List ℕ) : Type 0 where
  pub few : sum_over (λ n. n) ls ≤ declared_most
  pub room : length out ≡ out_most

-- for a heading and the contours behind it
unfoldable pub job_file : Heading → List ℕ → List ℕ → List ℕ → List ℕ → List ℕ
job_file x ls rs cs ns = let s = with_lists (sheet_of x) ls rs cs ns in carved_text s (outcome_of s.job)
