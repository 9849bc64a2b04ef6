-- A job, its vertices, and the counts V and T. Definitions only.
use Rattle.std.specs.Prelude.{cond, List, ℕ, ◌+◌, ◌-◌, ◌*◌, leb, length, get_or}
use Rattle.mem.specs.Loops.{over}
use Rattle.mem.specs.Tab.{tab}
use Rattle.rules.specs.declared.Vertex.{Vertex}

-- "A job has: nvp (most corners a polygon may have); grid width w, height h, border size (16 bits); contours, each with a length, a region (16 bits) and
-- an area code (8 bits); four 16-bit numbers a vertex: x, y, z, flag." The four lists are one for each: they are lent so, and may disagree (reply 2).
-- `Widths` says what the types of the numbers allow
pub record Job : Type 0 where
  pub nvp : ℕ
  pub w : ℕ
  pub h : ℕ
  pub border : ℕ
  pub lengths : List ℕ
  pub regions : List ℕ
  pub codes : List ℕ
  pub numbers : List ℕ

-- how many numbers a vertex of a job has
abbrev pub job_stride : ℕ
job_stride = 4

-- vertex k of the job's numbers ns, and its flag
unfoldable pub vertex_at : List ℕ → ℕ → Vertex
vertex_at ns k = record { x = get_or ns (k * job_stride) 0; y = get_or ns (k * job_stride + 1) 0; z = get_or ns (k * job_stride + 2) 0 }

unfoldable pub flag_at : List ℕ → ℕ → ℕ
flag_at ns k = get_or ns (k * job_stride + 3) 0

-- the n vertices of a contour from the vertex `first` on, and their flags
unfoldable pub contour_vertices : List ℕ → ℕ → ℕ → List Vertex
contour_vertices ns first n = tab (λ k. vertex_at ns (first + k)) n

unfoldable pub contour_flags : List ℕ → ℕ → ℕ → List ℕ
contour_flags ns first n = tab (λ k. flag_at ns (first + k)) n

-- the sum of f over the contours' lengths
unfoldable pub sum_over : (ℕ → ℕ) → List ℕ → ℕ
sum_over f ls = over 0 ◌+◌ (λ c. f (get_or ls c 0)) 0 (length ls)

-- how many vertices the lengths say there are, "skipped contours counted"
unfoldable pub count_all : Job → ℕ
count_all j = sum_over (λ n. n) j.lengths

-- "V sums the lengths of contours of 3 or more vertices"
unfoldable pub count_v : Job → ℕ
count_v j = sum_over (λ n. cond (leb 3 n) n 0) j.lengths

-- "T sums length minus 2 over the same"
unfoldable pub count_t : Job → ℕ
count_t j = sum_over (λ n. cond (leb 3 n) (n - 2) 0) j.lengths
