-- The weld's words: 4,096 buckets, the records of the vertices, and for each vertex the next one in its bucket; and what the weld's functions ask for
-- and leave. Definitions only.
use Rattle.std.specs.Prelude.{◌≡◌, ℕ, ◌+◌, ◌*◌, ◌^◌, ◌<◌, ◌≤◌, Bool, cond, List, [], ◌∷◌, ◌++◌, length, ◌==◌, nat_le, slice_index_or}
use Rattle.mem.specs.Slice.{view, splice}
use Rattle.mem.specs.Chain.{firsts, nexts}
use Rattle.mem.specs.Shelves.{shelved}
use Rattle.rules.specs.Lists.{apart}
use Rattle.rules.specs.Weld.{no_vertex, bucket, number_of, Welded, add_vertex, weld_all}
use Rattle.rules.specs.Job.{job_stride, contour_vertices, contour_flags}
use Rattle.rules.specs.declared.Vertex.{Vertex}
use Rattle.records.specs.Layout.{vertex_size, vertices_at, marks_at, vertex_records}
use Rattle.weld.specs.declared.find.Tables.{Tables}

abbrev pub bucket_count : ℕ
bucket_count = 4096

-- the bucket of vertex i
unfoldable pub key_of : List Vertex → ℕ → ℕ
key_of vs i = bucket (slice_index_or vs i no_vertex).x (slice_index_or vs i no_vertex).z

-- whether two vertices agree in coordinate c; `is_same` of the rules is that they do so in each of the three
unfoldable pub agree : ℕ → Vertex → Vertex → ℕ → Bool
agree height v u c = cond (c == 0) (v.x == u.x) (cond (c == 1) (nat_le (apart v.y u.y) height) (v.z == u.z))

-- the vertices vs with the marks ms in the tables at t: each bucket's first vertex, the records, each vertex's next; every other word is w's
unfoldable pub tabled : List ℕ → Tables → List Vertex → List ℕ → List ℕ
tabled w t vs ms =
    shelved w t.buckets (firsts (key_of vs) bucket_count (length vs)) t.vertices (vertex_records vs ms) t.nexts (nexts (key_of vs) (length vs))

-- and the numbers that a contour's vertices took, at ko
unfoldable pub welded_words : List ℕ → Tables → ℕ → Welded → List ℕ
welded_words w t ko s = splice (tabled w t s.vertices s.marks) ko s.numbers

-- the tables have room for n vertices, and each lies behind the one before
pub record Room (w : List ℕ) (t : Tables) (n : ℕ) : Type 0 where
  pub buckets : t.buckets + bucket_count ≤ t.vertices
  pub vertices : t.vertices + n * vertex_size ≤ t.nexts
  pub nexts : t.nexts + n ≤ length w
  pub few : n < 2 ^ 32

-- nv vertices stand in the tables, and nothing but them
pub record Tabled (w : List ℕ) (t : Tables) (nv : ℕ) : Type 0 where
  pub room : Room w t nv
  pub is : w ≡ tabled w t (vertices_at w t.vertices nv) (marks_at w t.vertices nv)

-- the vertices and marks that stand in the tables, as the rules have them
abbrev pub standing : List ℕ → Tables → ℕ → Welded
standing w t nv = record { vertices = vertices_at w t.vertices nv; marks = marks_at w t.vertices nv; numbers = [] }

-- v was given the number k, and is vertex nv if that is new
pub record Added (height : ℕ) (w u : List ℕ) (t : Tables) (nv : ℕ) (v : Vertex) (k : ℕ) : Type 0 where
  pub number : k ≡ number_of height (vertices_at w t.vertices nv) v
  pub is : u ≡ cond (k == nv) (tabled w t (vertices_at w t.vertices nv ++ (v ∷ [])) (marks_at w t.vertices nv ++ (0 ∷ []))) w
  pub within : k ≤ nv

-- how many vertices there are once one of nv or a new one has the number k
unfoldable pub grown : ℕ → ℕ → ℕ
grown nv k = cond (k == nv) (nv + 1) nv

-- R3 for v with its flag: it took the number k
pub record WeldedOne (height : ℕ) (w u : List ℕ) (t : Tables) (nv : ℕ) (v : Vertex) (flag k : ℕ) : Type 0 where
  pub number : (add_vertex height v flag (standing w t nv)).numbers ≡ k ∷ []
  pub is : u ≡ tabled w t (add_vertex height v flag (standing w t nv)).vertices (add_vertex height v flag (standing w t nv)).marks
  pub count : length (add_vertex height v flag (standing w t nv)).vertices ≡ grown nv k
  pub within : k ≤ nv

-- nv vertices stand in the tables, with room for n more and for their numbers at ko; they are the n vertices of a job's numbers ns from `first` on
pub record WeldReady (w ns : List ℕ) (t : Tables) (nv ko first n : ℕ) : Type 0 where
  pub now : Tabled w t nv
  pub room : Room w t (nv + n)
  pub behind : t.nexts + (nv + n) ≤ ko
  pub numbers : ko + n ≤ length w
  pub input : (first + n) * job_stride ≤ length ns

-- R3 for that contour
unfoldable pub weld_of : ℕ → List ℕ → List ℕ → Tables → ℕ → ℕ → ℕ → Welded
weld_of height w ns t nv first n = weld_all height (contour_vertices ns first n) (contour_flags ns first n) (standing w t nv)

-- that contour is welded, and r vertices stand in the tables. `count` and `is` fix all; the others follow from them, and spare the callers the way there
pub record WeldedTo (height : ℕ) (w u ns : List ℕ) (t : Tables) (nv ko first n r : ℕ) : Type 0 where
  pub count : r ≡ length (weld_of height w ns t nv first n).vertices
  pub is : u ≡ welded_words w t ko (weld_of height w ns t nv first n)
  pub grew : r ≤ nv + n
  pub now : Tabled u t r
  pub vertices : vertices_at u t.vertices r ≡ (weld_of height w ns t nv first n).vertices
  pub marks : marks_at u t.vertices r ≡ (weld_of height w ns t nv first n).marks
  pub numbers : view u ko n ≡ (weld_of height w ns t nv first n).numbers
