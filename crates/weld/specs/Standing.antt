-- What stands in the weld's tables: read back, written again, and next to other words; and that one exit alone fits the weld's promise. Assumes nothing.
-- Key: `standing_now`: tables that hold vertices vs and marks ms give them back; `one_exit`: two exits that fit the promise are the same; `placed_after`:
-- vertices on the grid stay there.
use Rattle.std.specs.Prelude.{◌≡◌, ℕ, ◌+◌, ◌*◌, ◌%◌, ◌<◌, ◌≤◌, List, [], length, replicate, refl}
use Rattle.std.proofs.Common.{sym, ◌∙◌, arith, mod-lt}
use Rattle.mem.specs.Shelves.{Shelves, length_shelved, shelf_first, shelf_second, shelf_third, shelved_same, shelved_past, shelved_again}
use Rattle.mem.specs.Slice.{view, splice, view_before}
use Rattle.mem.specs.Tab.{tab}
use Rattle.mem.specs.Packed.{packed}
use Rattle.mem.specs.Chain.{firsts, nexts, length_firsts, length_nexts, firsts_none, nexts_none}
use Rattle.rules.specs.Plane.{InGrid, on_plane}
use Rattle.rules.specs.Weld.{bucket}
use Rattle.rules.specs.Job.{vertex_at, contour_vertices, contour_flags}
use Rattle.laws.proofs.Weld.{welded_grid}
use Rattle.laws.proofs.Contours.{length_contour, get_or_contour}
use Rattle.rules.specs.declared.Vertex.{Vertex}
use Rattle.records.specs.Layout.{vertex_size, vertices_at, marks_at, with_marks, vertex_records, Placed}
use Rattle.records.specs.Vertices.{length_vertices, length_marks, length_vertex_records, vertices_are, marks_are}
use Rattle.weld.specs.declared.find.Tables.{Tables}
use Rattle.weld.specs.Tables.{bucket_count, key_of, tabled, Room, Tabled, standing, weld_of, WeldedTo}

pub bucket_below : (x z : ℕ) → bucket x z < bucket_count
unfolding bucket
bucket_below x z = mod-lt ((2376512323 * x % 4294967296 + 3407524639 * z % 4294967296) % 4294967296) (omega arith)

pub length_tabled : (w : List ℕ) (t : Tables) (vs : List Vertex) (ms : List ℕ) → length (tabled w t vs ms) ≡ length w
unfolding tabled
length_tabled w t vs ms = length_shelved w t.buckets _ t.vertices _ t.nexts _

-- ---- each table by itself
pub record Holds (w : List ℕ) (t : Tables) (vs : List Vertex) (ms : List ℕ) : Type 0 where
  pub buckets : view w t.buckets bucket_count ≡ firsts (key_of vs) bucket_count (length vs)
  pub vertices : view w t.vertices (length vs * vertex_size) ≡ vertex_records vs ms
  pub nexts : view w t.nexts (length vs) ≡ nexts (key_of vs) (length vs)

pub less_room : {w : List ℕ} {t : Tables} {m n : ℕ} → m ≤ n → Room w t n → Room w t m
less_room h r = record {
  buckets = r.buckets;
  vertices = omega (arith, r.vertices);
  nexts = omega (arith, r.nexts);
  few = omega (arith, r.few);
}

pub same_room : {w u : List ℕ} {t : Tables} {n : ℕ} → length u ≡ length w → Room w t n → Room u t n
same_room e r = record { buckets = r.buckets; vertices = r.vertices; nexts = omega (arith, r.nexts); few = r.few }

module _ (t : Tables) (vs : List Vertex) (ms : List ℕ) where
  F : List ℕ
  F = firsts (key_of vs) bucket_count (length vs)

  R : List ℕ
  R = vertex_records vs ms

  N : List ℕ
  N = nexts (key_of vs) (length vs)

  long_F : length F ≡ bucket_count
  unfolding F
  long_F = length_firsts (key_of vs) bucket_count (length vs)

  long_R : length R ≡ length vs * vertex_size
  unfolding R
  long_R = length_vertex_records vs ms

  long_N : length N ≡ length vs
  unfolding N
  long_N = length_nexts (key_of vs) bucket_count (length vs)

  shelves : (w : List ℕ) → Room w t (length vs) → Shelves w t.buckets bucket_count t.vertices (length vs * vertex_size) t.nexts (length vs)
  shelves w r = record { second = r.buckets; third = r.vertices; end = r.nexts }

  pub holds_of : (w : List ℕ) {u : List ℕ} → u ≡ tabled w t vs ms → Room w t (length vs) → Holds u t vs ms
  unfolding tabled F R N
  holds_of w e r =
      rw e (record {
        buckets = shelf_first w t.buckets bucket_count F t.vertices (length vs * vertex_size) R t.nexts (length vs) N (shelves w r) long_F long_R long_N;
        vertices = shelf_second w t.buckets bucket_count F t.vertices (length vs * vertex_size) R t.nexts (length vs) N (shelves w r) long_F long_R long_N;
        nexts = shelf_third w t.buckets bucket_count F t.vertices (length vs * vertex_size) R t.nexts (length vs) N (shelves w r) long_F long_R long_N;
      })

  -- tables that hold them are written again
  pub tabled_of : {w : List ℕ} → Holds w t vs ms → w ≡ tabled w t vs ms
  unfolding tabled
  tabled_of {w} h =
      shelved_same w t.buckets bucket_count t.vertices (length vs * vertex_size) t.nexts (length vs) h.buckets h.vertices h.nexts

  -- what stands in the tables
  module _ {w : List ℕ} (h : Holds w t vs ms) (nv : ℕ) (size : length vs ≡ nv) (even : length ms ≡ length vs) (r : Room w t nv) where
    fits : t.vertices + nv * vertex_size ≤ length w
    fits = omega (arith, r.vertices, r.nexts)

    words : view w t.vertices (nv * vertex_size) ≡ vertex_records vs ms
    words = rw (← size) h.vertices

    pub vertices_now : vertices_at w t.vertices nv ≡ vs
    vertices_now = vertices_are w t.vertices nv vs ms size fits words

    pub marks_now : marks_at w t.vertices nv ≡ ms
    marks_now = marks_are w t.vertices nv vs ms size fits words (even ∙ size)

    pub standing_now : Tabled w t nv
    standing_now = record { room = r; is = rw (vertices_now, marks_now) (tabled_of h) }

pub holds_now : {w : List ℕ} {t : Tables} {nv : ℕ} → Tabled w t nv → Holds w t (vertices_at w t.vertices nv) (marks_at w t.vertices nv)
holds_now {w} {t} {nv} s =
    holds_of t (vertices_at w t.vertices nv) (marks_at w t.vertices nv) w s.is (rw (length_vertices w t.vertices nv) s.room)

pub even_now : (w : List ℕ) (t : Tables) (nv : ℕ) → length (marks_at w t.vertices nv) ≡ length (vertices_at w t.vertices nv)
even_now w t nv = length_marks w t.vertices nv ∙ sym (length_vertices w t.vertices nv)

-- ---- written again, with at least as many vertices
pub tabled_again : (w : List ℕ) (t : Tables) (vs us : List Vertex) (ms ns : List ℕ) → length vs ≤ length us → Room w t (length us)
    → tabled (tabled w t vs ms) t us ns ≡ tabled w t us ns
unfolding tabled F R N
tabled_again w t vs us ms ns h r =
    shelved_again w t.buckets bucket_count (F t us ns) t.vertices (length us * vertex_size) (R t us ns) t.nexts (length us) (N t us ns)
    (shelves t us ns w r) (long_F t us ns) (long_R t us ns) (long_N t us ns) (F t vs ms) (R t vs ms) (N t vs ms)
    (omega (arith, long_F t vs ms)) (omega (arith, long_R t vs ms)) (omega (arith, long_N t vs ms))

-- words behind the tables are no part of them
module _ (w : List ℕ) (t : Tables) (vs : List Vertex) (ms : List ℕ) (ko : ℕ) (ks : List ℕ) (r : Room w t (length vs)) (b : t.nexts + length vs ≤ ko) where
  pub tabled_past : tabled (splice w ko ks) t vs ms ≡ splice (tabled w t vs ms) ko ks
  unfolding tabled F R N
  tabled_past =
      shelved_past w t.buckets bucket_count (F t vs ms) t.vertices (length vs * vertex_size) (R t vs ms) t.nexts (length vs) (N t vs ms)
      (shelves t vs ms w r) (long_F t vs ms) (long_R t vs ms) (long_N t vs ms) ko ks b

  pub holds_past : Holds w t vs ms → Holds (splice w ko ks) t vs ms
  holds_past h = record {
    buckets = view_before w ko t.buckets bucket_count ks (omega (arith, r.buckets, r.vertices)) ∙ h.buckets;
    vertices = view_before w ko t.vertices (length vs * vertex_size) ks (omega (arith, r.vertices)) ∙ h.vertices;
    nexts = view_before w ko t.nexts (length vs) ks (omega arith) ∙ h.nexts;
  }

-- ---- no vertex yet: every bucket is 0
no_records : vertex_records [] [] ≡ []
unfolding vertex_records with_marks packed tab
no_records = refl

pub tabled_none : (w : List ℕ) (t : Tables) → Room w t 0 → view w t.buckets bucket_count ≡ replicate bucket_count 0 → Tabled w t 0
tabled_none w t r z = standing_now t [] [] (record {
  buckets = z ∙ sym (firsts_none (key_of []) bucket_count);
  vertices = sym no_records;
  nexts = sym (nexts_none (key_of []));
}) 0 refl refl r

-- ---- one exit alone fits the weld's promise, and one count
pub one_exit : (height : ℕ) (w ns : List ℕ) (t : Tables) (nv ko first n : ℕ) {u x : List ℕ} {r s : ℕ}
    → WeldedTo height w u ns t nv ko first n r → WeldedTo height w x ns t nv ko first n s → (u ≡ x) × (r ≡ s)
one_exit height w ns t nv ko first n a b = (a.is ∙ sym b.is, a.count ∙ sym b.count)

-- ---- vertices on the grid stay there: where those of the tables and of the contour are, all are at the end
pub placed_after : (height : ℕ) (w ns : List ℕ) (t : Tables) (nv ko first n : ℕ) {u : List ℕ} {r : ℕ} → WeldedTo height w u ns t nv ko first n r
    → Placed w t.vertices nv → ((k : ℕ) → k < n → InGrid (on_plane (vertex_at ns (first + k)))) → Placed u t.vertices r
unfolding weld_of
placed_after height w ns t nv ko first n x old new = record {
  fits = omega (arith, x.now.room.vertices, x.now.room.nexts);
  grid = λ k. rw x.vertices (welded_grid height (contour_vertices ns first n) (contour_flags ns first n) (standing w t nv) (even_now w t nv) refl old.grid
      (λ j h. let l : j < n = rw (length_contour ns first n) at h in rw (get_or_contour ns first n j l) (new j l)) k);
}
