-- What is stored is what is loaded: laws of vertex records with their marks. Assumes nothing.
-- Key: `vertices_are` and `marks_are`: what is read from the records of vertices vs with marks ms is vs and ms; `records_snoc` and `records_mark`: one more
-- vertex, and a mark set.
use Rattle.std.specs.Prelude.{◌≡◌, refl, List, [], ◌∷◌, ◌++◌, ◌≢◌, ℕ, ◌+◌, ◌-◌, ◌*◌, ◌≤◌, ◌<◌, length, take, drop, set}
use Rattle.std.proofs.Math.Path.{sym, ap}
use Rattle.std.proofs.Common.{◌∙◌, append-nil, ⊎_elim, arith, add-zero, length-append, length-set, get_or-set_same, get_or-set_other}
use Rattle.std.proofs.Math.ListN.{get_or, get_or-append}
use Rattle.std.proofs.Math.Seq.{ext_get_or}
use Rattle.std.proofs.lemmas.List.{get_or_at}
use Rattle.mem.specs.Slice.{view, splice, get_or_view, splice_view, set_each, stored_each}
use Rattle.mem.specs.Tab.{tab, tab_snoc, tab_cong, length_tab, get_or_tab, blocks, length_blocks, get_or_blocks}
use Rattle.mem.specs.Packed.{Every, every_of, packed, packed_append, packed_take, packed_drop, packed_set, length_packed, packed_at}
use Rattle.mem.specs.Cases.{lt_or_le, eq_or_ne}
use Rattle.rules.specs.Lists.{without}
use Rattle.laws.proofs.Lists.{without_below, without_above, length_without}
use Rattle.rules.specs.Plane.{InGrid, on_plane}
use Rattle.rules.specs.Weld.{no_vertex}
use Rattle.rules.specs.Mesh.{place_of}
use Rattle.rules.specs.declared.Point.{Point}
use Rattle.rules.specs.declared.Vertex.{Vertex}
use Rattle.records.specs.Layout.{vertex_size, vertex_in, mark_in, vertex_words, vertices_at, marks_at, Marked, marked_words, with_marks, vertex_records, Placed}

pub length_vertices : (w : List ℕ) (o n : ℕ) → length (vertices_at w o n) ≡ n
unfolding vertices_at
length_vertices w o n = length_blocks vertex_in w o vertex_size n

pub length_marks : (w : List ℕ) (o n : ℕ) → length (marks_at w o n) ≡ n
unfolding marks_at
length_marks w o n = length_blocks mark_in w o vertex_size n

-- ---- one vertex in memory
module _ (w : List ℕ) (o n k : ℕ) (h : k < n) where
  pub vertex_is : get_or (vertices_at w o n) k no_vertex
      ≡ record { x = get_or w (o + k * vertex_size) 0; y = get_or w (o + k * vertex_size + 1) 0; z = get_or w (o + k * vertex_size + 2) 0 }
  unfolding vertices_at vertex_in
  vertex_is =
      get_or_blocks vertex_in w o vertex_size n k no_vertex h
      ∙ (λ i. record {
        x = (get_or_view w (o + k * vertex_size) vertex_size 0 0 (omega arith) ∙ ap (λ (m : ℕ). get_or w m 0) (add-zero (o + k * vertex_size))) i;
        y = get_or_view w (o + k * vertex_size) vertex_size 1 0 (omega arith) i;
        z = get_or_view w (o + k * vertex_size) vertex_size 2 0 (omega arith) i;
      })

  place_is : place_of (vertices_at w o n) k ≡ record { x = get_or w (o + k * vertex_size) 0; z = get_or w (o + k * vertex_size + 2) 0 }
  unfolding place_of
  place_is = ap on_plane vertex_is

  pub grid_x : Placed w o n → get_or w (o + k * vertex_size) 0 ≤ 32767
  grid_x g = (rw place_is at (g.grid k)).x_small

  pub grid_z : Placed w o n → get_or w (o + k * vertex_size + 2) 0 ≤ 32767
  grid_z g = (rw place_is at (g.grid k)).z_small

  pub place_made : {x z : ℕ} → Placed w o n → x ≡ get_or w (o + k * vertex_size) 0 → z ≡ get_or w (o + k * vertex_size + 2) 0
      → ◌≡◌ {A = Point} (record { x = x; z = z }) (place_of (vertices_at w o n) k) × InGrid (record { x = x; z = z })
  place_made {x} {z} g p q =
      let s : ◌≡◌ {A = Point} (record { x = x; z = z }) (place_of (vertices_at w o n) k) = (λ i. record { x = p i; z = q i }) ∙ sym place_is in
      (s, rw s (g.grid k))

-- the five stores of a vertex
pub stored_vertex : (w : List ℕ) (at : ℕ) (v : Vertex) (m : ℕ)
    → set (set (set (set (set w at v.x) (at + 1) v.y) (at + 2) v.z) (at + 3) m) (at + 4) 0 ≡ splice w at (vertex_words v m)
unfolding vertex_words set_each
stored_vertex w at v m = stored_each w at v.x (v.y ∷ v.z ∷ m ∷ 0 ∷ [])

-- ---- the words of vertices vs with marks ms

Any : Marked → Type 0
Any m = Unit

none : Marked
none = record { vertex = no_vertex; mark = 0 }

sized : (m : Marked) → Any m → length (marked_words m) ≡ vertex_size
unfolding vertex_words
sized m h = refl

every : (l : List Marked) → Every Any none l
unfolding Any
every l = every_of Any none l (λ i. tt)

length_with : (vs : List Vertex) (ms : List ℕ) → length (with_marks vs ms) ≡ length vs
unfolding with_marks
length_with vs ms = length_tab _ (length vs)

pub length_vertex_records : (vs : List Vertex) (ms : List ℕ) → length (vertex_records vs ms) ≡ length vs * vertex_size
unfolding vertex_records
length_vertex_records vs ms =
    length_packed marked_words vertex_size Any none sized (with_marks vs ms) (every (with_marks vs ms)) ∙ ap (λ (n : ℕ). n * vertex_size) (length_with vs ms)

-- one more vertex
with_more : (vs : List Vertex) (ms : List ℕ) (v : Vertex) (m : ℕ) → length ms ≡ length vs
    → with_marks (vs ++ (v ∷ [])) (ms ++ (m ∷ [])) ≡ with_marks vs ms ++ (record { vertex = v; mark = m } ∷ [])
unfolding with_marks
with_more vs ms v m e =
    ap (tab (λ k. record { vertex = get_or (vs ++ (v ∷ [])) k no_vertex; mark = get_or (ms ++ (m ∷ [])) k 0 })) (length-append vs (v ∷ []))
    ∙ tab_snoc _ (length vs)
    ∙ rw (get_or_at vs v [] no_vertex (length vs) refl, get_or_at ms m [] 0 (length vs) e)
    (ap (λ (l : List Marked). l ++ (record { vertex = v; mark = m } ∷ []))
    (tab_cong _ _ (length vs) (λ i h. rw (get_or-append vs (v ∷ []) no_vertex i h, get_or-append ms (m ∷ []) 0 i (omega arith)) refl)))

pub records_snoc : (vs : List Vertex) (ms : List ℕ) (v : Vertex) (m : ℕ) → length ms ≡ length vs
    → vertex_records (vs ++ (v ∷ [])) (ms ++ (m ∷ [])) ≡ vertex_records vs ms ++ vertex_words v m
unfolding vertex_records packed
records_snoc vs ms v m e =
    ap (packed marked_words) (with_more vs ms v m e)
    ∙ packed_append marked_words (with_marks vs ms) (record { vertex = v; mark = m } ∷ [])
    ∙ ap (λ (l : List ℕ). packed marked_words (with_marks vs ms) ++ l) (append-nil (vertex_words v m))

marked_at : (vs : List Vertex) (ms : List ℕ) (j : ℕ) → j < length vs → get_or (with_marks vs ms) j none ≡ record { vertex = get_or vs j no_vertex; mark = get_or ms j 0 }
unfolding with_marks
marked_at vs ms j a = get_or_tab _ (length vs) j none a

-- a mark set
with_mark_lem : (vs : List Vertex) (ms : List ℕ) (k m : ℕ) → length ms ≡ length vs → k < length vs
    → with_marks vs (set ms k m) ≡ set (with_marks vs ms) k (record { vertex = get_or vs k no_vertex; mark = m })
with_mark_lem vs ms k m e h =
    ext_get_or none (with_marks vs (set ms k m)) (set (with_marks vs ms) k (record { vertex = get_or vs k no_vertex; mark = m })) (simp (length-set, length_with))
    (λ j a. at j (rw length_with at a))
  where
    at : (j : ℕ) → j < length vs
        → get_or (with_marks vs (set ms k m)) j none ≡ get_or (set (with_marks vs ms) k (record { vertex = get_or vs k no_vertex; mark = m })) j none
    at j a =
        marked_at vs (set ms k m) j a
        ∙ ⊎_elim
        (λ (q : j ≡ k). rw (q, get_or-set_same ms k m 0 (omega arith), get_or-set_same (with_marks vs ms) k (record { vertex = get_or vs k no_vertex; mark = m }) none (rw length_with h)) refl)
        (λ (q : j ≢ k). rw (get_or-set_other ms k j m 0 q, get_or-set_other (with_marks vs ms) k j (record { vertex = get_or vs k no_vertex; mark = m }) none q) (sym (marked_at vs ms j a)))
        (eq_or_ne j k)

pub records_mark : (vs : List Vertex) (ms : List ℕ) (k m : ℕ) → length ms ≡ length vs → k < length vs
    → splice (vertex_records vs ms) (k * vertex_size) (vertex_words (get_or vs k no_vertex) m) ≡ vertex_records vs (set ms k m)
unfolding vertex_records Any
records_mark vs ms k m e h =
    packed_set marked_words vertex_size Any none sized (with_marks vs ms) k (record { vertex = get_or vs k no_vertex; mark = m }) (every (with_marks vs ms)) tt (rw length_with h)
    ∙ ap (packed marked_words) (sym (with_mark_lem vs ms k m e h))

-- one vertex gone
with_without : (vs : List Vertex) (ms : List ℕ) (i : ℕ) → length ms ≡ length vs → i < length vs → with_marks (without vs i) (without ms i) ≡ without (with_marks vs ms) i
with_without vs ms i e h =
    let l : length (with_marks vs ms) ≡ length vs = length_with vs ms in
    let n : length (without vs i) ≡ length vs - 1 = length_without vs i h in
    ext_get_or none (with_marks (without vs i) (without ms i)) (without (with_marks vs ms) i)
    (length_with (without vs i) (without ms i) ∙ n ∙ sym (length_without (with_marks vs ms) i (rw l h) ∙ ap (λ (k : ℕ). k - 1) l))
    (λ j a.
    let b : j < length (without vs i) = rw length_with at a in
    marked_at (without vs i) (without ms i) j b ∙ ⊎_elim
    (λ (q : j < i). rw (without_below vs i j no_vertex h q, without_below ms i j 0 (omega arith) q, without_below (with_marks vs ms) i j none (rw l h) q)
    (sym (marked_at vs ms j (omega arith))))
    (λ (q : i ≤ j). rw (without_above vs i j no_vertex h q, without_above ms i j 0 (omega arith) q, without_above (with_marks vs ms) i j none (rw l h) q)
    (sym (marked_at vs ms (j + 1) (omega arith))))
    (lt_or_le j i))

-- the records behind it moved down by one
pub records_without : (vs : List Vertex) (ms : List ℕ) (i : ℕ) → length ms ≡ length vs → i < length vs
    → take (i * vertex_size) (vertex_records vs ms) ++ drop ((i + 1) * vertex_size) (vertex_records vs ms) ≡ vertex_records (without vs i) (without ms i)
unfolding vertex_records without
records_without vs ms i e h =
    let l = with_marks vs ms in
    rw (packed_take marked_words vertex_size Any none sized l i (every l), packed_drop marked_words vertex_size Any none sized l (i + 1) (every l))
    (sym (packed_append marked_words (take i l) (drop (i + 1) l)) ∙ ap (packed marked_words) (sym (with_without vs ms i e h)))

-- ---- what the records at o hold

module _ (w : List ℕ) (o n : ℕ) (vs : List Vertex) (ms : List ℕ) (size : length vs ≡ n) (fits : o + n * vertex_size ≤ length w)
    (is : view w o (n * vertex_size) ≡ vertex_records vs ms) where
  whole : w ≡ splice w o (packed marked_words (with_marks vs ms))
  unfolding vertex_records
  whole = sym (splice_view w o (n * vertex_size)) ∙ ap (splice w o) is

  -- the words of vertex k
  pub words_at : (k : ℕ) → k < n → view w (o + k * vertex_size) vertex_size ≡ vertex_words (get_or vs k no_vertex) (get_or ms k 0)
  words_at k h =
      let l : length (with_marks vs ms) ≡ n = length_with vs ms ∙ size in
      ap (λ (u : List ℕ). view u (o + k * vertex_size) vertex_size) whole
      ∙ packed_at marked_words vertex_size Any none sized w o (with_marks vs ms) (every (with_marks vs ms)) (rw l fits) k (rw l h)
      ∙ ap marked_words (marked_at vs ms k (rw size h))

  pub vertices_are : vertices_at w o n ≡ vs
  unfolding vertices_at vertex_in vertex_words
  vertices_are = ext_get_or no_vertex (blocks vertex_in w o vertex_size n) vs (length_blocks vertex_in w o vertex_size n ∙ sym size)
      (λ k a. let h : k < n = rw (length_blocks vertex_in w o vertex_size n) at a in
      get_or_blocks vertex_in w o vertex_size n k no_vertex h ∙ ap vertex_in (words_at k h))

  pub marks_are : length ms ≡ n → marks_at w o n ≡ ms
  unfolding marks_at mark_in vertex_words
  marks_are e = ext_get_or 0 (blocks mark_in w o vertex_size n) ms (length_blocks mark_in w o vertex_size n ∙ sym e)
      (λ k a. let h : k < n = rw (length_blocks mark_in w o vertex_size n) at a in
      get_or_blocks mark_in w o vertex_size n k 0 h ∙ ap mark_in (words_at k h))
