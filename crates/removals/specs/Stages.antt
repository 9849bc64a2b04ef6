-- A mesh's place in the work buffer while a vertex goes: what is read from its three parts, and what one of them becomes as words are written into it.
-- Assumes nothing.
-- Key: `Stage` says what stands in each part; `put-vertices`, `put-polygons`, `put-scratch`: other words in one of them.
use Rattle.std.specs.Prelude.{◌≡◌, List, [], ◌++◌, ℕ, ◌+◌, ◌*◌, ◌≤◌, replicate}
use Rattle.std.proofs.Common.{sym, ◌∙◌, append-nil, add-zero, arith, length-append}
use Rattle.std.proofs.Math.Path.{ap}
use Rattle.std.proofs.Math.ListN.{length}
use Rattle.std.proofs.lemmas.List.{length-replicate}
use Rattle.mem.specs.Slice.{view, splice, view_view, splice_view}
use Rattle.mem.specs.Packed.{Every}
use Rattle.mem.specs.Shelves.{Shelves, length_shelved, shelf_first, shelf_second, shelf_third, shelved_first, shelved_second, shelved_third}
use Rattle.mem.specs.Zeros.{with_zeros, length_zeros, zeros_first, zeros_put}
use Rattle.rules.specs.Mesh.{Polygon, no_polygon}
use Rattle.rules.specs.declared.Vertex.{Vertex}
use Rattle.records.specs.Layout.{vertex_size, vertices_at, marks_at, vertex_records, polygon_size, polygons_at, polygon_records, Small, Tidy}
use Rattle.records.specs.Vertices.{length_vertex_records, vertices_are, marks_are}
use Rattle.records.specs.Polygons.{length_records, polygons_are}
use Rattle.records.specs.Fixed.{Fixed, fixed_are, fixed_length}
use Rattle.holes.specs.Clear.{TidyVertices}
use Rattle.removals.specs.declared.site.Site.{Site}
use Rattle.removals.specs.Site.{scratch_room, standing, Fits}

-- the words vs, ps and ss stand in the three parts of u, and zeros behind each of them; every other word is as it is in w
pub record Stage (w : List ℕ) (s : Site) (u vs ps ss : List ℕ) : Type 0 where
  pub is : u ≡ standing w s vs ps ss
  pub vertices : length vs ≤ s.v * vertex_size
  pub polygons : length ps ≤ s.t * polygon_size
  pub scratch : length ss ≤ s.t * scratch_room

zeros_size : (xs : List ℕ) (k : ℕ) → length (xs ++ replicate k 0) ≡ length xs + k
zeros_size xs k = simp (length-append, length-replicate)

-- words at the beginning of a part of u
part_first : (u : List ℕ) (a n : ℕ) (xs : List ℕ) → view u a n ≡ with_zeros n xs → length xs ≤ n → view u a (length xs) ≡ xs
part_first u a n xs e h =
    let f = view_view u a n 0 (length xs) (omega arith) in
    sym (rw (add-zero a) at f) ∙ ap (λ (l : List ℕ). view l 0 (length xs)) e ∙ zeros_first n xs

module _ {w : List ℕ} {s : Site} (f : Fits w s) {u vs ps ss : List ℕ} (g : Stage w s u vs ps ss) where
  shelves : Shelves w s.vertices (s.v * vertex_size) s.polygons (s.t * polygon_size) s.scratch (s.t * scratch_room)
  shelves = record { second = f.vertices; third = f.polygons; end = f.scratch }

  long_v : length (with_zeros (s.v * vertex_size) vs) ≡ s.v * vertex_size
  long_v = length_zeros (s.v * vertex_size) vs g.vertices

  long_p : length (with_zeros (s.t * polygon_size) ps) ≡ s.t * polygon_size
  long_p = length_zeros (s.t * polygon_size) ps g.polygons

  long_s : length (with_zeros (s.t * scratch_room) ss) ≡ s.t * scratch_room
  long_s = length_zeros (s.t * scratch_room) ss g.scratch

  pub stage_size : length u ≡ length w
  unfolding standing
  stage_size = ap length g.is ∙ length_shelved w s.vertices _ s.polygons _ s.scratch _

  pub stage_fits : Fits u s
  stage_fits = record { vertices = f.vertices; polygons = f.polygons; scratch = omega (arith, stage_size, f.scratch) }

  -- ---- what is read

  pub in_vertices : view u s.vertices (length vs) ≡ vs
  unfolding standing
  in_vertices = part_first u s.vertices (s.v * vertex_size) vs (rw g.is (shelf_first w _ _ _ _ _ _ _ _ _ shelves long_v long_p long_s)) g.vertices

  pub in_polygons : view u s.polygons (length ps) ≡ ps
  unfolding standing
  in_polygons = part_first u s.polygons (s.t * polygon_size) ps (rw g.is (shelf_second w _ _ _ _ _ _ _ _ _ shelves long_v long_p long_s)) g.polygons

  pub all_scratch : view u s.scratch (s.t * scratch_room) ≡ with_zeros (s.t * scratch_room) ss
  unfolding standing
  all_scratch = rw g.is (shelf_third w _ _ _ _ _ _ _ _ _ shelves long_v long_p long_s)

  pub in_scratch : view u s.scratch (length ss) ≡ ss
  in_scratch = part_first u s.scratch (s.t * scratch_room) ss all_scratch g.scratch

  -- ---- what is written: e says what becomes of the part

  pub write_vertices : (i : ℕ) (xs : List ℕ) {ys x : List ℕ} → x ≡ splice u (s.vertices + i) xs → i + length xs ≤ s.v * vertex_size
      → splice (with_zeros (s.v * vertex_size) vs) i xs ≡ with_zeros (s.v * vertex_size) ys → length ys ≤ s.v * vertex_size → Stage w s x ys ps ss
  unfolding standing
  write_vertices i xs d h e l = record {
    is = d ∙ rw (g.is, ← e) (shelved_first w s.vertices _ _ s.polygons _ _ s.scratch _ _ shelves long_v long_p long_s i xs h);
    vertices = l;
    polygons = g.polygons;
    scratch = g.scratch;
  }

  pub write_polygons : (i : ℕ) (xs : List ℕ) {ys x : List ℕ} → x ≡ splice u (s.polygons + i) xs → i + length xs ≤ s.t * polygon_size
      → splice (with_zeros (s.t * polygon_size) ps) i xs ≡ with_zeros (s.t * polygon_size) ys → length ys ≤ s.t * polygon_size → Stage w s x vs ys ss
  unfolding standing
  write_polygons i xs d h e l = record {
    is = d ∙ rw (g.is, ← e) (shelved_second w s.vertices _ _ s.polygons _ _ s.scratch _ _ shelves long_v long_p long_s i xs h);
    vertices = g.vertices;
    polygons = l;
    scratch = g.scratch;
  }

  pub write_scratch : (i : ℕ) (xs : List ℕ) {ys x : List ℕ} → x ≡ splice u (s.scratch + i) xs → i + length xs ≤ s.t * scratch_room
      → splice (with_zeros (s.t * scratch_room) ss) i xs ≡ with_zeros (s.t * scratch_room) ys → length ys ≤ s.t * scratch_room → Stage w s x vs ps ys
  unfolding standing
  write_scratch i xs d h e l = record {
    is = d ∙ rw (g.is, ← e) (shelved_third w s.vertices _ _ s.polygons _ _ s.scratch _ _ shelves long_v long_p long_s i xs h);
    vertices = g.vertices;
    polygons = g.polygons;
    scratch = l;
  }

  -- xs with k zeros behind them, over all that stood there
  module _ (xs : List ℕ) (k : ℕ) {x : List ℕ} where
    from_start : (a : ℕ) → x ≡ splice u a (xs ++ replicate k 0) → x ≡ splice u (a + 0) (xs ++ replicate k 0)
    from_start a d = d ∙ ap (λ (j : ℕ). splice u j (xs ++ replicate k 0)) (sym (add-zero a))

    pub anew_vertices : x ≡ splice u s.vertices (xs ++ replicate k 0) → length vs ≤ length xs + k → length xs + k ≤ s.v * vertex_size → Stage w s x xs ps ss
    anew_vertices d h l =
        write_vertices 0 (xs ++ replicate k 0) (from_start s.vertices d) (omega (arith, zeros_size xs k)) (zeros_put (s.v * vertex_size) [] vs xs k h (omega arith)) (omega arith)

    pub anew_polygons : x ≡ splice u s.polygons (xs ++ replicate k 0) → length ps ≤ length xs + k → length xs + k ≤ s.t * polygon_size → Stage w s x vs xs ss
    anew_polygons d h l =
        write_polygons 0 (xs ++ replicate k 0) (from_start s.polygons d) (omega (arith, zeros_size xs k)) (zeros_put (s.t * polygon_size) [] ps xs k h (omega arith)) (omega arith)

    pub anew_scratch : x ≡ splice u s.scratch (xs ++ replicate k 0) → length ss ≤ length xs + k → length xs + k ≤ s.t * scratch_room → Stage w s x vs ps xs
    anew_scratch d h l =
        write_scratch 0 (xs ++ replicate k 0) (from_start s.scratch d) (omega (arith, zeros_size xs k)) (zeros_put (s.t * scratch_room) [] ss xs k h (omega arith)) (omega arith)

-- no zeros
pub plain : (u : List ℕ) (a : ℕ) (xs : List ℕ) {x : List ℕ} → x ≡ splice u a xs → x ≡ splice u a (xs ++ replicate 0 0)
plain u a xs d = d ∙ ap (splice u a) (sym (append-nil xs))

-- ---- what the words stand for

module _ {w : List ℕ} {s : Site} (f : Fits w s) {u ps ss : List ℕ} (vs : List Vertex) (ms : List ℕ) (g : Stage w s u (vertex_records vs ms) ps ss) (n : ℕ)
    (e : length vs ≡ n) where
  words : view u s.vertices (n * vertex_size) ≡ vertex_records vs ms
  words = let l = length_vertex_records vs ms in
      let q : length (vertex_records vs ms) ≡ n * vertex_size = rw (l, e) in rw q at (in_vertices f g)

  within : s.vertices + n * vertex_size ≤ length u
  within = let l = length_vertex_records vs ms in
      let q : length (vertex_records vs ms) ≡ n * vertex_size = rw (l, e) in
      omega (arith, g.vertices, f.vertices, f.polygons, f.scratch, stage_size f g)

  pub vertices_read : vertices_at u s.vertices n ≡ vs
  vertices_read = vertices_are u s.vertices n vs ms e within words

  pub marks_read : length ms ≡ n → marks_at u s.vertices n ≡ ms
  marks_read = marks_are u s.vertices n vs ms e within words

  pub vertices_tidy : length ms ≡ n → TidyVertices u s.vertices n
  vertices_tidy d = record { fits = within; is = rw (vertices_read, marks_read d) words }

module _ {w : List ℕ} {s : Site} (f : Fits w s) {u vs ss : List ℕ} (ps : List Polygon) (g : Stage w s u vs (polygon_records ps) ss) (n : ℕ)
    (e : length ps ≡ n) (small : Every Small no_polygon ps) where
  records : u ≡ splice u s.polygons (polygon_records ps)
  records = sym (splice_view u s.polygons (length (polygon_records ps))) ∙ ap (splice u s.polygons) (in_polygons f g)

  pub polygons_within : s.polygons + n * polygon_size ≤ length u
  polygons_within =
      let q : length (polygon_records ps) ≡ n * polygon_size = rw (length_records ps small, e) in
      omega (arith, g.polygons, f.polygons, f.scratch, stage_size f g)

  pub polygons_read : polygons_at u s.polygons n ≡ ps
  polygons_read = polygons_are u s.polygons n ps records e small polygons_within

  pub polygons_tidy : Tidy u s.polygons n
  polygons_tidy = record { is = rw polygons_read records }

module _ {B : Type 0} {manyAt : List ℕ → ℕ → ℕ → List B} {words : List B → List ℕ} {dec : List ℕ → B} {enc : B → List ℕ} {size : ℕ} {d : B}
    (k : Fixed manyAt words dec enc size d) {w : List ℕ} {s : Site} (f : Fits w s) {u vs ps : List ℕ} (bs : List B) (g : Stage w s u vs ps (words bs)) (n : ℕ)
    (e : length bs ≡ n) where
  pub scratch_read : manyAt u s.scratch n ≡ bs
  scratch_read =
      let q : length (words bs) ≡ n * size = rw (fixed_length k bs, e) in
      fixed_are k u s.scratch n bs (sym (splice_view u s.scratch (length (words bs))) ∙ ap (splice u s.scratch) (in_scratch f g)) e
      (omega (arith, g.scratch, f.scratch, stage_size f g))
