-- The buffer while a contour is added: what stands in the tables and in the three parts behind them, what is read from it, and what it becomes as words are
-- written into it. Everything else is zeros, and so words that are wiped are gone. Assumes nothing.
-- Key: `Stage` says what stands where; each write is one law.
use mathlib.Core.Path.{◌≡◌, refl, sym, ap, ◌∙◌}
use mathlib.Core.List.{List, [], ◌++◌, append_assoc}
use Prim.Native.Nat.{ℕ, ◌+◌, ◌-◌, ◌*◌, ◌^◌, ◌≤◌, ◌<◌}
use native.Mathlib.Omega.{arith}
use lib.ListN.{length, replicate, length-append, length-replicate}
use Rattle.mem.specs.Slice.{view, splice, length_splice, splice_nil, splice_append, splice_comm, splice_view, view_same, view_after, blank_behind, blank_again}
use Rattle.mem.specs.Shelves.{Shelves, shelved, shelf_first, shelf_third}
use Rattle.mem.specs.Zeros.{drop_replicate, take_replicate}
use Rattle.mem.specs.Packed.{Every}
use Rattle.rules.specs.Mesh.{Polygon, no_polygon, Mesh}
use Rattle.rules.specs.declared.Vertex.{Vertex}
use Rattle.records.specs.Layout.{polygon_size, vertices_at, marks_at, polygons_at, polygon_records, Small}
use Rattle.records.specs.Polygons.{polygons_are, length_records}
use Rattle.weld.specs.Tables.{tabled, Room, Tabled}
use Rattle.weld.specs.Standing.{Holds, holds_of, holds_past, same_room, length_tabled, tabled_past, tabled_again, vertices_now, marks_now, standing_now}
use Rattle.contours.specs.declared.ground.Ground.{Ground}
use Rattle.contours.specs.Ground.{tables_of, cutting_at, cut_room, ground_in, Fits}

-- ---- zeros

pub zeros_in : (size o j : ℕ) → o + j ≤ size → view (replicate {A = ℕ} size 0) o j ≡ replicate j 0
zeros_in size o j h = rw (drop_replicate {A = ℕ} o size 0) (take_replicate {A = ℕ} j (size - o) 0 (omega arith))

zeros_again : (size o j : ℕ) → o + j ≤ size → splice (replicate {A = ℕ} size 0) o (replicate j 0) ≡ replicate size 0
zeros_again size o j h = rw (← zeros_in size o j h) (splice_view (replicate {A = ℕ} size 0) o j)

-- ---- a stage

-- vertices vs with marks ms in the tables, the words P at the polygons, K at the scratch and C where a contour is cut; and zeros everywhere else
unfoldable pub staged : ℕ → Ground → List Vertex → List ℕ → List ℕ → List ℕ → List ℕ → List ℕ
staged size g vs ms P K C = shelved (tabled (replicate size 0) (tables_of g) vs ms) g.polygons P g.scratch K (cutting_at g) C

pub record Stage (size : ℕ) (g : Ground) (u : List ℕ) (vs : List Vertex) (ms P K C : List ℕ) : Type 0 where
  pub is : u ≡ staged size g vs ms P K C
  pub vertices : length vs ≤ g.v
  pub polygons : length P ≤ g.t * polygon_size
  pub numbers : length K ≤ g.v
  pub cutting : length C ≤ g.v * cut_room

module _ {size : ℕ} {g : Ground} (f : Fits size g) (few : g.v < 2 ^ 28) where
  Z : List ℕ
  Z = replicate size 0

  long_Z : length Z ≡ size
  unfolding Z
  long_Z = length-replicate size 0

  -- the tables have room for as many vertices as there can be
  room_for : (n : ℕ) → n ≤ g.v → Room Z (tables_of g) n
  room_for n h = record {
    buckets = f.buckets;
    vertices = omega (arith, f.vertices);
    nexts = omega (arith, f.nexts, f.polygons, f.scratch, long_Z);
    few = omega arith;
  }

  pub room_in : {u : List ℕ} → length u ≡ size → (n : ℕ) → n ≤ g.v → Room u (tables_of g) n
  room_in e n h = same_room (e ∙ sym long_Z) (room_for n h)

  module _ {u : List ℕ} {vs : List Vertex} {ms P K C : List ℕ} (s : Stage size g u vs ms P K C) where
    B : List ℕ
    B = tabled Z (tables_of g) vs ms

    long_B : length B ≡ size
    unfolding B
    long_B = length_tabled Z (tables_of g) vs ms ∙ long_Z

    -- behind the tables there are zeros
    B-blank : (o j : ℕ) → g.nexts + g.v ≤ o → o + j ≤ size → view B o j ≡ replicate j 0
    unfolding B Z
    B-blank o j h k =
        let e : splice B o (replicate j 0) ≡ B =
        sym (tabled_past Z (tables_of g) vs ms o (replicate j 0) (room_for (length vs) s.vertices) (omega (arith, s.vertices)))
        ∙ ap (λ (l : List ℕ). tabled l (tables_of g) vs ms) (zeros_again size o j k) in
        ap (λ (l : List ℕ). view l o j) (sym e) ∙ view_same B o j (replicate j 0) (length-replicate j 0) (omega (arith, long_B))

    X : List ℕ
    X = splice B g.polygons P

    long_X : length X ≡ size
    unfolding X
    long_X = length_splice B g.polygons P ∙ long_B

    X-blank : (o j : ℕ) → g.scratch ≤ o → o + j ≤ size → view X o j ≡ replicate j 0
    unfolding X
    X-blank o j h k =
        view_after B g.polygons o j P (omega (arith, s.polygons, f.polygons)) ∙ B-blank o j (omega (arith, f.nexts, f.polygons)) k

    Y : List ℕ
    Y = splice X g.scratch K

    Y-blank : (o j : ℕ) → cutting_at g ≤ o → o + j ≤ size → view Y o j ≡ replicate j 0
    unfolding Y
    Y-blank o j h k = view_after X g.scratch o j K (omega (arith, s.numbers)) ∙ X-blank o j (omega arith) k

    now : u ≡ splice Y (cutting_at g) C
    unfolding staged shelved B X Y Z
    now = s.is

    pub stage_size : length u ≡ size
    unfolding Y
    stage_size = ap length now ∙ length_splice Y (cutting_at g) C ∙ length_splice X g.scratch K ∙ long_X

    -- ---- what is read

    shelves : Shelves B g.polygons (length P) g.scratch (length K) (cutting_at g) (length C)
    shelves = record {
      second = omega (arith, s.polygons, f.polygons);
      third = omega (arith, s.numbers);
      end = omega (arith, long_B, s.cutting, f.scratch);
    }

    in_polygons : view u g.polygons (length P) ≡ P
    unfolding staged B Z
    in_polygons = rw s.is (shelf_first B _ _ P _ _ K _ _ C shelves refl refl refl)

    pub in_cutting : u ≡ splice u (cutting_at g) C
    unfolding staged B Z
    in_cutting =
        let e : view u (cutting_at g) (length C) ≡ C = rw s.is (shelf_third B _ _ P _ _ K _ _ C shelves refl refl refl) in
        sym (splice_view u (cutting_at g) (length C)) ∙ ap (splice u (cutting_at g)) e

    holds : Holds u (tables_of g) vs ms
    unfolding B X Y
    holds =
        let t = tables_of g in
        let n = length vs in
        let le = s.vertices in
        rw now (holds_past Y t vs ms (cutting_at g) C (room_in (length_splice X g.scratch K ∙ long_X) n le) (omega (arith, f.nexts, f.polygons))
        (holds_past X t vs ms g.scratch K (room_in long_X n le) (omega (arith, f.nexts, f.polygons))
        (holds_past B t vs ms g.polygons P (room_in long_B n le) (omega (arith, f.nexts))
        (holds_of t vs ms Z refl (room_for n le)))))

    module _ (nv : ℕ) (e : length vs ≡ nv) (even : length ms ≡ length vs) where
      room_now : Room u (tables_of g) nv
      room_now = room_in stage_size nv (omega (arith, s.vertices))

      pub tables_stand : Tabled u (tables_of g) nv
      tables_stand = standing_now (tables_of g) vs ms holds nv e even room_now

      pub vertices_stand : vertices_at u g.vertices nv ≡ vs
      vertices_stand = vertices_now (tables_of g) vs ms holds nv e even room_now

      pub marks_stand : marks_at u g.vertices nv ≡ ms
      marks_stand = marks_now (tables_of g) vs ms holds nv e even room_now

    -- ---- what is written

    -- where nothing was cut, a contour is
    pub write_cutting : {x D : List ℕ} → C ≡ [] → x ≡ splice u (cutting_at g) D → length D ≤ g.v * cut_room → Stage size g x vs ms P K D
    unfolding staged shelved B X Y Z
    write_cutting {x} {D} none d h = record {
      is = d ∙ ap (λ (l : List ℕ). splice l (cutting_at g) D) (now ∙ ap (splice Y (cutting_at g)) none ∙ splice_nil Y (cutting_at g));
      vertices = s.vertices;
      polygons = s.polygons;
      numbers = s.numbers;
      cutting = h;
    }

    -- it is wiped again
    pub wipe_cutting : {x : List ℕ} (j : ℕ) → length C ≡ j → x ≡ splice u (cutting_at g) (replicate j 0) → Stage size g x vs ms P K []
    unfolding staged shelved B X Y Z
    wipe_cutting j e d = record {
      is = d ∙ ap (λ (l : List ℕ). splice l (cutting_at g) (replicate j 0)) now
          ∙ blank_again Y (cutting_at g) j 0 (Y-blank (cutting_at g) j (omega arith) (omega (arith, s.cutting, f.scratch))) C j e (omega arith)
          ∙ sym (splice_nil Y (cutting_at g));
      vertices = s.vertices;
      polygons = s.polygons;
      numbers = s.numbers;
      cutting = omega arith;
    }

    -- words at the scratch lie in front of those where it is cut
    before_cutting : (ks : List ℕ) → length ks ≤ g.v → splice (splice Y (cutting_at g) C) g.scratch ks ≡ splice (splice Y g.scratch ks) (cutting_at g) C
    before_cutting ks h = sym (splice_comm Y g.scratch (cutting_at g) ks C (omega arith))

    -- the numbers are wiped
    pub wipe_numbers : {x : List ℕ} (j : ℕ) → length K ≡ j → x ≡ splice u g.scratch (replicate j 0) → Stage size g x vs ms P [] C
    unfolding staged shelved B X Y Z
    wipe_numbers j e d = record {
      is = d ∙ ap (λ (l : List ℕ). splice l g.scratch (replicate j 0)) now
          ∙ before_cutting (replicate j 0) (rw length-replicate (omega (arith, s.numbers)))
          ∙ ap (λ (l : List ℕ). splice l (cutting_at g) C)
          (blank_again X g.scratch j 0 (X-blank g.scratch j (omega arith) (omega (arith, s.numbers, f.scratch))) K j e (omega arith) ∙ sym (splice_nil X g.scratch));
      vertices = s.vertices;
      polygons = s.polygons;
      numbers = omega arith;
      cutting = s.cutting;
    }

    -- more words at the polygons, with zeros behind them
    pub more_polygons : {x : List ℕ} (Q : List ℕ) (j : ℕ) → length P + (length Q + j) ≤ g.t * polygon_size → x ≡ splice u (g.polygons + length P) (Q ++ replicate j 0)
        → Stage size g x vs ms (P ++ Q) K C
    unfolding staged shelved B X Y Z
    more_polygons Q j h d =
        let a = g.polygons in
        let R : List ℕ = Q ++ replicate j 0 in
        let lr : length R ≡ length Q + j = simp (length-append, length-replicate) in
        let lp : length (P ++ Q) ≡ length P + length Q = length-append P Q in
        let e : splice X (a + length P) R ≡ splice B a (P ++ Q) =
        splice_append B a P R ∙ ap (splice B a) (sym (append_assoc P Q (replicate j 0)))
        ∙ blank_behind B a (length P + (length Q + j)) 0 (B-blank a (length P + (length Q + j)) f.nexts (omega (arith, f.polygons, f.scratch))) (P ++ Q) j (omega arith) in
        record {
          is = d ∙ ap (λ (l : List ℕ). splice l (a + length P) R) now
              ∙ sym (splice_comm Y (a + length P) (cutting_at g) R C (omega (arith, f.polygons)))
              ∙ ap (λ (l : List ℕ). splice l (cutting_at g) C)
              (sym (splice_comm X (a + length P) g.scratch R K (omega (arith, f.polygons))) ∙ ap (λ (l : List ℕ). splice l g.scratch K) e);
          vertices = s.vertices;
          polygons = omega arith;
          numbers = s.numbers;
          cutting = s.cutting;
        }

    -- other vertices in the tables, no fewer than there were, and their numbers
    pub write_tables : {x ks : List ℕ} (us : List Vertex) (ns : List ℕ) → K ≡ [] → length vs ≤ length us → length us ≤ g.v → length ks ≤ g.v
        → x ≡ splice (tabled u (tables_of g) us ns) g.scratch ks → Stage size g x us ns P ks C
    unfolding staged shelved B X Y Z
    write_tables {x} {ks} us ns none more most h d =
        let t = tables_of g in
        let n = length us in
        let A = tabled Z t us ns in
        let eY : Y ≡ X = ap (splice X g.scratch) none ∙ splice_nil X g.scratch in
        let e : tabled u t us ns ≡ splice (splice A g.polygons P) (cutting_at g) C =
        ap (λ (l : List ℕ). tabled l t us ns) (now ∙ ap (λ (l : List ℕ). splice l (cutting_at g) C) eY)
        ∙ tabled_past X t us ns (cutting_at g) C (room_in long_X n most) (omega (arith, f.nexts, f.polygons))
        ∙ ap (λ (l : List ℕ). splice l (cutting_at g) C) (tabled_past B t us ns g.polygons P (room_in long_B n most) (omega (arith, f.nexts))
        ∙ ap (λ (l : List ℕ). splice l g.polygons P) (tabled_again Z t vs us ms ns more (room_for n most))) in
        record {
          is = d ∙ ap (λ (l : List ℕ). splice l g.scratch ks) e ∙ sym (splice_comm (splice A g.polygons P) g.scratch (cutting_at g) ks C (omega arith));
          vertices = most;
          polygons = s.polygons;
          numbers = h;
          cutting = s.cutting;
        }

  -- ---- the polygons that stand there

  module _ {u : List ℕ} {vs : List Vertex} {ms K C : List ℕ} (ps : List Polygon) (s : Stage size g u vs ms (polygon_records ps) K C) (small : Every Small no_polygon ps) where
    pub polygons_stand : (np : ℕ) → length ps ≡ np → polygons_at u g.polygons np ≡ ps
    polygons_stand np e =
        let P = polygon_records ps in
        let l : length P ≡ np * polygon_size = length_records ps small ∙ ap (λ (k : ℕ). k * polygon_size) e in
        polygons_are u g.polygons np ps (sym (splice_view u g.polygons (length P)) ∙ ap (splice u g.polygons) (in_polygons s)) e small
        (omega (arith, stage_size s, s.polygons, f.polygons, f.scratch))

-- ---- a mesh, and nothing else

unfolded : (size : ℕ) (g : Ground) (m : Mesh) → ground_in size g m ≡ staged size g m.vertices m.marks (polygon_records m.polygons) [] []
unfolding ground_in staged shelved
unfolded size g m =
    let x = splice (tabled (replicate size 0) (tables_of g) m.vertices m.marks) g.polygons (polygon_records m.polygons) in
    sym (splice_nil (splice x g.scratch []) (cutting_at g) ∙ splice_nil x g.scratch)

pub mesh_stage : (size : ℕ) (g : Ground) (m : Mesh) {u : List ℕ} → u ≡ ground_in size g m → length m.vertices ≤ g.v
    → length (polygon_records m.polygons) ≤ g.t * polygon_size → Stage size g u m.vertices m.marks (polygon_records m.polygons) [] []
mesh_stage size g m e h k = record { is = e ∙ unfolded size g m; vertices = h; polygons = k; numbers = omega arith; cutting = omega arith }

pub stage_mesh : {size : ℕ} {g : Ground} {u : List ℕ} (m : Mesh) → Stage size g u m.vertices m.marks (polygon_records m.polygons) [] [] → u ≡ ground_in size g m
stage_mesh {size} {g} m s = s.is ∙ sym (unfolded size g m)
