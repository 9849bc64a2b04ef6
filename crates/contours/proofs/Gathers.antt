-- All contours, one after the other: the mesh in the buffer is the rules' after so many contours, and what is left of the sums over the contours says that
-- there is room for the next. Assumes nothing.
-- Key: `going_more`: one contour more; `going_stuck` and `going_end`: what all comes to.
use Rattle.std.specs.Prelude.{Result, Ok, Err}
use mathlib.Core.Path.{◌≡◌, refl, sym, ap, ◌∙◌}
use mathlib.Core.List.{List, []}
use mathlib.Core.Logic.{⊎_elim}
use Prim.Native.Nat.{ℕ, ◌+◌, ◌-◌, ◌^◌, ◌≤◌, ◌<◌}
use native.Mathlib.Omega.{arith}
use borrow.Author.Tests.{lt-ltb, le-ltb, le-leb, lt-leb}
use lib.ListN.{length, get_or, replicate, length-replicate}
use Rattle.mem.specs.Cases.{lt_or_le}
use Rattle.mem.specs.Loops.{over_turn}
use Rattle.mem.specs.Slice.{splice, length_splice, splice_nil, splice_whole}
use Rattle.mem.specs.Tab.{tab, blocks}
use Rattle.mem.specs.Packed.{packed}
use Rattle.rules.specs.Ears.{Ears, done, stuck, triangulate}
use Rattle.rules.specs.Mesh.{Mesh, no_mesh}
use Rattle.rules.specs.Job.{Job, sum_over, count_all, count_v, count_t, contour_vertices, contour_flags}
use Rattle.rules.specs.Build.{added, no_ear_in, weld_height, add_contour, add_all}
use Rattle.rules.specs.Fuel.{Adding, adding}
use Rattle.laws.specs.Measures.{spares_in}
use Rattle.laws.specs.Lists.{none, total}
use Rattle.laws.proofs.Lists.{all_imp}
use Rattle.laws.specs.Merge.{Good, Below}
use Rattle.laws.proofs.Merge.{polygons_few}
use Rattle.laws.specs.Removal.{Sound}
use Rattle.laws.specs.Checks.{Agreed, points_in, triangles_in}
use Rattle.laws.proofs.Checks.{agreed}
use Rattle.laws.specs.Contours.{left}
use Rattle.laws.proofs.Contours.{contour_added, length_contour, get_or_contour}
use Rattle.laws.proofs.Fuel.{adding_turns, added_from_the_start}
use Rattle.records.specs.Layout.{vertices_at, marks_at, polygon_records}
use Rattle.records.specs.Vertices.{length_vertices}
use Rattle.records.specs.Polygons.{length_polygons, length_records}
use Rattle.weld.specs.Tables.{bucket_count, tabled}
use Rattle.weld.specs.Standing.{tabled_none, length_tabled}
use Rattle.contours.specs.declared.ground.Ground.{Ground}
use Rattle.contours.specs.declared.ground.Contour.{Contour}
use Rattle.records.specs.declared.counts.Counts.{Counts}
use Rattle.ears.specs.declared.cut.NoEar.{NoEar}
use Rattle.ears.specs.Part.{no_ear}
use Rattle.contours.specs.Cutting.{places_in}
use Rattle.contours.specs.Ground.{tables_of, ground_in, mesh_at, Fits, Stands}
use Rattle.contours.specs.Adding.{AddReady, grown_by, counts, added_of}
use Rattle.contours.specs.Gathering.{contour_in, NextReady, next_mesh, next_answer, GatherReady, no_ear_of, gathered_of, mesh_of}
use Rattle.contours.proofs.Stages.{Stage, zeros_in, vertices_stand, marks_stand, polygons_stand, mesh_stage}
use Rattle.holes.specs.Small.{small_good}

-- ---- no mesh is zeros

pub ground_none : (size : ℕ) (g : Ground) → Fits size g → ground_in size g no_mesh ≡ replicate size 0
unfolding ground_in polygon_records packed vertices_at marks_at blocks tab
ground_none size g f =
    let z = length-replicate {A = ℕ} size 0 in
    splice_nil (tabled (replicate size 0) (tables_of g) [] []) g.polygons
    ∙ sym (tabled_none (replicate size 0) (tables_of g)
    (record { buckets = f.buckets; vertices = omega (arith, f.vertices); nexts = omega (arith, f.nexts, f.polygons, f.scratch); few = omega arith })
    (zeros_in size g.buckets bucket_count (omega (arith, f.buckets, f.vertices, f.nexts, f.polygons, f.scratch)))).is

ground_size : (size : ℕ) (g : Ground) (m : Mesh) → length (ground_in size g m) ≡ size
unfolding ground_in
ground_size size g m =
    length_splice (tabled (replicate size 0) (tables_of g) m.vertices m.marks) g.polygons (polygon_records m.polygons)
    ∙ length_tabled (replicate size 0) (tables_of g) m.vertices m.marks ∙ length-replicate size 0

-- ---- one contour, skipped or cut

module _ (nvp : ℕ) (ns : List ℕ) (c : Contour) (m : Mesh) where
  mesh_skip : c.n < 3 → next_mesh nvp ns c m ≡ m
  unfolding next_mesh
  mesh_skip h = rw (lt-ltb c.n 3 h, next_mesh) refl

  answer_skip : c.n < 3 → next_answer nvp ns c m ≡ Ok (counts (length m.vertices) (length m.polygons))
  unfolding next_answer
  answer_skip h = rw (lt-ltb c.n 3 h, next_answer) refl

  mesh_cut : 3 ≤ c.n → next_mesh nvp ns c m ≡ grown_by nvp ns c m (triangulate (places_in ns c.first c.n))
  unfolding next_mesh
  mesh_cut h = rw (le-ltb c.n 3 h, next_mesh) refl

  answer_cut : 3 ≤ c.n
      → next_answer nvp ns c m ≡ added_of (grown_by nvp ns c m (triangulate (places_in ns c.first c.n))) (triangulate (places_in ns c.first c.n))
  unfolding next_answer
  answer_cut h = rw (le-ltb c.n 3 h, next_answer) refl

module _ {w ns : List ℕ} {g : Ground} {nv np nvp : ℕ} {c : Contour} (r : NextReady w ns g nv np nvp c) (h : c.n < 3) where
  pub skipped_answer : Ok (counts nv np) ≡ next_answer nvp ns c (mesh_at w g nv np)
  skipped_answer = rw (answer_skip nvp ns c (mesh_at w g nv np) h, length_vertices w g.vertices nv, length_polygons w g.polygons np) refl

  pub skipped_words : w ≡ ground_in (length w) g (next_mesh nvp ns c (mesh_at w g nv np))
  skipped_words = rw (mesh_skip nvp ns c (mesh_at w g nv np) h) r.stands.is

-- what `add_contour` ensures, of a contour that isn't skipped
module _ (nvp : ℕ) (ns : List ℕ) (c : Contour) (m : Mesh) (h : 3 ≤ c.n) where
  pub cut_answer : {a : Result Counts NoEar} → a ≡ added_of (grown_by nvp ns c m (triangulate (places_in ns c.first c.n))) (triangulate (places_in ns c.first c.n))
      → a ≡ next_answer nvp ns c m
  cut_answer e = e ∙ sym (answer_cut nvp ns c m h)

  pub cut_words_lem : (g : Ground) (w : List ℕ) {u : List ℕ} → u ≡ ground_in (length w) g (grown_by nvp ns c m (triangulate (places_in ns c.first c.n)))
      → u ≡ ground_in (length w) g (next_mesh nvp ns c m)
  cut_words_lem g w e = e ∙ ap (ground_in (length w) g) (sym (mesh_cut nvp ns c m h))

-- what an answer says
abbrev Answer : Type 0
Answer = Result Counts NoEar

to_vertices : {a b x y : ℕ} → ◌≡◌ {A = Answer} (Ok (counts a b)) (Ok (counts x y)) → a ≡ x
to_vertices {a} {b} {x} {y} e = let z : counts a b ≡ counts x y = cc in ap (λ (n : Counts). n.vertices) z

to_polygons : {a b x y : ℕ} → ◌≡◌ {A = Answer} (Ok (counts a b)) (Ok (counts x y)) → b ≡ y
to_polygons {a} {b} {x} {y} e = let z : counts a b ≡ counts x y = cc in ap (λ (n : Counts). n.polygons) z

no_skip : (i : NoEar) (n : Counts) → ◌≡◌ {A = Answer} (Err i) (Ok n) → ⊥
no_skip i n e = cc

cut_stuck : (m : Mesh) (t : Ears) (i : NoEar) → Err i ≡ added_of m t → t ≡ stuck i.after
unfolding added_of
cut_stuck m (done ts) i e = absurd (no_skip i _ e)
cut_stuck m (stuck k) i e = let z : i ≡ no_ear k = cc in sym (ap (λ (x : NoEar). stuck x.after) z)

-- ---- so many contours

-- m is the mesh after c contours; the next one begins at the vertex `first`
pub record Going (w₀ : List ℕ) (g : Ground) (j : Job) (w : List ℕ) (nv np first c : ℕ) : Type 0 where
  pub m : Mesh
  pub within : c ≤ length j.lengths
  pub size : length w ≡ length w₀
  pub is : w ≡ ground_in (length w₀) g m
  pub vertices : length m.vertices ≡ nv
  pub polygons : length m.polygons ≡ np
  pub sound : Sound j.nvp m
  pub place : first + left (λ i. get_or j.lengths i 0) j c ≡ count_all j
  pub room : nv + left (points_in j.lengths) j c ≤ count_v j
  pub spares : spares_in m.polygons + left (triangles_in j.lengths) j c ≡ count_t j
  pub same : add_all j ≡ adding j c first m

module _ {w₀ : List ℕ} {g : Ground} {j : Job} (r : GatherReady w₀ g j) where
  lists : Agreed j
  lists = agreed j r.passed.agree

  pub few_contours : length j.lengths ≤ 65535
  few_contours = lists.contours

  pub going_begin : Going w₀ g j w₀ 0 0 0 0
  unfolding count_all count_v count_t sum_over total
  going_begin = record {
    m = no_mesh;
    within = omega arith;
    size = refl;
    is = r.blank ∙ sym (ground_none (length w₀) g r.fits);
    vertices = refl;
    polygons = refl;
    sound = record { good = none; marked = refl; grid = none };
    place = omega arith;
    room = omega arith;
    spares = omega arith;
    same = added_from_the_start j;
  }

  module _ {w : List ℕ} {nv np first c : ℕ} (s : Going w₀ g j w nv np first c) where
    few_polygons : np ≤ spares_in s.m.polygons
    few_polygons = omega (arith, s.polygons, polygons_few (all_imp (λ p (k : Good (Below (length s.m.vertices)) j.nvp p). k.long) s.sound.good))

    stage : Stage (length w₀) g w s.m.vertices s.m.marks (polygon_records s.m.polygons) [] []
    stage = mesh_stage (length w₀) g s.m s.is (omega (arith, s.vertices, s.room, r.v))
        (omega (arith, length_records s.m.polygons (small_good r.passed.nvp_high s.sound.good), s.polygons, few_polygons, s.spares, r.t))

    few : g.v < 2 ^ 28
    few = omega (arith, r.v, r.passed.few)

    mesh_is : mesh_at w g nv np ≡ s.m
    mesh_is = λ i. record {
      vertices = vertices_stand r.fits few stage nv s.vertices s.sound.marked i;
      marks = marks_stand r.fits few stage nv s.vertices s.sound.marked i;
      polygons = polygons_stand r.fits few s.m.polygons stage (small_good r.passed.nvp_high s.sound.good) np s.polygons i;
    }

    stands : Stands w g nv np j.nvp
    stands = record {
      fits = rw s.size r.fits;
      is = rw (mesh_is, s.size) s.is;
      sound = rw mesh_is s.sound;
      least = r.passed.nvp_low;
      most = r.passed.nvp_high;
      few = few;
    }

    module _ (h : c < length j.lengths) where
      adds : Adding j c first s.m (get_or j.lengths c 0)
      adds = adding_turns j c first s.m

      all_left : left (λ i. get_or j.lengths i 0) j c ≡ get_or j.lengths c 0 + left (λ i. get_or j.lengths i 0) j (c + 1)
      all_left = over_turn 0 ◌+◌ (λ i. get_or j.lengths i 0) c (length j.lengths) h

      points_left : left (points_in j.lengths) j c ≡ points_in j.lengths c + left (points_in j.lengths) j (c + 1)
      points_left = over_turn 0 ◌+◌ (points_in j.lengths) c (length j.lengths) h

      triangles_left : left (triangles_in j.lengths) j c ≡ triangles_in j.lengths c + left (triangles_in j.lengths) j (c + 1)
      triangles_left = over_turn 0 ◌+◌ (triangles_in j.lengths) c (length j.lengths) h

      passed_over : first + get_or j.lengths c 0 ≤ count_all j
      passed_over = omega (arith, s.place, all_left)

      pub going_lists : (c < length j.lengths) × (c < length j.regions) × (c < length j.codes)
      going_lists = (h, omega (arith, lists.regions), omega (arith, lists.codes))

      -- to the mesh t
      going_to : (t : Mesh) {u : List ℕ} {v p : ℕ} → v ≡ length t.vertices → p ≡ length t.polygons → u ≡ ground_in (length w₀) g t → Sound j.nvp t
          → spares_in t.polygons ≡ spares_in s.m.polygons + triangles_in j.lengths c → length t.vertices ≤ length s.m.vertices + points_in j.lengths c
          → adding j c first s.m ≡ adding j (c + 1) (first + get_or j.lengths c 0) t → Going w₀ g j u v p (first + get_or j.lengths c 0) (c + 1)
      going_to t ev ep eu sound spares vertices e = record {
        m = t;
        within = omega arith;
        size = ap length eu ∙ ground_size (length w₀) g t;
        is = eu;
        vertices = sym ev;
        polygons = sym ep;
        sound = sound;
        place = omega (arith, s.place, all_left);
        room = omega (arith, s.room, s.vertices, points_left);
        spares = omega (arith, s.spares, triangles_left);
        same = s.same ∙ e;
      }

      -- a contour that is skipped
      going_skip : {u : List ℕ} {v p : ℕ} → get_or j.lengths c 0 < 3 → ◌≡◌ {A = Answer} (Ok (counts v p)) (Ok (counts (length s.m.vertices) (length s.m.polygons))) → u ≡ ground_in (length w₀) g s.m
          → Going w₀ g j u v p (first + get_or j.lengths c 0) (c + 1)
      going_skip l a b =
          going_to s.m (to_vertices a) (to_polygons a) b s.sound (rw (lt-leb 3 (get_or j.lengths c 0) l) (omega arith)) (rw (lt-leb 3 (get_or j.lengths c 0) l) (omega arith)) (adds.skip h l)

      -- a contour that isn't skipped
      module _ (low : 3 ≤ get_or j.lengths c 0) where
        points_here : points_in j.lengths c ≡ get_or j.lengths c 0
        points_here = rw (le-leb 3 (get_or j.lengths c 0) low) refl

        triangles_here : triangles_in j.lengths c ≡ get_or j.lengths c 0 - 2
        triangles_here = rw (le-leb 3 (get_or j.lengths c 0) low) refl

        add_ready : AddReady w j.numbers g nv np j.nvp (contour_in j.lengths j.regions j.codes c first)
        add_ready = record {
          stands = stands;
          vertices = omega (arith, s.room, points_left, points_here, r.v);
          polygons = omega (arith, few_polygons, s.spares, triangles_left, triangles_here, r.t);
          some = low;
          input = omega (arith, passed_over, lists.numbers);
          grid = λ k l. r.passed.grid (first + k) (omega (arith, passed_over));
        }

        -- it is cut like this
        going_cut : (t : Ears) → triangulate (places_in j.numbers first (get_or j.lengths c 0)) ≡ t → {u : List ℕ} {v p : ℕ}
            → Ok (counts v p) ≡ added_of (grown_by j.nvp j.numbers (contour_in j.lengths j.regions j.codes c first) s.m t) t
            → u ≡ ground_in (length w₀) g (grown_by j.nvp j.numbers (contour_in j.lengths j.regions j.codes c first) s.m t)
            → Going w₀ g j u v p (first + get_or j.lengths c 0) (c + 1)
        unfolding grown_by added_of
        going_cut (stuck i) d a b = absurd (no_skip (no_ear i) _ (sym a))
        going_cut (done ts) d a b =
            let n = get_or j.lengths c 0 in
            let vs = contour_vertices j.numbers first n in
            let l : length vs ≡ n = length_contour j.numbers first n in
            let G = contour_added weld_height j.nvp (get_or j.regions c 0) (get_or j.codes c 0) vs (contour_flags j.numbers first n) ts s.m r.passed.nvp_low s.sound
            (omega arith) (omega (arith, s.room, points_left, points_here, r.passed.few))
            (λ i q. let q' : i < n = rw l at q in rw (get_or_contour j.numbers first n i q') (r.passed.grid (first + i) (omega (arith, passed_over)))) d in
            going_to (add_contour weld_height j.nvp (get_or j.regions c 0) (get_or j.codes c 0) vs (contour_flags j.numbers first n) ts s.m) (to_vertices a) (to_polygons a) b G.sound
            (omega (arith, G.spares, triangles_here)) (omega (arith, G.vertices, points_here)) (adds.add h low ts d)

      module _ {k : Contour} (ek : k ≡ contour_in j.lengths j.regions j.codes c first) where
        pub going_ready : NextReady w j.numbers g nv np j.nvp k
        going_ready = rw ek (record { stands = stands; ready = λ low. add_ready low })

        pub going_first : first + k.n ≤ length j.numbers
        going_first = rw ek (omega (arith, passed_over, lists.numbers))

        pub going_more : {u : List ℕ} {v p : ℕ} → Ok (counts v p) ≡ next_answer j.nvp j.numbers k (mesh_at w g nv np)
            → u ≡ ground_in (length w) g (next_mesh j.nvp j.numbers k (mesh_at w g nv np)) → Going w₀ g j u v p (first + k.n) (c + 1)
        going_more {u} {v} {p} a b =
            let K = contour_in j.lengths j.regions j.codes c first in
            let a' : Ok (counts v p) ≡ next_answer j.nvp j.numbers K s.m = rw (ek, mesh_is) at a in
            let b' : u ≡ ground_in (length w₀) g (next_mesh j.nvp j.numbers K s.m) = rw (ek, mesh_is, s.size) at b in
            rw ek (⊎_elim
            (λ (l : get_or j.lengths c 0 < 3). going_skip l (a' ∙ answer_skip j.nvp j.numbers K s.m l) (b' ∙ ap (ground_in (length w₀) g) (mesh_skip j.nvp j.numbers K s.m l)))
            (λ (l : 3 ≤ get_or j.lengths c 0). going_cut l (triangulate (places_in j.numbers first (get_or j.lengths c 0))) refl
            (a' ∙ answer_cut j.nvp j.numbers K s.m l) (b' ∙ ap (ground_in (length w₀) g) (mesh_cut j.nvp j.numbers K s.m l)))
            (lt_or_le (get_or j.lengths c 0) 3))

        going_none : {i : NoEar} → Err i ≡ next_answer j.nvp j.numbers k (mesh_at w g nv np) → add_all j ≡ no_ear_in c i.after
        going_none {i} a =
            let K = contour_in j.lengths j.regions j.codes c first in
            let a' : Err i ≡ next_answer j.nvp j.numbers K s.m = rw (ek, mesh_is) at a in
            s.same ∙ ⊎_elim
            (λ (l : get_or j.lengths c 0 < 3). absurd (no_skip i _ (a' ∙ answer_skip j.nvp j.numbers K s.m l)))
            (λ (l : 3 ≤ get_or j.lengths c 0). adds.none h l i.after (cut_stuck _ (triangulate (places_in j.numbers first (get_or j.lengths c 0))) i
            (a' ∙ answer_cut j.nvp j.numbers K s.m l)))
            (lt_or_le (get_or j.lengths c 0) 3)

        -- the whole buffer is wiped
        pub going_stuck : {i : NoEar} {u x : List ℕ} → Err i ≡ next_answer j.nvp j.numbers k (mesh_at w g nv np)
            → u ≡ ground_in (length w) g (next_mesh j.nvp j.numbers k (mesh_at w g nv np)) → x ≡ splice u 0 (replicate (length u) 0)
            → (Err (no_ear_of c i.after) ≡ gathered_of (add_all j)) × (x ≡ ground_in (length w₀) g (mesh_of (add_all j)))
        unfolding gathered_of mesh_of
        going_stuck {i} {u} {x} a b e =
            let d = going_none a in
            let l : length u ≡ length w = ap length b ∙ ground_size (length w) g (next_mesh j.nvp j.numbers k (mesh_at w g nv np)) in
            (rw d refl, rw d (e ∙ splice_whole u (replicate (length u) 0) (length-replicate (length u) 0) ∙ rw (l, s.size) (sym (ground_none (length w₀) g r.fits))))

    pub going_end : length j.lengths ≤ c → (Ok (counts nv np) ≡ gathered_of (add_all j)) × (w ≡ ground_in (length w₀) g (mesh_of (add_all j)))
    unfolding gathered_of mesh_of
    going_end h =
        let d : add_all j ≡ added s.m = s.same ∙ (adding_turns j c first s.m).end h in
        (rw (d, s.vertices, s.polygons) refl, rw d s.is)
