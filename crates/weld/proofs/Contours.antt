-- All vertices of a contour: after i of them the buffer is the one at the start with the tables and numbers of R3's state after i, written in their places.
-- Assumes nothing.
use Rattle.std.proofs.Common.{◌≡◌, ℕ, ◌+◌, ◌<◌, ◌≤◌, Bool, true, false, cond, eqb, List, [], ◌∷◌, ◌++◌, length, set, sym, refl, ap, ◌∙◌, arith}
use Rattle.std.proofs.Common.{length-append, length-set}
use Rattle.mem.specs.Slice.{view, splice, splice_nil, view_same, length_splice, write_step}
use Rattle.mem.specs.Tab.{get_or_tab}
use Rattle.mem.specs.Loops.{each, each_turn, each_end}
use Rattle.rules.specs.Weld.{Welded, add_vertex, weld_one, weld_all}
use Rattle.rules.specs.Job.{vertex_at, flag_at, contour_vertices, contour_flags}
use Rattle.rules.specs.declared.Vertex.{Vertex}
use Rattle.laws.proofs.Weld.{vertex_added}
use Rattle.laws.proofs.Contours.{length_contour, get_or_contour}
use Rattle.records.specs.Layout.{vertices_at, marks_at}
use Rattle.records.specs.Vertices.{length_vertices}
use Rattle.weld.specs.declared.find.Tables.{Tables}
use Rattle.weld.specs.Tables.{tabled, welded_words, Room, Tabled, standing, grown, WeldedOne, WeldReady, weld_of, WeldedTo}
use Rattle.weld.specs.Standing.{Holds, holds_of, holds_past, even_now, same_room, less_room, length_tabled, vertices_now, marks_now, standing_now}
use Rattle.weld.specs.Standing.{tabled_again, tabled_past}

grown_most : (m k : ℕ) → grown m k ≤ m + 1
unfolding grown
grown_most m k = go (eqb k m)
  where
    go : (t : Bool) → cond t (m + 1) m ≤ m + 1
    go true = omega arith
    go false = omega arith

grown_least : (m k : ℕ) → m ≤ grown m k
unfolding grown
grown_least m k = go (eqb k m)
  where
    go : (t : Bool) → m ≤ cond t (m + 1) m
    go true = omega arith
    go false = omega arith

-- s is the state after i vertices, m of them in the mesh
pub record Going (height : ℕ) (w₀ ns : List ℕ) (t : Tables) (nv ko first n : ℕ) (w : List ℕ) (m i : ℕ) : Type 0 where
  pub s : Welded
  pub within : i ≤ n
  pub size : length w ≡ length w₀
  pub count : length s.vertices ≡ m
  pub even : length s.marks ≡ length s.vertices
  pub listed : length s.numbers ≡ i
  pub grew : m ≤ nv + i
  pub is : w ≡ welded_words w₀ t ko s
  pub same : weld_of height w₀ ns t nv first n ≡ each (weld_one height (contour_vertices ns first n) (contour_flags ns first n)) i n s

module _ (height : ℕ) (w₀ ns : List ℕ) (t : Tables) (nv ko first n : ℕ) (ready : WeldReady w₀ ns t nv ko first n) where
  pub going_begin : Going height w₀ ns t nv ko first n w₀ nv 0
  unfolding weld_of weld_all welded_words
  going_begin = record {
    s = standing w₀ t nv;
    within = omega arith;
    size = refl;
    count = length_vertices w₀ t.vertices nv;
    even = even_now w₀ t nv;
    listed = refl;
    grew = omega arith;
    is = ready.now.is ∙ sym (splice_nil (tabled w₀ t (vertices_at w₀ t.vertices nv) (marks_at w₀ t.vertices nv)) ko);
    same = rw (length_contour ns first n) refl;
  }

  module _ {w : List ℕ} {m i : ℕ} (g : Going height w₀ ns t nv ko first n w m i) where
    room₀ : Room w₀ t (length g.s.vertices)
    room₀ = less_room (omega (arith, g.count, g.grew, g.within)) ready.room

    holds : Holds w t g.s.vertices g.s.marks
    unfolding welded_words
    holds =
        let x = tabled w₀ t g.s.vertices g.s.marks in
        rw g.is (holds_past x t g.s.vertices g.s.marks ko g.s.numbers (same_room (length_tabled w₀ t g.s.vertices g.s.marks) room₀)
        (omega (arith, g.count, g.grew, g.within, ready.behind)) (holds_of t g.s.vertices g.s.marks w₀ refl room₀))

    room : Room w t m
    room = same_room g.size (rw g.count at room₀)

    pub going_now : Tabled w t m
    going_now = standing_now t g.s.vertices g.s.marks holds m g.count g.even room

    pub going_room : i < n → Room w t (m + 1)
    going_room h = same_room g.size (less_room (omega (arith, g.grew)) ready.room)

    vertices : vertices_at w t.vertices m ≡ g.s.vertices
    vertices = vertices_now t g.s.vertices g.s.marks holds m g.count g.even room

    marks : marks_at w t.vertices m ≡ g.s.marks
    marks = marks_now t g.s.vertices g.s.marks holds m g.count g.even room

    -- one more vertex: v with its flag took the number k, which is stored
    module _ (v : Vertex) (flag k : ℕ) {y : List ℕ} (one : WeldedOne height w y t m v flag k) (h : i < n) where
      next : Welded
      next = add_vertex height v flag g.s

      next_vertices : (add_vertex height v flag (standing w t m)).vertices ≡ next.vertices
      unfolding next add_vertex
      next_vertices = rw (vertices) refl

      next_marks : (add_vertex height v flag (standing w t m)).marks ≡ next.marks
      unfolding next add_vertex
      next_marks = rw (vertices, marks) refl

      next_numbers : next.numbers ≡ g.s.numbers ++ (k ∷ [])
      unfolding next add_vertex
      next_numbers = ap (λ (l : List ℕ). g.s.numbers ++ l) (rw (vertices) at one.number)

      next_count : length next.vertices ≡ grown m k
      next_count = ap length (sym next_vertices) ∙ one.count

      next_room : Room w₀ t (length next.vertices)
      next_room = less_room (omega (arith, next_count, grown_most m k, g.grew)) ready.room

      next_words : y ≡ splice (tabled w₀ t next.vertices next.marks) ko g.s.numbers
      unfolding welded_words
      next_words =
          let x = tabled w₀ t g.s.vertices g.s.marks in
          one.is ∙ ap (λ (l : List Vertex). tabled w t l (add_vertex height v flag (standing w t m)).marks) next_vertices
          ∙ ap (tabled w t next.vertices) next_marks
          ∙ ap (λ (l : List ℕ). tabled l t next.vertices next.marks) g.is
          ∙ tabled_past x t next.vertices next.marks ko g.s.numbers (same_room (length_tabled w₀ t g.s.vertices g.s.marks) next_room)
          (omega (arith, next_count, grown_most m k, g.grew, ready.behind))
          ∙ ap (λ (l : List ℕ). splice l ko g.s.numbers)
          (tabled_again w₀ t g.s.vertices next.vertices g.s.marks next.marks (omega (arith, next_count, g.count, grown_least m k)) next_room)

      pub going_more : {q r : ℕ} → q ≡ k → r ≡ grown m k → v ≡ vertex_at ns (first + i) → flag ≡ flag_at ns (first + i)
          → Going height w₀ ns t nv ko first n (set y (ko + i) q) r (i + 1)
      unfolding welded_words weld_one contour_flags next
      going_more {q} {r} eq er ev ef = record {
        s = next;
        within = omega arith;
        size =
            length-set y (ko + i) q ∙ ap length next_words ∙ length_splice (tabled w₀ t next.vertices next.marks) ko g.s.numbers
            ∙ length_tabled w₀ t next.vertices next.marks;
        count = next_count ∙ sym er;
        even = (vertex_added height v flag g.s).marked g.even;
        listed = ap length next_numbers ∙ length-append g.s.numbers (k ∷ []) ∙ ap (λ (j : ℕ). j + 1) g.listed;
        grew = omega (arith, grown_most m k, g.grew);
        is = rw (eq, next_numbers) (write_step (tabled w₀ t next.vertices next.marks) ko i g.s.numbers k next_words g.listed);
        same =
            g.same ∙ each_turn (weld_one height (contour_vertices ns first n) (contour_flags ns first n)) i n g.s h
            ∙ ap (each (weld_one height (contour_vertices ns first n) (contour_flags ns first n)) (i + 1) n)
            (rw (get_or_contour ns first n i h, get_or_tab (λ j. flag_at ns (first + j)) n i 0 h, ← ev, ← ef) refl);
      }

    pub going_end : n ≤ i → WeldedTo height w₀ w ns t nv ko first n m
    unfolding welded_words
    going_end h =
        let e : i ≡ n = omega (arith, g.within) in
        let d : weld_of height w₀ ns t nv first n ≡ g.s = g.same ∙ each_end (weld_one height (contour_vertices ns first n) (contour_flags ns first n))
        i n g.s h in
        let x = tabled w₀ t g.s.vertices g.s.marks in
        record {
          count = rw d (sym g.count);
          is = rw d g.is;
          grew = omega (arith, g.grew);
          now = going_now;
          vertices = rw d vertices;
          marks = rw d marks;
          numbers = rw d (ap (λ (l : List ℕ). view l ko n) g.is
              ∙ view_same x ko n g.s.numbers (g.listed ∙ e) (omega (arith, length_tabled w₀ t g.s.vertices g.s.marks, ready.numbers)));
        }
