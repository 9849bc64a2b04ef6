-- Request 12, as it is called: the doubled area of the job that stands in the buffers after the call is what it was. Assumes nothing.
-- Key: `mend_keeps_job_area`, the statement of `rules`; `kept_vertices`: the words of the points that are kept are read as these points.
use Rattle.std.specs.Prelude.{ℕ, ◌+◌, ◌*◌, ◌≡◌, Bool, List, [], ◌∷◌, ◌++◌, map, length, replicate, ◌+ℤ◌}
use Rattle.std.proofs.Common.{arith, sym, ◌∙◌, ap, ap₂, append_assoc}
use Rattle.std.proofs.Math.Path.{refl}
use Rattle.std.proofs.Math.Bool.{true, false}
use Rattle.std.proofs.lemmas.Simd.{map-map}
use Rattle.std.proofs.Math.ListN.{length-append}
use Rattle.std.proofs.Math.Seq.{get_or-append-add, get_or-append_seam}
use Rattle.mem.specs.Packed.{every_of, packed, length_packed}
use Rattle.mem.specs.Tab.{tab, tab_cons, tab_cong}
use Rattle.rules.specs.Plane.{on_plane, area}
use Rattle.rules.specs.Job.{job_stride, vertex_at, flag_at, contour_vertices}
use Rattle.rules.specs.Areas.{contour_areas}
use Rattle.rules.specs.Mend.{Traced, no_traced, traced, stands_at, trace_places, Mending, mended}
use Rattle.rules.specs.MendCall.{MendLent, traced_from, mended_job, kept_lengths, lost_numbers, traced_words, kept_words}
use Rattle.rules.specs.MendCall.{MendOutcome, notWhole, lengthsDisagree, shortScratch, listFull, mends}
use Rattle.rules.specs.MendCall.{are_whole, lengths_agree, is_short_scratch, is_list_full, mend_outcome, mended_numbers, mend_exit_of, mend_exit, MendKeepsJobArea}
use Rattle.laws.proofs.Lists.{map_tab}
use Rattle.laws.proofs.Mend.{mend_keeps_area}

-- ---- the vertices of a contour

-- as they are traced
traced_places : (ns : List ℕ) (first n : ℕ) → map on_plane (contour_vertices ns first n) ≡ trace_places (traced ns first n)
unfolding contour_vertices trace_places traced
traced_places ns first n = map_tab on_plane (λ k. vertex_at ns (first + k)) n
    ∙ sym (map_tab stands_at (λ k. record { number = first + k; vertex = vertex_at ns (first + k); flag = flag_at ns (first + k) }) n)

-- as they are read from the words of points: the words p come first, which are those of `first` vertices, and others come behind
module _ (p : List ℕ) (first : ℕ) (e : length p ≡ first * job_stride) where
  kept_vertex : (t : Traced) (q : List ℕ) → vertex_at (p ++ (traced_words t ++ q)) first ≡ t.vertex
  unfolding vertex_at traced_words
  kept_vertex t q = rw (← e, get_or-append-add p (traced_words t ++ q) 1 0, get_or-append-add p (traced_words t ++ q) 2 0, get_or-append_seam p) refl

  one_more : (t : Traced) → length (p ++ traced_words t) ≡ (first + 1) * job_stride
  unfolding traced_words
  one_more t = omega (arith, length-append p (traced_words t))

pub kept_vertices : (p : List ℕ) (first : ℕ) (ps : List Traced) (q : List ℕ) → length p ≡ first * job_stride
    → contour_vertices (p ++ (packed traced_words ps ++ q)) first (length ps) ≡ map (λ t. t.vertex) ps
unfolding contour_vertices packed tab
kept_vertices p first [] q e = refl
kept_vertices p first (t ∷ ps) q e =
    let w = traced_words t in
    let rest = packed traced_words ps ++ q in
    let z : first + 0 ≡ first = omega arith in
    ap (λ (l : List ℕ). tab (λ k. vertex_at (p ++ l) (first + k)) (length (t ∷ ps))) (append_assoc w (packed traced_words ps) q)
    ∙ tab_cons (λ k. vertex_at (p ++ (w ++ rest)) (first + k)) (length ps)
    ∙ ap₂ ◌∷◌ (ap (vertex_at (p ++ (w ++ rest))) z ∙ kept_vertex p first e t rest)
    (tab_cong _ _ (length ps) (λ i h. ap₂ vertex_at (sym (append_assoc p w rest)) (omega arith))
    ∙ kept_vertices (p ++ w) (first + 1) ps q (one_more p first e t))

kept_places : (p : List ℕ) (first : ℕ) (ps : List Traced) (q : List ℕ) → length p ≡ first * job_stride
    → map on_plane (contour_vertices (p ++ (packed traced_words ps ++ q)) first (length ps)) ≡ trace_places ps
unfolding trace_places
kept_places p first ps q e = ap (map on_plane) (kept_vertices p first ps q e) ∙ map-map on_plane (λ t. t.vertex) ps

length_words : (ps : List Traced) → length (packed traced_words ps) ≡ length ps * job_stride
unfolding traced_words
length_words ps = length_packed traced_words job_stride (λ t. Unit {0}) no_traced (λ t h. refl) ps (every_of (λ t. Unit {0}) no_traced ps (λ i. tt))

-- ---- all contours, from the vertex `first` on
abbrev mended_from : List ℕ → ℕ → List ℕ → List Mending
mended_from ns first ls = map mended (traced_from ns first ls)

-- behind the words p, which are those of `at` vertices, the mended ones have the area that they had
areas_kept : (p : List ℕ) (at : ℕ) (ns : List ℕ) (first : ℕ) (ls : List ℕ) (q : List ℕ) → length p ≡ at * job_stride
    → contour_areas (p ++ (kept_words (mended_from ns first ls) ++ q)) at (kept_lengths (mended_from ns first ls)) ≡ contour_areas ns first ls
unfolding contour_areas kept_words kept_lengths traced_from packed
areas_kept p at ns first [] q e = refl
areas_kept p at ns first (n ∷ ls) q e =
    let ps = (mended (traced ns first n)).points in
    let w = packed traced_words ps in
    let ms = mended_from ns (first + n) ls in
    let rest = kept_words ms ++ q in
    ap (λ (l : List ℕ). contour_areas (p ++ l) at (length ps ∷ kept_lengths ms)) (append_assoc w (kept_words ms) q)
    ∙ ap₂ ◌+ℤ◌
    (ap area (kept_places p at ps rest e) ∙ mend_keeps_area (traced ns first n) ∙ ap area (sym (traced_places ns first n)))
    (ap (λ (l : List ℕ). contour_areas l (at + length ps) (kept_lengths ms)) (sym (append_assoc p w rest))
    ∙ areas_kept (p ++ w) (at + length ps) ns (first + n) ls q (omega (arith, length-append p w, length_words ps)))

-- ---- the call: what holds of each refusal, and of the mended job, holds of what it comes to
module _ (P : MendOutcome → Type 0) (b : MendLent) where
  outcome_ind : P notWhole → P lengthsDisagree → P shortScratch → P listFull → P (mends (mended_job b.lengths b.numbers)) → P (mend_outcome b)
  unfolding mend_outcome
  outcome_ind w d s f m = go (are_whole b.numbers) (lengths_agree b.lengths b.numbers) (is_short_scratch b) (is_list_full b)
    where
      go : (i j k l : Bool) → P (elim i [
        | false ↦ notWhole
        | true ↦ elim j [
          | false ↦ lengthsDisagree
          | true ↦ elim k [ true ↦ shortScratch | false ↦ elim l [ true ↦ listFull | false ↦ mends (mended_job b.lengths b.numbers) ] ]
        ]
      ])
      go false j k l = w
      go true false k l = d
      go true true true l = s
      go true true false true = f
      go true true false false = m

pub mend_keeps_job_area : MendKeepsJobArea
unfolding mend_exit mend_exit_of mended_numbers mended_job
mend_keeps_job_area b =
    outcome_ind (λ (o : MendOutcome). contour_areas (mend_exit_of b o).numbers 0 (mend_exit_of b o).lengths ≡ contour_areas b.numbers 0 b.lengths) b
    refl refl refl refl
    (areas_kept [] 0 b.numbers 0 b.lengths (replicate (length (lost_numbers (mended_job b.lengths b.numbers)) * job_stride) 0) refl)
