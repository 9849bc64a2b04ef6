-- One vertex in the tables: what a new one makes of the words, what a mark does, and that both together are R3 for one vertex. Each write is the rewriting
-- of one table. Assumes nothing.
use Rattle.std.specs.Prelude.{Some, None}
use Rattle.std.proofs.Common.{◌≡◌, ℕ, ◌+◌, ◌*◌, ◌<◌, ◌≤◌, true, false, eqb, ◌≢◌, List, [], ◌∷◌, ◌++◌, length, get_or, set, sym, refl, ap, ◌∙◌, ⊎_elim}
use Rattle.std.proofs.Common.{le_refl, arith, length-append, eq-eqb, ne_eqb}
use lib.ListN.{get_or-append}
use lib.Seq.{get_or_at}
use Rattle.mem.specs.Slice.{view, splice, splice_view, splice_inside, set_part}
use Rattle.mem.specs.Slice.{view_set_after, length_view}
use Rattle.mem.specs.Loops.{block_fits}
use Rattle.mem.specs.Cases.{eq_or_ne}
use Rattle.mem.specs.Shelves.{chained_put, shelved}
use Rattle.mem.specs.Chain.{nexts}
use Rattle.rules.specs.Weld.{no_vertex, bucket, highest_below, number_or, number_of, flagged, add_vertex}
use Rattle.rules.specs.declared.Vertex.{Vertex}
use Rattle.laws.proofs.Weld.{found_below}
use Rattle.records.specs.Layout.{vertex_size, mark_place, vertex_words, vertices_at, marks_at, vertex_records}
use Rattle.records.specs.Vertices.{length_vertices, length_vertex_records, length_marks, records_snoc, records_mark, words_at}
use Rattle.weld.specs.declared.find.Tables.{Tables}
use Rattle.weld.specs.Tables.{bucket_count, key_of, tabled, Room, Tabled, Added, grown, WeldedOne}
use Rattle.weld.specs.Standing.{bucket_below, holds_now, holds_of, even_now, same_room, length_tabled, vertices_now, marks_now, standing_now, tabled_again}

five : (v : Vertex) (m : ℕ) → length (vertex_words v m) ≡ vertex_size
unfolding vertex_words
five v m = refl

-- the words of a vertex with its mark set
anew : (v : Vertex) (m n : ℕ) → vertex_words v n ≡ set (vertex_words v m) mark_place n
unfolding vertex_words
anew v m n = refl

module _ (w : List ℕ) (t : Tables) (nv : ℕ) (s : Tabled w t nv) where
  vs : List Vertex
  vs = vertices_at w t.vertices nv

  ms : List ℕ
  ms = marks_at w t.vertices nv

  many : length vs ≡ nv
  unfolding vs
  many = length_vertices w t.vertices nv

  -- ---- a new vertex
  module _ (v : Vertex) (r : Room w t (nv + 1)) where
    b : ℕ
    b = bucket v.x v.z

    key_old : (j : ℕ) → j < length vs → key_of vs j ≡ key_of (vs ++ (v ∷ [])) j
    unfolding key_of
    key_old j h = rw (get_or-append vs (v ∷ []) no_vertex j h) refl

    key_new : key_of (vs ++ (v ∷ [])) (length vs) ≡ b
    unfolding key_of b
    key_new = rw (get_or_at vs v [] no_vertex (length vs) refl) refl

    in_range : key_of (vs ++ (v ∷ [])) (length vs) < bucket_count
    unfolding b
    in_range = rw key_new (bucket_below v.x v.z)

    -- the steps of `put_vertex`: h is the bucket, y the buffer once the record is stored
    pub put_steps : {h n : ℕ} {y : List ℕ} → h ≡ bucket v.x v.z → n ≡ nv + 1
        → y ≡ splice (set w (t.buckets + h) n) (t.vertices + nv * vertex_size) (vertex_words v 0)
        → set y (t.nexts + nv) (get_or w (t.buckets + h) 0)
        ≡ tabled w t (vertices_at w t.vertices nv ++ (v ∷ [])) (marks_at w t.vertices nv ++ (0 ∷ []))
    unfolding tabled vs ms b
    put_steps {h} {n} {y} eh en ey =
        let R = vertex_records vs ms in
        let l : length R ≡ nv * vertex_size = length_vertex_records vs ms ∙ ap (λ (k : ℕ). k * vertex_size) many in
        let more : length (vs ++ (v ∷ [])) ≡ nv + 1 = length-append vs (v ∷ []) ∙ ap (λ (k : ℕ). k + 1) many in
        let words : vertex_records (vs ++ (v ∷ [])) (ms ++ (0 ∷ [])) ≡ R ++ vertex_words v 0 = records_snoc vs ms v 0 (even_now w t nv) in
        let put = chained_put w t.buckets bucket_count t.vertices R t.nexts (length vs) (key_of vs) (key_of (vs ++ (v ∷ []))) (vertex_words v 0) r.buckets
        (omega (arith, r.vertices, five v 0)) (omega (arith, r.nexts, many)) key_old in_range (holds_now s).buckets
        (rw l (rw many at (holds_now s).vertices)) (holds_now s).nexts in
        let made : y ≡ splice (set w (t.buckets + b) (nv + 1)) (t.vertices + nv * vertex_size) (vertex_words v 0) = ey ∙ rw (eh, en) refl in
        rw eh (ap (λ (x : List ℕ). set x (t.nexts + nv) (get_or w (t.buckets + b) 0)) made ∙ rw (more, words) (rw (l, key_new, many) at put))

  -- ---- a mark
  module _ (k : ℕ) (h : k < nv) where
    at : ℕ
    at = t.vertices + k * vertex_size

    fits : t.vertices + nv * vertex_size ≤ length w
    fits = omega (arith, s.room.vertices, s.room.nexts)

    room : k * vertex_size + vertex_size ≤ nv * vertex_size
    room = block_fits k nv vertex_size (nv * vertex_size) h (le_refl (nv * vertex_size))

    record_marked : splice w t.vertices (vertex_records vs (set ms k 1)) ≡ set w (t.vertices + k * vertex_size + mark_place) 1
    unfolding vs ms
    record_marked =
        let e : view w t.vertices (nv * vertex_size) ≡ vertex_records vs ms = rw many at (holds_now s).vertices in
        let a = t.vertices + k * vertex_size in
        ap (splice w t.vertices) (sym (records_mark vs ms k 1 (even_now w t nv) (rw many h)) ∙ ap (λ (l : List ℕ). splice l (k * vertex_size)
        (vertex_words (get_or vs k no_vertex) 1)) (sym e))
        ∙ sym (splice_inside w t.vertices (k * vertex_size) (view w t.vertices (nv * vertex_size)) (vertex_words (get_or vs k no_vertex) 1)
        (rw (length_view w t.vertices (nv * vertex_size) fits) (omega (arith, room, five (get_or vs k no_vertex) 1))))
        ∙ ap (λ (l : List ℕ). splice l a (vertex_words (get_or vs k no_vertex) 1)) (splice_view w t.vertices (nv * vertex_size))
        ∙ ap (splice w a) (anew (get_or vs k no_vertex) (get_or ms k 0) 1 ∙ ap (λ (l : List ℕ). set l mark_place 1)
        (sym (words_at w t.vertices nv vs ms many fits e k h)))
        ∙ sym (set_part w a vertex_size mark_place 1 (omega arith) (omega (arith, room, fits)))

    pub mark_steps : set w (t.vertices + k * vertex_size + mark_place) 1 ≡ tabled w t (vertices_at w t.vertices nv) (set (marks_at w t.vertices nv) k 1)
    unfolding tabled shelved vs ms
    mark_steps =
        let a = t.vertices + k * vertex_size + mark_place in
        let x = set w a 1 in
        let e : view x t.nexts (length vs) ≡ nexts (key_of vs) (length vs) =
        view_set_after w a t.nexts (length vs) 1 (omega (arith, room, s.room.vertices)) ∙ (holds_now s).nexts in
        rw (← (holds_now s).buckets, splice_view w t.buckets bucket_count, record_marked, ← e) (sym (splice_view x t.nexts (length vs)))

  -- the mark where the flag is set
  pub flag_set : (k flag : ℕ) → k < nv → flag ≡ 1 → set w (t.vertices + k * vertex_size + mark_place) 1
      ≡ tabled w t (vertices_at w t.vertices nv) (flagged flag k (marks_at w t.vertices nv))
  unfolding flagged
  flag_set k flag h e = rw (eq-eqb flag 1 e) (mark_steps k h)

  pub flag_clear : (k flag : ℕ) → flag ≢ 1 → w ≡ tabled w t (vertices_at w t.vertices nv) (flagged flag k (marks_at w t.vertices nv))
  unfolding flagged
  flag_clear k flag e = rw (ne_eqb flag 1 e) s.is

-- ---- the number
pub added_old : (height : ℕ) (w : List ℕ) (t : Tables) (nv : ℕ) (v : Vertex) (k : ℕ) → Some k ≡ highest_below height (vertices_at w t.vertices nv) v nv
    → Added height w w t nv v k
unfolding number_of number_or
added_old height w t nv v k e =
    let h : k < nv = found_below height (vertices_at w t.vertices nv) v nv k e in
    record {
      number = rw (length_vertices w t.vertices nv, ← e) refl;
      is = rw (ne_eqb k nv (λ (q : k ≡ nv). omega arith)) refl;
      within = omega arith;
    }

pub added_new : (height : ℕ) (w : List ℕ) {u : List ℕ} (t : Tables) (nv : ℕ) (v : Vertex) → None ≡ highest_below height (vertices_at w t.vertices nv) v nv
    → u ≡ tabled w t (vertices_at w t.vertices nv ++ (v ∷ [])) (marks_at w t.vertices nv ++ (0 ∷ [])) → Added height w u t nv v nv
unfolding number_of number_or
added_new height w t nv v e p = record {
  number = rw (length_vertices w t.vertices nv, ← e) refl;
  is = rw (eq-eqb nv nv refl) p;
  within = omega arith;
}

pub grown_new : (nv k : ℕ) → k ≡ nv → nv + 1 ≡ grown nv k
unfolding grown
grown_new nv k e = rw (eq-eqb k nv e) refl

pub grown_old : (nv k : ℕ) → k ≢ nv → nv ≡ grown nv k
unfolding grown
grown_old nv k e = rw (ne_eqb k nv e) refl

-- ---- v has its number k: what stands in the tables then, and what they are once they are written again
pub record Numbered (height : ℕ) (w u : List ℕ) (t : Tables) (nv : ℕ) (v : Vertex) (flag k : ℕ) : Type 0 where
  pub now : Tabled u t (grown nv k)
  pub below : k < grown nv k
  pub welded : {y : List ℕ} → y ≡ tabled u t (vertices_at u t.vertices (grown nv k)) (flagged flag k (marks_at u t.vertices (grown nv k)))
      → WeldedOne height w y t nv v flag k

module _ (height : ℕ) (w : List ℕ) (t : Tables) (nv : ℕ) (v : Vertex) (flag : ℕ) (s : Tabled w t nv) (r : Room w t (nv + 1)) where
  old : (k : ℕ) → k ≡ number_of height (vertices_at w t.vertices nv) v → k ≤ nv → k ≢ nv → Numbered height w w t nv v flag k
  unfolding add_vertex
  old k e h d =
      let q : eqb k nv ≡ false = ne_eqb k nv d in
      let n = length_vertices w t.vertices nv in
      let g : nv ≡ grown nv k = grown_old nv k d in
      record {
        now = rw (← g) s;
        below = omega arith;
        welded = λ p. record {
          number = rw (← e) refl;
          is = rw (← e, n, q) (rw (← g) at p);
          count = rw (← e, n, q) (n ∙ g);
          within = h;
        };
      }

  new : (k : ℕ) {u : List ℕ} → k ≡ number_of height (vertices_at w t.vertices nv) v → k ≡ nv
      → u ≡ tabled w t (vertices_at w t.vertices nv ++ (v ∷ [])) (marks_at w t.vertices nv ++ (0 ∷ [])) → Numbered height w u t nv v flag k
  unfolding add_vertex
  new k {u} e d p =
      let q : eqb k nv ≡ true = eq-eqb k nv d in
      let n = length_vertices w t.vertices nv in
      let g : nv + 1 ≡ grown nv k = grown_new nv k d in
      let us = vertices_at w t.vertices nv ++ (v ∷ []) in
      let ns = marks_at w t.vertices nv ++ (0 ∷ []) in
      let m : length us ≡ nv + 1 = length-append (vertices_at w t.vertices nv) (v ∷ []) ∙ ap (λ (j : ℕ). j + 1) n in
      let l : length ns ≡ length us =
      length-append (marks_at w t.vertices nv) (0 ∷ []) ∙ ap (λ (j : ℕ). j + 1) (length_marks w t.vertices nv) ∙ sym m in
      let lu : length u ≡ length w = ap length p ∙ length_tabled w t us ns in
      let h = holds_of t us ns w p (rw m r) in
      let r' : Room u t (nv + 1) = same_room lu r in
      record {
        now = rw (← g) (standing_now t us ns h (nv + 1) m l r');
        below = omega arith;
        welded = λ {y} z.
            let z' : y ≡ tabled u t us (flagged flag k ns) = rw (← g, vertices_now t us ns h (nv + 1) m l r', marks_now t us ns h (nv + 1) m l r') at z in
            record {
              number = rw (← e) refl;
              is = rw (← e, n, q) (z' ∙ ap (λ (x : List ℕ). tabled x t us (flagged flag k ns)) p
                  ∙ tabled_again w t us us ns (flagged flag k ns) (omega arith) (rw m r));
              count = rw (← e, n, q) (m ∙ g);
              within = omega arith;
            };
      }

  pub numbered : {u : List ℕ} {k : ℕ} → Added height w u t nv v k → Numbered height w u t nv v flag k
  numbered {u} {k} a = ⊎_elim
      (λ (d : k ≡ nv). new k a.number d (rw (eq-eqb k nv d) at a.is))
      (λ (d : k ≢ nv). let q : u ≡ w = rw (ne_eqb k nv d) at a.is in rw q (old k a.number a.within d))
      (eq_or_ne k nv)
