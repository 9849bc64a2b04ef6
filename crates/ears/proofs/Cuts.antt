-- Ears are cut one after the other: what a turn comes to, what the loop keeps, and how the triangles in the buffer are those of the rules.
-- Assumes nothing.
use Rattle.std.specs.Prelude.{Option, Some, None, is_some, Result, Ok, Err}
use Rattle.std.proofs.lemmas.Bool.{false≢true}
use mathlib.Core.Path.{◌≡◌, refl, sym, ap, ◌∙◌}
use mathlib.Core.Bool.{true, false}
use mathlib.Core.List.{List, [], ◌∷◌, ◌++◌, append-nil}
use Prim.Native.Nat.{ℕ, ◌+◌, ◌-◌, ◌*◌, ◌≤◌, ◌<◌}
use native.Mathlib.Omega.{arith}
use lib.ListN.{length, take, drop, replicate, length-append, length-replicate, length-drop, drop_of_length-le}
use lib.Seq.{take_all, length-take-le}
use Rattle.mem.specs.Slice.{view, splice, length_splice, take_splice, view_before, length_view, splice_eq}
use Rattle.mem.specs.Tab.{tab, blocks, length_blocks, blocks_before, blocks_push}
use Rattle.mem.specs.Packed.{repacked}
use Rattle.rules.specs.declared.Ear.{Ear}
use Rattle.rules.specs.Ears.{indices, mark_all, find_ear, triangle_at, cut_ear, done, stuck, triangulate}
use Rattle.rules.specs.Fuel.{cutting}
use Rattle.laws.proofs.Ears.{ear_in, length_cut, length_indices, length_marked}
use Rattle.laws.proofs.CutTurns.{triangles_counted}
use Rattle.laws.proofs.Fuel.{cutting_turns, cut_from_the_start}
use Rattle.plane.specs.Points.{points_in}
use Rattle.ears.specs.Part.{points_of, Laid, no_ear, answer_of, cut_in, Ready}
use Rattle.ears.specs.Turn.{cut_once, ears_at, AllCut}
use Rattle.ears.specs.declared.cut.NoEar.{NoEar}
use Rattle.ears.proofs.Rings.{length_points, ring_cut, ring_marked, ring_indices}
use Rattle.ears.proofs.Parts.{put_front, put_words, put_ready, only_front, only_words, only_ready}

-- ---- one turn: e is the ear, u the buffer with its triangle, and x the buffer without it
module _ (w : List ℕ) (a m t : ℕ) {o : Option Ear} (r : Ready a m w) (p : o ≡ find_ear (points_in (take a w)) (view w a m)) where
  pub ear_place : (e : Ear) → o ≡ Some e → e.at < m
  ear_place e q =
      let h = ear_in (points_in (take a w)) (view w a m) e (sym p ∙ q) in
      omega (arith, h, length_view w a m r.room)

  pub turned : {u x : List ℕ} (e : Ear) → a + m ≤ t → o ≡ Some e → u ≡ splice w t (triangle_at (view w a m) e.at)
      → x ≡ splice u a (cut_ear (points_in (take a u)) e.at (view u a m) ++ (0 ∷ [])) → x ≡ cut_once a m t w
  unfolding cut_once
  turned {u} {x} e h q f g =
      let s = take_splice w t a (triangle_at (view w a m) e.at) (omega arith) in
      let v = view_before w t a m (triangle_at (view w a m) e.at) h in
      rw (← p, q, cut_once) (rw (f, s, v) at g)

  pub still : o ≡ None → w ≡ cut_once a m t w
  unfolding cut_once
  still q = rw (← p, q, cut_once) refl

-- words are written past the index words
pub far_ready : (w : List ℕ) {u : List ℕ} (a m t : ℕ) (xs : List ℕ) → Ready a m w → a + m ≤ t → u ≡ splice w t xs → Ready a m u
far_ready w a m t xs r h e =
    rw e (record {
      ring = rw (take_splice w t a xs (omega arith), view_before w t a m xs h) r.ring;
      room = rw length_splice r.room;
    })

-- ---- the loop: v is the buffer where it begins, with n index words behind a words of points; w is the buffer now, with m of them left, and count
-- triangles stand behind the n
pub record Cuts (a n : ℕ) (v w : List ℕ) (m count : ℕ) : Type 0 where
  pub ready : Ready a m w
  pub long : length w ≡ length v
  pub front : take a w ≡ take a v
  pub least : 3 ≤ m
  pub whole : m + count ≡ n
  pub rest : cutting (points_in (take a v)) (view v a n) [] ≡ cutting (points_in (take a w)) (view w a m) (blocks (λ t. t) w (a + n) 3 count)

pub cuts_none : {a n : ℕ} {v : List ℕ} → Ready a n v → 3 ≤ n → Cuts a n v v n 0
unfolding blocks tab
cuts_none r h = record { ready = r; long = refl; front = refl; least = h; whole = omega arith; rest = refl }

cut_words_lem : (a m t : ℕ) (w : List ℕ) (e : Ear) → find_ear (points_in (take a w)) (view w a m) ≡ Some e
    → cut_once a m t w ≡ splice (splice w t (triangle_at (view w a m) e.at)) a (cut_ear (points_in (take a w)) e.at (view w a m) ++ (0 ∷ []))
unfolding cut_once
cut_words_lem a m t w e q = rw (q, cut_once) refl

three : (ws : List ℕ) (i : ℕ) → length (triangle_at ws i) ≡ 3
unfolding triangle_at
three ws i = refl

-- a triangle is put behind the others, and then words before all of them
out_more : (w xs tri : List ℕ) (a o count : ℕ) → length tri ≡ 3 → a + length xs ≤ o → o + count * 3 + 3 ≤ length w
    → blocks (λ t. t) (splice (splice w (o + count * 3) tri) a xs) o 3 (count + 1) ≡ blocks (λ t. t) w o 3 count ++ (tri ∷ [])
out_more w xs tri a o count e h f =
    blocks_before (λ t. t) (splice w (o + count * 3) tri) a o 3 (count + 1) xs h ∙ blocks_push (λ t. t) w o 3 count tri e f

module _ {a n : ℕ} {v w : List ℕ} {m count : ℕ} (s : Cuts a n v w m count) (room : a + n + (n - 2) * 3 ≤ length v) where
  -- one more
  cuts_on : {x : List ℕ} (e : Ear) → 3 < m → find_ear (points_in (take a w)) (view w a m) ≡ Some e → x ≡ cut_once a m (a + n + count * 3) w
      → Cuts a n v x (m - 1) (count + 1)
  cuts_on {x} ear h q e =
      let ps = points_in (take a w) in
      let ws = view w a m in
      let i = ear.at in
      let t = a + n + count * 3 in
      let u = splice w t (triangle_at ws i) in
      let r = s.ready in
      let l = s.long in
      let k = s.whole in
      let size = length_view w a m r.room in
      let cut : length (cut_ear ps i ws) ≡ m - 1 = omega (arith, length_cut ps i ws (omega arith)) in
      let both = length-append (cut_ear ps i ws) (0 ∷ []) in
      let wide = length_splice w t (triangle_at ws i) in
      let fits : a + (m - 1) ≤ length u = omega (arith, r.room) in
      let f : x ≡ splice u a (cut_ear ps i ws ++ (0 ∷ [])) = e ∙ cut_words_lem a m t w ear q in
      let same : take a u ≡ take a w = take_splice w t a (triangle_at ws i) (omega arith) in
      let first : take a x ≡ take a w = put_front u a (m - 1) (cut_ear ps i ws) (0 ∷ []) f cut fits ∙ same in
      let out : blocks (λ t. t) x (a + n) 3 (count + 1) ≡ blocks (λ t. t) w (a + n) 3 count ++ (triangle_at ws i ∷ []) = rw f
      (out_more w (cut_ear ps i ws ++ (0 ∷ [])) (triangle_at ws i) a (a + n) count (three ws i) (omega arith) (omega arith)) in
      record {
        ready = put_ready u a (m - 1) (cut_ear ps i ws) (0 ∷ []) f cut fits (rw same (ring_cut ps i r.ring));
        long = ap length f ∙ length_splice u a (cut_ear ps i ws ++ (0 ∷ [])) ∙ wide ∙ l;
        front = first ∙ s.front;
        least = omega arith;
        whole = omega arith;
        rest =
            rw (first, put_words u a (m - 1) (cut_ear ps i ws) (0 ∷ []) f cut fits, out)
            (s.rest ∙ (cutting_turns ps ws (blocks (λ t. t) w (a + n) 3 count)).cut ear (omega arith) q);
      }

  pub cuts_more : {x : List ℕ} → 3 < m → is_some (find_ear (points_in (take a w)) (view w a m)) ≡ true → x ≡ cut_once a m (a + n + count * 3) w
      → Cuts a n v x (m - 1) (count + 1)
  cuts_more {x} h q e =
      (elim (find_ear (points_in (take a w)) (view w a m)) as
      (λ (o : Option Ear). find_ear (points_in (take a w)) (view w a m) ≡ o → is_some o ≡ true → Cuts a n v x (m - 1) (count + 1)) [
        | Some ear ↦ λ p t. cuts_on ear h p e
        | None ↦ λ p t. absurd (false≢true t)
      ]) refl q

  -- no ear
  cuts_off : {x : List ℕ} → 3 < m → find_ear (points_in (take a w)) (view w a m) ≡ None → x ≡ cut_once a m (a + n + count * 3) w
      → AllCut a n v x (Err (no_ear count))
  unfolding cut_once ears_at
  cuts_off {x} h q e =
      let f : x ≡ w = e ∙ rw (q, cut_once) refl in
      let size = length_view w a m s.ready.room in
      record {
        answer =
            s.rest
            ∙ (cutting_turns (points_in (take a w)) (view w a m) (blocks (λ t. t) w (a + n) 3 count)).none (omega arith) q
            ∙ ap stuck (length_blocks (λ t. t) w (a + n) 3 count);
        front = ap (take a) f ∙ s.front;
      }

  pub cuts_stuck : {x : List ℕ} → 3 < m → is_some (find_ear (points_in (take a w)) (view w a m)) ≡ false → x ≡ cut_once a m (a + n + count * 3) w
      → AllCut a n v x (Err (no_ear count))
  cuts_stuck {x} h q e =
      (elim (find_ear (points_in (take a w)) (view w a m)) as
      (λ (o : Option Ear). find_ear (points_in (take a w)) (view w a m) ≡ o → is_some o ≡ false → AllCut a n v x (Err (no_ear count))) [
        | Some ear ↦ λ p t. absurd (false≢true (sym t))
        | None ↦ λ p t. cuts_off h p e
      ]) refl q

  -- the last three
  pub cuts_done : {x : List ℕ} → m ≤ 3 → x ≡ splice w (a + n + count * 3) (triangle_at (view w a 3) 0) → AllCut a n v x (Ok (count + 1))
  unfolding ears_at
  cuts_done {x} h e =
      let l = s.long in
      let k = s.whole in
      let g = s.least in
      let three-left : m ≡ 3 = omega arith in
      let size = length_view w a m s.ready.room in
      record {
        answer =
            s.rest
            ∙ (cutting_turns (points_in (take a w)) (view w a m) (blocks (λ t. t) w (a + n) 3 count)).last (omega arith)
            ∙ ap done (rw (e, three-left) (sym (blocks_push (λ t. t) w (a + n) 3 count (triangle_at (view w a 3) 0) (three _ 0) (omega arith))));
        front = ap (take a) e ∙ take_splice w (a + n + count * 3) a (triangle_at (view w a 3) 0) (omega arith) ∙ s.front;
      }

-- ---- what is read from the buffer
read_answer : (o : ℕ) (w : List ℕ) (r : Result ℕ NoEar) → answer_of (ears_at o w r) ≡ r
unfolding answer_of ears_at
read_answer o w (Ok k) = ap Ok (length_blocks (λ t. t) w o 3 k)
read_answer o w (Err e) = refl

-- ---- the whole: n points are laid into v; in w their numbers stand behind them, in x these are marked, in y the cutting is done, and u is the end
module _ (n : ℕ) (v : List ℕ) {w : List ℕ} (laid : Laid n v) (e : w ≡ splice v (n * 2) (indices n)) where
  room : n * 2 + n ≤ length v
  room = omega (arith, laid.some, laid.size)

  numbers : length (points_of n v) ≡ n
  numbers = length_points (take (n * 2) v) ∙ rw (length-take-le (n * 2) v (omega (arith, room))) (omega arith)

  pub counted_ready : Ready (n * 2) n w
  counted_ready =
      let k = length-take-le (n * 2) v (omega (arith, room)) in
      only_ready v (n * 2) n (indices n) e (length_indices n) room (ring_indices n laid.grid laid.few (omega arith))

  front : take (n * 2) w ≡ take (n * 2) v
  front = only_front v (n * 2) n (indices n) e (length_indices n) room

  words : view w (n * 2) n ≡ indices n
  words = only_words v (n * 2) n (indices n) e (length_indices n) room

  module _ {x : List ℕ} (f : x ≡ splice w (n * 2) (mark_all (points_in (take (n * 2) w)) (view w (n * 2) n))) where
    as_many : length (mark_all (points_in (take (n * 2) w)) (view w (n * 2) n)) ≡ n
    as_many = length_marked (points_in (take (n * 2) w)) (view w (n * 2) n) ∙ length_view w (n * 2) n counted_ready.room

    pub marked_ready : Ready (n * 2) n x
    marked_ready =
        only_ready w (n * 2) n (mark_all (points_in (take (n * 2) w)) (view w (n * 2) n)) f as_many counted_ready.room
        (ring_marked (points_in (take (n * 2) w)) counted_ready.ring)

    first : take (n * 2) x ≡ take (n * 2) v
    first = only_front w (n * 2) n (mark_all (points_in (take (n * 2) w)) (view w (n * 2) n)) f as_many counted_ready.room ∙ front

    marked : view x (n * 2) n ≡ mark_all (points_of n v) (indices n)
    marked =
        only_words w (n * 2) n (mark_all (points_in (take (n * 2) w)) (view w (n * 2) n)) f as_many counted_ready.room ∙ rw (front, words) refl

    module _ {y : List ℕ} {r : Result ℕ NoEar} (c : AllCut (n * 2) n x y r) where
      -- what is read from the buffer is what the rules say
      whole : triangulate (points_of n v) ≡ ears_at (n * 2 + n) y r
      whole = cut_from_the_start (points_of n v) ∙ rw numbers (rw (first, marked) at c.answer)

      pub answered : r ≡ answer_of (triangulate (points_of n v))
      answered = sym (read_answer (n * 2 + n) y r) ∙ ap answer_of (sym whole)

      start : take (n * 2) y ≡ take (n * 2) v
      start = c.front ∙ first

      -- the index words are wiped: behind them stand the triangles, and nothing more
      pub done_words : {u : List ℕ} {k : ℕ} → r ≡ Ok k → length y ≡ length v → u ≡ splice y (n * 2) (replicate n 0)
          → u ≡ cut_in n v (triangulate (points_of n v))
      unfolding cut_in ears_at
      done_words {u} {k} q l g =
          let ts = blocks (λ t. t) y (n * 2 + n) 3 k in
          let t : triangulate (points_of n v) ≡ done ts = whole ∙ ap (ears_at (n * 2 + n) y) q in
          let z = length-replicate {A = ℕ} n 0 in
          let m = laid.some in
          let size = laid.size in
          let number = numbers in
          let count = triangles_counted (points_of n v) ts (omega arith) t in
          let some : k ≡ n - 2 = omega (arith, length_blocks (λ t. t) y (n * 2 + n) 3 k) in
          let all : view y (n * 2 + n) (k * 3) ≡ drop (n * 2 + n) y = take_all (k * 3) (drop (n * 2 + n) y) (rw length-drop (omega arith)) in
          rw (t, repacked (λ t. t) (λ t. t) 3 (λ ws h. refl) y (n * 2 + n) k (omega arith), all) (g ∙ splice_eq y (n * 2) (replicate n 0) (omega arith) ∙ rw (z, start) refl)

      -- all behind the points is wiped
      pub stuck_words : {u : List ℕ} {k : NoEar} → r ≡ Err k → length y ≡ length v → u ≡ splice y (n * 2) (replicate (length y - n * 2) 0)
          → u ≡ cut_in n v (triangulate (points_of n v))
      unfolding cut_in ears_at
      stuck_words {u} {k} q l g =
          let t : triangulate (points_of n v) ≡ stuck k.after = whole ∙ ap (ears_at (n * 2 + n) y) q in
          let zeros : List ℕ = replicate (n + (n - 2) * 3) 0 in
          let z = length-replicate {A = ℕ} (n + (n - 2) * 3) 0 in
          let m = laid.some in
          let size = laid.size in
          let rest : length y - n * 2 ≡ n + (n - 2) * 3 = omega arith in
          rw t (g ∙ rw rest (splice_eq y (n * 2) zeros (omega arith)
          ∙ rw (drop_of_length-le y {i = n * 2 + length zeros} (omega arith), append-nil zeros, start) refl))
