-- A part of the work buffer: what stands in it once words are written behind the points, that it is then ready again, and what each function that
-- writes comes to. Assumes nothing.
use mathlib.Core.Path.{◌≡◌, refl, sym, ap, ◌∙◌}
use mathlib.Core.Bool.{Bool, cond}
use mathlib.Core.List.{List, [], ◌∷◌, ◌++◌, append-nil, append_assoc}
use Prim.Native.Nat.{ℕ, ◌+◌, ◌-◌, ◌≤◌, ◌<◌}
use native.Mathlib.Omega.{arith}
use lib.Dec.{ltb}
use lib.ListN.{length, take, drop, get_or, set, length-append, length-set, length-drop, drop_of_length-le}
use lib.Seq.{take_all}
use Rattle.std.specs.List.{copy_within}
use Rattle.mem.specs.Slice.{view, splice, set_part, set_each, stored_each, length_splice, splice_view, splice_append, splice_over, splice_eq}
use Rattle.mem.specs.Slice.{splice_nil, take_splice, view_before, view_same, view_snoc, length_view, get_or_view, get_or_splice_above, write_step}
use Rattle.mem.specs.Packed.{splice_first}
use Rattle.mem.specs.Loops.{Doing, doing_more, doing_end}
use Rattle.rules.specs.Lists.{next, prev, without}
use Rattle.rules.specs.Diagonal.{is_diagonal}
use Rattle.rules.specs.Ears.{index_of, point_at, with_mark, remark, mark_from, mark_all, remark_gap, triangle_at, cut_ear}
use Rattle.rules.specs.declared.Kind.TheVariants.{Strict}
use Rattle.laws.proofs.Lists.{length_without}
use Rattle.laws.proofs.Ring.{next_below}
use Rattle.plane.specs.Points.{points_in}
use Rattle.ears.specs.Ring.{Ring}
use Rattle.ears.specs.Part.{Ready}
use Rattle.ears.proofs.Rings.{ring_remark, ring_without, length_remark, length_gap}

-- ---- words are written behind the a words of points: m of them, xs, and some more, ys
module _ (v : List ℕ) {w : List ℕ} (a m : ℕ) (xs ys : List ℕ) (e : w ≡ splice v a (xs ++ ys)) (n : length xs ≡ m) (fits : a + m ≤ length v) where
  pub put_front : take a w ≡ take a v
  put_front = ap (take a) e ∙ take_splice v a a (xs ++ ys) (omega arith)

  pub put_words : view w a m ≡ xs
  put_words =
      ap (λ (l : List ℕ). view l a m) (e ∙ sym (splice_append v a xs ys))
      ∙ view_before (splice v a xs) (a + length xs) a m ys (omega arith) ∙ view_same v a m xs n fits

  pub put_ready : Ring (take a v) xs → Ready a m w
  put_ready r = record { ring = rw (put_front, put_words) r; room = rw (e, length_splice) fits }

  -- and then other words in the place of the first m
  pub put_again : {u : List ℕ} (g : List ℕ → List ℕ → List ℕ) → length (g (take a v) xs) ≡ m
      → u ≡ splice w a (g (take a w) (view w a m)) → u ≡ splice v a (g (take a v) xs ++ ys)
  put_again g k q =
      q ∙ ap (λ (l : List ℕ). splice w a (g l (view w a m))) put_front ∙ ap (λ (l : List ℕ). splice w a (g (take a v) l)) put_words
      ∙ ap (λ (l : List ℕ). splice l a (g (take a v) xs)) e ∙ splice_first v a xs ys (g (take a v) xs) (k ∙ sym n)

-- the m words alone
module _ (v : List ℕ) {w : List ℕ} (a m : ℕ) (xs : List ℕ) (e : w ≡ splice v a xs) (n : length xs ≡ m) (fits : a + m ≤ length v) where
  alone : w ≡ splice v a (xs ++ [])
  alone = e ∙ ap (splice v a) (sym (append-nil xs))

  pub only_front : take a w ≡ take a v
  only_front = put_front v a m xs [] alone n fits

  pub only_words : view w a m ≡ xs
  only_words = put_words v a m xs [] alone n fits

  pub only_ready : Ring (take a v) xs → Ready a m w
  only_ready = put_ready v a m xs [] alone n fits

  pub only_again : {u : List ℕ} (g : List ℕ → List ℕ → List ℕ) → length (g (take a v) xs) ≡ m
      → u ≡ splice w a (g (take a w) (view w a m)) → u ≡ splice v a (g (take a v) xs)
  only_again g k q = put_again v a m xs [] alone n fits g k q ∙ ap (splice v a) (append-nil (g (take a v) xs))

-- ---- one word is marked
pub marked : (w : List ℕ) (a m i j k : ℕ) {on : Bool} {x : ℕ} → a + m ≤ length w → k < m
    → on ≡ is_diagonal Strict (point_at (points_in (take a w)) (view w a m)) m i j → x ≡ with_mark on (get_or w (a + k) 0)
    → set w (a + k) x ≡ splice w a (remark (points_in (take a w)) i j k (view w a m))
unfolding remark
marked w a m i j k f h p q = rw (length_view w a m f, ← p, get_or_view w a m k 0 h, ← q) (set_part w a m k _ h f)

module _ (v : List ℕ) {w : List ℕ} (a m i j k : ℕ) (r : Ready a m v) (e : w ≡ splice v a (remark (points_in (take a v)) i j k (view v a m))) where
  long : length (remark (points_in (take a v)) i j k (view v a m)) ≡ m
  long = length_remark _ i j k (view v a m) ∙ length_view v a m r.room

  pub marked_ready : Ready a m w
  marked_ready = only_ready v a m (remark (points_in (take a v)) i j k (view v a m)) e long r.room (ring_remark _ i j k r.ring)

  marked_front : take a w ≡ take a v
  marked_front = only_front v a m (remark (points_in (take a v)) i j k (view v a m)) e long r.room

  marked_words_lem : view w a m ≡ remark (points_in (take a v)) i j k (view v a m)
  marked_words_lem = only_words v a m (remark (points_in (take a v)) i j k (view v a m)) e long r.room

  -- and another after it
  marked_again : {u : List ℕ} (i' j' k' : ℕ) → u ≡ splice w a (remark (points_in (take a w)) i' j' k' (view w a m))
      → u ≡ splice v a (remark (points_in (take a v)) i' j' k' (remark (points_in (take a v)) i j k (view v a m)))
  marked_again i' j' k' q =
      only_again v a m (remark (points_in (take a v)) i j k (view v a m)) e long r.room (λ pts ws. remark (points_in pts) i' j' k' ws)
      (length_remark _ i' j' k' (remark (points_in (take a v)) i j k (view v a m)) ∙ long) q

-- ---- the two places beside a gap
pub gap_marked : (v : List ℕ) {w u : List ℕ} (a m i i1 : ℕ) {p q : ℕ} → Ready a m v → p ≡ prev i m → q ≡ next i1 m
    → w ≡ splice v a (remark (points_in (take a v)) p i1 i (view v a m)) → u ≡ splice w a (remark (points_in (take a w)) i q i1 (view w a m))
    → u ≡ splice v a (remark_gap (points_in (take a v)) i i1 (view v a m))
unfolding remark_gap
gap_marked v a m i i1 {p} {q} r e f h k = rw (length_view v a m r.room, ← e, ← f) (marked_again v a m p i1 i r h i q i1 k)

-- ---- all places, one after the other: v is the buffer where the loop begins, w the buffer now, and i places are passed
pub record Marking (a m : ℕ) (v w : List ℕ) (i : ℕ) : Type 0 where
  pub ready : Ready a m w
  pub long : length w ≡ length v
  pub put : w ≡ splice v a (view w a m)
  pub front : take a w ≡ take a v
  pub doing : Doing (mark_from (points_in (take a v)) m) (mark_all (points_in (take a v)) (view v a m)) m (view w a m) i

pub mark_none : {a m : ℕ} {v : List ℕ} → Ready a m v → Marking a m v v 0
unfolding mark_all
mark_none {a} {m} {v} r = record {
  ready = r;
  long = refl;
  put = sym (splice_view v a m);
  front = refl;
  doing = record { same = rw (length_view v a m r.room) refl };
}

module _ {a m : ℕ} {v w : List ℕ} {i : ℕ} (s : Marking a m v w i) where
  pub mark_more : {u : List ℕ} {k j : ℕ} → i < m → k ≡ next i m → j ≡ next k m
      → u ≡ splice w a (remark (points_in (take a w)) i j k (view w a m)) → Marking a m v u (i + 1)
  unfolding mark_from
  mark_more {u} {k} {j} h p q e =
      let r = s.ready in
      let n = length_view w a m r.room in
      let l = length_remark (points_in (take a w)) i j k (view w a m) in
      record {
        ready = marked_ready w a m i j k r e;
        long = ap length e ∙ length_splice w a _ ∙ s.long;
        put =
            rw (marked_words_lem w a m i j k r e) (e ∙ ap (λ (l : List ℕ). splice l a (remark (points_in (take a w)) i j k (view w a m))) s.put
            ∙ splice_over v a (view w a m) (remark (points_in (take a w)) i j k (view w a m)) (omega arith));
        front = marked_front w a m i j k r e ∙ s.front;
        doing = doing_more s.doing h (marked_words_lem w a m i j k r e ∙ rw (s.front, ← p, ← q) refl);
      }

  pub mark_all_lem : m ≤ i → w ≡ splice v a (mark_all (points_in (take a v)) (view v a m))
  mark_all_lem h = s.put ∙ ap (splice v a) (doing_end s.doing h)

-- ---- the word at k of v goes: what follows has moved down by one in w, and a zero comes in at the end
pub gap_closed : (v : List ℕ) (k : ℕ) {w : List ℕ} → k < length v → w ≡ copy_within v (k + 1) (length v) k → set w (length v - 1) 0 ≡ without v k ++ (0 ∷ [])
unfolding without
gap_closed v k {w} h e =
    let n = length v - (k + 1) in
    let xs = view v (k + 1) n in
    let moved : length xs ≡ n = length_view v (k + 1) n (omega arith) in
    let put : w ≡ splice v k xs = e ∙ sym (splice_eq v k xs (omega (arith, moved)) ∙ rw moved (sym (append_assoc (take k v) xs (drop (k + n) v)))) in
    let long : length (xs ++ (0 ∷ [])) ≡ n + 1 = omega (arith, length-append xs (0 ∷ []), moved) in
    let last : length v - 1 ≡ k + n = omega arith in
    rw last (write_step v k n xs 0 put moved
    ∙ splice_eq v k (xs ++ (0 ∷ [])) (omega (arith, long))
    ∙ rw (
      drop_of_length-le v {i = k + length (xs ++ (0 ∷ []))} (omega (arith, long)),
      append-nil (xs ++ (0 ∷ [])),
      take_all n (drop (k + 1) v) (rw length-drop (omega arith)),
    ) (sym (append_assoc (take k v) (drop (k + 1) v) (0 ∷ []))))

-- ---- the vertex after place i is cut: v is the buffer before, w once the gap is closed, u once the places beside it are marked
module _ (v : List ℕ) {w : List ℕ} (a m i : ℕ) {k : ℕ} (r : Ready a m v) (h : i < m) (p : k ≡ next i m)
    (e : w ≡ splice v a (without (view v a m) k ++ (0 ∷ []))) where
  rest : length (without (view v a m) k) ≡ m - 1
  rest =
      let n = length_view v a m r.room in
      let q : next i m < m = next_below i m (omega arith) in
      length_without (view v a m) k (omega arith) ∙ ap (λ (j : ℕ). j - 1) n

  pub gap_ready : Ready a (m - 1) w
  gap_ready = put_ready v a (m - 1) (without (view v a m) k) (0 ∷ []) e rest (omega (arith, r.room)) (ring_without k r.ring)

  pub ear_cut : {u : List ℕ} {i1 j : ℕ} → i1 ≡ cond (ltb k (m - 1)) k 0 → j ≡ prev i1 (m - 1)
      → u ≡ splice w a (remark_gap (points_in (take a w)) j i1 (view w a (m - 1)))
      → u ≡ splice v a (cut_ear (points_in (take a v)) i (view v a m) ++ (0 ∷ []))
  unfolding cut_ear
  ear_cut {u} {i1} {j} q f g =
      rw (length_view v a m r.room, ← p, rest, ← q, ← f)
      (put_again v a (m - 1) (without (view v a m) k) (0 ∷ []) e rest (omega (arith, r.room)) (λ pts ws. remark_gap (points_in pts) j i1 ws)
      (length_gap (points_in (take a v)) j i1 (without (view v a m) k) ∙ rest) g)

-- ---- a triangle
put_three : (w : List ℕ) (t x y z : ℕ) → set (set (set w t x) (t + 1) y) (t + 2) z ≡ splice w t (x ∷ y ∷ z ∷ [])
unfolding set_each
put_three w t x y z = stored_each w t x (y ∷ z ∷ [])

pub triangle_put : (w : List ℕ) (a m i t : ℕ) {i1 i2 x y z : ℕ} → a + m ≤ length w → i < m → i1 ≡ next i m → i2 ≡ next i1 m
    → x ≡ index_of (get_or w (a + i) 0) → y ≡ index_of (get_or w (a + i1) 0) → z ≡ index_of (get_or w (a + i2) 0)
    → set (set (set w t x) (t + 1) y) (t + 2) z ≡ splice w t (triangle_at (view w a m) i)
unfolding triangle_at
triangle_put w a m i t {i1} {i2} {x} {y} {z} f h p q ex ey ez =
    let n1 = next_below i m (omega arith) in
    let n2 = next_below i1 m (omega arith) in
    rw (
      length_view w a m f,
      ← p,
      ← q,
      get_or_view w a m i 0 h,
      get_or_view w a m i1 0 (omega arith),
      get_or_view w a m i2 0 (omega arith),
      ← ex,
      ← ey,
      ← ez,
    ) (put_three w t x y z)
