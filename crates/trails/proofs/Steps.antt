-- One side of a walk: what use in front of the chain, use behind it, and passing make of the part, and which of them the side gets. Assumes nothing.
use mathlib.Core.Path.{◌≡◌, refl, ap, ◌∙◌}
use mathlib.Core.Bool.{Bool, true, false}
use mathlib.Core.List.{List, [], ◌∷◌, ◌++◌}
use Prim.Native.Nat.{ℕ, ◌+◌, ◌-◌, ◌*◌, ◌≤◌, ◌<◌}
use native.Mathlib.Omega.{arith}
use lib.Dec.{eqb}
use lib.ListN.{length, get_or}
use Rattle.mem.specs.Slice.{splice, length_splice}
use Rattle.rules.specs.Lists.{swap_remove}
use Rattle.rules.specs.Removal.{no_side, no_point, Walk, first_of, last_of, brought_by, front, back, neither, fit_of, walk_by, walk_one, walk_start}
use Rattle.rules.specs.declared.Side.{Side}
use Rattle.rules.specs.declared.ChainPoint.{ChainPoint}
use Rattle.records.specs.Layout.{side_size, side_words, sides_at, point_size, point_words, points_at}
use Rattle.records.specs.Fixed.{side_fixed, point_fixed, fixed_count}
use Rattle.trails.specs.declared.trail.Trail.{Trail}
use Rattle.trails.specs.Trails.{walk_in, Trying, Came, Used, walk_size}
use Rattle.trails.proofs.Blocks.{sides_kept, sides_used_lem, points_kept, point_front, point_back, point_first}

pub count_sides : (w : List ℕ) (n : ℕ) → length (sides_at w 0 n) ≡ n
count_sides w n = fixed_count side_fixed w 0 n

pub used : (v : List ℕ) {w : List ℕ} (n i : ℕ) {s : Side} → n * side_size ≤ length v → i < n → s ≡ get_or (sides_at v 0 n) (n - 1) no_side
    → w ≡ splice v (i * side_size) (side_words s) → Used v w n i
used v {w} n i {s} f h es e =
    let p : w ≡ splice v (i * side_size) (side_words (get_or (sides_at v 0 n) (n - 1) no_side)) = e ∙ rw es in
    record { is = p; rest = ap (λ (x : List ℕ). sides_at x 0 (n - 1)) p ∙ sides_used_lem v n i f h }

-- two walks with the same parts
same_walk : {j k : Walk} → j.chain ≡ k.chain → j.rest ≡ k.rest → j.at ≡ k.at → j ≡ k
same_walk c r a = λ i. record { chain = c i; rest = r i; at = a i }

-- ---- a side is used: side `at`, which is s, has gone from the sides, and the point that it brings goes to p
module _ (v : List ℕ) {u : List ℕ} (t : Trail) (s : Side) (y : Trying v t) (d : Used v u t.left t.at) where
  long : length u ≡ length v
  long = ap length d.is ∙ length_splice v (t.at * side_size) (side_words (get_or (sides_at v 0 t.left) (t.left - 1) no_side))

  -- the chain is as it was
  chain_kept : points_at u t.first t.points ≡ points_at v t.first t.points
  chain_kept =
      ap (λ (x : List ℕ). points_at x t.first t.points) d.is
      ∙ points_kept v (t.at * side_size) t.first t.points (get_or (sides_at v 0 t.left) (t.left - 1) no_side) (omega (arith, y.below, y.room.low))

  -- the sides are the others
  rest_kept : {w : List ℕ} (p : ℕ) (c : ChainPoint) → t.left * side_size ≤ p → w ≡ splice u p (point_words c)
      → sides_at w 0 (t.left - 1) ≡ swap_remove no_side (sides_at v 0 t.left) t.at
  rest_kept {w} p c h e = ap (λ (x : List ℕ). sides_at x 0 (t.left - 1)) e ∙ sides_kept u p (t.left - 1) (point_words c) (omega arith) ∙ d.rest

  long_put : {w : List ℕ} (p : ℕ) (c : ChainPoint) → w ≡ splice u p (point_words c) → length w ≡ length v
  long_put {w} p c e = ap length e ∙ length_splice u p (point_words c) ∙ long

  pub came_front : {w : List ℕ} → w ≡ splice u (t.first - point_size) (point_words (record { vertex = s.start; region = s.region; code = s.code }))
      → Came (walk_by front s (walk_in v t)) w (record { at = t.at; left = t.left - 1; first = t.first - point_size; points = t.points + 1 })
  unfolding walk_by brought_by
  came_front {w} e =
      let c : ChainPoint = record { vertex = s.start; region = s.region; code = s.code } in
      let r = y.room in
      record {
        is = same_walk
            (ap (λ (x : List ℕ). points_at x (t.first - point_size) (t.points + 1)) e
            ∙ point_front u c t.first (t.first - point_size) t.points (omega (arith, r.low, y.below)) (omega (arith, r.high, long))
            ∙ ap (λ (l : List ChainPoint). c ∷ l) chain_kept)
            (rest_kept (t.first - point_size) c (omega (arith, r.low, y.below)) e) refl;
        room = record {
          some = omega arith;
          tried = omega (arith, y.below);
          low = omega (arith, r.low, y.below);
          high = omega (arith, r.low, r.high, y.below, long_put (t.first - point_size) c e);
        };
      }

  pub came_back : {w : List ℕ} → w ≡ splice u (t.first + t.points * point_size) (point_words (record { vertex = s.end; region = s.region; code = s.code }))
      → Came (walk_by back s (walk_in v t)) w (record { at = t.at; left = t.left - 1; first = t.first; points = t.points + 1 })
  unfolding walk_by brought_by
  came_back {w} e =
      let c : ChainPoint = record { vertex = s.end; region = s.region; code = s.code } in
      let p = t.first + t.points * point_size in
      let r = y.room in
      record {
        is = same_walk
            (ap (λ (x : List ℕ). points_at x t.first (t.points + 1)) e
            ∙ point_back u c t.first t.points (omega (arith, r.high, y.below, long)) ∙ ap (λ (l : List ChainPoint). l ++ (c ∷ [])) chain_kept)
            (rest_kept p c (omega (arith, r.low, y.below)) e) refl;
        room = record {
          some = omega arith;
          tried = omega (arith, y.below);
          low = omega (arith, r.low, y.below);
          high = omega (arith, r.high, y.below, long_put p c e);
        };
      }

-- ---- a side is tried: s, between the chain's first point a and its last b; x says whether it fits in front, and y whether it fits behind
pub came_as : {j k : Walk} {w : List ℕ} {t : Trail} → j ≡ k → Came j w t → Came k w t
came_as e d = record { is = d.is ∙ e; room = d.room }

module _ (k : Walk) {s : Side} {a : ChainPoint} (es : s ≡ get_or k.rest k.at no_side) (ea : a ≡ first_of k.chain) {x : Bool} where
  one_front : x ≡ true → x ≡ eqb s.end a.vertex → walk_by front s k ≡ walk_one k
  unfolding walk_one fit_of
  one_front h e = rw (← es, ← ea, ← e, h) refl

  module _ {b : ChainPoint} (eb : b ≡ last_of k.chain) (n : x ≡ false) (e : x ≡ eqb s.end a.vertex) {y : Bool} where
    one_back : y ≡ true → y ≡ eqb s.start b.vertex → walk_by back s k ≡ walk_one k
    unfolding walk_one fit_of
    one_back h f = rw (← es, ← ea, ← eb, ← e, n, ← f, h) refl

    one_neither : y ≡ false → y ≡ eqb s.start b.vertex → walk_by neither s k ≡ walk_one k
    unfolding walk_one fit_of
    one_neither h f = rw (← es, ← ea, ← eb, ← e, n, ← f, h) refl

is_last : (v : List ℕ) (t : Trail) {b : ChainPoint} → b ≡ get_or (points_at v t.first t.points) (t.points - 1) no_point
    → b ≡ last_of (points_at v t.first t.points)
is_last v t e = e ∙ rw (fixed_count point_fixed v t.first t.points) refl

module _ (v : List ℕ) (t : Trail) {s : Side} {a : ChainPoint} (es : s ≡ get_or (sides_at v 0 t.left) t.at no_side)
    (ea : a ≡ get_or (points_at v t.first t.points) 0 no_point) {x : Bool} where
  pub tried_front : {w : List ℕ} {r : Trail} → x ≡ true → x ≡ eqb s.end a.vertex → Came (walk_by front s (walk_in v t)) w r → Came (walk_one (walk_in v t)) w r
  tried_front h e d = came_as (one_front (walk_in v t) es ea h e) d

  module _ {b : ChainPoint} (eb : b ≡ get_or (points_at v t.first t.points) (t.points - 1) no_point) (n : x ≡ false) (e : x ≡ eqb s.end a.vertex)
      {y : Bool} where
    pub tried_back : {w : List ℕ} {r : Trail} → y ≡ true → y ≡ eqb s.start b.vertex → Came (walk_by back s (walk_in v t)) w r
        → Came (walk_one (walk_in v t)) w r
    tried_back h f d = came_as (one_back (walk_in v t) es ea (is_last v t eb) n e h f) d

    pub tried_past : y ≡ false → y ≡ eqb s.start b.vertex → Trying v t
        → Came (walk_one (walk_in v t)) v (record { at = t.at + 1; left = t.left; first = t.first; points = t.points })
    unfolding walk_by
    tried_past h f z = came_as (one_neither (walk_in v t) es ea (is_last v t eb) n e h f) (record {
      is = refl;
      room = record { some = z.room.some; tried = omega (arith, z.below); low = z.room.low; high = z.room.high };
    })

-- ---- the start
pub came_first : (v : List ℕ) {w : List ℕ} (n : ℕ) {s : Side} → walk_size n ≤ length v → s ≡ get_or (sides_at v 0 n) 0 no_side
    → w ≡ splice v (n * side_size + n * point_size) (point_words (record { vertex = s.start; region = s.region; code = s.code }))
    → Came (walk_start (sides_at v 0 n)) w (record { at = 0; left = n; first = n * side_size + n * point_size; points = 1 })
unfolding walk_start brought_by
came_first v {w} n {s} h es e =
    let c : ChainPoint = record { vertex = s.start; region = s.region; code = s.code } in
    let p = n * side_size + n * point_size in
    record {
      is = same_walk
          (ap (λ (x : List ℕ). points_at x p 1) e ∙ point_first v c p (omega arith) ∙ rw (← es) refl)
          (ap (λ (x : List ℕ). sides_at x 0 n) e ∙ sides_kept v p n (point_words c) (omega arith)) refl;
      room = record {
        some = omega arith;
        tried = omega arith;
        low = omega arith;
        high = omega (arith, ap length e, length_splice v p (point_words c));
      };
    }
