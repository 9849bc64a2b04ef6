-- Passes over the sides, one after the other, and what becomes of the part once the walk is over. Assumes nothing.
use mathlib.Core.Path.{◌≡◌, refl, sym, ap, ◌∙◌}
use mathlib.Core.Logic.{⊎_elim}
use mathlib.Core.List.{List, ◌++◌}
use Prim.Native.Nat.{ℕ, ◌+◌, ◌-◌, ◌*◌, ◌≤◌, ◌<◌}
use native.Mathlib.Omega.{arith}
use lib.ListN.{length, take, drop, replicate, length-append, length-replicate}
use Rattle.mem.specs.Cases.{lt_or_le}
use Rattle.mem.specs.Slice.{view, splice, splice_append, splice_whole, length_splice, length_view, lent}
use Rattle.rules.specs.Removal.{Walk, walk_one, walk_once, walk_start, walk}
use Rattle.rules.specs.Fuel.{passing, walking}
use Rattle.rules.specs.declared.Side.{Side}
use Rattle.laws.proofs.Walks.{one_left}
use Rattle.laws.proofs.Fuel.{passing_turns, walked_once, walking_turns}
use Rattle.laws.proofs.Passes.{empty_still, once_fewer}
use Rattle.laws.proofs.Removal.{walk_counts}
use Rattle.records.specs.Layout.{sides_at, point_size, point_records}
use Rattle.records.specs.Fixed.{side_fixed, point_fixed, fixed_count, fixed_length, fixed_view, fixed_words}
use Rattle.trails.specs.declared.trail.Trail.{Trail}
use Rattle.trails.specs.declared.walk.Walked.{Walked}
use Rattle.trails.specs.Trails.{walk_in, Room, Came, WalkReady, chain_words, Over, WalkedTo}
use Rattle.trails.proofs.Steps.{count_sides, came_as}

-- ---- once over the sides: what is left of the pass gives the whole. The pass began at v and has come to w
pub record Going (whole : Walk) (v w : List ℕ) (t : Trail) : Type 0 where
  pub same : whole ≡ passing (walk_in w t)
  pub room : Room w t
  pub long : length w ≡ length v

pub going_none : (v : List ℕ) (t : Trail) → Room v t
    → Going (passing (walk_in v (record { at = 0; left = t.left; first = t.first; points = t.points }))) v v
    (record { at = 0; left = t.left; first = t.first; points = t.points })
going_none v t r = record { same = refl; room = record { some = r.some; tried = omega arith; low = r.low; high = r.high }; long = refl }

module _ {whole : Walk} {v w : List ℕ} {t : Trail} (g : Going whole v w t) where
  module _ (h : t.at < t.left) {x : List ℕ} {r : Trail} (d : Came (walk_one (walk_in w t)) x r) where
    pub going_more : length x ≡ length w → Going whole v x r
    going_more l = record {
      same = g.same ∙ (passing_turns (walk_in w t)).try (rw (count_sides w t.left) h) ∙ ap (λ (k : Walk). passing k) (sym d.is);
      room = d.room;
      long = l ∙ g.long;
    }

    pub going_less : r.left - r.at < t.left - t.at
    going_less =
        let l = one_left (walk_in w t) (t.left - t.at - 1) (omega (arith, count_sides w t.left)) in
        let a : r.at ≡ (walk_one (walk_in w t)).at = ap (λ (k : Walk). k.at) d.is in
        let b : length (sides_at x 0 r.left) ≡ length (walk_one (walk_in w t)).rest = ap (λ (k : Walk). length k.rest) d.is in
        omega (arith, count_sides x r.left)

  pub going_end : t.left ≤ t.at → Came whole w t
  going_end h = record {
    is = sym (g.same ∙ (passing_turns (walk_in w t)).end (omega (arith, count_sides w t.left)));
    room = g.room;
  }

pub pass_over : (v : List ℕ) (t : Trail) {w : List ℕ} {r : Trail}
    → Came (passing (walk_in v (record { at = 0; left = t.left; first = t.first; points = t.points }))) w r → Came (walk_once (walk_in v t)) w r
pass_over v t d = came_as (sym (walked_once (walk_in v t))) d

-- ---- again and again: what is left of the walk gives the whole. The passes began at v and have come to w
pub record Roaming (whole : Walk) (v w : List ℕ) (t : Trail) : Type 0 where
  pub same : whole ≡ walking (walk_in w t)
  pub room : Room w t
  pub long : length w ≡ length v

pub roaming_none : (v : List ℕ) (t : Trail) → Room v t → Roaming (walking (walk_in v t)) v v t
roaming_none v t r = record { same = refl; room = r; long = refl }

-- a pass that uses no side is the last
stops : (k : Walk) → k.at ≤ length k.rest → length k.rest ≤ length (walk_once k).rest → walking k ≡ walk_once k
stops k a h = ⊎_elim
    (λ (z : 0 < length k.rest). (walking_turns k).stop z h)
    (λ (z : length k.rest ≤ 0). (walking_turns k).end (omega arith) ∙ sym (empty_still k (omega arith) (omega arith)))
    (lt_or_le 0 (length k.rest))

module _ {whole : Walk} {v w : List ℕ} {t : Trail} (g : Roaming whole v w t) {x : List ℕ} {r : Trail} (d : Came (walk_once (walk_in w t)) x r) where
  left : r.left ≡ length (walk_once (walk_in w t)).rest
  left = sym (count_sides x r.left) ∙ ap (λ (k : Walk). length k.rest) d.is

  pub pass_fewer : r.left ≤ t.left
  pass_fewer = omega (arith, left, count_sides w t.left, once_fewer (walk_in w t))

  pub roaming_more : r.left < t.left → length x ≡ length w → Roaming whole v x r
  roaming_more h l = record {
    same = g.same ∙ (walking_turns (walk_in w t)).again (omega (arith, left, count_sides w t.left)) ∙ ap (λ (k : Walk). walking k) (sym d.is);
    room = d.room;
    long = l ∙ g.long;
  }

  pub roaming_end : r.left ≡ t.left → Came whole x r
  roaming_end h = record {
    is = d.is ∙ sym (g.same ∙ stops (walk_in w t) (omega (arith, g.room.tried, count_sides w t.left)) (omega (arith, left, count_sides w t.left)));
    room = d.room;
  }

-- the walk is the passes from its start on
pub walk_all : (sides : List Side) {v w : List ℕ} {t r : Trail} → Came (walk_start sides) v t → Came (walking (walk_in v t)) w r → Came (walk sides) w r
unfolding walk walk_start
walk_all sides a d = came_as (ap (λ (k : Walk). walking k) a.is) d

-- ---- the part once the walk is over

module _ {k : Walk} {w : List ℕ} {t : Trail} (d : Came k w t) where
  points : length k.chain ≡ t.points
  points = sym (ap (λ (j : Walk). length j.chain) d.is) ∙ fixed_count point_fixed w t.first t.points

  words : view w t.first (t.points * point_size) ≡ point_records k.chain
  words = sym (fixed_words point_fixed w t.first t.points (omega (arith, d.room.high))) ∙ ap (λ (j : Walk). point_records j.chain) d.is

  -- the chain is moved to the beginning, and what lies behind it wiped
  pub walk_over : (n : ℕ) {x y : List ℕ} → length w ≡ n → x ≡ splice w 0 (view w t.first (t.points * point_size))
      → y ≡ splice x (t.points * point_size) (replicate (length x - t.points * point_size) 0)
      → Over k y n (record { left = t.left; points = t.points })
  unfolding chain_words
  walk_over n {x} {y} lw ex ey =
      let cs = point_records k.chain in
      let h : length k.chain * point_size ≡ t.points * point_size = ap (λ (j : ℕ). j * point_size) points in
      let lc : length cs ≡ t.points * point_size = fixed_length point_fixed k.chain ∙ h in
      let lx : length x ≡ n = ap length ex ∙ length_splice w 0 (view w t.first (t.points * point_size)) ∙ lw in
      let zs : List ℕ = replicate (n - length k.chain * point_size) 0 in
      let lz : length zs ≡ n - length k.chain * point_size = length-replicate (n - length k.chain * point_size) 0 in
      let at : 0 + length cs ≡ t.points * point_size = omega arith in
      let e : y ≡ splice (splice w 0 cs) (0 + length cs) zs = ey ∙ rw (lx, ex, words, at, h) refl in
      record {
        left = sym (count_sides w t.left) ∙ ap (λ (j : Walk). length j.rest) d.is;
        points = sym points;
        is = e ∙ splice_append w 0 cs zs ∙ splice_whole w (cs ++ zs) (omega (arith, length-append cs zs, d.room.high));
      }

-- the part was lent by the buffer
pub walk_lent : (w ys : List ℕ) (q e n : ℕ) {r : Walked} → WalkReady w q e n → Over (walk (sides_at (view w q (e - q)) 0 n)) ys (length (view w q (e - q))) r
    → length ys ≡ length (view w q (e - q)) → WalkedTo w (take q w ++ (ys ++ drop (e - q) (drop q w))) q e n r
unfolding chain_words
walk_lent w ys q e n {r} h o l =
    let fits : q + (e - q) ≤ length w = omega (arith, h.room, h.fits) in
    let s : sides_at (view w q (e - q)) 0 n ≡ sides_at w q n = fixed_view side_fixed w q (e - q) n (omega (arith, h.room)) in
    let many : length (sides_at w q n) ≡ n = fixed_count side_fixed w q n in
    let a : r.left ≡ length (walk (sides_at w q n)).rest = rw (← s) o.left in
    let b : r.points ≡ length (walk (sides_at w q n)).chain = rw (← s) o.points in
    record {
      left = a;
      points = b;
      is = rw (← s) (lent w q (e - q) ys _ (o.is ∙ rw (length_view w q (e - q) fits) refl) l fits);
      counts = omega (arith, walk_counts (sides_at w q n) (omega (arith, h.some)));
    }
