-- A walk under way in a part of the work buffer: the sides not yet used stand at its beginning, and the chain further behind, with room on both sides of it
-- for as many points as sides are left. Definitions only.
use Rattle.std.specs.Prelude.{◌≡◌, List, ◌++◌, ℕ, ◌+◌, ◌-◌, ◌*◌, ◌≤◌, ◌<◌, length, get_or, replicate}
use Rattle.mem.specs.Slice.{splice}
use Rattle.rules.specs.Lists.{swap_remove}
use Rattle.rules.specs.Removal.{no_side, Walk, walk}
use Rattle.records.specs.Layout.{side_size, side_words, sides_at, point_size, points_at, point_records}
use Rattle.trails.specs.declared.trail.Trail.{Trail}
use Rattle.trails.specs.declared.walk.Walked.{Walked}

-- the walk that a trail stands for
abbrev pub walk_in : List ℕ → Trail → Walk
walk_in w t = record { chain = points_at w t.first t.points; rest = sides_at w 0 t.left; at = t.at }

-- the chain has a point, and before it and behind it is room for as many points as sides are left
pub record Room (w : List ℕ) (t : Trail) : Type 0 where
  pub some : 0 < t.points
  pub tried : t.at ≤ t.left
  pub low : t.left * side_size + t.left * point_size ≤ t.first
  pub high : t.first + t.points * point_size + t.left * point_size ≤ length w

-- a side is to be tried
pub record Trying (w : List ℕ) (t : Trail) : Type 0 where
  pub room : Room w t
  pub below : t.at < t.left

-- the walk has come to `k`, and t stands for it
pub record Came (k : Walk) (w : List ℕ) (t : Trail) : Type 0 where
  pub is : walk_in w t ≡ k
  pub room : Room w t

-- side i of n is used: the last takes its place
pub record Used (v w : List ℕ) (n i : ℕ) : Type 0 where
  pub is : w ≡ splice v (i * side_size) (side_words (get_or (sides_at v 0 n) (n - 1) no_side))
  pub rest : sides_at w 0 (n - 1) ≡ swap_remove no_side (sides_at v 0 n) i

-- ---- the walk along n sides

-- the words that it needs: the sides, and room for n points on both sides of the first
abbrev pub walk_size : ℕ → ℕ
walk_size n = n * side_size + (n + n + 1) * point_size

-- so many words for each side are enough, where there is one
abbrev pub walk_room : ℕ
walk_room = side_size + point_size * 3

-- n sides stand at q, and what lies behind them up to e is free
pub record WalkReady (w : List ℕ) (q e n : ℕ) : Type 0 where
  pub some : 0 < n
  pub room : q + walk_size n ≤ e
  pub fits : e ≤ length w

-- the words of a walk's chain, with zeros behind them, n words in all
unfoldable pub chain_words : Walk → ℕ → List ℕ
chain_words k n = point_records k.chain ++ replicate (n - length k.chain * point_size) 0

-- the walk k is over: how many sides it left, how many points its chain has, and w is the chain with zeros behind it, n words in all
pub record Over (k : Walk) (w : List ℕ) (n : ℕ) (r : Walked) : Type 0 where
  pub left : r.left ≡ length k.rest
  pub points : r.points ≡ length k.chain
  pub is : w ≡ chain_words k n

-- the walk along the n sides at q is over, its chain stands at q, with zeros behind it up to e, and every other word is as it was.
-- `left`, `points` and `is` fix all; the other follows from them, and spares the callers the way there
pub record WalkedTo (w u : List ℕ) (q e n : ℕ) (r : Walked) : Type 0 where
  pub left : r.left ≡ length (walk (sides_at w q n)).rest
  pub points : r.points ≡ length (walk (sides_at w q n)).chain
  pub is : u ≡ splice w q (point_records (walk (sides_at w q n)).chain ++ replicate (e - q - length (walk (sides_at w q n)).chain * point_size) 0)
  pub counts : r.points + r.left ≡ n + 1
