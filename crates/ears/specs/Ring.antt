-- What the searches ask of the points and the index words that they read. Definitions only.
use Rattle.std.specs.Prelude.{List, ◌≡◌, Bool, not, ◌&&◌, ℕ, ◌/◌, ◌<◌, length, get_or}
use Rattle.rules.specs.declared.Point.{Point}
use Rattle.rules.specs.declared.Kind.{Kind}
use Rattle.rules.specs.Diagonal.{at_ends, shares_end, hits}
use Rattle.rules.specs.Ears.{index_of, point_at}
use Rattle.plane.specs.Points.{points_in, GridWords}

-- the points' words are coordinates, and each index word names one of the points
pub record Ring (pts ix : List ℕ) : Type 0 where
  pub grid : GridWords pts
  pub valid : (k : ℕ) → k < length ix → index_of (get_or ix k 0) < length pts / 2

-- a and b stand at the places i and j
pub record Ends (pts ix : List ℕ) (i j : ℕ) (a b : Point) : Type 0 where
  pub i_in : i < length ix
  pub j_in : j < length ix
  pub is_a : a ≡ point_at (points_in pts) ix i
  pub is_b : b ≡ point_at (points_in pts) ix j

-- the side from place k, where c stands, to place l, where d stands, stops the diagonal from place i, where a stands, to place j, where b stands
unfoldable pub side_stops : Kind → ℕ → ℕ → Point → Point → ℕ → ℕ → Point → Point → Bool
side_stops kind i j a b k l c d = not (at_ends i j k l) && (not (shares_end a b c d) && hits kind a b c d)
