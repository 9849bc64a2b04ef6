-- The part of the work buffer in which n points are cut: 2n words of points, n index words, and 3(n − 2) words of triangles. Definitions only.
use Rattle.std.specs.Prelude.{List, ◌++◌, ◌≡◌, ℕ, ◌+◌, ◌-◌, ◌*◌, ◌^◌, ◌≤◌, ◌<◌, length, take, replicate, Result, Ok, Err}
use Rattle.mem.specs.Packed.{packed}
use Rattle.mem.specs.Slice.{view}
use Rattle.rules.specs.declared.Point.{Point}
use Rattle.rules.specs.Ears.{Ears, done, stuck}
use Rattle.plane.specs.Points.{points_in, GridWords}
use Rattle.ears.specs.Ring.{Ring}
use Rattle.ears.specs.declared.cut.NoEar.{NoEar}

-- the points of a part
abbrev pub points_of : ℕ → List ℕ → List Point
points_of n w = points_in (take (n * 2) w)

-- a part for n points, with its points laid in; what its other words hold doesn't matter
pub record Laid (n : ℕ) (w : List ℕ) : Type 0 where
  pub some : 3 ≤ n
  pub few : n < 2 ^ 28
  pub size : length w + 6 ≡ n * 6
  pub grid : GridWords (take (n * 2) w)

-- no ear to cut, after so many triangles
abbrev pub no_ear : ℕ → NoEar
no_ear k = record { after = k }

-- the answer's number is how many triangles were cut
unfoldable pub answer_of : Ears → Result ℕ NoEar
answer_of (done ts) = Ok (length ts)
answer_of (stuck k) = Err (no_ear k)

-- what the part holds at the end: the points as they were, the index words wiped, and the triangles; or nothing but zeros where there was no ear to cut
unfoldable pub cut_in : ℕ → List ℕ → Ears → List ℕ
cut_in n w (done ts) = take (n * 2) w ++ (replicate n 0 ++ packed (λ t. t) ts)
cut_in n w (stuck k) = take (n * 2) w ++ replicate (n + (n - 2) * 3) 0

-- m index words behind the points; a: how many words the points have
pub record Ready (a m : ℕ) (w : List ℕ) : Type 0 where
  pub ring : Ring (take a w) (view w a m)
  pub room : a + m ≤ length w
