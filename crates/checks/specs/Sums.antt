-- The sums over the contours' lengths: all vertices, V and T of a list of lengths. Assumes nothing.
-- Key: `all_is`, `v_is`, `t_is`: they are the rules' of any job with that list.
use Rattle.std.specs.Prelude.{◌≡◌, refl, cond, List, ℕ, ◌-◌, ◌^◌, ◌<◌, leb}
use Rattle.rules.specs.Job.{Job, sum_over, count_all, count_v, count_t}

-- what a contour of n vertices adds to V and to T
unfoldable pub points_of : ℕ → ℕ
points_of n = cond (leb 3 n) n 0

unfoldable pub triangles_of : ℕ → ℕ
triangles_of n = cond (leb 3 n) (n - 2) 0

-- the rules' `count_all`, `count_v` and `count_t`, of a list of lengths
unfoldable pub sum_all : List ℕ → ℕ
sum_all ls = sum_over (λ n. n) ls

unfoldable pub sum_v : List ℕ → ℕ
sum_v ls = sum_over points_of ls

unfoldable pub sum_t : List ℕ → ℕ
sum_t ls = sum_over triangles_of ls

pub all_is : (j : Job) → count_all j ≡ sum_all j.lengths
unfolding count_all sum_all
all_is j = refl

pub v_is : (j : Job) → count_v j ≡ sum_v j.lengths
unfolding count_v sum_v points_of
v_is j = refl

pub t_is : (j : Job) → count_t j ≡ sum_t j.lengths
unfolding count_t sum_t triangles_of
t_is j = refl

-- r is the whole sum, which is far from wrapping
pub record Total (whole r : ℕ) : Type 0 where
  pub is : r ≡ whole
  pub small : r < 2 ^ 48
