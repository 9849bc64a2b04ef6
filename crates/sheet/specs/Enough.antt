-- The sheet's buffers are long enough: a job comes to what the sheet's rules say of it. Assumes nothing.
-- Key: `sheet_enough`: buffers of 96 vertices and 96 triangles.
use Rattle.std.specs.Prelude.{◌≡◌, List, [], ◌∷◌, ℕ, zero, suc, ◌*◌, ◌≤◌, ◌<◌, length, get_or}
use Rattle.std.proofs.Common.{le_trans, mul-le-mul_left, mul-le-mul_right, arith}
use Rattle.rules.specs.Job.{Job, count_all, count_v, count_t}
use Rattle.rules.specs.Checks.{Lent, least_lengths, lengths_of, work_words}
use Rattle.rules.specs.Build.{outcome}
use Rattle.rules.specs.Sheet.{declared_most, outcome_of}
use Rattle.laws.proofs.Checks.{T-below-V, V-below-all}
use Rattle.laws.proofs.Buffers.{enough}

-- the lengths of buffers that have room for 96 vertices and 96 polygons of 12 corners
abbrev pub sheet_lengths : List ℕ
sheet_lengths = 288 ∷ 1152 ∷ 1152 ∷ 96 ∷ 96 ∷ 96 ∷ 16384 ∷ []

corners : (j : Job) → count_t j ≤ 96 → j.nvp ≤ 12 → count_t j * j.nvp ≤ 1152
corners j t n = le_trans (mul-le-mul_right j.nvp t) (mul-le-mul_left 96 n)

all_enough : (j : Job) → count_v j ≤ 96 → count_t j ≤ 96 → j.nvp ≤ 12 → (k : ℕ) → k < length (least_lengths j) → get_or (least_lengths j) k 0 ≤ get_or sheet_lengths k 0
unfolding least_lengths work_words
all_enough j v t n zero a = omega (arith, v)
all_enough j v t n (suc zero) a = corners j t n
all_enough j v t n (suc (suc zero)) a = corners j t n
all_enough j v t n (suc (suc (suc zero))) a = t
all_enough j v t n (suc (suc (suc (suc zero)))) a = t
all_enough j v t n (suc (suc (suc (suc (suc zero))))) a = t
all_enough j v t n (suc (suc (suc (suc (suc (suc zero)))))) a = omega (arith, v)
all_enough j v t n (suc (suc (suc (suc (suc (suc (suc k))))))) a = absurd (omega arith)

pub sheet_enough : (j : Job) (b : Lent) → lengths_of b ≡ sheet_lengths → count_all j ≤ declared_most → outcome j b ≡ outcome_of j
sheet_enough j b e h =
    let v = le_trans (V-below-all j) h in
    enough j b (λ n k a. rw e (all_enough j v (le_trans (T-below-V j) v) n k a))
