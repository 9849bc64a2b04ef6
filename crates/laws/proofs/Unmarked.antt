-- R2: a word below 2^28 has no mark, and is the number of its point. Assumes nothing.
use Rattle.std.specs.Prelude.{ℕ, ◌^◌, ◌<◌, ◌≡◌}
use Rattle.std.proofs.Common.{arith}
use Rattle.rules.specs.Ears.{index_of}

pub index_small : (w : ℕ) → w < 2 ^ 28 → index_of w ≡ w
unfolding index_of
index_small w h = omega arith
