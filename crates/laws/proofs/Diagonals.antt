-- R1's diagonals as R2 tries them, from i to i+2: in a ring of at most four places every side is at one of its ends, so that none stops it. Assumes nothing.
-- Key: `few_clear`.
use Rattle.std.specs.Prelude.{◌≡◌, refl, false, ℕ, zero, suc, ◌<◌}
use Rattle.std.proofs.Common.{arith}
use Rattle.mem.specs.Loops.{run, over}
use Rattle.rules.specs.declared.Point.{Point}
use Rattle.rules.specs.declared.Kind.{Kind}
use Rattle.rules.specs.Lists.{next}
use Rattle.rules.specs.Diagonal.{at_ends, stops, is_blocked}

-- each ring, and each place in it, by computing
pub few_clear : (kind : Kind) (p : ℕ → Point) (n i : ℕ) → i < n → n < 5 → is_blocked kind p n i (next (next i n) n) ≡ false
unfolding is_blocked stops at_ends next over run
few_clear kind p zero i h f = absurd (omega arith)
few_clear kind p (suc zero) zero h f = refl
few_clear kind p (suc zero) (suc i) h f = absurd (omega arith)
few_clear kind p (suc (suc zero)) zero h f = refl
few_clear kind p (suc (suc zero)) (suc zero) h f = refl
few_clear kind p (suc (suc zero)) (suc (suc i)) h f = absurd (omega arith)
few_clear kind p (suc (suc (suc zero))) zero h f = refl
few_clear kind p (suc (suc (suc zero))) (suc zero) h f = refl
few_clear kind p (suc (suc (suc zero))) (suc (suc zero)) h f = refl
few_clear kind p (suc (suc (suc zero))) (suc (suc (suc i))) h f = absurd (omega arith)
few_clear kind p (suc (suc (suc (suc zero)))) zero h f = refl
few_clear kind p (suc (suc (suc (suc zero)))) (suc zero) h f = refl
few_clear kind p (suc (suc (suc (suc zero)))) (suc (suc zero)) h f = refl
few_clear kind p (suc (suc (suc (suc zero)))) (suc (suc (suc zero))) h f = refl
few_clear kind p (suc (suc (suc (suc zero)))) (suc (suc (suc (suc i)))) h f = absurd (omega arith)
few_clear kind p (suc (suc (suc (suc (suc n))))) i h f = absurd (omega arith)
