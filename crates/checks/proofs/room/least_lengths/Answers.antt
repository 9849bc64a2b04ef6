-- `checks::room::least_lengths` meets its contract: T is at most V, so that no product wraps. Assumes nothing.
use mathlib.Core.Path.{refl}
use Prim.Native.Nat.{◌*◌, ◌≤◌}
use native.Mathlib.Nat.{mul-le-mul}
use native.Mathlib.Omega.{arith}
use Rattle.checks.specs.Answers.{least_of}
use Rattle.checks.proofs.room.least_lengths.Goals as goal

pub overflow_mul-corners : goal.overflow_mul-corners
overflow_mul-corners c =
    let h : c.args.t ≤ 65535 = omega arith in
    let m : c.args.t * c.args.nvp ≤ 786420 = mul-le-mul h c.requires.nvp_most in record { fits = omega arith }

pub returns : goal.returns
unfolding least_of
returns c = rw c.work_words.ensures refl
