-- `checks::room::first_short` meets its contract: `find` looks at the buffers in their order, as the rules do. Assumes nothing.
use Rattle.std.proofs.Common.{◌≡◌, true, false, rules, tests}
use Rattle.std.proofs.lemmas.Iterator.{first_from_Range}
use Prim.Native.Nat.{ℕ}
use mathlib.Core.Bool.{Bool}
use lib.Dec.{ltb}
use lib.ListN.{length, get_or}
use Rattle.rules.specs.Checks.{first_short}
use Rattle.checks.proofs.Seeking.{found_first}
use Rattle.checks.proofs.room.first_short.Goals as goal

pub returns : goal.returns
unfolding first_short
returns c =
    let test : ℕ → Bool = λ k. ltb (get_or c.args.have k 0) (get_or c.args.least k 0) in
    let long : length c.args.least ≡ 7 = search rules in
    rw long (found_first test 7 _ (first_from_Range _ _ _ _ (λ k. test k ≡ true) (λ k. test k ≡ false) c.find.ensures.ran
    (λ x q k. search (rules, tests)) (λ x q k. search (rules, tests))))
