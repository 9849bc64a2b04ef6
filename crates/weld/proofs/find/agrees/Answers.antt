-- `weld::find::agrees` meets its contract: each arm is the definition with its coordinate known. Assumes nothing.
use Rattle.std.proofs.Common.{◌≡◌, ℕ, rules, arith}
use Rattle.std.specs.Int.{abs_diff}
use Rattle.rules.specs.Lists.{apart}
use Rattle.weld.proofs.Walks.{agree_x, agree_y, agree_z}
use Rattle.weld.proofs.find.agrees.Goals as goal

apart_is : (a b : ℕ) {d : ℕ} → d ≡ abs_diff a b → d ≡ apart a b
unfolding apart
apart_is a b e = omega (arith, e)

pub returns-in-0 : goal.returns-in-0
returns-in-0 c = agree_x c.args.height c.args.work.now c.args.at c.args.v c.args.c (search rules) c.from.ensures

pub returns-in-1 : goal.returns-in-1
returns-in-1 c =
    agree_y c.args.height c.args.work.now c.args.at c.args.v c.args.c c.in-1.is (apart_is _ _ (rw c.from-in-1.ensures at c.abs_diff.ensures))
    c.from-in-1-2.ensures

pub returns-in_default : goal.returns-in_default
returns-in_default c =
    agree_z c.args.height c.args.work.now c.args.at c.args.v c.args.c (search rules) (search rules) c.from-in_default.ensures
