-- `ears::cut::ear_in` meets its contract: the two parts that it lends are the points and the index words. Assumes nothing.
use mathlib.Core.Path.{◌≡◌, sym}
use Prim.Native.Nat.{◌+◌, ◌-◌}
use native.Mathlib.Omega.{arith}
use lib.Seq.{length-take-le}
use Rattle.ears.proofs.cut.ear_in.Goals as goal

pub slice_bounds-find_ear-end : goal.slice_bounds-find_ear-end
slice_bounds-find_ear-end c = sym (length-take-le _ _ (omega arith))

pub find_ear-requires : goal.find_ear-requires
find_ear-requires c =
    let e : c.args.a + c.args.m - c.args.a ≡ c.args.m = omega arith in
    rw e c.requires.ring

pub returns : goal.returns
returns c =
    let e : c.args.a + c.args.m - c.args.a ≡ c.args.m = omega arith in
    rw e at c.find_ear.ensures
