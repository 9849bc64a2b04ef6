-- `ears::cut::diagonal_in` meets its contract: the two parts that it lends are the points and the index words. Assumes nothing.
use mathlib.Core.Path.{◌≡◌, sym}
use Prim.Native.Nat.{◌+◌, ◌-◌}
use native.Mathlib.Omega.{arith}
use lib.Seq.{length-take-le}
use Rattle.mem.specs.Slice.{length_view}
use Rattle.ears.proofs.cut.diagonal_in.Goals as goal

pub slice_bounds-is_diagonal-end : goal.slice_bounds-is_diagonal-end
slice_bounds-is_diagonal-end c = sym (length-take-le _ _ (omega arith))

pub is_diagonal-requires : goal.is_diagonal-requires
is_diagonal-requires c =
    let e : c.args.a + c.args.m - c.args.a ≡ c.args.m = omega arith in
    let n = length_view c.args.w.now c.args.a c.args.m c.requires.0.room in
    rw e (c.requires.0.ring, rw n c.requires.1, rw n c.requires.2)

pub returns : goal.returns
returns c =
    let e : c.args.a + c.args.m - c.args.a ≡ c.args.m = omega arith in
    rw (e, length_view c.args.w.now c.args.a c.args.m c.requires.0.room) at c.is_diagonal.ensures
