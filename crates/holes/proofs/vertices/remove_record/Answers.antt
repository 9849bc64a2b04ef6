use mathlib.Core.List.{List, ◌++◌}
use mathlib.Core.Path.{◌≡◌}
use native.Mathlib.Omega.{arith}
use Prim.Native.Nat.{ℕ, ◌+◌, ◌-◌, ◌*◌}
use lib.ListN.{drop, replicate}
use Rattle.mem.specs.Slice.{lent_part}
use Rattle.records.specs.Layout.{vertex_size}
use Rattle.holes.proofs.Clears.{record_gone}
use Rattle.holes.proofs.vertices.remove_record.Goals as goal

-- src/vertices.rt:25:1
pub returns : goal.returns
returns c =
    let a = c.args.vertices.at + c.args.i * vertex_size in
    let m = (c.args.vertices.n - c.args.i) * vertex_size in
    let e : c.args.vertices.at + c.args.vertices.n * vertex_size - a ≡ m = omega (arith, c.requires.1) in
    record_gone c.args.i c.requires.0 c.requires.1
    (lent_part (λ (l : List ℕ). drop vertex_size l ++ replicate vertex_size 0) c.args.work.now c.drop_first.new.part a m _ e c.drop_first.ensures
    c.drop_first.auto.part
    (omega (arith, c.requires.0.fits, c.requires.1)))
