-- `stl::write::put_file` meets its contract: the file fits the lent bytes, or it doesn't. Assumes nothing.
use mathlib.Core.Path.{◌∙◌, ap}
use Prim.Native.Nat.{◌+◌, ◌*◌, ◌≤◌}
use native.Mathlib.Omega.{arith}
use lib.ListN.{length}
use Rattle.mem.specs.Slice.{length_splice}
use Rattle.stl.proofs.Counted.{count_small}
use Rattle.stl.proofs.Writing.{file_short, facets_ready, file_put}
use Rattle.stl.proofs.write.put_file.Goals as goal

pub nonzero_div-np : goal.nonzero_div-np
nonzero_div-np c = omega (arith, c.requires.sound.low)

pub count_facets-n-requires : goal.count_facets-n-requires
count_facets-n-requires c = c.requires.sound.count

pub overflow_mul-n : goal.overflow_mul-n
overflow_mul-n c =
    let small : c.count_facets-n.result ≤ 655350 = rw c.count_facets-n.ensures (count_small _ _ _ c.requires.sound.count) in
    omega (arith, small)

pub overflow_add-n : goal.overflow_add-n
overflow_add-n c =
    let small : c.count_facets-n.result ≤ 655350 = rw c.count_facets-n.ensures (count_small _ _ _ c.requires.sound.count) in
    omega (arith, small)

pub returns-then-file-n : goal.returns-then-file-n
returns-then-file-n c =
    let both = file_short _ c.requires c.count_facets-n.ensures c.if-file-n.true in
    record { answer = both.0; bytes = both.1 }

pub overflow_cast-n : goal.overflow_cast-n
overflow_cast-n c =
    let small : c.count_facets-n.result ≤ 655350 = rw c.count_facets-n.ensures (count_small _ _ _ c.requires.sound.count) in
    omega (arith, small)

pub put_header-requires : goal.put_header-requires
put_header-requires c = omega (arith, c.if-file-n.false)

pub put_facets-requires : goal.put_facets-requires
put_facets-requires c =
    let fits : 84 + c.count_facets-n.result * 50 ≤ length c.args.file.now = omega (arith, c.if-file-n.false) in
    facets_ready c.args.file.now c.requires c.count_facets-n.ensures fits (ap length c.put_header.ensures ∙ length_splice _ _ _)

pub returns : goal.returns
returns c =
    let fits : 84 + c.count_facets-n.result * 50 ≤ length c.args.file.now = omega (arith, c.if-file-n.false) in
    let both = file_put _ c.requires c.count_facets-n.ensures fits c.put_header.ensures c.put_facets.ensures in
    record { answer = both.0; bytes = both.1 }
