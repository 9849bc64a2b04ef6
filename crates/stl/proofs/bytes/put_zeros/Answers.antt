-- `stl::bytes::put_zeros` meets its contract: the part is filled. Assumes nothing.
use mathlib.Core.Path.{◌≡◌, sym, ap, ◌∙◌}
use Prim.Native.Nat.{◌+◌, ◌-◌}
use native.Mathlib.Omega.{arith}
use lib.ListN.{length, replicate, length-replicate}
use Prim.Native.Nat.{ℕ}
use Rattle.mem.specs.Slice.{view, length_view}
use Rattle.stl.proofs.Parts.{part_put}
use Rattle.stl.proofs.bytes.put_zeros.Goals as goal

pub returns : goal.returns
returns c =
    let w = c.args.out.now in
    let o = c.args.at in
    let n = c.args.n in
    let k : o + n - o ≡ n = omega arith in
    let long : length (view w o (o + n - o)) ≡ n = rw k (length_view w o n c.requires) in
    part_put w o n (replicate n 0) (c.fill.ensures.after (λ y e. e) ∙ ap (λ (m : ℕ). replicate m 0) long) (sym (length-replicate {A = ℕ} n 0)) c.requires
