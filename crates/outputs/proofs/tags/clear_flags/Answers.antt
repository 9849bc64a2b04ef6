-- `outputs::tags::clear_flags` meets its contract: the part that was filled holds zeros, and the rest is as it was. Assumes nothing.
use mathlib.Core.Path.{◌≡◌, ap, ◌∙◌}
use Prim.Native.Nat.{ℕ}
use native.Mathlib.Omega.{arith}
use lib.ListN.{length, replicate, length-replicate}
use Rattle.mem.specs.Slice.{splice, lent_back, length_view}
use Rattle.outputs.proofs.tags.clear_flags.Goals as goal

pub returns : goal.returns
returns c =
    let g = c.args in
    let zeros : c.fill.new.self ≡ replicate g.np 0 =
    c.fill.ensures.after (λ y k. k) ∙ ap (λ (k : ℕ). replicate k 0) (length_view g.out.now 0 g.np (omega arith)) in
    lent_back g.out.now 0 g.np c.fill.new.self (ap length zeros ∙ length-replicate g.np 0) (omega arith)
    ∙ ap (splice g.out.now 0) zeros
