use Rattle.std.proofs.Common.{◌≡◌, ◌∙◌, ℕ, ◌+◌, ◌-◌, ◌≤◌, refl, ap, length, replicate, arith}
use Rattle.mem.specs.Slice.{splice, lent_back, length_view}
use Rattle.mem.specs.Tab.{filled_none, filled_more, filled_whole, tab_const}
use Rattle.words.proofs.fill.fill.Goals as goal

pub loop-item-init : goal.loop-item-init
loop-item-init g c = filled_none _ _ _ _

pub loop-item-preserved : goal.loop-item-preserved
loop-item-preserved g c = filled_more c.loop-item.invariant _ _ (omega arith) refl c.loop-item-test.true

pub returns : goal.returns
returns g c =
    let w = c.args.work.now in
    let at = c.args.at in
    let k : ℕ = at + c.args.n - at in
    let e : k ≡ c.args.n = omega arith in
    let within : at + k ≤ length w = omega (arith, c.requires) in
    let filled = c.loop-item.invariant in
    lent_back w at k c.loop-item.item-items (filled.long ∙ length_view w at k within) within
    ∙ ap (splice w at) (filled_whole filled c.loop-item-test.false ∙ tab_const _ _ ∙ ap (λ j. replicate j c.args.x) (length_view w at k within ∙ e))
