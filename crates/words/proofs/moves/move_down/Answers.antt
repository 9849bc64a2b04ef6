-- `words::moves::move_down` meets its contract: what is copied within a slice is spliced. Assumes nothing.
use Rattle.std.proofs.Common.{◌≡◌, ◌+◌, ◌-◌, ◌∙◌, sym, ap, drop, arith}
use Rattle.std.proofs.Math.Seq.{paste}
use Rattle.mem.specs.Slice.{view, splice_eq, length_view}
use Rattle.words.proofs.moves.move_down.Goals as goal

pub returns : goal.returns
returns c =
    let part = c.args.part.now in
    let from = c.args.from in
    let n = c.args.n in
    let moved = view part from n in
    let e : from + n - from ≡ n = omega arith in
    let long = length_view part from n c.requires in
    c.copy_within.ensures.after
    ∙ ap (paste part 0 (drop from part)) (e ∙ sym long)
    ∙ rw (splice_eq part 0 moved (omega arith)) (rw long)
