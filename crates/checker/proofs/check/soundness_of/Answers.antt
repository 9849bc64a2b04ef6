-- `checker::check::soundness_of` meets its contract: buffers that hold leave it to the rows. Assumes nothing.
use mathlib.Core.Path.{sym, ◌∙◌}
use Rattle.laws.proofs.Handed.{good_buffers, in_order_lem, out_of_order}
use Rattle.checker.specs.Asked.{handed_in}
use Rattle.checker.proofs.check.soundness_of.Goals as goal

pub rows_sound-requires : goal.rows_sound-requires
rows_sound-requires c =
    let m = handed_in c.args.nvp c.args.vertices.now c.args.polygons.now c.args.links.now in
    good_buffers m (sym c.buffers_hold.ensures ∙ c.if-buffers_hold.true)

pub returns-then-buffers_hold : goal.returns-then-buffers_hold
returns-then-buffers_hold c =
    let m = handed_in c.args.nvp c.args.vertices.now c.args.polygons.now c.args.links.now in
    c.rows_sound.ensures ∙ sym (in_order_lem m (sym c.buffers_hold.ensures ∙ c.if-buffers_hold.true))

pub returns : goal.returns
returns c =
    let m = handed_in c.args.nvp c.args.vertices.now c.args.polygons.now c.args.links.now in
    sym (out_of_order m (sym c.buffers_hold.ensures ∙ c.if-buffers_hold.false))
