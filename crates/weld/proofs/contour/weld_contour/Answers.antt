use Rattle.std.proofs.Common.{refl}
use Rattle.weld.proofs.Contours.{going_begin, going_now, going_room, going_more, going_end}
use Rattle.weld.proofs.contour.weld_contour.Goals as goal

-- src/contour.rt:53:5
pub loop-i-init : goal.loop-i-init
loop-i-init c = going_begin c.args.height c.args.work.now c.args.numbers.now c.args.t c.args.nv c.args.ko c.args.first c.args.n c.requires

-- src/contour.rt:56:13
pub weld_vertex-k-requires : goal.weld_vertex-k-requires
weld_vertex-k-requires c = (
  going_now c.args.height c.args.work.now c.args.numbers.now c.args.t c.args.nv c.args.ko c.args.first c.args.n c.requires c.loop-i.invariant,
  going_room c.args.height c.args.work.now c.args.numbers.now c.args.t c.args.nv c.args.ko c.args.first c.args.n c.requires c.loop-i.invariant
      c.loop-i-test.true,
)

-- src/contour.rt:53:5
pub loop-i-preserved : goal.loop-i-preserved
loop-i-preserved c =
    going_more c.args.height c.args.work.now c.args.numbers.now c.args.t c.args.nv c.args.ko c.args.first c.args.n c.requires c.loop-i.invariant
    _ _ _ c.weld_vertex-k.ensures c.loop-i-test.true refl c.grow-m.ensures c.vertex_at-v.ensures c.flag_at-flag.ensures

-- src/contour.rt:38:1
pub returns : goal.returns
returns c =
    going_end c.args.height c.args.work.now c.args.numbers.now c.args.t c.args.nv c.args.ko c.args.first c.args.n c.requires c.loop-i.invariant
    c.loop-i-test.false
