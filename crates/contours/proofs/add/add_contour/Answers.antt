-- `contours::add::add_contour` meets its contract: each call leaves what the next one asks for, and what was written besides the mesh is wiped. Assumes nothing.
use Prim.Native.Nat.{◌^◌, ◌<◌}
use lib.ListN.{length}
use mathlib.Core.Path.{◌∙◌}
use native.Mathlib.Omega.{arith}
use Rattle.holes.specs.Places.{was_done, was_stuck}
use Rattle.contours.proofs.Adds.{contour_cut_ready, contour_weld_ready, contour_mesh_ready, polygons_fit}
use Rattle.contours.proofs.Adds.{add_over, add_answer, stuck_words, stuck_answer}
use Rattle.contours.proofs.add.add_contour.Goals as goal

pub returns-in-Ok : goal.returns-in-Ok
returns-in-Ok c =
    let x = was_done _ _ (rw c.in-Ok.is at c.cut_contour.ensures.answer) in
    let e = c.mesh_contour-p.ensures in record {
      answer = add_answer c.requires c.cut_contour.ensures.words x.ts x.is c.weld_contour-v.ensures x.count e.meshed;
      words = add_over c.requires c.cut_contour.ensures.words x.ts x.is c.weld_contour-v.ensures x.count e.meshed e.is
          c.fill.ensures c.fill-in-Ok.ensures;
    }

pub cut_contour-requires : goal.cut_contour-requires
cut_contour-requires c = contour_cut_ready c.requires

pub weld_contour-v-requires : goal.weld_contour-v-requires
weld_contour-v-requires c =
    let h = c.cut_contour in
    let x = was_done _ _ (rw c.in-Ok.is at h.ensures.answer) in
    contour_weld_ready c.requires h.ensures.words x.ts x.is

pub mesh_contour-p-requires : goal.mesh_contour-p-requires
mesh_contour-p-requires c =
    let h = c.cut_contour in
    let x = was_done _ _ (rw c.in-Ok.is at h.ensures.answer) in
    contour_mesh_ready c.requires h.ensures.words x.ts x.is c.weld_contour-v.ensures x.count

pub fill-requires : goal.fill-requires
fill-requires c = omega (
  arith,
  c.mesh_contour-p.auto.work,
  c.weld_contour-v.auto.work,
  c.cut_contour.auto.work,
  c.requires.vertices,
  c.requires.stands.fits.scratch,
)

pub overflow_mul-c : goal.overflow_mul-c
overflow_mul-c c = record { fits = omega (arith, c.requires.vertices, c.requires.stands.few) }

pub overflow_sub-c : goal.overflow_sub-c
overflow_sub-c c = omega (arith, c.requires.some)

pub fill-requires-in-Ok : goal.fill-requires-in-Ok
fill-requires-in-Ok c = omega (
  arith,
  c.fill.auto.work,
  c.mesh_contour-p.auto.work,
  c.weld_contour-v.auto.work,
  c.cut_contour.auto.work,
  c.requires.vertices,
  c.requires.stands.fits.scratch,
)

pub overflow_add-result : goal.overflow_add-result
overflow_add-result c =
    let short-enough : length c.args.work.now < 2 ^ 64 = omega arith in
    let x = was_done _ _ (rw c.in-Ok.is at c.cut_contour.ensures.answer) in
    let f = polygons_fit c.requires c.cut_contour.ensures.words x.ts x.is c.weld_contour-v.ensures x.count c.mesh_contour-p.ensures.meshed in
    record { fits = omega (arith, short-enough, f) }

pub shape_of-work-in-Ok : goal.shape_of-work-in-Ok
shape_of-work-in-Ok c = c.fill-in-Ok.auto.work ∙ c.fill.auto.work ∙ c.mesh_contour-p.auto.work ∙ c.weld_contour-v.auto.work ∙ c.cut_contour.auto.work

pub returns-in-Err : goal.returns-in-Err
returns-in-Err c =
    let h = c.cut_contour in
    let d = was_stuck _ _ (rw c.in-Err.is at h.ensures.answer) in
    record { answer = stuck_answer c.requires h.ensures.words d; words = stuck_words c.requires h.ensures.words d c.fill-in-Err.ensures }
