-- `polymesh::mesh::into_polygon_mesh` meets its contract, on any numbers: a check refuses and nothing is written, or the job is built in the words lent for it. Assumes nothing.
use native.Mathlib.Omega.{arith}
use Rattle.polymesh.proofs.Meshes.{prefix_back}
use lib.Seq.{length-take-le}
use mathlib.Core.Path.{◌≡◌, sym, ◌∙◌}
use Rattle.rules.specs.Checks.{lengths_of, check, passed}
use Rattle.rules.specs.declared.Grid.{Grid}
use Rattle.checks.specs.Answers.{no_grid, job_in, is_passed, is_refusal}
use Rattle.checks.specs.Sums.{v_is, t_is}
use Rattle.outputs.specs.Ready.{buffers}
use Rattle.polymesh.proofs.Meshes.{refused_all, few_contours, few_vertices, work_fits, admitted, build_ready, built_all}
use Rattle.polymesh.proofs.mesh.into_polygon_mesh.Goals as goal

pub returns-in-Err : goal.returns-in-Err
unfolding lengths_of
returns-in-Err c =
    let both = refused_all c.args.header (job_in c.args.nvp c.args.grid c.args.set.now) _
    (is_refusal _ _ (sym (c.check.ensures c.args.grid) ∙ c.in-Err.is)) in
    record { answer = both.0; words = both.1.0; accepted = both.1.1 }

pub count_v-v-requires : goal.count_v-v-requires
count_v-v-requires c = few_contours (job_in c.args.nvp no_grid c.args.set.now) _ (is_passed _ (sym (c.check.ensures no_grid) ∙ c.in_default.is))

pub count_t-t-requires : goal.count_t-t-requires
count_t-t-requires c = few_contours (job_in c.args.nvp no_grid c.args.set.now) _ (is_passed _ (sym (c.check.ensures no_grid) ∙ c.in_default.is))

pub work_words-n-requires : goal.work_words-n-requires
work_words-n-requires c =
    let j = job_in c.args.nvp no_grid c.args.set.now in
    few_vertices j _ (is_passed _ (sym (c.check.ensures no_grid) ∙ c.in_default.is)) (c.count_v-v.ensures ∙ sym (v_is j))

pub slice_bounds-build-end : goal.slice_bounds-build-end
unfolding lengths_of
slice_bounds-build-end c =
    let p = is_passed _ (sym (c.check.ensures no_grid) ∙ c.in_default.is) in
    work_fits (job_in c.args.nvp no_grid c.args.set.now) ((buffers c.args.vertices.now c.args.polygons.now c.args.neighbours.now c.args.polyregions.now c.args.polycodes.now c.args.flags.now c.args.work.now)) p (c.count_v-v.ensures ∙ sym (v_is (job_in c.args.nvp no_grid c.args.set.now))) c.work_words-n.ensures

pub slice_bounds-build-end-2 : goal.slice_bounds-build-end-2
unfolding lengths_of
slice_bounds-build-end-2 c =
    let p = is_passed _ (sym (c.check.ensures no_grid) ∙ c.in_default.is) in
    sym (length-take-le _ c.args.work.now (work_fits (job_in c.args.nvp no_grid c.args.set.now) ((buffers c.args.vertices.now c.args.polygons.now c.args.neighbours.now c.args.polyregions.now c.args.polycodes.now c.args.flags.now c.args.work.now)) p (c.count_v-v.ensures ∙ sym (v_is (job_in c.args.nvp no_grid c.args.set.now))) c.work_words-n.ensures))

pub build-reply-requires : goal.build-reply-requires
unfolding lengths_of
build-reply-requires c =
    let a = c.count_v-v.ensures in
    let t = c.count_t-t.ensures in
    let p : (g : Grid) → check (job_in c.args.nvp g c.args.set.now) (lengths_of ((buffers c.args.vertices.now c.args.polygons.now c.args.neighbours.now c.args.polyregions.now c.args.polycodes.now c.args.flags.now c.args.work.now))) ≡ passed = λ g. is_passed (check (job_in c.args.nvp g c.args.set.now) (lengths_of ((buffers c.args.vertices.now c.args.polygons.now c.args.neighbours.now c.args.polyregions.now c.args.polycodes.now c.args.flags.now c.args.work.now)))) (sym (c.check.ensures g) ∙ c.in_default.is) in
    let n = c.work_words-n.ensures in
    let l = length-take-le _ c.args.work.now (work_fits (job_in c.args.nvp no_grid c.args.set.now) ((buffers c.args.vertices.now c.args.polygons.now c.args.neighbours.now c.args.polyregions.now c.args.polycodes.now c.args.flags.now c.args.work.now)) (p no_grid) (a ∙ sym (v_is (job_in c.args.nvp no_grid c.args.set.now))) n) ∙ n in
    let j = (job_in c.args.nvp c.args.grid c.args.set.now) in (
      λ g. admitted (job_in c.args.nvp g c.args.set.now) (lengths_of ((buffers c.args.vertices.now c.args.polygons.now c.args.neighbours.now c.args.polyregions.now c.args.polycodes.now c.args.flags.now c.args.work.now))) (p g) (a ∙ sym (v_is (job_in c.args.nvp g c.args.set.now))) (t ∙ sym (t_is (job_in c.args.nvp g c.args.set.now))),
      build_ready j ((buffers c.args.vertices.now c.args.polygons.now c.args.neighbours.now c.args.polyregions.now c.args.polycodes.now c.args.flags.now c.args.work.now)) (p c.args.grid) (a ∙ sym (v_is j)) (t ∙ sym (t_is j)) _ l (record {
        nvp = c.ranges.nvp.fits;
        w = omega arith;
        h = omega arith;
        border = omega arith;
        lengths = c.words_fit.ensures.lengths;
        regions = c.words_fit.ensures.regions;
        codes = c.words_fit.ensures.codes;
        numbers = c.words_fit.ensures.numbers;
      }),
    )

pub shape_of-vertices : goal.shape_of-vertices
shape_of-vertices c = c.build-reply.auto.vertices

pub shape_of-polygons : goal.shape_of-polygons
shape_of-polygons c = c.build-reply.auto.polygons

pub shape_of-neighbours : goal.shape_of-neighbours
shape_of-neighbours c = c.build-reply.auto.neighbours

pub shape_of-polyregions : goal.shape_of-polyregions
shape_of-polyregions c = c.build-reply.auto.polyregions

pub shape_of-polycodes : goal.shape_of-polycodes
shape_of-polycodes c = c.build-reply.auto.polycodes

pub shape_of-flags : goal.shape_of-flags
shape_of-flags c = c.build-reply.auto.flags

pub returns : goal.returns
unfolding lengths_of
returns c =
    let j = (job_in c.args.nvp c.args.grid c.args.set.now) in
    let a = c.count_v-v.ensures ∙ sym (v_is j) in
    let t = c.count_t-t.ensures ∙ sym (t_is j) in
    let p = is_passed (check j (lengths_of ((buffers c.args.vertices.now c.args.polygons.now c.args.neighbours.now c.args.polyregions.now c.args.polycodes.now c.args.flags.now c.args.work.now)))) (sym (c.check.ensures c.args.grid) ∙ c.in_default.is) in
    let n = c.work_words-n.ensures in
    let f = work_fits j ((buffers c.args.vertices.now c.args.polygons.now c.args.neighbours.now c.args.polyregions.now c.args.polycodes.now c.args.flags.now c.args.work.now)) p a n in
    let m = length-take-le _ c.args.work.now f in
    let both = built_all j ((buffers c.args.vertices.now c.args.polygons.now c.args.neighbours.now c.args.polyregions.now c.args.polycodes.now c.args.flags.now c.args.work.now)) p a t _ (m ∙ n) c.args.header c.build-reply.ensures (prefix_back c.args.work.now _ _ (c.build-reply.auto.work ∙ m) f) in
    record { answer = both.0; words = both.1.0; accepted = both.1.1 }
