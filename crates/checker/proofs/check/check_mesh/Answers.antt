-- `checker::check::check_mesh` meets its contract: a sound mesh is consistent, and goes on to 43 and 44; a fault is objected to. Assumes nothing.
use Rattle.std.specs.Prelude.{Err}
use mathlib.Core.Path.{sym, ap, ◌∙◌}
use Rattle.rules.specs.declared.Objection.TheVariants.{Unsound}
use Rattle.laws.proofs.Handed.{sound_exactly}
use Rattle.laws.proofs.Checker.{sound_passes}
use Rattle.checker.specs.Asked.{claim_in}
use Rattle.checker.proofs.Verdicts.{sound_last, unsound, passed_on, mapped_ok, mapped_err}
use Rattle.checker.proofs.check.check_mesh.Goals as goal

pub returns-in_err-map_err : goal.returns-in_err-map_err
returns-in_err-map_err c =
    let asked = claim_in c.args.nvp c.args.w c.args.h c.args.border c.args.claim c.args.vertices.now c.args.polygons.now c.args.links.now in
    let fault = mapped_err Unsound c.soundness_of.result c.map_err.ensures.cases c.in_err-map_err.was in
    passed_on c.from_residual.ensures.1 ∙ ap Err fault.2 ∙ unsound asked fault.0 (sym c.soundness_of.ensures ∙ fault.1)

pub sound_verdict-requires : goal.sound_verdict-requires
sound_verdict-requires c =
    let asked = claim_in c.args.nvp c.args.w c.args.h c.args.border c.args.claim c.args.vertices.now c.args.polygons.now c.args.links.now in
    let sound = mapped_ok Unsound c.soundness_of.result c.map_err.ensures.cases c.in_ok-map_err.was in
    (sound_exactly asked.mesh).0 (sym c.soundness_of.ensures ∙ sound)

pub returns : goal.returns
returns c =
    let asked = claim_in c.args.nvp c.args.w c.args.h c.args.border c.args.claim c.args.vertices.now c.args.polygons.now c.args.links.now in
    let a = c.args in
    let sound = mapped_ok Unsound c.soundness_of.result c.map_err.ensures.cases c.in_ok-map_err.was in
    sound_last a.nvp a.w a.h a.border a.claim a.vertices.now a.polygons.now a.links.now c.ranges.claim c.sound_verdict.ensures
    ∙ sym (sound_passes asked (sym c.soundness_of.ensures ∙ sound))
