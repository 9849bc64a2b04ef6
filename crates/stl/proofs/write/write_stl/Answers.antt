-- `stl::write::write_stl` meets its contract: a sound mesh goes on to 70 and 71, and a fault is the refusal. Assumes nothing.
use Rattle.std.specs.Prelude.{Err}
use mathlib.Core.Path.{ap, ◌∙◌}
use Rattle.rules.specs.declared.StlRefusal.TheVariants.{BadMesh}
use Rattle.checker.proofs.Verdicts.{passed_on, mapped_ok, mapped_err}
use Rattle.stl.specs.Steps.{scale_in}
use Rattle.stl.proofs.Writing.{mesh_sound, sound_written, broken_refused}
use Rattle.stl.proofs.write.write_stl.Goals as goal

pub returns-in_err-map_err : goal.returns-in_err-map_err
returns-in_err-map_err c =
    let a = c.args in
    let fault = mapped_err BadMesh c.soundness_of.result c.map_err.ensures.cases c.in_err-map_err.was in
    let both = broken_refused a.nvp a.vertices.now a.polygons.now a.links.now c.soundness_of.ensures (scale_in a.inches a.size a.height) a.file.now fault.1 in
    record { answer = passed_on c.from_residual.ensures.1 ∙ ap Err fault.2 ∙ both.0; bytes = both.1 }

pub write_sound-requires : goal.write_sound-requires
write_sound-requires c =
    let a = c.args in
    let sound = mapped_ok BadMesh c.soundness_of.result c.map_err.ensures.cases c.in_ok-map_err.was in
    mesh_sound a.nvp a.vertices.now a.polygons.now a.links.now c.soundness_of.ensures sound

pub returns : goal.returns
returns c =
    let a = c.args in
    let sound = mapped_ok BadMesh c.soundness_of.result c.map_err.ensures.cases c.in_ok-map_err.was in
    let both = sound_written a.nvp a.vertices.now a.polygons.now a.links.now c.soundness_of.ensures (scale_in a.inches a.size a.height) a.file.now
    sound (c.write_sound.ensures.answer, c.write_sound.ensures.bytes) in
    record { answer = both.0; bytes = both.1 }
