-- `holes::fill::fill_hole` meets its contract: the hole's words are filled with zeros, once its polygons are made or where it has no ear. Assumes nothing.
use mathlib.Core.Path.{refl}
use Rattle.holes.specs.Fill.{filled_of}
use Rattle.holes.specs.Places.{was_done, was_stuck}
use Rattle.holes.proofs.Patches.{fill_ready, fill_answer, fill_over, stuck_words}
use Rattle.holes.proofs.fill.fill_hole.Goals as goal

-- src/fill.rt:159:17
pub mesh_hole-n-requires : goal.mesh_hole-n-requires
mesh_hole-n-requires c =
    let h = c.cut_hole in
    let x = was_done _ _ (rw c.in-Ok.is at h.ensures.answer) in
    fill_ready c.requires h.ensures.words x.ts x.is x.count

-- src/fill.rt:161:13
pub returns-in-Ok : goal.returns-in-Ok
returns-in-Ok c =
    let h = c.cut_hole in
    let x = was_done _ _ (rw c.in-Ok.is at h.ensures.answer) in
    let g = c.mesh_hole-n.ensures in record {
      answer = fill_answer c.requires h.ensures.words x.ts x.is x.count g.meshed;
      words = fill_over c.requires h.ensures.words x.ts x.is x.count g.meshed g.is c.fill.ensures;
    }

-- src/fill.rt:165:13
pub returns-in-Err : goal.returns-in-Err
unfolding filled_of
returns-in-Err c =
    let h = c.cut_hole in
    let x = was_stuck _ _ (rw c.in-Err.is at h.ensures.answer) in
    record { answer = rw x refl; words = stuck_words c.requires h.ensures.words x c.fill-in-Err.ensures }
