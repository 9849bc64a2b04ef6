-- `checksheet::answer::put_answer` meets its contract: the checker's verdict, printed. Assumes nothing.
use mir.Facts.{to_z-of_z}
use native.Mathlib.Omega.{arith}
use Rattle.lines.specs.Printing.{printed_as}
use Rattle.checksheet.proofs.Verdicts.{numbers_short, answer_is}
use Rattle.checksheet.proofs.answer.put_answer.Goals as goal

pub put_verdict-requires : goal.put_verdict-requires
put_verdict-requires c =
    omega (arith, numbers_short c.verdict_number.result c.verdict_second.result, c.requires.room)

pub returns : goal.returns
returns c =
    printed_as c.put_verdict.ensures
    (answer_is c.args.x c.args.total c.args.vertices.now c.args.polygons.now c.args.links.now (to_z-of_z c.ranges.total)
    c.check_mesh-v.ensures c.verdict_number.ensures c.verdict_second.ensures)
