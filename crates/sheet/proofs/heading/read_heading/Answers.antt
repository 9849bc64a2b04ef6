-- `sheet::heading::read_heading` meets its contract: the first line, and then the others. Assumes nothing.
use mathlib.Core.Path.{◌∙◌}
use Rattle.lines.specs.Exits.{found_or, refused_or}
use Rattle.sheet.specs.Refusals.{number_of, line_of, refused_as}
use Rattle.sheet.specs.Reading.{headed_as, BehindIs}
use Rattle.sheet.proofs.Headings.{heading_missing, heading_known, known_within, known_behind}
use Rattle.sheet.proofs.heading.read_heading.Goals as goal

pub returns-in_err-inches : goal.returns-in_err-inches
unfolding headed_as BehindIs refused_as number_of line_of
returns-in_err-inches c =
    let none = refused_or _ _ _ c.ok_or.ensures.value c.in_err-inches.was c.from_residual.ensures.1 in
    rw none.1 (heading_missing c.args.text.now c.read_unit.ensures none.0, Prim.tt)

pub read_rest-requires : goal.read_rest-requires
read_rest-requires c = known_within c.args.text.now c.read_unit.ensures (found_or _ _ c.ok_or.ensures.value c.in_ok-inches.was)

pub returns : goal.returns
returns c =
    let text = c.args.text.now in
    let unit = found_or _ _ c.ok_or.ensures.value c.in_ok-inches.was in (
      heading_known text c.read_unit.ensures unit ∙ c.read_rest.ensures.0,
      known_behind text c.read_unit.ensures unit _ c.read_rest.ensures.1,
    )
