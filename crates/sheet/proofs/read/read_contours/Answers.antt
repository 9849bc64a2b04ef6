-- `sheet::read::read_contours` meets its contract: the lines behind the heading were read as far as their end, or as far as the bad one. Assumes nothing.
use Rattle.lines.specs.Exits.{passed_on}
use Rattle.sheet.specs.Texts.{bad_body, good_body, held_of}
use Rattle.sheet.proofs.read.read_contours.Goals as goal

pub returns-in_err-end : goal.returns-in_err-end
returns-in_err-end c = record {
  read = rw (passed_on _ c.from_residual.ensures.1) (bad_body c.args.text.now _ _ _ _ c.args.heading c.read_body.ensures c.in_err-end.was);
  held = held_of c.args.text.now _ _ _ _ c.args.heading c.read_body.ensures _ c.in_err-end.was;
}

pub returns : goal.returns
returns c = record {
  read = good_body c.args.text.now _ _ _ _ c.args.heading c.read_body.ensures c.in_ok-end.was;
  held = held_of c.args.text.now _ _ _ _ c.args.heading c.read_body.ensures _ c.in_ok-end.was;
}
