-- `sheet::read::read_sheet` meets its contract: a sheet that is too long, a bad heading, or a good one and what is behind it. Assumes nothing.
use Rattle.lines.specs.Exits.{passed_on}
use Rattle.sheet.specs.Texts.{long_read, bad_heading, good_heading, body_ready, counted_as}
use Rattle.sheet.proofs.read.read_sheet.Goals as goal

pub returns-then-text-gt65536 : goal.returns-then-text-gt65536
returns-then-text-gt65536 c =
    let read = long_read c.args.text.now _ _ _ _ c.if-text-gt65536.true in
    record { read = read; counted = counted_as _ read; held = c.requires }

pub read_contours-requires : goal.read_contours-requires
read_contours-requires c =
    body_ready c.args.text.now c.read_heading.result c.in_ok-heading.heading c.in_ok-heading.was c.read_heading.ensures.1 c.if-text-gt65536.false c.requires

pub returns-in_err-heading : goal.returns-in_err-heading
returns-in_err-heading c =
    let read = bad_heading c.args.text.now _ _ _ _ c.if-text-gt65536.false c.read_heading.result c.read_heading.ensures.0 c.read_heading.ensures.1 _ c.in_err-heading.was in
    rw (passed_on _ c.from_residual.ensures.1) record { read = read; counted = counted_as _ read; held = c.requires }

pub returns : goal.returns
returns c =
    let read = good_heading c.args.text.now _ _ _ _ c.if-text-gt65536.false c.read_heading.result c.read_heading.ensures.0 c.read_heading.ensures.1
    c.in_ok-heading.heading c.read_contours.result c.in_ok-heading.was c.read_contours.ensures.read in
    record { read = read; counted = counted_as _ read; held = c.read_contours.ensures.held }
