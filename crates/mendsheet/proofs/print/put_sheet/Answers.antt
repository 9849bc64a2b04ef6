-- `mendsheet::print::put_sheet` meets its contract: the heading, and the contours behind it. Assumes nothing.
use Rattle.rules.specs.MendSheet.{sheet_text}
use Rattle.lines.specs.Pieces.{Going, going_begin, going_room, going_more, going_end}
use Rattle.sheet.specs.Reading.{sheet_of, with_lists}
use Rattle.mendsheet.proofs.SheetTexts.{sheet_texts, sheet_texts_lem}
use Rattle.mendsheet.proofs.print.put_sheet.Goals as goal

pub put_heading-a-requires : goal.put_heading-a-requires
put_heading-a-requires c =
    let begun : let a = c.args in
    Going (sheet_text (with_lists (sheet_of a.x) a.lengths.now a.regions.now a.codes.now a.numbers.now)) a.out.now 0
    (sheet_texts a.x a.lengths.now a.regions.now a.codes.now a.numbers.now) a.out.now 0 = let a = c.args in going_begin _ _ _ (sheet_texts_lem a.x a.lengths.now a.regions.now a.codes.now a.numbers.now) c.requires.room in
    going_room (begun)

pub put_contours-requires : goal.put_contours-requires
put_contours-requires c =
    let begun : let a = c.args in
    Going (sheet_text (with_lists (sheet_of a.x) a.lengths.now a.regions.now a.codes.now a.numbers.now)) a.out.now 0
    (sheet_texts a.x a.lengths.now a.regions.now a.codes.now a.numbers.now) a.out.now 0 = let a = c.args in going_begin _ _ _ (sheet_texts_lem a.x a.lengths.now a.regions.now a.codes.now a.numbers.now) c.requires.room in
    record { stand = c.requires.stand; room = going_room (going_more (begun) c.put_heading-a.ensures) }

pub returns : goal.returns
returns c =
    let begun : let a = c.args in
    Going (sheet_text (with_lists (sheet_of a.x) a.lengths.now a.regions.now a.codes.now a.numbers.now)) a.out.now 0
    (sheet_texts a.x a.lengths.now a.regions.now a.codes.now a.numbers.now) a.out.now 0 = let a = c.args in going_begin _ _ _ (sheet_texts_lem a.x a.lengths.now a.regions.now a.codes.now a.numbers.now) c.requires.room in
    going_end (going_more (going_more (begun) c.put_heading-a.ensures) c.put_contours.ensures)
