-- `facettext::text::facets_text` meets its contract: a refusal, in their order, or the text of a good file. Assumes nothing.
use mathlib.Core.Path.{◌≡◌, sym, ◌∙◌}
use mathlib.Core.Bool.{true}
use native.Mathlib.Omega.{arith}
use Rattle.rules.specs.Stl.{right_length}
use Rattle.rules.specs.StlCall.{unstl_refusal_number, unstl_refusal_second}
use Rattle.sheet.specs.Room.{refused_room}
use Rattle.sheet.specs.Refusals.{number_of, line_of}
use Rattle.facettext.proofs.Readings.{good_fits, too_long, bad_length, not_zero_lem, all_good, whole_answer}
use Rattle.facettext.proofs.text.facets_text.Goals as goal

pub put_sheet_refused-requires : goal.put_sheet_refused-requires
unfolding number_of line_of
put_sheet_refused-requires c = omega (arith, refused_room 23 0, c.put_sheet_refused-arg-1.given.0.1)

pub returns-then-file-gt65536 : goal.returns-then-file-gt65536
unfolding number_of line_of
returns-then-file-gt65536 c =
    let both = whole_answer c.put_sheet_refused.ensures (too_long c.args.file.now c.if-file-gt65536.true)
    (omega (arith, refused_room 23 0, c.put_sheet_refused-arg-1.given.0.1)) in
    record { printed = both.0; counted = both.1 }

pub put_file_refused-requires : goal.put_file_refused-requires
unfolding unstl_refusal_number unstl_refusal_second
put_file_refused-requires c = omega (arith, refused_room 72 0, c.put_file_refused-arg-1.given.0.1)

pub returns-then-not-right_length : goal.returns-then-not-right_length
unfolding unstl_refusal_number unstl_refusal_second
returns-then-not-right_length c =
    let both = whole_answer c.put_file_refused.ensures
    (bad_length c.args.file.now c.if-file-gt65536.false (sym c.right_length.ensures ∙ c.if-not-right_length.true))
    (omega (arith, refused_room 72 0, c.put_file_refused-arg-1.given.0.1)) in
    record { printed = both.0; counted = both.1 }

pub put_file_refused-requires-in-Some : goal.put_file_refused-requires-in-Some
unfolding unstl_refusal_number unstl_refusal_second
put_file_refused-requires-in-Some c = omega (arith, refused_room 73 c.in-Some.i, c.put_file_refused-arg-in-Some-1.given.0.1)

pub returns-in-Some : goal.returns-in-Some
unfolding unstl_refusal_number unstl_refusal_second
returns-in-Some c =
    let right : right_length c.args.file.now ≡ true = sym c.right_length.ensures ∙ c.if-not-right_length.false in
    let file = c.args.file.now in
    let i = c.in-Some.i in
    let both = whole_answer c.put_file_refused-in-Some.ensures
    (not_zero_lem file c.if-file-gt65536.false right i (sym c.first_wrong.ensures ∙ c.in-Some.is))
    (omega (arith, refused_room 73 i, c.put_file_refused-arg-in-Some-1.given.0.1)) in
    record { printed = both.0; counted = both.1 }

pub put_good-requires : goal.put_good-requires
put_good-requires c =
    let right : right_length c.args.file.now ≡ true = sym c.right_length.ensures ∙ c.if-not-right_length.false in
    let file = c.args.file.now in
    record { file_value = right; room = omega (arith, good_fits file c.if-file-gt65536.false right, c.put_good-arg-1.given.0.1) }

pub returns-in-None : goal.returns-in-None
returns-in-None c =
    let right : right_length c.args.file.now ≡ true = sym c.right_length.ensures ∙ c.if-not-right_length.false in
    let file = c.args.file.now in
    let short = c.if-file-gt65536.false in
    let both = whole_answer c.put_good.ensures (all_good file short right (sym c.first_wrong.ensures ∙ c.in-None.is))
    (omega (arith, good_fits file short right, c.put_good-arg-1.given.0.1)) in
    record { printed = both.0; counted = both.1 }
