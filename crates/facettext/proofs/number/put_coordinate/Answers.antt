-- `facettext::number::put_coordinate` meets its contract: the sign and the number, or the bits. Assumes nothing.
use mathlib.Core.Path.{◌≡◌, sym, ◌∙◌}
use mathlib.Core.Bool.{true}
use mathlib.Core.List.{◌++◌}
use Rattle.rules.specs.StlText.{ten_thousandths, decimals, bits_text, is_shown, sign_text, coordinate_text}
use Rattle.lines.specs.Print.{Room}
use Rattle.lines.specs.Printing.{printed_as, printed_then, printed_same_length, room_then, room_first, room_as}
use Rattle.facettext.proofs.Coordinates.{shown_text, hidden_text}
use Rattle.facettext.proofs.number.put_coordinate.Goals as goal

pub put_sign-a-requires : goal.put_sign-a-requires
put_sign-a-requires c =
    let shown : is_shown c.args.p ≡ true = sym c.is_shown.ensures ∙ c.if-is_shown.true in
    let shown-room : Room c.args.out.now (sign_text c.args.p ++ (decimals (ten_thousandths c.args.p))) c.args.at =
    room_as c.args.out.now c.args.at (sym (shown_text c.args.p shown)) c.requires in
    room_first c.args.out.now (sign_text c.args.p) (decimals (ten_thousandths c.args.p)) c.args.at shown-room

pub ten_thousandths-requires : goal.ten_thousandths-requires
ten_thousandths-requires c =
    let shown : is_shown c.args.p ≡ true = sym c.is_shown.ensures ∙ c.if-is_shown.true in
    shown

pub put_decimals-requires : goal.put_decimals-requires
put_decimals-requires c =
    let shown : is_shown c.args.p ≡ true = sym c.is_shown.ensures ∙ c.if-is_shown.true in
    let shown-room : Room c.args.out.now (sign_text c.args.p ++ (decimals (ten_thousandths c.args.p))) c.args.at =
    room_as c.args.out.now c.args.at (sym (shown_text c.args.p shown)) c.requires in
    rw c.ten_thousandths.ensures (room_then c.put_sign-a.ensures (decimals (ten_thousandths c.args.p)) shown-room)

pub returns-then-is_shown : goal.returns-then-is_shown
returns-then-is_shown c =
    let shown : is_shown c.args.p ≡ true = sym c.is_shown.ensures ∙ c.if-is_shown.true in
    printed_as (printed_then c.put_sign-a.ensures (rw c.ten_thousandths.ensures at c.put_decimals.ensures))
    (sym (shown_text _ shown))

pub shape_of-out-then-is_shown : goal.shape_of-out-then-is_shown
shape_of-out-then-is_shown c = printed_same_length (returns-then-is_shown c)

pub put_bits-requires : goal.put_bits-requires
put_bits-requires c =
    let hidden : coordinate_text c.args.p ≡ bits_text c.args.p = hidden_text c.args.p (sym c.is_shown.ensures ∙ c.if-is_shown.false) in
    rw (← hidden) c.requires

pub returns : goal.returns
returns c =
    let hidden : coordinate_text c.args.p ≡ bits_text c.args.p = hidden_text c.args.p (sym c.is_shown.ensures ∙ c.if-is_shown.false) in
    printed_as c.put_bits.ensures (sym hidden)

pub shape_of-out : goal.shape_of-out
shape_of-out c = printed_same_length (returns c)
