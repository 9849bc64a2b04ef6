-- `stl::write::write_sound` meets its contract: the two tests are the scale's, and where both pass the file decides. Assumes nothing.
use Rattle.stl.proofs.Writing.{Measured, file_ready, scale_passes, scale_fails}
use Rattle.stl.proofs.write.write_sound.Goals as goal

pub put_file-requires : goal.put_file-requires
put_file-requires c =
    let measured : let a = c.args in
    let across = c.in_millimetres-size.result in
    Measured a.scale.inches a.scale.size a.scale.height across c.in_millimetres-height.result c.is_length.result c.is_length-2.result = record {
      across_is = c.in_millimetres-size.ensures;
      up_is = c.in_millimetres-height.ensures;
      a_is = c.is_length.ensures;
      b_is = c.is_length-2.ensures;
    } in
    file_ready measured c.if-is_length.true c.requires

pub returns-then-is_length : goal.returns-then-is_length
returns-then-is_length c =
    let measured : let a = c.args in
    let across = c.in_millimetres-size.result in
    Measured a.scale.inches a.scale.size a.scale.height across c.in_millimetres-height.result c.is_length.result c.is_length-2.result = record {
      across_is = c.in_millimetres-size.ensures;
      up_is = c.in_millimetres-height.ensures;
      a_is = c.is_length.ensures;
      b_is = c.is_length-2.ensures;
    } in
    let both = scale_passes measured _ _ _ _ c.if-is_length.true (c.put_file.ensures.answer, c.put_file.ensures.bytes) in
    record { answer = both.0; bytes = both.1 }

pub returns : goal.returns
returns c =
    let measured : let a = c.args in
    let across = c.in_millimetres-size.result in
    Measured a.scale.inches a.scale.size a.scale.height across c.in_millimetres-height.result c.is_length.result c.is_length-2.result = record {
      across_is = c.in_millimetres-size.ensures;
      up_is = c.in_millimetres-height.ensures;
      a_is = c.is_length.ensures;
      b_is = c.is_length-2.ensures;
    } in
    let both = scale_fails measured _ _ _ _ c.if-is_length.false in
    record { answer = both.0; bytes = both.1 }
