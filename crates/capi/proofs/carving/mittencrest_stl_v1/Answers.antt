-- `capi::carving::mittencrest_stl_v1` meets its contract: what `write_stl` promises, with its reply as numbers. Assumes nothing.
use native.Mathlib.Omega.{arith}
use Rattle.rules.specs.StlCall.{stl_number, stl_second, stl_words}
use Rattle.capi.proofs.Numbered.{stl_small, answer_words_lem}
use Rattle.capi.proofs.carving.mittencrest_stl_v1.Goals as goal

pub overflow_cast-stl_number : goal.overflow_cast-stl_number
overflow_cast-stl_number c = record { fits = omega (arith, c.stl_number.ensures, stl_small c.write_stl-reply.result) }

pub returns : goal.returns
unfolding stl_words
returns c =
    let done = c.write_stl-reply.ensures in
    let told = answer_words_lem stl_number stl_second done.answer c.stl_number.ensures c.stl_second.ensures c.put_three.ensures in
    record { result = told.0; answer = told.1; file = done.bytes }
