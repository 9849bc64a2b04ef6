-- `capi::carving::mittencrest_unstl_v1` meets its contract: what `read_stl` promises, with its reply as numbers. Assumes nothing.
use native.Mathlib.Omega.{arith}
use Rattle.rules.specs.StlCall.{unstl_number, unstl_second, unstl_words}
use Rattle.capi.proofs.Numbered.{unstl_small, answer_words_lem}
use Rattle.capi.proofs.carving.mittencrest_unstl_v1.Goals as goal

pub overflow_cast-unstl_number : goal.overflow_cast-unstl_number
overflow_cast-unstl_number c = record { fits = omega (arith, c.unstl_number.ensures, unstl_small c.read_stl-reply.result) }

pub returns : goal.returns
unfolding unstl_words
returns c =
    let done = c.read_stl-reply.ensures in
    let told = answer_words_lem unstl_number unstl_second done.answer c.unstl_number.ensures c.unstl_second.ensures c.put_three.ensures in
    record { result = told.0; answer = told.1; points = done.words }
