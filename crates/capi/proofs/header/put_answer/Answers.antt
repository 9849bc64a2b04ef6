-- `capi::header::put_answer` meets its contract: four numbers, one after the other, by the reply's case. Assumes nothing.
use mathlib.Core.Path.{◌∙◌}
use native.Mathlib.Omega.{arith}
use lib.ListN.{length-set}
use Rattle.capi.proofs.Written.{four, number_small, unit_is, built_words, refused_words, built_number, refused_number}
use Rattle.capi.proofs.header.put_answer.Goals as goal

pub bounds-words-3-in-Err : goal.bounds-words-3-in-Err
bounds-words-3-in-Err c = simp length-set (omega (arith, c.requires))

pub overflow_cast-result : goal.overflow_cast-result
overflow_cast-result c = record { fits = rw c.refusal_number-number.ensures (number_small c.in-Err.r) }

pub returns-in-Ok : goal.returns-in-Ok
returns-in-Ok c = (
  built_number c.args.reply c.in-Ok.built.polygons c.in-Ok.built.vertices c.in-Ok.is,
  four c.args.words.now 0 c.in-Ok.built.polygons c.in-Ok.built.vertices c.from-unit.result c.requires
      ∙ built_words c.args.reply c.args.inches c.in-Ok.built.polygons c.in-Ok.built.vertices c.from-unit.result c.in-Ok.is (unit_is c.args.inches c.from-unit.ensures),
)

pub returns-in-Err : goal.returns-in-Err
returns-in-Err c = (
  refused_number c.args.reply c.in-Err.r c.refusal_number-number.result c.in-Err.is c.refusal_number-number.ensures,
  four c.args.words.now c.refusal_number-number.result c.refusal_second.result 0 c.from-unit.result c.requires
      ∙ refused_words c.args.reply c.args.inches c.in-Err.r c.refusal_number-number.result c.refusal_second.result c.from-unit.result c.in-Err.is c.refusal_number-number.ensures c.refusal_second.ensures (unit_is c.args.inches c.from-unit.ensures),
)
