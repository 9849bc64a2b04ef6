-- `capi::checking::mittencrest_check_v1` meets its contract: what `check_mesh` promises, with its verdict as numbers. Assumes nothing.
use Rattle.std.specs.Prelude.{Result, ⊤}
use mathlib.Core.Path.{ap, ◌∙◌}
use native.Mathlib.Omega.{arith}
use lib.IntN.{ℤ}
use mir.Facts.{to_z-of_z}
use Rattle.rules.specs.Checker.{verdict, verdict_number, verdict_second, verdict_words}
use Rattle.rules.specs.declared.Objection.{Objection}
use Rattle.checker.specs.Asked.{claim_in}
use Rattle.capi.proofs.Numbered.{verdict_small, answer_words_lem}
use Rattle.capi.proofs.checking.mittencrest_check_v1.Goals as goal

pub overflow_cast-verdict_number : goal.overflow_cast-verdict_number
overflow_cast-verdict_number c = record { fits = omega (arith, c.verdict_number.ensures, verdict_small c.check_mesh-verdict.result) }

pub returns : goal.returns
unfolding verdict_words
returns c =
    let a = c.args in
    let said : ℤ → Result ⊤ Objection = λ z. verdict (claim_in a.nvp a.w a.h a.border z a.vertices.now a.polygons.now a.links.now) in
    let same = ap said (to_z-of_z c.ranges.claim) in
    let both = answer_words_lem verdict_number verdict_second (c.check_mesh-verdict.ensures ∙ same) c.verdict_number.ensures c.verdict_second.ensures
    c.put_three.ensures in
    record { result = both.0; answer = both.1 }
