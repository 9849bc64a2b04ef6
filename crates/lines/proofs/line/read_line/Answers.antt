-- `lines::line::read_line` meets its contract: the line's numbers are those up to its LF, and without an LF there are none. Assumes nothing.
use mathlib.Core.Path.{◌∙◌}
use native.Mathlib.Omega.{arith}
use Rattle.lines.proofs.LineAt.{good_widened, bad_widened, none_widened, both_read}
use Rattle.lines.proofs.line.read_line.Goals as goal

pub returns-in_err-numbers : goal.returns-in_err-numbers
returns-in_err-numbers g c =
    let a = c.args in
    let read =
    c.from_residual.ensures
    ∙ bad_widened a.text.now a.at c.find-e.ensures.0 a.name.now a.least a.mosts.now _ (omega arith) c.read_numbers.ensures.read c.in_err-numbers.was in
    record { read = read; whole = λ h. both_read a.text.now a.at c.find-e.ensures.0 a.name.now a.least a.mosts.now _ read h }

pub returns-then-e-text : goal.returns-then-e-text
returns-then-e-text g c =
    let a = c.args in
    let read =
    good_widened a.text.now a.at c.find-e.ensures.0 a.name.now a.least a.mosts.now _ (omega arith) c.read_numbers.ensures.read c.in_ok-numbers.was in
    record { read = read; whole = λ h. both_read a.text.now a.at c.find-e.ensures.0 a.name.now a.least a.mosts.now _ read h }

pub returns : goal.returns
returns g c =
    let a = c.args in
    let read = none_widened a.text.now a.at c.find-e.ensures.0 a.name.now a.least a.mosts.now _ (omega arith) in
    record { read = read; whole = λ h. both_read a.text.now a.at c.find-e.ensures.0 a.name.now a.least a.mosts.now _ read h }
