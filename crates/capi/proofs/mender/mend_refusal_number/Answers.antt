-- `capi::mender::mend_refusal_number` meets its contract: each arm is the rules' number with its variant known. Assumes nothing.
use mathlib.Core.Path.{refl}
use Rattle.rules.specs.MendCall.{mend_refusal_number}
use Rattle.capi.proofs.mender.mend_refusal_number.Goals as goal

pub returns-in-NotWhole : goal.returns-in-NotWhole
unfolding mend_refusal_number
returns-in-NotWhole c = rw c.in-NotWhole.is refl

pub returns-in-LengthsDisagree : goal.returns-in-LengthsDisagree
unfolding mend_refusal_number
returns-in-LengthsDisagree c = rw c.in-LengthsDisagree.is refl

pub returns-in-ShortScratch : goal.returns-in-ShortScratch
unfolding mend_refusal_number
returns-in-ShortScratch c = rw c.in-ShortScratch.is refl

pub returns-in-ListFull : goal.returns-in-ListFull
unfolding mend_refusal_number
returns-in-ListFull c = rw c.in-ListFull.is refl
