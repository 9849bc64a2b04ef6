-- `capi::mender::put_mended` meets its contract: by the reply's case. Assumes nothing.
use mathlib.Core.Path.{refl}
use Rattle.rules.specs.MendCall.{mend_words}
use Rattle.capi.proofs.Mended.{reply_words}
use Rattle.capi.proofs.mender.put_mended.Goals as goal

pub returns-in-Ok : goal.returns-in-Ok
unfolding mend_words
returns-in-Ok c =
    reply_words c.in-Ok.mended.lost c.in-Ok.mended.kept c.in-Ok.is refl c.put_three.ensures

pub returns-in-Err : goal.returns-in-Err
unfolding mend_words
returns-in-Err c =
    reply_words 0 0 c.in-Err.is (rw (← c.mend_refusal_number.ensures) refl) c.put_three-in-Err.ensures
