-- `capi::mender::mittencrest_mend_v1` meets its contract: what `mend` promises, with its reply as numbers. Assumes nothing.
use Rattle.capi.proofs.Mended.{reply_as}
use Rattle.capi.proofs.mender.mittencrest_mend_v1.Goals as goal

pub returns : goal.returns
returns c =
    let mended = c.mend-reply.ensures in
    let told = reply_as mended.reply c.put_mended.ensures in
    record { result = told.0; answer = told.1; numbers = mended.numbers; lost = mended.list; work = mended.work }
