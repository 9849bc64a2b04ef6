-- `capi::mender::mittencrest_mend_job_v1` meets its contract: what `mend_job` promises, with its reply as numbers. Assumes nothing.
use Rattle.capi.proofs.Mended.{reply_as}
use Rattle.capi.proofs.mender.mittencrest_mend_job_v1.Goals as goal

pub returns : goal.returns
returns c =
    let mended = c.mend_job-reply.ensures in
    let told = reply_as mended.reply c.put_mended.ensures in
    record { result = told.0; answer = told.1; words = mended.words }
