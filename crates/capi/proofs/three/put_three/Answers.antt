-- `capi::three::put_three` meets its contract: three numbers, one after the other. Assumes nothing.
use mathlib.Core.Path.{refl}
use Rattle.capi.proofs.Written.{three}
use Rattle.capi.proofs.three.put_three.Goals as goal

pub returns : goal.returns
returns c = (refl, rw c.from.ensures (three c.args.words.now c.args.number c.args.second c.args.third c.requires))
