-- `holes::test::few_open` meets its contract: the words that are lent are the neighbours, and zeros in their place give the buffer back. Assumes nothing.
use Prim.Native.Nat.{◌+◌, ◌-◌}
use native.Mathlib.Omega.{arith}
use mathlib.Core.Path.{◌≡◌}
use Rattle.holes.proofs.Pushes.{few_tested}
use Rattle.holes.proofs.test.few_open.Goals as goal

pub returns : goal.returns
returns c =
    let p = c.push_all-met in
    let g = c.args in
    let e : g.q + p.result.n - g.q ≡ p.result.n = omega arith in
    few_tested g.polygons.at g.polygons.n g.q g.rem (g.q + p.result.n - g.q) c.requires p.ensures e c.met_once-few.ensures
    c.fill.ensures
