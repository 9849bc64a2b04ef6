-- `capi::header::put_header` meets its contract: nine numbers, one after the other. Assumes nothing.
use mathlib.Core.Path.{◌≡◌, refl, ◌∙◌}
use native.Mathlib.Omega.{arith}
use lib.ListN.{length-set}
use Rattle.capi.specs.Numbers.{size_number, header_words}
use Rattle.capi.proofs.Written.{nine}
use Rattle.capi.proofs.header.put_header.Goals as goal

pub bounds-numbers-4 : goal.bounds-numbers-4
bounds-numbers-4 c = simp length-set (omega (arith, c.requires))

pub bounds-numbers-5 : goal.bounds-numbers-5
bounds-numbers-5 c = simp length-set (omega (arith, c.requires))

pub bounds-numbers-6 : goal.bounds-numbers-6
bounds-numbers-6 c = simp length-set (omega (arith, c.requires))

pub bounds-numbers-7 : goal.bounds-numbers-7
bounds-numbers-7 c = simp length-set (omega (arith, c.requires))

pub bounds-numbers-8 : goal.bounds-numbers-8
bounds-numbers-8 c = simp length-set (omega (arith, c.requires))

pub returns : goal.returns
unfolding header_words
returns c = nine c.args.numbers.now _ _ _ _ _ _ c.size_of.result _ _ c.requires ∙
    (let e : c.size_of.result ≡ size_number c.args.header.cell_size = c.size_of.ensures in rw e refl)
