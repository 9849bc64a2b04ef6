-- `lines::print::put_text` meets its contract: the text takes the place of the bytes that stood there. Assumes nothing.
use mathlib.Core.Path.{refl, ap, ◌∙◌}
use lib.ListN.{length}
use Prim.Native.Nat.{◌+◌, ◌-◌}
use native.Mathlib.Omega.{arith}
use Rattle.mem.specs.Slice.{lent_back, splice}
use Rattle.lines.proofs.print.put_text.Goals as goal

pub returns : goal.returns
returns c =
    let a = c.args in
    record {
      text = lent_back a.out.now a.at (a.at + length a.text.now - a.at) c.copy_from_slice.new.self (omega arith) (omega arith) ∙ ap (splice a.out.now a.at) c.copy_from_slice.ensures.after;
      next = refl;
    }
