-- `outputs::rows::put_links` meets its contract: the part that was copied to holds the words, and the rest is as it was. Assumes nothing.
use mathlib.Core.Path.{◌≡◌, ap, ◌∙◌}
use lib.ListN.{length}
use Prim.Native.Nat.{ℕ, ◌+◌, ◌-◌}
use native.Mathlib.Omega.{arith}
use Rattle.mem.specs.Slice.{view, splice, lent_back, length_view}
use Rattle.outputs.proofs.rows.put_links.Goals as goal

pub returns : goal.returns
returns c =
    let g = c.args in
    let as_many : g.at + g.n - g.at ≡ g.n = omega arith in
    let words : c.copy_from_slice.new.self ≡ view g.work.now g.at g.n =
    c.copy_from_slice.ensures.after ∙ ap (λ (k : ℕ). view g.work.now g.at k) as_many in
    lent_back g.out.now g.to (g.to + g.n - g.to) c.copy_from_slice.new.self
    (omega (arith, ap length words, length_view g.work.now g.at g.n)) (omega arith)
    ∙ ap (splice g.out.now g.to) words
