-- `lines::tabs::count_cells` meets its contract: a line has one cell more than it has tabs. Assumes nothing.
use Rattle.std.specs.Prelude.{◌≡◌, ℕ, ◌+◌, eqb, count_by}
use mathlib.Core.Path.{ap, ◌∙◌}
use borrow.Author.Rules.{rules}
use Rattle.rules.specs.Lines.{tab_byte}
use Rattle.lines.proofs.Counting.{parts_counted}
use Rattle.lines.proofs.tabs.count_cells.Goals as goal

pub returns : goal.returns
returns c =
    let counted : c.count.result ≡ count_by (λ (x : ℕ). eqb x tab_byte) c.args.line.now = search rules in
    ap (λ (n : ℕ). n + 1) counted ∙ parts_counted tab_byte c.args.line.now
