-- `lines::tabs::last_cell` meets its contract: the line is searched from its end. Assumes nothing.
use Rattle.std.specs.Prelude.{◌≡◌, ℕ, eqb, position}
use Rattle.std.proofs.Common.{rules, tests}
use Rattle.std.proofs.lemmas.Iterator.Adapters.{YieldsList-from_rev_slice}
use Rattle.std.proofs.lemmas.Iterator.Search.{position_from_yields_List}
use mathlib.Core.List.{reverse}
use Rattle.rules.specs.Lines.{tab_byte}
use Rattle.lines.proofs.Counting.{last_found, last_alone}
use Rattle.lines.proofs.tabs.last_cell.Goals.{After-position}
use Rattle.lines.proofs.tabs.last_cell.Goals as goal

-- what the search finds in the line, read backwards
found : (c : After-position) → c.position.result ≡ position (λ (x : ℕ). eqb x tab_byte) (reverse c.args.line.now)
found c =
    let rest : c.rev.result.iter.rest.now ≡ c.args.line.now = rw c.rev.ensures.source c.iter.ensures.rest in
    position_from_yields_List (λ (x : ℕ). eqb x tab_byte) _ _ c.position.result c.position.ensures.ran
    (YieldsList-from_rev_slice c.args.line.now rest) (λ x b q k. search (rules, tests))

pub returns-in-Some : goal.returns-in-Some
returns-in-Some c = last_found c.args.line.now (found (goal.at.returns-in-Some c).After-position) c.in-Some.is

pub returns-in-None : goal.returns-in-None
returns-in-None c = last_alone c.args.line.now (found (goal.at.returns-in-None c).After-position) c.in-None.is
