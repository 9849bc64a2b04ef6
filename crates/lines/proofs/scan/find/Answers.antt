-- `lines::scan::find` meets its contract: where the search finds nothing, the text ends. Assumes nothing.
use Rattle.std.specs.Prelude.{◌≡◌, ℕ, ◌-◌, eqb, length, drop, position}
use Rattle.std.proofs.Common.{◌∙◌, arith, rules, tests, length-drop, take_all}
use Rattle.std.proofs.lemmas.Iterator.{YieldsList-from_slice}
use Rattle.std.proofs.lemmas.Iterator.Search.{position_from_yields_List}
use Rattle.lines.proofs.Scanning.{found_at, found_none}
use Rattle.lines.proofs.scan.find.Goals.{After-position}
use Rattle.lines.proofs.scan.find.Goals as goal

-- what the search finds in the bytes from `from` on
found : (c : After-position) → c.position.result ≡ position (λ (x : ℕ). eqb x c.args.b) (drop c.args.from c.args.text.now)
found c =
    let a = c.args in
    let rest = c.iter.ensures.rest ∙ take_all (length a.text.now - a.from) (drop a.from a.text.now) (omega (arith, length-drop a.from a.text.now)) in
    position_from_yields_List (λ (x : ℕ). eqb x a.b) _ _ c.position.result c.position.ensures.ran (YieldsList-from_slice _ rest)
    (λ x b q k. search (rules, tests))

pub returns-in-Some : goal.returns-in-Some
returns-in-Some c =
    let a = c.args in
    let at = found_at a.b (drop a.from a.text.now) (found (goal.at.returns-in-Some c).After-position) c.in-Some.is in
    omega (arith, length-drop a.from a.text.now)

pub returns-in-None : goal.returns-in-None
returns-in-None c =
    let a = c.args in
    let no = found_none a.b (drop a.from a.text.now) (found (goal.at.returns-in-None c).After-position) c.in-None.is in
    omega (arith, length-drop a.from a.text.now)
