-- No empty line ends behind the beginning and before i. Assumes nothing.
use Rattle.std.proofs.Common.{◌≡◌, ◌≤◌, ◌<◌, length, ℕ, false}
use Rattle.replay.specs.Sheets.{is_gap}
use Rattle.replay.proofs.sheet_end.Given as goal

abbrev pub invariant-loop-i : goal.invariant-loop-i
invariant-loop-i l = (l.at < l.i) × (l.i ≤ length l.text) × ((j : ℕ) → l.at < j → j < l.i → is_gap l.text j ≡ false)
