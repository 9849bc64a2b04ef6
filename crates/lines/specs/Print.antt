-- What printing asks for, and what it leaves. Definitions only.
use Rattle.std.specs.Prelude.{◌≡◌, List, ℕ, ◌+◌, ◌≤◌, length}
use Rattle.mem.specs.Slice.{splice}

-- there is room for the text `piece` at `at`
abbrev pub Room : List ℕ → List ℕ → ℕ → Type 0
Room out piece at = at + length piece ≤ length out

-- the text stands at `at`, every other byte is as it was, and r is the place behind it
pub record Printed (piece entry exit : List ℕ) (at r : ℕ) : Type 0 where
  pub text : exit ≡ splice entry at piece
  pub next : r ≡ at + length piece
